pub mod Refusals
pub mod Senses
pub mod Steps
pub mod Laws
