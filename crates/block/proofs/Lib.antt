pub mod TimedBlocks
