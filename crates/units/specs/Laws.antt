-- The laws of the two senses, from the order of the integers as a test. Assumes nothing.
use Rattle.std.specs.Prelude.{◌≡◌, ℕ, ◌≤◌, true, ◌⊎◌, ℤ, pos, ◌+ℤ◌, ◌≤ℤ◌, int_le}
use Rattle.std.proofs.Common.{arith}
use Rattle.std.proofs.lemmas.Int.{ints}
use Rattle.units.specs.Senses.{Lawful, NeverFalls, late_order, early_order}

of_test : (a b : ℤ) → int_le a b ≡ true → a ≤ℤ b
of_test a b h = grind (arith, ints)

to_test : (a b : ℤ) → a ≤ℤ b → int_le a b ≡ true
to_test a b h = grind (arith, ints)

total : (a b : ℤ) → (int_le a b ≡ true) ⊎ (int_le b a ≡ true)
total a b = grind (arith, ints)

transitive : (a b c : ℤ) → int_le a b ≡ true → int_le b c ≡ true → int_le a c ≡ true
transitive a b c h i = let x = of_test a b h in let y = of_test b c i in to_test a c (omega (arith, ints))

antisymmetric : (a b : ℤ) → int_le a b ≡ true → int_le b a ≡ true → a ≡ b
antisymmetric a b h i = let x = of_test a b h in let y = of_test b a i in omega (arith, ints)

sums : (a b c d : ℤ) → int_le a b ≡ true → int_le c d ≡ true → int_le (a +ℤ c) (b +ℤ d) ≡ true
sums a b c d h i =
    let x = of_test a b h in
    let y = of_test c d i in
    to_test (a +ℤ c) (b +ℤ d) (omega (arith, ints))

tables : (f : ℕ → ℕ) (n s t : ℕ) → NeverFalls n f → t ≤ n → int_le (pos s) (pos t) ≡ true → int_le (pos (f s)) (pos (f t)) ≡ true
tables f n s t h l e =
    let x = of_test (pos s) (pos t) e in
    let y : s ≤ t = omega (arith, ints) in
    let z = h s t y l in
    to_test (pos (f s)) (pos (f t)) (omega (arith, ints))

pub late_lawful : Lawful late_order
late_lawful = record {
  total = λ a b. total b a;
  transitive = λ a b c h i. transitive c b a i h;
  antisymmetric = λ a b h i. antisymmetric a b i h;
  sums = λ a b c d h i. sums b a d c h i;
  tables = λ f n s t h ls lt e. tables f n t s h ls e;
  slack_falls = λ t u r h. let x = of_test u t h in omega (arith, ints);
  slack_moves = λ t r d. omega (arith, ints);
}

pub early_lawful : Lawful early_order
early_lawful = record {
  total = total;
  transitive = transitive;
  antisymmetric = antisymmetric;
  sums = sums;
  tables = λ f n s t h ls lt e. tables f n s t h lt e;
  slack_falls = λ t u r h. let x = of_test t u h in omega (arith, ints);
  slack_moves = λ t r d. omega (arith, ints);
}
