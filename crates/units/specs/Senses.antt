-- When one figure is at least as bad as another, and the slack of a time against a required time. Assumes nothing.
use Rattle.std.specs.Prelude.{◌≡◌, ℕ, ◌≤◌, Bool, true, false, ◌⊎◌, ℤ, pos, ◌+ℤ◌, ◌-ℤ◌, ◌≤ℤ◌, int_le}

pub record Order : Type 0 where
  pub is_late : Bool
  -- the first figure is at least as bad as the second
  pub as_bad : ℤ → ℤ → Bool
  -- of a time against a required time
  pub slack : ℤ → ℤ → ℤ

-- late: at least as large is at least as bad
abbrev pub late_order : Order
late_order = record { is_late = true; as_bad = λ a b. int_le b a; slack = λ time required. required -ℤ time }

-- early: at most as large is at least as bad
abbrev pub early_order : Order
early_order = record { is_late = false; as_bad = λ a b. int_le a b; slack = λ time required. time -ℤ required }

-- the first of two figures is at least as bad as the second
abbrev pub AsBad : Order → ℤ → ℤ → Type 0
AsBad o a b = o.as_bad a b ≡ true

-- a table that never falls from place 0 to place n
abbrev pub NeverFalls : ℕ → (ℕ → ℕ) → Type 0
NeverFalls n table = (i j : ℕ) → i ≤ j → j ≤ n → table i ≤ table j

pub record Lawful (o : Order) : Type 0 where
  -- any two figures compare
  pub total : (a b : ℤ) → AsBad o a b ⊎ AsBad o b a
  -- the order chains
  pub transitive : (a b c : ℤ) → AsBad o a b → AsBad o b c → AsBad o a c
  -- two figures each as bad as the other are equal
  pub antisymmetric : (a b : ℤ) → AsBad o a b → AsBad o b a → a ≡ b
  -- sums keep the order
  pub sums : (a b c d : ℤ) → AsBad o a b → AsBad o c d → AsBad o (a +ℤ c) (b +ℤ d)
  -- a table that never falls keeps it
  pub tables : (table : ℕ → ℕ) (n s t : ℕ) → NeverFalls n table → s ≤ n → t ≤ n → AsBad o (pos s) (pos t) → AsBad o (pos (table s)) (pos (table t))
  -- a worse time never has more slack
  pub slack_falls : (t u r : ℤ) → AsBad o t u → o.slack t r ≤ℤ o.slack u r
  -- moving time and required time alike leaves the slack
  pub slack_moves : (t r d : ℤ) → o.slack (t +ℤ d) (r +ℤ d) ≡ o.slack t r
