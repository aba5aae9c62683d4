-- The records of an area after a write, and after its first entries are cleared. Assumes nothing.
use Rattle.std.proofs.Common.{◌≡◌, ℕ, ◌+◌, ◌<◌, ◌≤◌, ◌-◌, ◌++◌, List, length, get_or, take, drop, replicate, set, sym, refl, ap, ◌∙◌, subst, arith}
use native.Mathlib.Decide.{ℕ_discrete}
use Rattle.std.proofs.lemmas.List.{get_or-set_same, get_or-set_other, length-take-le, length-replicate, get_or-replicate, get_or-drop, get_or_append_left, get_or-append_right}
use Rattle.units.specs.Steps.{last_step}
use Rattle.timing.specs.declared.answers.SignalRecord.{SignalRecord}
use Rattle.timing.specs.Areas.{place, record_at, no_signal, SignalsPast}

-- the record that was written
pub record_written : (area : List SignalRecord) (n s : ℕ) (e : SignalRecord) → place n s < length area → record_at (set area (place n s) e) n s ≡ e
record_written area n s e h = get_or-set_same area (place n s) e no_signal h

-- any other record stays
pub record_elsewhere : (area : List SignalRecord) (n s : ℕ) (e : SignalRecord) (h u : ℕ) → s ≤ last_step → u ≤ last_step → ((h ≡ n) → ¬ (u ≡ s)) → record_at (set area (place n s) e) h u ≡ record_at area h u
record_elsewhere area n s e h u ls lu ne = get_or-set_other area (place n s) (place h u) e no_signal (λ q. apart q)
  where
    apart : place h u ≡ place n s → ⊥
    apart q =
        let eh : h ≡ n = omega arith in
        let eu : u ≡ s = omega arith in
        ne eh eu

-- the first entries hold no signal, and the others are as they were
pub record Cleared (k : ℕ) (was is : List SignalRecord) : Type 0 where
  pub below : (i : ℕ) → i < k → get_or is i no_signal ≡ no_signal
  pub past : SignalsPast k was is

-- none is cleared yet
pub cleared_none : (was : List SignalRecord) → Cleared 0 was was
cleared_none was = record { below = λ j h. absurd (omega arith); past = λ j h. refl }

-- one entry more
pub cleared_more : (k : ℕ) (was is : List SignalRecord) → k < length is → Cleared k was is → Cleared (k + 1) was (set is k no_signal)
cleared_more k was is h C =
    record {
      below = λ j lt. elim (ℕ_discrete j k) [
        | yes e ↦ subst (λ (i : ℕ). get_or (set is k no_signal) i no_signal ≡ no_signal) (sym e) (get_or-set_same is k no_signal no_signal h)
        | no e ↦ get_or-set_other is k j no_signal no_signal e ∙ C.below j (omega arith)
      ];
      past = λ j le. get_or-set_other is k j no_signal no_signal (λ e. absurd (omega arith)) ∙ C.past j (omega arith);
    }

-- all of them, filled at once
module _ (k : ℕ) (was filled : List SignalRecord) (room : k ≤ length was) (blank : filled ≡ replicate (length (take k was)) no_signal) where
  filled_is : filled ≡ replicate k no_signal
  filled_is = blank ∙ ap (λ (n : ℕ). replicate n no_signal) (length-take-le k was room)

  long : length filled ≡ k
  long = ap length filled_is ∙ length-replicate k no_signal

  pub cleared_all : Cleared k was (filled ++ drop k was)
  cleared_all = record {
    below = λ i lt.
        get_or_append_left filled (drop k was) no_signal i (omega (arith, long))
        ∙ ap (λ (l : List SignalRecord). get_or l i no_signal) filled_is
        ∙ get_or-replicate k i no_signal no_signal lt;
    past = λ i ge.
        let same : k + (i - k) ≡ i = omega arith in
        get_or-append_right filled (drop k was) k i no_signal long ge
        ∙ get_or-drop k was (i - k) no_signal
        ∙ ap (λ (j : ℕ). get_or was j no_signal) same;
  }
