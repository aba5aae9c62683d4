-- What the calls of a forward pass leave: records after signals were offered to them, and rows that are pruned. Assumes nothing.
use Rattle.std.specs.Prelude.{◌≡◌, ℕ, ◌+◌, ◌-◌, ◌<◌, ◌≤◌, Bool, true, false, cond, ◌&&◌, ◌⊎◌, List, pos, Some, Option, nat_eq, slice_index_or}
use Rattle.units.specs.Senses.{Order, AsBad}
use Rattle.units.specs.Steps.{step_count, last_step, RoundedUp}
use Rattle.models.specs.Meaning.{Meaning}
use Rattle.paths.specs.declared.blocks.Arc.{Arc}
use Rattle.paths.specs.declared.blocks.Launch.{Launch}
use Rattle.paths.specs.Blocks.{tail_of, no_arc}
use Rattle.paths.specs.Signals.{Signal, signal, Covers}
use Rattle.paths.specs.CarriedCounts.{sum_below}
use Rattle.paths.specs.ArcByArc.{one_if_some}
use Rattle.timing.specs.declared.answers.SignalRecord.{SignalRecord}
use Rattle.timing.specs.Areas.{no_signal, held_by}
use Rattle.timing.specs.Passes.{launched_mark}

-- for net and step a record
abbrev pub Records : Type 0
Records = ℕ → ℕ → SignalRecord

-- of two records of one step, the one that stays: the old one, if it is kept and its time is at least as bad
abbrev pub worse_of : Order → SignalRecord → SignalRecord → SignalRecord
worse_of o old new = cond (old.kept && o.as_bad (pos old.time) (pos new.time)) old new

-- a record after offers: what it was or one of the offers, and at least as bad as each
pub record WorstOf (o : Order) (Offered : SignalRecord → Type 0) (was is : SignalRecord) : Type 0 where
  pub source : is.kept ≡ true → (is ≡ was) ⊎ Offered is
  pub old : was.kept ≡ true → (is.kept ≡ true) × AsBad o (pos is.time) (pos was.time)
  pub new : (e : SignalRecord) → Offered e → (is.kept ≡ true) × AsBad o (pos is.time) (pos e.time)
  pub not_kept : is.kept ≡ false → is ≡ was

-- the records that are offered to a net and step
abbrev pub Offers : Type 1
Offers = ℕ → ℕ → SignalRecord → Type 0

-- every record after those offers
abbrev pub AfterOffers : Order → Offers → Records → Records → Type 0
AfterOffers o Offered was is = (n s : ℕ) → s ≤ last_step → WorstOf o (Offered n s) (was n s) (is n s)

-- the record of a signal that is kept
abbrev pub kept_record : ℕ → ℕ → ℕ → SignalRecord
kept_record time arc step = record { kept = true; time = time; arc = arc; step = step }

-- a launch, offered to its net
abbrev pub LaunchOffer : Option Launch → ℕ → Offers
LaunchOffer launch n h s e = (l : Launch) × (h ≡ n) × (launch ≡ Some l) × RoundedUp l.transition s × (e ≡ kept_record l.time launched_mark 0)

-- the signal of a step at the tail of an arc, carried over the arc and offered to its head
abbrev pub StepOffer : Meaning → Arc → ℕ → ℕ → Records → Offers
StepOffer m a number step rows h s e =
    (h ≡ a.head) × ((rows a.tail step).kept ≡ true) × (s ≡ m.output_step a.kind step) × (e ≡ kept_record ((rows a.tail step).time + m.delay a.kind step) number step)

-- those of all steps below one
abbrev pub ArcOffers : Meaning → Arc → ℕ → ℕ → Records → Offers
ArcOffers m a number below rows h s e = (step : ℕ) × (step < below) × StepOffer m a number step rows h s e

-- those of all arcs out of a net, below a number
abbrev pub FanOutOffers : Meaning → List Arc → ℕ → ℕ → Records → Offers
FanOutOffers m arcs n below rows h s e =
    (i : ℕ) × (i < below) × (tail_of arcs i ≡ n) × ArcOffers m (slice_index_or arcs i no_arc) i step_count rows h s e

-- the signal of a record at its step
abbrev pub signal_of : SignalRecord → ℕ → Signal
signal_of e s = signal e.time s

-- the turn of a step, when the steps are gone through from the worst on
abbrev pub turn_of : Order → ℕ → ℕ
turn_of o s = cond o.is_late (last_step - s) s

-- there is a worst time so far, and it is at least as bad as this one
abbrev pub WorstAsBad : Order → Option ℕ → ℕ → Type 0
WorstAsBad o worst time = (w : ℕ) × (worst ≡ Some w) × AsBad o (pos w) (pos time)

-- A record holds no signal, and stays; or the worst time is as bad as its signal's, and the signal is taken off; or it is not, and the signal's is the worst now.
abbrev pub Pruned : Order → SignalRecord → Option ℕ → SignalRecord → Option ℕ → Type 0
Pruned o was worst is r =
    ((was.kept ≡ false) × (is ≡ was) × (r ≡ worst))
    ⊎ (((was.kept ≡ true) × WorstAsBad o worst was.time × (is ≡ no_signal) × (r ≡ worst))
    ⊎ ((was.kept ≡ true) × ¬ WorstAsBad o worst was.time × (is ≡ was) × (r ≡ Some was.time)))

-- the row of a net when the signals of the steps before turn k that another one covers are taken off
pub record RowPruned (o : Order) (n k : ℕ) (was is : Records) : Type 0 where
  pub other_rows : (h s : ℕ) → s ≤ last_step → ¬ (h ≡ n) → is h s ≡ was h s
  pub fewer : (s : ℕ) → s ≤ last_step → (is n s ≡ was n s) ⊎ (is n s ≡ no_signal)
  pub covered : (s : ℕ) → s ≤ last_step → (was n s).kept ≡ true → (u : ℕ) × (u ≤ last_step) × ((is n u).kept ≡ true) × Covers o (signal_of (is n u) u) (signal_of (was n s) s)
  pub apart : (s u : ℕ) → s ≤ last_step → u ≤ last_step → turn_of o u < k → (is n s).kept ≡ true → (is n u).kept ≡ true → Covers o (signal_of (is n s) s) (signal_of (is n u) u) → s ≡ u

-- how many signals of steps below k the net keeps
abbrev pub kept_below : Records → ℕ → ℕ → ℕ
kept_below rows n k = sum_below (λ s. one_if_some (held_by (rows n s))) k

-- how many signals the arcs below a number carry, of those whose tail passes a test
abbrev pub carried_where : List Arc → Records → (ℕ → Bool) → ℕ → ℕ
carried_where arcs rows test k = sum_below (λ i. cond (test (tail_of arcs i)) (kept_below rows (tail_of arcs i) step_count) 0) k

-- out of one net
abbrev pub carried_out : List Arc → Records → ℕ → ℕ → ℕ
carried_out arcs rows n k = carried_where arcs rows (λ t. nat_eq t n) k

-- no time of a net's row is later
abbrev pub RowBy : Records → ℕ → ℕ → Type 0
RowBy rows n latest = (s : ℕ) → s ≤ last_step → (rows n s).time ≤ latest
