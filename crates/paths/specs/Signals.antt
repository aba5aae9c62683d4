-- The signals that runs of arcs from launches give, and which of them a net keeps. Assumes nothing.
use Rattle.std.specs.Prelude.{◌≡◌, ℕ, ◌+◌, List, [], ◌∷◌, pos, Some}
use Rattle.units.specs.Senses.{Order, AsBad}
use Rattle.units.specs.Steps.{RoundedUp}
use Rattle.models.specs.Meaning.{Meaning}
use Rattle.paths.specs.declared.blocks.Launch.{Launch}
use Rattle.paths.specs.Blocks.{Block, net_of, kind_of}
use Rattle.paths.specs.Runs.{Run}

pub record Signal : Type 0 where
  pub time : ℕ
  pub step : ℕ

abbrev pub signal : ℕ → ℕ → Signal
signal t s = record { time = t; step = s }

-- the signal that a net's launch gives: its time, and the step of its transition rounded up, in both senses alike
abbrev pub Launches : Block → Order → ℕ → Signal → Type 0
Launches b o n x = (l : Launch) × ((net_of b n).launch ≡ Some l) × (x.time ≡ l.time) × RoundedUp l.transition x.step

-- carried over an arc, a signal's time grows by the delay and its step becomes the output step
abbrev pub carried : Block → Meaning → ℕ → Signal → Signal
carried b m i x =
    record {
      time = x.time + m.delay (kind_of b.arcs i) x.step;
      step = m.output_step (kind_of b.arcs i) x.step;
    }

-- carried along a run
abbrev pub along : Block → Meaning → Signal → List ℕ → Signal
along b m x [] = x
along b m x (i ∷ is) = along b m (carried b m i x) is

-- the delay of a run, from a step on
abbrev pub run_delay : Block → Meaning → ℕ → List ℕ → ℕ
run_delay b m s [] = 0
run_delay b m s (i ∷ is) = m.delay (kind_of b.arcs i) s + run_delay b m (m.output_step (kind_of b.arcs i) s) is

-- a run from a launch, perhaps without arcs, gives the signal at the net
abbrev pub Arrives : Block → Meaning → Order → ℕ → Signal → Type 0
Arrives b m o n y =
    (start : ℕ) × (x : Signal) × (is : List ℕ) × Launches b o start x × Run b start is n × (y ≡ along b m x is)

-- time and step of the first signal are both at least as bad as those of the second
pub record Covers (o : Order) (x y : Signal) : Type 0 where
  pub in_time : AsBad o (pos x.time) (pos y.time)
  pub in_step : AsBad o (pos x.step) (pos y.step)

-- the signal arrives at the net, and no different one that arrives there covers it
abbrev pub KeptSignal : Block → Meaning → Order → ℕ → Signal → Type 0
KeptSignal b m o n y = Arrives b m o n y × ((z : Signal) → Arrives b m o n z → Covers o z y → z ≡ y)

-- the same by another relation than covering
abbrev pub Foremost : Block → Meaning → Order → (Signal → Signal → Type 0) → ℕ → Signal → Type 0
Foremost b m o Over n y = Arrives b m o n y × ((z : Signal) → Arrives b m o n z → Over z y → z ≡ y)
