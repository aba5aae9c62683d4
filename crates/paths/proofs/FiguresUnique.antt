-- There is one time of a kept signal of a step, one required time, one slack of a net, one worst slack and one carried count. Assumes nothing.
use Rattle.std.proofs.Common.{◌≡◌, ℕ, sym, ap, inl, inr}
use Rattle.units.specs.Senses.{Order}
use Rattle.units.specs.Senses as senses
use Rattle.models.specs.Meaning.{Meaning}
use Rattle.paths.specs.Blocks.{Block}
use Rattle.paths.specs.Signals.{Signal, signal, KeptSignal}
use Rattle.paths.specs.ArcByArc.{FiguresUnique}
use Rattle.paths.proofs.CountedRows.{carried_count_unique}
use Rattle.paths.proofs.Covering.{covers_total_at_step}
use Rattle.paths.proofs.NetSlacks.{required_time_unique, net_slack_unique, worst_slack_unique}

-- of two kept signals of one step each covers the other, or one of them is not kept
kept_time_unique : (b : Block) (m : Meaning) (o : Order) → senses.Lawful o → (n s t t' : ℕ) → KeptSignal b m o n (signal t s) → KeptSignal b m o n (signal t' s) → t ≡ t'
kept_time_unique b m o L n s t t' first second = elim (covers_total_at_step o L t t' s) [
  | inl over ↦ ap (λ (y : Signal). y.time) (second.1 (signal t s) first.0 over)
  | inr over ↦ sym (ap (λ (y : Signal). y.time) (first.1 (signal t' s) second.0 over))
]

pub figures_unique : (b : Block) (m : Meaning) (o : Order) → senses.Lawful o → FiguresUnique b m o
figures_unique b m o L = record {
  kept_time = kept_time_unique b m o L;
  required_time = required_time_unique b m o L;
  net_slack = net_slack_unique b m o;
  worst_slack = worst_slack_unique b m o;
  carried_count = carried_count_unique b m o;
}
