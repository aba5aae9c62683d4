-- What a timing says of complete paths, in the answer and net by net. Assumes nothing.
use Rattle.std.proofs.Common.{◌≡◌, ℕ, ◌↔◌, ℤ, ◌≤ℤ◌, Some, None, Option, refl, subst, arith}
use Rattle.units.specs.Senses.{Order}
use Rattle.models.specs.Meaning.{Meaning}
use Rattle.paths.specs.Blocks.{Block}
use Rattle.paths.specs.Slacks.{Least, SlackOfPath, SlackThrough}
use Rattle.timing.specs.declared.answers.Answer.{Answer}
use Rattle.timing.specs.Areas.{figure, slack_entry}
use Rattle.timing.specs.Timed.{Areas, Timed, WorstPath, LeastThroughNets}

-- none exactly where there is no such figure
least_none : (Is : ℤ → Type 0) (x : Option ℤ) → Least Is x → (x ≡ None) ↔ ((z : ℤ) → ¬ Is z)
least_none Is None least = (λ _. least, λ _. refl)
least_none Is (Some a) least = (λ e. absurd (let z : ◌≡◌ {A = ℕ} 0 1 = cc in omega arith), λ no. absurd (no a least.0))

least_some : (Is : ℤ → Type 0) (x : Option ℤ) → Least Is x → (z : ℤ) → x ≡ Some z → Is z × ((y : ℤ) → Is y → z ≤ℤ y)
least_some Is None least z e = absurd (let w : ◌≡◌ {A = ℕ} 0 1 = cc in omega arith)
least_some Is (Some a) least z e = let same : a ≡ z = cc in subst (λ (v : ℤ). Is v × ((y : ℤ) → Is y → v ≤ℤ y)) same least

module _ (b : Block) (m : Meaning) (o : Order) (was is : Areas) (a : Answer) (T : Timed b m o was is a) where
  pub worst_path : WorstPath b m o is.path a
  worst_path = record {
    says_none = least_none (SlackOfPath b m o) (figure a.worst_slack) T.worst_slack;
    path_complete = T.path;
    least = λ z y e. (least_some (SlackOfPath b m o) (figure a.worst_slack) T.worst_slack z e).1 y;
  }

  pub least_through_nets : LeastThroughNets b m o is.slacks
  least_through_nets = record {
    says_none = λ n lt. least_none (SlackThrough b m o n) (slack_entry is.slacks n) (T.net_slacks n lt);
    through = λ n z lt e. (least_some (SlackThrough b m o n) (slack_entry is.slacks n) (T.net_slacks n lt) z e).0;
    least = λ n z y lt e. (least_some (SlackThrough b m o n) (slack_entry is.slacks n) (T.net_slacks n lt) z e).1 y;
  }
