-- A whole timing from its passes: without a complete path, and with one. Assumes nothing.
use Rattle.std.proofs.Common.{◌≡◌, ℕ, ◌*◌, ◌<◌, ◌≤◌, List, length, get_or, take, ℤ, pos, ◌≤ℤ◌, ◌<ℤ◌, Some, None, Option, sym, refl, ap, ◌∙◌, subst, arith, w32, SFits, to_z, of_z}
use Rattle.std.proofs.lemmas.Int.{to_z-of_z}
use Rattle.units.specs.Senses.{Order}
use Rattle.units.specs.Steps.{step_count}
use Rattle.models.specs.Meaning.{Meaning}
use Rattle.paths.specs.declared.blocks.Net.{Net}
use Rattle.paths.specs.declared.blocks.Arc.{Arc}
use Rattle.paths.specs.Blocks.{block, max_nets, max_path}
use Rattle.paths.specs.Slacks.{WorstSlack}
use Rattle.paths.specs.ArcByArc.{Timeable}
use Rattle.paths.proofs.Firsts.{first_is}
use Rattle.std.proofs.lemmas.Option.{none-some, same_Some}
use Rattle.timing.specs.declared.answers.SignalRecord.{SignalRecord}
use Rattle.timing.specs.declared.answers.Answer.{Answer}
use Rattle.timing.specs.Areas.{none_value, figure, entry_of, slack_entry, ArcsPast}
use Rattle.timing.specs.Passes.{Forwarded, Backward, SlacksFilled, LeastEntry}
use Rattle.timing.specs.Timed.{Areas, areas, Timed, PathAnswered}
use Rattle.timing.specs.WorstPaths.{EndAt, Traceable, TracedRun}
use Rattle.timing.proofs.Figures.{figure_some, figure_is_above, entry_stands}
use Rattle.timing.proofs.PathAnswered.{worst_has_end, end_traceable, traced_answered}
use Rattle.timing.proofs.TimingParts.{worst_recorded, timed}

-- the number of 32 bits that stands for none, and any other
pub none_of : (z : ℤ) → of_z w32 z ≡ 2147483648 → figure (to_z w32 (of_z w32 z)) ≡ None
none_of z e = ap (λ n. figure (to_z w32 n)) e

pub some_of : (z : ℤ) → SFits w32 z → (of_z w32 z ≡ 2147483648 → ⊥) → figure (to_z w32 (of_z w32 z)) ≡ Some (to_z w32 (of_z w32 z))
some_of z fits other = subst (λ y. figure y ≡ Some y) (sym (to_z-of_z w32 z fits)) (figure_some z fits (λ e. other (ap (of_z w32) e)))

-- what a timing has once the slacks are filled in, and the worst of them
pub record Filled (nets : List Net) (arcs : List Arc) (m : Meaning) (o : Order) (order : List ℕ) (was : Areas) (signals : List SignalRecord) (required slacks : List ℤ) (carried : ℕ) (worst : Option ℤ) : Type 0 where
  pub timeable : Timeable (block nets arcs) m o order
  pub forward : Forwarded (block nets arcs) m o was.signals signals carried
  pub backward : Backward (block nets arcs) m o was.required required
  pub filled : SlacksFilled o (length nets) signals required was.slacks slacks
  pub least : LeastEntry (length nets) slacks worst

-- the answer of a timing
abbrev pub answer : ℤ → ℕ → ℕ → ℕ → Answer
answer worst start arcs carried = record { worst_slack = worst; start = start; arcs = arcs; carried = carried }

module _ {nets : List Net} {arcs : List Arc} {m : Meaning} {o : Order} {order : List ℕ} {was : Areas} {signals : List SignalRecord} {required slacks : List ℤ} {carried : ℕ} {worst : Option ℤ} (F : Filled nets arcs m o order was signals required slacks carried worst) where
  -- the worst slack is an entry of the area, so it does not stand for none
  above : (z : ℤ) → worst ≡ Some z → none_value <ℤ z
  above z e = let (n, h, q) = first_is ◌≤ℤ◌ (λ a. (n : ℕ) × (n < length nets) × (slack_entry slacks n ≡ Some a)) worst F.least z e in figure_is_above (get_or slacks n (pos 0)) z q

  -- its entry stands for it
  pub stands : (r : ℤ) → r ≡ entry_of worst → figure r ≡ worst
  stands r e = ap figure e ∙ entry_stands worst above

  least_of : (r : ℤ) → r ≡ entry_of worst → LeastEntry (length nets) slacks (figure r)
  least_of r e = subst (LeastEntry (length nets) slacks) (sym (stands r e)) F.least

  -- without a complete path
  pub timed_none : (r : ℤ) → r ≡ entry_of worst → worst ≡ None → Timed (block nets arcs) m o was (areas signals required slacks was.path) (answer r 0 0 carried)
  timed_none r e none =
      timed (block nets arcs) m o order was (areas signals required slacks was.path) (answer r 0 0 carried) F.timeable F.forward F.backward F.filled (least_of r e)
      (λ z q. absurd (none-some z (sym none ∙ sym (stands r e) ∙ q))) (omega arith) (λ _. (e ∙ ap entry_of none, refl, refl)) (λ i _. refl)

  -- from a net and a step with a slack the path is traced
  pub traceable : (z : ℤ) → length nets ≤ max_nets → step_count * length nets ≤ length signals → (end step : ℕ) → EndAt nets o signals z end step → Traceable (block nets arcs) m o order signals end step
  traceable z few room end step E = end_traceable (block nets arcs) m o order was.signals signals carried z end step few room F.timeable.ordered F.forward E

  module _ (z : ℤ) (some : worst ≡ Some z) where
    -- a net and a step at which a path of the worst slack ends
    pub has_end : (n : ℕ) × (s : ℕ) × EndAt nets o signals z n s
    has_end =
        worst_has_end (block nets arcs) m o order was.signals signals carried F.timeable F.forward z
        (subst (WorstSlack (block nets arcs) m o) some (worst_recorded (block nets arcs) m o order F.timeable was.signals signals carried F.forward was.required required F.backward was.slacks slacks F.filled worst F.least))

    -- with the path that is traced from there
    pub timed_path : length nets ≤ max_nets → step_count * length nets ≤ length signals → (end step : ℕ) → EndAt nets o signals z end step → (r : ℤ) (start count : ℕ) (path : List ℕ) → r ≡ entry_of worst → TracedRun arcs signals end step start (take count path) → count ≤ max_path → ArcsPast count was.path path → Timed (block nets arcs) m o was (areas signals required slacks path) (answer r start count carried)
    timed_path few room end step E r start count path e run short past =
        timed (block nets arcs) m o order was (areas signals required slacks path) (answer r start count carried) F.timeable F.forward F.backward F.filled (least_of r e)
        (λ y q. subst (PathAnswered (block nets arcs) m o path (answer r start count carried)) (same_Some z y (sym some ∙ sym (stands r e) ∙ q))
        (traced_answered nets arcs m o order was.signals signals carried z end step path (answer r start count carried) few room F.timeable.ordered F.forward E run))
        short (λ q. absurd (none-some z (sym q ∙ stands r e ∙ some))) past
