-- A timing of the nets and arcs that a settled block lends is one of the block, and what holds of the block. Assumes nothing.
use Rattle.std.proofs.Common.{◌≡◌, ℕ, ◌≢◌, ◌⊎◌, List, length, Some, None, Option, refl, subst, arith}
use Rattle.units.specs.Refusals.{first}
use Rattle.units.specs.Senses.{Order, late_order, early_order}
use Rattle.units.specs.Senses as senses
use Rattle.models.specs.Meaning.{Meaning}
use Rattle.models.specs.Meaning as models
use Rattle.paths.specs.declared.blocks.Net.{Net}
use Rattle.paths.specs.declared.blocks.Arc.{Arc}
use Rattle.paths.specs.Blocks.{Block, block}
use Rattle.paths.specs.Cycles.{CycleAt}
use Rattle.paths.specs.Facts.{TimingFacts}
use Rattle.paths.proofs.Covering.{covering_carried}
use Rattle.paths.proofs.FiguresUnique.{figures_unique}
use Rattle.paths.proofs.RunLengths.{run_short, ranges_hold}
use Rattle.network.specs.declared.settled.Network.{Network}
use Rattle.network.specs.Settling.{network_block}
use Rattle.network.specs.Sorting.{placed_nets}
use Rattle.network.proofs.SettledFacts.{network_cycle, network_order}
use Rattle.timing.specs.declared.answers.Answer.{Answer}
use Rattle.timing.specs.declared.faults.TimingFault.{TimingFault}
use Rattle.timing.specs.declared.faults.TimingFault.TheVariants.{AreaTooShort, KindNotHeld}
use Rattle.timing.specs.Faults.{refusal_of}
use Rattle.timing.specs.Rows.{time_rows}
use Rattle.timing.specs.Timed.{Areas, Timed}

-- no row holds, and it is timed
abbrev pub Accepted : Block → Meaning → Order → Areas → Areas → Answer → Type 0
Accepted b m o was is a = (first (time_rows b m (length was.signals) (length was.required) (length was.slacks) (length was.path)) ≡ None) × Timed b m o was is a

pub accepted : (b : Block) (nets : List Net) (arcs : List Arc) (m : Meaning) (o : Order) (was is : Areas) (a : Answer) → nets ≡ b.nets → arcs ≡ b.arcs → Accepted (block nets arcs) m o was is a → Accepted b m o was is a
accepted b nets arcs m o was is a en ea given =
    subst (λ (l : List Arc). Accepted (block b.nets l) m o was is a) ea (subst (λ (l : List Net). Accepted (block l arcs) m o was is a) en given)

-- the first row that holds is named, and the areas are as they were
abbrev pub Refused : Block → Meaning → Areas → Areas → TimingFault → Type 0
Refused b m was is f = (first (time_rows b m (length was.signals) (length was.required) (length was.slacks) (length was.path)) ≡ Some (refusal_of f)) × (is ≡ was)

pub refused : (b : Block) (nets : List Net) (arcs : List Arc) (m : Meaning) (was is : Areas) (f : TimingFault) → nets ≡ b.nets → arcs ≡ b.arcs → Refused (block nets arcs) m was is f → Refused b m was is f
refused b nets arcs m was is f en ea given =
    subst (λ (l : List Arc). Refused (block b.nets l) m was is f) ea (subst (λ (l : List Net). Refused (block l arcs) m was is f) en given)

-- a timing's own refusals are not that of a cycle
pub not_of_cycles : (f : TimingFault) → (refusal_of f).number ≢ 13
not_of_cycles (AreaTooShort area) = λ e. absurd (omega arith)
not_of_cycles (KindNotHeld arc) = λ e. absurd (omega arith)

-- a block does not both have a cycle and have none
pub not_both : (b : Block) (n : ℕ) → CycleAt b (Some n) → CycleAt b None → ⊥
not_both b n (reachable, _) acyclic = let (k, is, on, run) = reachable in acyclic k on

-- what holds of the block of a settled network that has no cycle
network_facts : (n : Network) (m : Meaning) (o : Order) → models.Lawful m → senses.Lawful o → (o ≡ late_order) ⊎ (o ≡ early_order) → n.cycle ≡ None → TimingFacts (network_block n) m o
network_facts n m o model sense late-or-early e =
    let b = network_block n in
    let order = placed_nets n.order in
    let ordered = network_order n e in
    record {
      covering = covering_carried b m o model sense;
      short = run_short b order n.netlist.joined ordered n.netlist.few.0;
      ranges = ranges_hold b m o order (record { model = model; sense = sense; ordered = ordered }) n.netlist.joined n.netlist.few.0 n.netlist.times n.netlist.lates n.netlist.earlies late-or-early;
      unique = figures_unique b m o sense;
    }

pub timing_facts : (n : Network) (m : Meaning) (o : Order) → models.Lawful m → senses.Lawful o → (o ≡ late_order) ⊎ (o ≡ early_order) → CycleAt (network_block n) None → TimingFacts (network_block n) m o
timing_facts n m o model sense late-or-early acyclic = go n.cycle refl (network_cycle n)
  where
    go : (c : Option ℕ) → n.cycle ≡ c → CycleAt (network_block n) c → TimingFacts (network_block n) m o
    go None e at = network_facts n m o model sense late-or-early e
    go (Some k) e at = absurd (not_both (network_block n) k at acyclic)
