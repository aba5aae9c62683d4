-- A circuit whose order is topological: it can be timed, and no arc leads from a net to itself. Assumes nothing.
use Rattle.std.proofs.Common.{◌≡◌, ℕ, ◌<◌, ◌≤◌, ◌≢◌, List, ap, length, Bor, arith}
use Rattle.units.specs.Senses.{Order}
use Rattle.units.specs.Senses as senses
use Rattle.models.specs.Meaning.{Meaning}
use Rattle.models.specs.Meaning as models
use Rattle.paths.specs.declared.blocks.Net.{Net}
use Rattle.paths.specs.declared.blocks.Arc.{Arc}
use Rattle.paths.specs.Blocks.{Block, block, max_nets, max_arcs, tail_of, head_of, Joined, TimesFit, LateLimitsFit, EarlyLimitsFit}
use Rattle.paths.specs.Orders.{place_of, Numbers, Once, Whole, TopologicalOrder}
use Rattle.paths.specs.ArcByArc.{Timeable}
use Rattle.network.specs.declared.fan_out.FanOut.{FanOut}
use Rattle.network.specs.FanOuts.{FansOut}

-- nets and arcs, a topological order of the nets, and the arcs out of each
pub record OrderedCircuit : Type 0 where
  pub nets : Bor (List Net)
  pub arcs : Bor (List Arc)
  pub order : Bor (List ℕ)
  pub fan_out : Bor FanOut
  pub few : (length nets.now ≤ max_nets) × (length arcs.now ≤ max_arcs)
  pub joined : Joined (length nets.now) arcs.now
  pub times : TimesFit nets.now
  pub lates : LateLimitsFit nets.now
  pub earlies : EarlyLimitsFit nets.now
  pub long : length order.now ≡ length nets.now
  pub numbers : Numbers (length nets.now) order.now
  pub once : Once order.now
  pub whole : Whole (length nets.now) order.now
  pub tails_first : (i : ℕ) → i < length arcs.now → place_of order.now (tail_of arcs.now i) < place_of order.now (head_of arcs.now i)
  pub fans : FansOut arcs.now fan_out.now

-- the block that a circuit holds
abbrev pub circuit_block : OrderedCircuit → Block
circuit_block c = block c.nets.now c.arcs.now

pub circuit_order : (c : OrderedCircuit) → TopologicalOrder (length c.nets.now) c.arcs.now c.order.now
circuit_order c = record { long = c.long; numbers = c.numbers; once = c.once; whole = c.whole; tails_first = c.tails_first }

-- no arc leads from a net to itself
abbrev pub NoSelfLoops : List Arc → Type 0
NoSelfLoops arcs = (i : ℕ) → i < length arcs → tail_of arcs i ≢ head_of arcs i

-- the head of an arc stands after the tail, so it is another net
pub no_self_loops : (nets : ℕ) (arcs : List Arc) (order : List ℕ) → TopologicalOrder nets arcs order → NoSelfLoops arcs
no_self_loops nets arcs order T i li e =
    let same : place_of order (tail_of arcs i) ≡ place_of order (head_of arcs i) = ap (place_of order) e in
    omega (arith, T.tails_first i li)

pub circuit_apart : (c : OrderedCircuit) → (i : ℕ) → i < length c.arcs.now → tail_of c.arcs.now i ≢ head_of c.arcs.now i
circuit_apart c = no_self_loops (length c.nets.now) c.arcs.now c.order.now (circuit_order c)

pub circuit_timeable : (c : OrderedCircuit) (m : Meaning) (o : Order) → models.Lawful m → senses.Lawful o → Timeable (circuit_block c) m o c.order.now
circuit_timeable c m o model sense = record { model = model; sense = sense; ordered = circuit_order c }
