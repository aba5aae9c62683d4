use Rattle.std.proofs.Common.{◌≡◌, ℕ, ◌+◌, ◌<◌, List, length, get_or, sym, refl, ap, ◌∙◌, subst, arith}
use Rattle.std.proofs.lemmas.List.{get_or_read_under}
use Rattle.paths.specs.declared.blocks.Arc.{Arc}
use Rattle.paths.specs.Blocks.{no_arc, head_of}
use Rattle.network.proofs.Releasing.{Releasing, Step, step, release_ends}
use Rattle.network.proofs.netlist.Netlist.release_heads.Goals.{then-count-eq0, else-count-eq0}
use Rattle.network.proofs.netlist.Netlist.release_heads.Goals as goal

-- an iteration, by the arc and the head that the code reads
module _ (arcs : List Arc) (at k net : ℕ) (list : List ℕ) (x : ℕ) (pending order : List ℕ) (R : Releasing arcs at k net list x pending order) (lt : x < length list) (i : ℕ) (is : i ≡ get_or list x 0) where
  at_arc : Step arcs at net list x i (head_of arcs i) pending order
  at_arc = subst (λ j. Step arcs at net list x j (head_of arcs j) pending order) (sym is) (step arcs at k net list x pending order R lt)

  at_head : (a : Arc) (h : ℕ) → a ≡ get_or arcs i a → h ≡ a.head → Step arcs at net list x i h pending order
  at_head a h a-is h-is =
      subst (λ n. Step arcs at net list x i n pending order) (sym (h-is ∙ ap (λ (b : Arc). b.head) (get_or_read_under arcs i (length arcs) a no_arc a-is at_arc.is_arc refl))) at_arc

pub index-requires : goal.index-requires
index-requires c =
    let (k, R) = c.loop-i.invariant in
    omega (arith, (at_arc _ _ _ _ _ _ _ _ R c.loop-i-test.true _ c.from.ensures).is_arc)

pub bounds-pending-from : goal.bounds-pending-from
bounds-pending-from c =
    let (k, R) = c.loop-i.invariant in
    (at_head _ _ _ _ _ _ _ _ R c.loop-i-test.true _ c.from.ensures _ _ c.index.ensures c.from-in-loop-i.ensures).inside

pub overflow_sub-count : goal.overflow_sub-count
overflow_sub-count c =
    let (k, R) = c.loop-i.invariant in
    (at_head _ _ _ _ _ _ _ _ R c.loop-i-test.true _ c.from.ensures _ _ c.index.ensures c.from-in-loop-i.ensures).waits

pub push-requires : goal.push-requires
push-requires c =
    let (k, R) = c.loop-i.invariant in
    let room = (at_head _ _ _ _ _ _ _ _ R c.loop-i-test.true _ c.from.ensures _ _ c.index.ensures c.from-in-loop-i.ensures).room in
    (omega arith, omega (arith, c.requires.nets, c.args.self.now.few.0, c.loop-i.auto.pending))

pub loop-i-preserved : goal.loop-i-preserved
loop-i-preserved c =
    let (k, R) = c.loop-i.invariant in
    let i = c.from.result in
    let S = at_head _ _ _ _ _ _ _ _ R c.loop-i-test.true i c.from.ensures _ _ c.index.ensures c.from-in-loop-i.ensures in
    elim c.if-count-eq0.branch [
      | then-count-eq0 w ↦ (i + 1, rw (w.order-is, w.push.ensures.items, ← c.from-in-loop-i.ensures) (S.placed w.if-count-eq0.true))
      | else-count-eq0 w ↦ (i + 1, rw w.order-is (S.on w.if-count-eq0.false))
    ]

pub returns : goal.returns
returns c =
    let (k, R) = c.loop-i.invariant in
    record { at = R.within; sorting = release_ends _ _ _ _ _ _ _ _ R c.loop-i-test.false }
