use Rattle.std.proofs.Common.{◌≡◌, ◌≤◌, length, take, sym, ap, ◌∙◌, subst, arith, rules, length-take-le}
use Rattle.paths.specs.Blocks.{Joined}
use Rattle.paths.specs.Cycles.{TakenOff}
use Rattle.network.specs.Sorting.{placed_nets, Counted}
use Rattle.network.proofs.EndCounts.{counted_heads}
use Rattle.network.proofs.SortingSteps.{counted_front, placed_within, sorting_begins, taken_off, all_placed}
use Rattle.network.proofs.netlist.Netlist.topological_order.Goals as goal

pub loop-at-init : goal.loop-at-init
loop-at-init c =
    let n = c.args.self.now in
    let front : c.len.result ≤ length c.counts_by-counts.result = search rules in
    let count : length (take c.len.result c.counts_by-counts.result) ≡ length n.nets.items = length-take-le _ _ front ∙ c.len.ensures ∙ n.nets.ok.0 in
    let heads = counted_heads c.arcs.result.now c.counts_by-counts.result (search rules) (c.counts_by-counts.ensures.counts (λ arc. arc.head) (λ arc net is. search rules)) in
    let counted : Counted n.arcs.items (length n.arcs.items) c.counts_by-counts.result = subst (λ arcs. Counted arcs (length arcs) c.counts_by-counts.result) c.arcs.ensures.value heads in
    record {
      within = omega arith;
      count = count;
      sorting = sorting_begins n.arcs.items _ _ (subst (λ m. Joined m n.arcs.items) (sym count) n.joined) (counted_front _ _ _ _ front counted) c.sources-order.ensures;
    }

pub loop-at-smaller : goal.loop-at-smaller
loop-at-smaller c =
    let within = placed_within _ _ _ _ _ c.loop-at.invariant.sorting in
    omega (arith, c.loop-at.invariant.count, c.loop-at-test.true, c.len-in-loop-at.ensures.value)

pub of-requires-clause-within : goal.of-requires-clause-within
of-requires-clause-within c =
    let within = placed_within _ _ _ _ _ c.loop-at.invariant.sorting in
    let long = ap length c.deref.ensures.0 in
    omega arith

pub returns-clause-off : goal.returns-clause-off
returns-clause-off c =
    let arcs = c.args.self.now.arcs.items in
    let order = c.loop-at.order.items in
    let end : length order ≤ c.loop-at.at = omega (arith, c.len-in-loop-at.ensures.value) in
    let placed : placed_nets c.of.result ≡ order = cc in
    subst (TakenOff _ arcs) (sym placed) (subst (λ n. TakenOff n arcs order) c.loop-at.invariant.count (taken_off arcs _ _ order c.loop-at.invariant.sorting end))

pub returns-clause-all_placed : goal.returns-clause-all_placed
returns-clause-all_placed c = λ none.
    let end : length c.loop-at.order.items ≤ c.loop-at.at = omega (arith, c.len-in-loop-at.ensures.value) in
    let placed : c.of.result.placed ≡ length c.loop-at.order.items = cc in
    placed ∙ all_placed _ _ _ _ c.loop-at.invariant.sorting end _ c.lowest_unplaced.ensures none ∙ c.loop-at.invariant.count
