use Rattle.std.proofs.Common.{◌≡◌, ℕ, ℤ, List, Bor, sym, ◌∙◌, ap, map, flat_map, zip, [], rules}
use Rattle.std.specs.List.{enumerate_from}
use Rattle.std.proofs.Output.{has_written_append, has_written_of_eq}
use Rattle.std.proofs.lemmas.Iterator.{YieldsList-from_slice, YieldsList-from_zip}
use Rattle.std.proofs.lemmas.Iterator.Consumers.{YieldsList-from_enumerate, YieldsList-at, YieldsList-end}
use Rattle.std.proofs.lemmas.List.{flat_map_more}
use Rattle.std.proofs.lemmas.List.Folds.{flat_map-map}
use Rattle.report.specs.Lines.{net_line, net_lines}
use Rattle.report.proofs.lines.NetLinesDisplay.fmt.Goals as goal

all_written : (xs : List (ℕ × (Bor ℤ × Bor ℤ))) (late early : List ℤ) → map (λ entry. (entry.0, (entry.1.0.now, entry.1.1.now))) xs ≡ enumerate_from 0 (zip late early) → flat_map (λ entry. net_line entry.0 entry.1.0.now entry.1.1.now) xs ≡ net_lines late early
all_written xs late early e =
    sym (flat_map-map (λ entry. net_line entry.0 entry.1.0 entry.1.1) (λ entry. (entry.0, (entry.1.0.now, entry.1.1.now))) xs)
    ∙ ap (flat_map (λ entry. net_line entry.0 entry.1.0 entry.1.1)) e

pub loop-net-preserved : goal.loop-net-preserved
loop-net-preserved g c p =
    let more = flat_map_more (λ entry. net_line entry.0 entry.1.0.now entry.1.1.now) [] c.loop-net.yielded (c.in-Some.net, (c.in-Some.late, c.in-Some.early)) in
    has_written_of_eq _ _ _ _ _ more (has_written_append _ _ _ _ _ _ (c.loop-net.invariant p) (search rules))

pub returns-clause-writes : goal.returns-clause-writes
returns-clause-writes g c p ok =
    let pairs = YieldsList-from_zip (YieldsList-from_slice c.args.self.now.late.now cc) (YieldsList-from_slice c.args.self.now.early.now cc) in
    let entries = YieldsList-at c.into_iter-net-iterator.ensures.into_iter_gives (YieldsList-from_enumerate (YieldsList-at c.enumerate-net-items.ensures.source pairs) c.enumerate-net-items.ensures.count) in
    let all = YieldsList-end entries c.loop-net.yielded c.loop-net.net-iterator c.loop-net.yielded_by _ c.next.new.self c.in-None.is c.next.ensures.steps in
    has_written_of_eq _ _ _ _ _ (all_written c.loop-net.yielded c.args.self.now.late.now c.args.self.now.early.now all.0) (c.loop-net.invariant p)
