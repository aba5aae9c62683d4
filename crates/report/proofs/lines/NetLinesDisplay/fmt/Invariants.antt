use Rattle.std.proofs.Common.{flat_map}
use Rattle.std.specs.Fmt.{HasWritten, IsPlainFormatter}
use Rattle.report.specs.Lines.{net_line}
use Rattle.report.proofs.lines.NetLinesDisplay.fmt.Given as goal

abbrev pub invariant-loop-net : goal.invariant-loop-net
invariant-loop-net g l =
    IsPlainFormatter l.initial.f
    → HasWritten g.W.Write.write_str_gives l.initial.f (flat_map (λ entry. net_line entry.0 entry.1.0.now entry.1.1.now) l.yielded) l.f
