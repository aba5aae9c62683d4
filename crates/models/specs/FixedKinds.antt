-- The figures that a fixed kind stands for. Assumes nothing.
use Rattle.std.specs.Prelude.{ℕ}
use Rattle.models.specs.declared.fixed.kind.FixedKind.{FixedKind}

-- its delay and its output step
abbrev pub figures_of : FixedKind → ℕ × ℕ
figures_of kind = (kind.delay, kind.output_step)
