-- The fields of a record are few bytes. Assumes nothing.
use Rattle.std.proofs.Common.{ℕ, ◌*◌, ◌≤◌, arith}
use Rattle.std.specs.Prelude.{count_ones}
use Rattle.blockfile.specs.declared.records.Tag.{Tag}
use Rattle.blockfile.specs.declared.records.Tag.TheVariants.{Net, Arc, Kind}
use Rattle.blockfile.specs.Parts.{map_bits, point_len, fields_len}

pub fields_few : (tag : Tag) (map : ℕ) → count_ones map ≤ map_bits → fields_len tag map ≤ point_len * map_bits
fields_few Net map few = omega arith
fields_few Arc map few = omega arith
fields_few Kind map few = omega arith
