-- The records of a file: their tags, and the parts of the file that they hold. Assumes nothing.
use Rattle.std.specs.Prelude.{ℕ, ◌≡◌, ◌+◌, ◌*◌, ◌/◌, ◌%◌, ◌<◌, ◌≤◌, if◌then◌else◌, length, Ok, Err, Result, Option, Some, None, ◌==◌, count_ones}
use Rattle.blockfile.specs.declared.faults.LoadFault.{LoadFault}
use Rattle.blockfile.specs.declared.faults.ReaderFault.{ReaderFault}
use Rattle.blockfile.specs.declared.faults.ReaderFault.TheVariants.{UnknownTag}
use Rattle.blockfile.specs.declared.reader.Records.{Records}
use Rattle.blockfile.specs.declared.records.Record.{Record}
use Rattle.blockfile.specs.declared.records.Record.TheVariants as records
use Rattle.blockfile.specs.declared.records.Tag.{Tag}
use Rattle.blockfile.specs.declared.records.Tag.TheVariants.{Net, Arc, Kind}

-- the most points of a kind: one for each bit of its map
abbrev pub map_bits : ℕ
map_bits = 8

-- the bytes of a point
abbrev pub point_len : ℕ
point_len = 4

-- the tag that a byte is
abbrev pub tag_of : ℕ → Result Tag ReaderFault
tag_of byte = if byte == 1 then Ok Net else if byte == 2 then Ok Arc else if byte == 3 then Ok Kind else Err (UnknownTag byte)

-- the bytes of a field of that many bytes, none where its bit does not stand
abbrev pub field_len : ℕ → ℕ → ℕ → ℕ
field_len map bit len = len * (map / bit % 2)

-- the bytes of the fields of a record
abbrev pub net_len : ℕ → ℕ
net_len map = field_len map 1 4 + field_len map 2 2 + field_len map 4 4 + field_len map 8 4

abbrev pub arc_len : ℕ → ℕ
arc_len map = field_len map 1 2 + field_len map 2 2 + field_len map 4 1

abbrev pub kind_len : ℕ → ℕ
kind_len map = point_len * count_ones map

abbrev pub fields_len : Tag → ℕ → ℕ
fields_len Net map = net_len map
fields_len Arc map = arc_len map
fields_len Kind map = kind_len map

-- each part has at most the bytes of its field
abbrev pub PartsFit : Record → Type 0
PartsFit (records.Net launch transition late early) = (length launch.now ≤ 4) × (length transition.now ≤ 2) × (length late.now ≤ 4) × (length early.now ≤ 4)
PartsFit (records.Arc tail head kind) = (length tail.now ≤ 2) × (length head.now ≤ 2) × (length kind.now ≤ 1)
PartsFit (records.Kind points) = length points.now ≤ point_len * map_bits

-- the bytes before the fields: the tag and the map
abbrev pub header_len : ℕ
header_len = 2

-- the bytes of the parts of a record
abbrev pub parts_len : Record → ℕ
parts_len (records.Net launch transition late early) = length launch.now + length transition.now + length late.now + length early.now
parts_len (records.Arc tail head kind) = length tail.now + length head.now + length kind.now
parts_len (records.Kind points) = length points.now

-- a record that was read goes on past its place, by its header and its parts, within the file
abbrev pub Advances : ℕ → ℕ → Result (Record × ℕ) ReaderFault → Type 0
Advances len at (Ok p) = PartsFit p.0 × (at < p.1) × (p.1 ≤ len) × (p.1 ≡ at + header_len + parts_len p.0)
Advances len at (Err f) = Unit {0}

-- the record at the place that was reached, with its offset, the next right after it; or why it is refused: nothing comes after that, or at the end of the file
abbrev pub NextRecord : Records → Option (Result (ℕ × Record) LoadFault) → Records → Type 0
NextRecord before None after = (length before.file.now ≤ before.at) × (after ≡ before)
NextRecord before (Some (Ok item)) after = (item.0 ≡ before.at) × PartsFit item.1 × (before.at < after.at) × (after.at ≤ length after.file.now) × (after.file ≡ before.file) × (after.at ≡ before.at + header_len + parts_len item.1)
NextRecord before (Some (Err fault)) after = (fault.offset ≡ before.at) × (before.at < length before.file.now) × (after.at ≡ length after.file.now) × (after.file ≡ before.file)
