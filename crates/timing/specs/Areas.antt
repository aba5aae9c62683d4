-- The areas of a timing, read by net and step. Assumes nothing.
use Rattle.std.specs.Prelude.{◌≡◌, ℕ, ◌+◌, ◌*◌, ◌≤◌, Bool, false, cond, List, ℤ, pos, negsuc, Some, None, Option, int_le, nat_lt, slice_index, slice_index_or}
use Rattle.units.specs.Steps.{step_count}
use Rattle.paths.specs.ArcByArc.{SignalTable, RequiredTable}
use Rattle.timing.specs.declared.answers.SignalRecord.{SignalRecord}

-- the place of net and step in the areas of signals and of required times
abbrev pub place : ℕ → ℕ → ℕ
place n s = step_count * n + s

-- the record of a signal that is not kept
abbrev pub no_signal : SignalRecord
no_signal = record { kept = false; time = 0; arc = 0; step = 0 }

abbrev pub record_at : List SignalRecord → ℕ → ℕ → SignalRecord
record_at signals n s = slice_index_or signals (place n s) no_signal

-- the time of the signal that a record holds
abbrev pub held_by : SignalRecord → Option ℕ
held_by e = cond e.kept (Some e.time) None

-- net and step are those of a block with so many nets
abbrev pub inside : ℕ → ℕ → ℕ → Bool
inside nets n s = cond (nat_lt n nets) (nat_lt s step_count) false

abbrev pub held_in_area : ℕ → List SignalRecord → SignalTable
held_in_area nets signals n s = cond (inside nets n s) (held_by (record_at signals n s)) None

-- what stands for none: -2147483648, the least signed number of 32 bits, so that no entry is below it
abbrev pub none_value : ℤ
none_value = negsuc 2147483647

-- the figure that an entry stands for
abbrev pub figure : ℤ → Option ℤ
figure z = cond (int_le z none_value) None (Some z)

-- the entry that stands for a figure
abbrev pub entry_of : Option ℤ → ℤ
entry_of None = none_value
entry_of (Some z) = z

-- it stands for the figure, which is not what stands for none
abbrev pub HasEntry : Option ℤ → Type 0
HasEntry x = figure (entry_of x) ≡ x

abbrev pub required_entry : List ℤ → ℕ → ℕ → Option ℤ
required_entry required n s = figure (slice_index_or required (place n s) (pos 0))

abbrev pub required_in_area : ℕ → List ℤ → RequiredTable
required_in_area nets required n s = cond (inside nets n s) (required_entry required n s) None

abbrev pub slack_entry : List ℤ → ℕ → Option ℤ
slack_entry slacks n = figure (slice_index_or slacks n (pos 0))

abbrev pub slack_in_area : ℕ → List ℤ → ℕ → Option ℤ
slack_in_area nets slacks n = cond (nat_lt n nets) (slack_entry slacks n) None

-- entries from a place on are as they were
abbrev pub SignalsPast : ℕ → List SignalRecord → List SignalRecord → Type 0
SignalsPast k was is = (i : ℕ) → k ≤ i → slice_index_or is i no_signal ≡ slice_index_or was i no_signal

abbrev pub FiguresPast : ℕ → List ℤ → List ℤ → Type 0
FiguresPast k was is = (i : ℕ) → k ≤ i → slice_index_or is i (pos 0) ≡ slice_index_or was i (pos 0)

abbrev pub ArcsPast : ℕ → List ℕ → List ℕ → Type 0
ArcsPast k was is = (i : ℕ) → k ≤ i → slice_index is i ≡ slice_index was i
