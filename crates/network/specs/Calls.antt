-- What a draft holds, and what each of its calls answers and leaves. Assumes nothing.
use Rattle.std.specs.Prelude.{◌≡◌, ℕ, List, [], ◌∷◌, ◌++◌, length, Some, None, Ok, Err, Result, nat_le, nat_lt, slice_index_or, slice_set}
use Rattle.units.specs.Refusals.{Row, Outcome}
use Rattle.paths.specs.declared.blocks.Net.{Net}
use Rattle.paths.specs.Blocks.{Block, no_net, max_nets, max_arcs, last_kind}
use Rattle.paths.specs.Cycles.{CycleAt}
use Rattle.network.specs.declared.faults.DraftFault.{DraftFault}
use Rattle.network.specs.declared.draft.Draft.{Draft}
use Rattle.network.specs.declared.draft.Side.{Side}
use Rattle.network.specs.declared.draft.Side.TheVariants.{Late, Early}
use Rattle.network.specs.Faults.{row, refusal_of, draft_refusal}
use Rattle.network.specs.Figures.{launch_rows, limit_rows}
use Rattle.network.specs.Netlists.{netlist_block}

-- the block that a draft holds
abbrev pub draft_block : Draft → Block
draft_block d = netlist_block d.netlist

abbrev pub empty_block : Block
empty_block = record { nets = []; arcs = [] }

-- when a net is refused
abbrev pub net_rows : Block → List Row
net_rows b = row (nat_le max_nets (length b.nets)) 9 max_nets ∷ []

-- one more net, without launch and limits, under the next number
abbrev pub NetAdded : Block → Result ℕ DraftFault → Block → Type 0
NetAdded b r b' =
    Outcome refusal_of (net_rows b) r
    (λ n. (n ≡ length b.nets) × (b' ≡ record { nets = b.nets ++ no_net ∷ []; arcs = b.arcs }))
    (b' ≡ b)

-- when an arc is refused: the tail is tested before the head
abbrev pub arc_rows : Block → ℕ → ℕ → ℕ → List Row
arc_rows b tail head kind =
    row (nat_le max_arcs (length b.arcs)) 10 max_arcs
    ∷ row (nat_le (length b.nets) tail) 11 tail
    ∷ row (nat_le (length b.nets) head) 11 head
    ∷ row (nat_lt last_kind kind) 15 kind
    ∷ []

-- one more arc, under the next number
abbrev pub ArcAdded : Block → ℕ → ℕ → ℕ → Result ℕ DraftFault → Block → Type 0
ArcAdded b tail head kind r b' =
    Outcome refusal_of (arc_rows b tail head kind) r
    (λ i. (i ≡ length b.arcs) × (b' ≡ record { nets = b.nets; arcs = b.arcs ++ record { tail = tail; head = head; kind = kind } ∷ [] }))
    (b' ≡ b)

-- the net of a number is changed, and nothing else
abbrev pub net_changed : Block → ℕ → (Net → Net) → Block
net_changed b n change = record { nets = slice_set b.nets n (change (slice_index_or b.nets n no_net)); arcs = b.arcs }

-- the net with that launch, its limits as they were
abbrev pub with_launch : ℕ → ℕ → Net → Net
with_launch time transition n = record { launch = Some (record { time = time; transition = transition }); late_limit = n.late_limit; early_limit = n.early_limit }

-- the net with that late or early limit, all else as it was
abbrev pub with_limit : Side → ℕ → Net → Net
with_limit Late value n = record { launch = n.launch; late_limit = Some value; early_limit = n.early_limit }
with_limit Early value n = record { launch = n.launch; late_limit = n.late_limit; early_limit = Some value }

-- a call that names a net tests the number first
abbrev pub net_row : Block → ℕ → Row
net_row b net = row (nat_le (length b.nets) net) 11 net

-- the launch replaces one that the net may have
abbrev pub Launched : Block → ℕ → ℕ → ℕ → Result (Unit {0}) DraftFault → Block → Type 0
Launched b net time transition r b' =
    Outcome refusal_of (net_row b net ∷ launch_rows time transition) r
    (λ _. b' ≡ net_changed b net (with_launch time transition))
    (b' ≡ b)

-- the limit replaces one of that sense that the net may have
abbrev pub Limited : Block → ℕ → Side → ℕ → Result (Unit {0}) DraftFault → Block → Type 0
Limited b net side value r b' =
    Outcome refusal_of (net_row b net ∷ limit_rows value) r
    (λ _. b' ≡ net_changed b net (with_limit side value))
    (b' ≡ b)

-- refused with 13 exactly where there is a cycle, at the lowest net on one or reachable from one
abbrev pub Checked : Block → Result (Unit {0}) DraftFault → Type 0
Checked b (Ok _) = CycleAt b None
Checked b (Err f) = (n : ℕ) × (refusal_of f ≡ draft_refusal 13 n) × CycleAt b (Some n)
