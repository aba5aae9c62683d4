-- The nets and arcs of a block by their numbers, and the ranges of their figures. Assumes nothing.
use Rattle.std.specs.Prelude.{ℕ, ◌<◌, ◌≤◌, List, length, slice_index_or, Some, None, Option}
use Rattle.units.specs.Steps.{longest_transition}
use Rattle.paths.specs.declared.blocks.Launch.{Launch}
use Rattle.paths.specs.declared.blocks.Net.{Net}
use Rattle.paths.specs.declared.blocks.Arc.{Arc}

abbrev pub max_nets : ℕ
max_nets = 256

abbrev pub max_arcs : ℕ
max_arcs = 1024

-- the most arcs of a path
abbrev pub max_path : ℕ
max_path = 255

abbrev pub latest_launch : ℕ
latest_launch = 1000000

abbrev pub largest_limit : ℕ
largest_limit = 20000000

abbrev pub last_kind : ℕ
last_kind = 31

-- what is read past the nets, and past the arcs
abbrev pub no_net : Net
no_net = record { launch = None; late_limit = None; early_limit = None }

abbrev pub no_arc : Arc
no_arc = record { tail = 0; head = 0; kind = 0 }

-- a block: its nets and its arcs, each by its number
pub record Block : Type 0 where
  pub nets : List Net
  pub arcs : List Arc

abbrev pub block : List Net → List Arc → Block
block nets arcs = record { nets = nets; arcs = arcs }

-- the nets that the arc of a number leads from and to
abbrev pub tail_of : List Arc → ℕ → ℕ
tail_of arcs i = (slice_index_or arcs i no_arc).tail

abbrev pub head_of : List Arc → ℕ → ℕ
head_of arcs i = (slice_index_or arcs i no_arc).head

abbrev pub kind_of : List Arc → ℕ → ℕ
kind_of arcs i = (slice_index_or arcs i no_arc).kind

-- the net of a number
abbrev pub net_of : Block → ℕ → Net
net_of b n = slice_index_or b.nets n no_net

-- the figures of a launch or a limit, 0 for none
abbrev pub time_of : Option Launch → ℕ
time_of None = 0
time_of (Some l) = l.time

abbrev pub transition_of : Option Launch → ℕ
transition_of None = 0
transition_of (Some l) = l.transition

abbrev pub limit_of : Option ℕ → ℕ
limit_of None = 0
limit_of (Some value) = value

-- each arc leads from a net to a net
abbrev pub Joined : ℕ → List Arc → Type 0
Joined nets arcs = (i : ℕ) → i < length arcs → (tail_of arcs i < nets) × (head_of arcs i < nets)

-- each figure is in its range
abbrev pub KindsFit : List Arc → Type 0
KindsFit arcs = (i : ℕ) → (slice_index_or arcs i no_arc).kind ≤ last_kind

abbrev pub TimesFit : List Net → Type 0
TimesFit nets = (n : ℕ) → time_of (slice_index_or nets n no_net).launch ≤ latest_launch

abbrev pub TransitionsFit : List Net → Type 0
TransitionsFit nets = (n : ℕ) → transition_of (slice_index_or nets n no_net).launch ≤ longest_transition

abbrev pub LateLimitsFit : List Net → Type 0
LateLimitsFit nets = (n : ℕ) → limit_of (slice_index_or nets n no_net).late_limit ≤ largest_limit

abbrev pub EarlyLimitsFit : List Net → Type 0
EarlyLimitsFit nets = (n : ℕ) → limit_of (slice_index_or nets n no_net).early_limit ≤ largest_limit
