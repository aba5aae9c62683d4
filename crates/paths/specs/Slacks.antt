-- Required times and slacks over all runs and paths. Assumes nothing.
use Rattle.std.specs.Prelude.{◌≡◌, ℕ, cond, List, ◌++◌, ℤ, pos, ◌-ℤ◌, ◌≤ℤ◌, Some, None, Option}
use Rattle.units.specs.Senses.{Order, AsBad}
use Rattle.models.specs.Meaning.{Meaning}
use Rattle.paths.specs.Blocks.{Block, net_of}
use Rattle.paths.specs.Runs.{Run}
use Rattle.paths.specs.Signals.{Signal, Launches, along, run_delay}

-- the limit of a net in a sense
abbrev pub limit_at : Block → Order → ℕ → Option ℕ
limit_at b o n = cond o.is_late (net_of b n).late_limit (net_of b n).early_limit

-- of the figures that there are, the one that a relation puts before all of them; none where there are no figures
abbrev pub First : (ℤ → ℤ → Type 0) → (ℤ → Type 0) → Option ℤ → Type 0
First Before Is None = (z : ℤ) → ¬ Is z
First Before Is (Some a) = Is a × ((z : ℤ) → Is z → Before a z)

-- the least of them
abbrev pub Least : (ℤ → Type 0) → Option ℤ → Type 0
Least Is z = First ◌≤ℤ◌ Is z

-- a run from the net and step to a limit, perhaps without arcs, asks for the limit minus its delay
abbrev pub Asks : Block → Meaning → Order → ℕ → ℕ → ℤ → Type 0
Asks b m o n s r =
    (end : ℕ) × (limit : ℕ) × (is : List ℕ) × Run b n is end × (limit_at b o end ≡ Some limit) × (r ≡ pos limit -ℤ pos (run_delay b m s is))

-- the worst of what is asked: late the least, early the greatest
abbrev pub RequiredTime : Block → Meaning → Order → ℕ → ℕ → Option ℤ → Type 0
RequiredTime b m o n s r = First (λ a z. AsBad o z a) (Asks b m o n s) r

-- from a launch along arcs, perhaps none, to a limit of the sense
pub record CompletePath (b : Block) (o : Order) (start : ℕ) (x : Signal) (is : List ℕ) (end limit : ℕ) : Type 0 where
  pub launched : Launches b o start x
  pub joined : Run b start is end
  pub limited : limit_at b o end ≡ Some limit

-- the slack of the path's last time against the limit
abbrev pub path_slack : Block → Meaning → Order → Signal → List ℕ → ℕ → ℤ
path_slack b m o x is limit = o.slack (pos (along b m x is).time) (pos limit)

-- a complete path has that slack
abbrev pub SlackOfPath : Block → Meaning → Order → ℤ → Type 0
SlackOfPath b m o z =
    (start : ℕ) × (x : Signal) × (is : List ℕ) × (end : ℕ) × (limit : ℕ) × CompletePath b o start x is end limit × (z ≡ path_slack b m o x is limit)

-- the slack of a complete path that passes the net: up to it, and on from it
abbrev pub SlackThrough : Block → Meaning → Order → ℕ → ℤ → Type 0
SlackThrough b m o n z =
    (start : ℕ) × (x : Signal) × (is : List ℕ) × (js : List ℕ) × (end : ℕ) × (limit : ℕ) × Run b start is n × Run b n js end × CompletePath b o start x (is ++ js) end limit × (z ≡ path_slack b m o x (is ++ js) limit)

-- the least slack of the complete paths through the net
abbrev pub NetSlack : Block → Meaning → Order → ℕ → Option ℤ → Type 0
NetSlack b m o n z = Least (SlackThrough b m o n) z

-- the least slack of all complete paths
abbrev pub WorstSlack : Block → Meaning → Order → Option ℤ → Type 0
WorstSlack b m o z = Least (SlackOfPath b m o) z
