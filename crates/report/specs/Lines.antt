-- The text of a report, line by line. Assumes nothing.
use Rattle.std.specs.Prelude.{◌≡◌, ◌⊎◌, ℕ, ℤ, List, [], ◌∷◌, ◌++◌, Option, Some, None, codes, decimal, flat_map, zip}
use Rattle.std.specs.List.{enumerate_from}
use Rattle.std.specs.Fmt.{signed_decimal}
use Rattle.units.specs.declared.refusals.Refusal.{Refusal}
use Rattle.timing.specs.Areas.{figure}
use Rattle.report.specs.declared.areas.Timed.{Timed}
use Rattle.report.specs.declared.lines.TimedBlock.{TimedBlock}

-- the byte that ends a line
abbrev pub line_feed : List ℕ
line_feed = 10 ∷ []

-- the one line of a file that is refused
abbrev pub fault_line : ℕ → Refusal → List ℕ
fault_line offset refusal =
    codes "fault " ++ (decimal offset ++ (codes " " ++ (decimal refusal.number ++ (codes " " ++ (decimal refusal.place ++ line_feed)))))

-- a slack, or `-` where there is none
abbrev pub figure_text : Option ℤ → List ℕ
figure_text None = codes "-"
figure_text (Some z) = signed_decimal z

abbrev pub slack_text : ℤ → List ℕ
slack_text z = figure_text (figure z)

-- the arcs of a path in order
abbrev pub arcs_text : List ℕ → List ℕ
arcs_text = flat_map (λ arc. codes " " ++ decimal arc)

-- the worst slack, the number of arcs of the path and its arcs, or that there is no path
abbrev pub path_text : Timed → Option ℤ → List ℕ
path_text t None = codes "none"
path_text t (Some z) = signed_decimal z ++ (codes " " ++ (decimal t.answer.arcs ++ arcs_text t.path.items))

abbrev pub sense_line : List ℕ → Timed → List ℕ
sense_line sense t = sense ++ (codes " " ++ (path_text t (figure t.answer.worst_slack) ++ line_feed))

-- a net with its late and its early slack
abbrev pub net_line : ℕ → ℤ → ℤ → List ℕ
net_line net late early =
    codes "net " ++ (decimal net ++ (codes " " ++ (slack_text late ++ (codes " " ++ (slack_text early ++ line_feed)))))

-- the nets by number, each with its slacks
abbrev pub net_lines : List ℤ → List ℤ → List ℕ
net_lines late early = flat_map (λ entry. net_line entry.0 entry.1.0 entry.1.1) (enumerate_from 0 (zip late early))

-- a block timed in both senses: a line for each sense, and one for each net
abbrev pub timed_lines : TimedBlock → List ℕ
timed_lines block =
    sense_line (codes "late") block.late ++ (sense_line (codes "early") block.early ++ net_lines block.late.slacks.items block.early.slacks.items)

-- the report of a file: that of its block, or the line of its refusal
abbrev pub IsReport : List ℕ → Type 0
IsReport text =
    ((block : TimedBlock) × (text ≡ timed_lines block)) ⊎ ((offset : ℕ) × (refusal : Refusal) × (text ≡ fault_line offset refusal))
