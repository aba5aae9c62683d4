-- What is left when nets are taken off is what lies on or behind a cycle: going back from net to net meets a net twice. Assumes nothing.
use Rattle.std.proofs.Common.{◌≡◌, ℕ, zero, suc, ◌+◌, ◌<◌, ◌≤◌, Bool, true, false, cond, eqb, ◌⊎◌, List, [], ◌∷◌, length, Some, None, Option, sym, refl, ap, ◌∙◌, subst, inl, inr, arith, eq-eqb, ne_eqb, eqb-true}
use native.Mathlib.Decide.{ℕ_discrete}
use Rattle.std.proofs.lemmas.Bool.{cases_Bool, cases_lt}
use Rattle.paths.specs.declared.blocks.Arc.{Arc}
use Rattle.paths.specs.Blocks.{Block, tail_of, head_of, Joined}
use Rattle.paths.specs.Runs.{IsArc, Run}
use Rattle.paths.specs.Orders.{place_of, Placed, Unplaced, LowestUnplaced}
use Rattle.paths.specs.Cycles.{ReachableFromCycle, CycleAt, TakenOff, LeftIsReachable}

abbrev one_if_not : Bool → ℕ
one_if_not true = 0
one_if_not false = 1

-- how many numbers below k are not visited
abbrev unvisited : (ℕ → Bool) → ℕ → ℕ
unvisited V zero = 0
unvisited V (suc k) = one_if_not (V k) + unvisited V k

abbrev visit : (ℕ → Bool) → ℕ → ℕ → Bool
visit V p n = cond (eqb n p) true (V n)

no_more : (V : ℕ → Bool) (p k : ℕ) → unvisited (visit V p) k ≤ unvisited V k
no_more V p zero = omega arith
no_more V p (suc k) = go (eqb k p) (V k) (no_more V p k)
  where
    go : (u v : Bool) → unvisited (visit V p) k ≤ unvisited V k → one_if_not (cond u true v) + unvisited (visit V p) k ≤ one_if_not v + unvisited V k
    go true true h = omega arith
    go true false h = omega arith
    go false true h = omega arith
    go false false h = omega arith

-- a visit to a number not visited leaves fewer of them
fewer : (V : ℕ → Bool) (p k : ℕ) → p < k → V p ≡ false → unvisited (visit V p) k < unvisited V k
fewer V p zero h e = absurd (omega arith)
fewer V p (suc k) h e =
    elim (ℕ_discrete k p) [
      | yes q ↦
          let less = no_more V p k in
          let here : one_if_not (visit V p k) ≡ 0 = ap (λ (v : Bool). one_if_not (cond v true (V k))) (eq-eqb k p q) in
          let before : one_if_not (V k) ≡ 1 = ap one_if_not (ap V q ∙ e) in
          omega arith
      | no q ↦
          let less = fewer V p k (omega arith) e in
          let same : one_if_not (visit V p k) ≡ one_if_not (V k) = ap (λ (v : Bool). one_if_not (cond v true (V k))) (ne_eqb k p q) in
          omega arith
    ]

-- among the first k arcs, all into a net come from nets taken off, or one comes from a net left
all_or_one : (arcs : List Arc) (off : List ℕ) (n k : ℕ) → ((i : ℕ) → i < k → head_of arcs i ≡ n → Placed off (tail_of arcs i)) ⊎ ((i : ℕ) × (i < k) × (head_of arcs i ≡ n) × Unplaced off (tail_of arcs i))
all_or_one arcs off n zero = inl (λ i h. absurd (omega arith))
all_or_one arcs off n (suc k) = elim (all_or_one arcs off n k) [
  | inr found ↦ let (i, lt, e, l) = found in inr (i, omega arith, e, l)
  | inl all ↦ elim (ℕ_discrete (head_of arcs k) n) [
    | no q ↦ inl (λ i h e. elim (ℕ_discrete i k) [
      | yes same ↦ absurd (q (ap (head_of arcs) (sym same) ∙ e))
      | no other ↦ all i (omega arith) e
    ])
    | yes q ↦ elim (cases_lt (place_of off (tail_of arcs k)) (length off)) [
      | inr l ↦ inr (k, omega arith, q, l)
      | inl p ↦ inl (λ i h e. elim (ℕ_discrete i k) [
        | yes same ↦ subst (λ (j : ℕ). Placed off (tail_of arcs j)) (sym same) p
        | no other ↦ all i (omega arith) e
      ])
    ]
  ]
]

module _ (b : Block) (off : List ℕ) (joined : Joined (length b.nets) b.arcs) (taken : TakenOff (length b.nets) b.arcs off) where
  -- to each net left leads an arc from a net left
  fed : (n : ℕ) → n < length b.nets → Unplaced off n → (i : ℕ) × IsArc b i × (head_of b.arcs i ≡ n) × Unplaced off (tail_of b.arcs i)
  fed n lt l = elim (all_or_one b.arcs off n (length b.arcs)) [
    | inl all ↦ absurd (taken.none_can_be_placed n lt l all)
    | inr found ↦ found
  ]

  -- from this net a run leads to each that was visited
  abbrev LeadsToVisited : (ℕ → Bool) → ℕ → Type 0
  LeadsToVisited V n = (v : ℕ) → V v ≡ true → (i : ℕ) × (is : List ℕ) × Run b n (i ∷ is) v

  -- one arc further back
  visited_from : (V : ℕ → Bool) (n i : ℕ) → IsArc b i → head_of b.arcs i ≡ n → LeadsToVisited V n → LeadsToVisited (visit V n) (tail_of b.arcs i)
  visited_from V n i is-arc e leads v visited = go (eqb v n) refl visited
    where
      go : (u : Bool) → eqb v n ≡ u → cond u true (V v) ≡ true → (j : ℕ) × (is : List ℕ) × Run b (tail_of b.arcs i) (j ∷ is) v
      go true same t = (i, [], (is-arc, refl, e ∙ sym (eqb-true v n same)))
      go false other t = let (j, is, run) = leads v t in (i, j ∷ is, (is-arc, refl, subst (λ (w : ℕ). Run b w (j ∷ is) v) (sym e) run))

  -- from a net left, which leads to `end`, back along arcs from nets left, until one was visited before
  go_back : (fuel end n : ℕ) (V : ℕ → Bool) (is : List ℕ) → unvisited V (length b.nets) ≤ fuel → n < length b.nets → Unplaced off n → V n ≡ false → LeadsToVisited V n → Run b n is end → ReachableFromCycle b end
  go_back zero end n V is h lt l e leads run = absurd (let f = fewer V n (length b.nets) lt e in omega arith)
  go_back (suc fuel) end n V is h lt l e leads run =
      let (i, is-arc, into, l') = fed n lt l in
      let leads' = visited_from V n i is-arc into leads in
      let run' : Run b (tail_of b.arcs i) (i ∷ is) end = (is-arc, refl, subst (λ (w : ℕ). Run b w is end) (sym into) run) in
      elim (cases_Bool (visit V n (tail_of b.arcs i))) [
        | inl visited ↦ (tail_of b.arcs i, i ∷ is, leads' (tail_of b.arcs i) visited, run')
        | inr new ↦ go_back fuel end (tail_of b.arcs i) (visit V n) (i ∷ is) (let f = fewer V n (length b.nets) lt e in omega arith) (joined i is-arc).0 l' new leads' run'
      ]

  left_behind : (n : ℕ) → n < length b.nets → Unplaced off n → ReachableFromCycle b n
  left_behind n lt l = go_back (unvisited (λ v. false) (length b.nets)) n n (λ v. false) [] (omega arith) lt l refl (λ v e. absurd (let z : ◌≡◌ {A = ℕ} 0 1 = cc in omega arith)) refl

  -- a run to a net taken off comes from a net taken off before, an arc for each place at most
  comes_before : (n end : ℕ) (is : List ℕ) → Run b n is end → Placed off end → Placed off n × (length is + place_of off n ≤ place_of off end)
  comes_before n end [] run p = (subst (Placed off) (sym run) p, subst (λ (w : ℕ). 0 + place_of off n ≤ place_of off w) run (omega arith))
  comes_before n end (i ∷ is) run p =
      let (placed, short) = comes_before (head_of b.arcs i) end is run.2 p in
      let before = taken.tails_first i run.0 placed in
      let same : place_of off (tail_of b.arcs i) ≡ place_of off n = ap (place_of off) run.1 in
      (omega arith, omega arith)

  behind_left : (n : ℕ) → ReachableFromCycle b n → Unplaced off n
  behind_left n (k, is, (i, js, cycle), run) = elim (cases_lt (place_of off n) (length off)) [
    | inr l ↦ l
    | inl p ↦ let round = (comes_before k k (i ∷ js) cycle (comes_before k n is run p).0).1 in absurd (omega arith)
  ]

  pub left_is_reachable : LeftIsReachable b off
  left_is_reachable n lt = (left_behind n lt, behind_left n)

  run_ends : (n end : ℕ) (is : List ℕ) → n < length b.nets → Run b n is end → end < length b.nets
  run_ends n end [] lt run = subst (λ (w : ℕ). w < length b.nets) run lt
  run_ends n end (i ∷ is) lt run = run_ends (head_of b.arcs i) end is (joined i run.0).1 run.2

  behind_known : (n : ℕ) → ReachableFromCycle b n → n < length b.nets
  behind_known n (k, is, (i, js, cycle), run) = run_ends k n is (subst (λ (w : ℕ). w < length b.nets) cycle.1 (joined i cycle.0).0) run

  -- the lowest net left tells of the block's cycles
  pub cycle_at : (o : Option ℕ) → LowestUnplaced (length b.nets) off o → CycleAt b o
  cycle_at None whole = λ n on.
      let behind : ReachableFromCycle b n = (n, [], on, refl) in
      let l = behind_left n behind in
      let p = whole n (behind_known n behind) in
      omega arith
  cycle_at (Some n) (lt, l, below) = (left_behind n lt l, λ k less behind. let m = behind_left k behind in let p = below k less in omega arith)
