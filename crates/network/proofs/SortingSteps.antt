-- The steps of sorting: a source placed, arcs skipped, an arc counted off at its head, and what holds at the end. Assumes nothing.
use Rattle.std.proofs.Common.{◌≡◌, ℕ, zero, suc, ◌+◌, ◌-◌, ◌<◌, ◌≤◌, Bool, true, false, cond, ◌&&◌, eqb, ltb, leb, ◌≢◌, List, [], ◌∷◌, ◌++◌, length, get_or, take, set, Some, None, Option, sym, refl, ap, ◌∙◌, subst, inl, inr, arith, eq-eqb, ne_eqb, length-take-le}
use native.Mathlib.Decide.{ℕ_discrete}
use Rattle.std.proofs.lemmas.List.{length-set, length_push, get_or-set_same, get_or-set_other, get_or-take}
use Rattle.std.proofs.lemmas.Bool.{cases_lt, and_from}
use Rattle.std.proofs.lemmas.Bool.Decides.{nat_tests}
use Rattle.paths.specs.declared.blocks.Arc.{Arc}
use Rattle.paths.specs.Blocks.{tail_of, head_of, Joined}
use Rattle.paths.specs.Orders.{place_of, Placed, Unplaced, Numbers, TailsFirst, LowestUnplaced}
use Rattle.paths.specs.Cycles.{TakenOff}
use Rattle.paths.proofs.Places.{at_place, place_kept, place_new, place_other, once_push, numbers_push, none_past}
use Rattle.network.specs.Sorting.{one_if, arcs_into, Counted, waits, waiting, zeros, SourcesPlaced, Sorting, LowestPending}
use Rattle.network.proofs.Counting.{count_within, count_same, count_less, count_none, count_all, none_counted}
use Rattle.network.proofs.Writes.{after_write}

-- when an arc waits

past_waits : (p at i j : ℕ) → at < p → waits p at i j ≡ true
past_waits p at i j h = grind (arith, nat_tests)

before_done : (p at i j : ℕ) → p < at → waits p at i j ≡ false
before_done p at i j h = grind (arith, nat_tests)

there_waits : (p at i j : ℕ) → p ≡ at → i ≤ j → waits p at i j ≡ true
there_waits p at i j e h = grind (arith, nat_tests)

there_done : (p at i j : ℕ) → p ≡ at → j < i → waits p at i j ≡ false
there_done p at i j e h = grind (arith, nat_tests)

elsewhere_same : (p at i k j : ℕ) → p ≢ at → waits p at i j ≡ waits p at k j
elsewhere_same p at i k j ne = ap (λ (t : Bool). cond t (leb i j) (ltb at p)) e ∙ sym (ap (λ (t : Bool). cond t (leb k j) (ltb at p)) e)
  where
    e : eqb p at ≡ false
    e = ne_eqb p at ne

-- one arc further, all but that arc are as they were
other_same : (p at i j : ℕ) → j ≢ i → waits p at i j ≡ waits p at (i + 1) j
other_same p at i j ne = elim (ℕ_discrete p at) [
  | no q ↦ elsewhere_same p at i (i + 1) j q
  | yes q ↦ elim (cases_lt j i) [
    | inl h ↦ there_done p at i j q h ∙ sym (there_done p at (i + 1) j q (omega arith))
    | inr h ↦ there_waits p at i j q h ∙ sym (there_waits p at (i + 1) j q (omega arith))
  ]
]

and_false : (a b : Bool) → b ≡ false → (a && b) ≡ false
and_false true b e = e
and_false false b e = refl

and_true : (a b : Bool) → b ≡ true → a ≡ (a && b)
and_true true b e = sym e
and_true false b e = refl

-- the same arcs wait

resort : (arcs : List Arc) (at i at' i' : ℕ) (pending order : List ℕ) → ((j : ℕ) → j < length arcs → waits (place_of order (tail_of arcs j)) at i j ≡ waits (place_of order (tail_of arcs j)) at' i' j) → Sorting arcs at i pending order → Sorting arcs at' i' pending order
resort arcs at i at' i' pending order same S = record {
  numbers = S.numbers;
  once = S.once;
  tails_first = S.tails_first;
  counted = λ h lt. S.counted h lt ∙ count_same (λ j. eqb (head_of arcs j) h && waits (place_of order (tail_of arcs j)) at i j) (λ j. eqb (head_of arcs j) h && waits (place_of order (tail_of arcs j)) at' i' j) (length arcs) (λ j l. ap (λ (w : Bool). eqb (head_of arcs j) h && w) (same j l));
  placed = S.placed;
  unplaced = S.unplaced;
  full = S.full;
}

-- on to the next arc out of the net
pub skip : (arcs : List Arc) (at k x : ℕ) (pending order : List ℕ) → at < length order → k ≤ x → ((j : ℕ) → k ≤ j → j < length arcs → tail_of arcs j ≡ get_or order at 0 → x ≤ j) → Sorting arcs at k pending order → Sorting arcs at x pending order
skip arcs at k x pending order within up least = resort arcs at k at x pending order same
  where
    there : (j : ℕ) → j < length arcs → place_of order (tail_of arcs j) ≡ at → waits (place_of order (tail_of arcs j)) at k j ≡ waits (place_of order (tail_of arcs j)) at x j
    there j lt e =
        let p = place_of order (tail_of arcs j) in
        let own : tail_of arcs j ≡ get_or order at 0 = sym (at_place order (tail_of arcs j) (omega arith)) ∙ ap (λ (n : ℕ). get_or order n 0) e in
        elim (cases_lt j k) [
          | inl h ↦ there_done p at k j e h ∙ sym (there_done p at x j e (omega arith))
          | inr h ↦ there_waits p at k j e h ∙ sym (there_waits p at x j e (least j h lt own))
        ]

    same : (j : ℕ) → j < length arcs → waits (place_of order (tail_of arcs j)) at k j ≡ waits (place_of order (tail_of arcs j)) at x j
    same j lt = elim (ℕ_discrete (place_of order (tail_of arcs j)) at) [
      | yes q ↦ there j lt q
      | no q ↦ elsewhere_same (place_of order (tail_of arcs j)) at k x j q
    ]

-- all arcs out of the net are counted off
pub released : (arcs : List Arc) (at i : ℕ) (pending order : List ℕ) → length arcs ≤ i → Sorting arcs at i pending order → Sorting arcs (at + 1) 0 pending order
released arcs at i pending order past = resort arcs at i (at + 1) 0 pending order (λ j lt. by_place (place_of order (tail_of arcs j)) j lt)
  where
    by_place : (p j : ℕ) → j < length arcs → waits p at i j ≡ waits p (at + 1) 0 j
    by_place p j lt = elim (cases_lt at p) [
      | inr h ↦ elim (ℕ_discrete p at) [
        | yes q ↦ there_done p at i j q (omega arith) ∙ sym (before_done p (at + 1) 0 j (omega arith))
        | no q ↦ before_done p at i j (omega arith) ∙ sym (before_done p (at + 1) 0 j (omega arith))
      ]
      | inl h ↦ past_waits p at i j h ∙ sym (elim (ℕ_discrete p (at + 1)) [
        | yes q ↦ there_waits p (at + 1) 0 j q (omega arith)
        | no q ↦ past_waits p (at + 1) 0 j (omega arith)
      ])
    ]

-- the arc i out of the net at its place is counted off

module _ (arcs : List Arc) (at i : ℕ) (pending order : List ℕ) (joined : Joined (length pending) arcs) (S : Sorting arcs at i pending order) (within : at < length order) (is-arc : i < length arcs) (here : place_of order (tail_of arcs i) ≡ at) where
  abbrev head : ℕ
  head = head_of arcs i

  inside : head < length pending
  inside = (joined i is-arc).1

  -- an order that goes on from this one
  pub record GoesOn (order' : List ℕ) : Type 0 where
    pub kept : (n : ℕ) → Placed order n → place_of order' n ≡ place_of order n
    pub later : (n : ℕ) → Unplaced order n → length order ≤ place_of order' n

  module _ (order' : List ℕ) (on : GoesOn order') where
    others_wait : (j : ℕ) → j ≢ i → waits (place_of order (tail_of arcs j)) at i j ≡ waits (place_of order' (tail_of arcs j)) at (i + 1) j
    others_wait j ne =
        let p = place_of order (tail_of arcs j) in
        elim (cases_lt p (length order)) [
          | inl placed ↦ other_same p at i j ne ∙ ap (λ (q : ℕ). waits q at (i + 1) j) (sym (on.kept (tail_of arcs j) placed))
          | inr left ↦ let far = on.later (tail_of arcs j) left in past_waits p at i j (omega arith) ∙ sym (past_waits (place_of order' (tail_of arcs j)) at (i + 1) j (omega arith))
        ]

    no_longer : waits (place_of order' (tail_of arcs i)) at (i + 1) i ≡ false
    no_longer = there_done (place_of order' (tail_of arcs i)) at (i + 1) i (on.kept (tail_of arcs i) (omega (arith, here)) ∙ here) (omega arith)

    one_less : waiting arcs order at i head ≡ 1 + waiting arcs order' at (i + 1) head
    one_less =
        count_less (λ j. eqb (head_of arcs j) head && waits (place_of order (tail_of arcs j)) at i j) (λ j. eqb (head_of arcs j) head && waits (place_of order' (tail_of arcs j)) at (i + 1) j) i (length arcs) is-arc
        (and_from (eqb head head) (waits (place_of order (tail_of arcs i)) at i i) (eq-eqb head head refl) (there_waits (place_of order (tail_of arcs i)) at i i here (omega arith)))
        (and_false (eqb head head) (waits (place_of order' (tail_of arcs i)) at (i + 1) i) no_longer)
        (λ j _ ne. ap (λ (w : Bool). eqb (head_of arcs j) head && w) (others_wait j ne))

    no_less : (h : ℕ) → h ≢ head → waiting arcs order at i h ≡ waiting arcs order' at (i + 1) h
    no_less h ne =
        count_same (λ j. eqb (head_of arcs j) h && waits (place_of order (tail_of arcs j)) at i j) (λ j. eqb (head_of arcs j) h && waits (place_of order' (tail_of arcs j)) at (i + 1) j) (length arcs) (λ j _. elim (ℕ_discrete j i) [
          | no q ↦ ap (λ (w : Bool). eqb (head_of arcs j) h && w) (others_wait j q)
          | yes q ↦
              let e : eqb (head_of arcs j) h ≡ false = ne_eqb (head_of arcs j) h (λ same. ne (sym same ∙ ap (head_of arcs) q)) in
              ap (λ (t : Bool). t && waits (place_of order (tail_of arcs j)) at i j) e ∙ sym (ap (λ (t : Bool). t && waits (place_of order' (tail_of arcs j)) at (i + 1) j) e)
        ])

    counted_off : (left : ℕ) → get_or pending head 0 ≡ 1 + left → (h : ℕ) → h < length (set pending head left) → get_or (set pending head left) h 0 ≡ waiting arcs order' at (i + 1) h
    counted_off left is h lt =
        after_write (λ k v. k < length pending → v ≡ waiting arcs order' at (i + 1) k) pending head left inside
        (λ _. let before = S.counted head inside in let less = one_less in omega arith)
        (λ k ne l. S.counted k l ∙ no_less k ne)
        h (let long = length-set pending head left in omega arith)

  itself : GoesOn order
  itself = record { kept = λ n _. refl; later = λ n l. l }

  -- so the count of its head does not fall below 0
  pub some_waits : 0 < get_or pending head 0
  some_waits = let before = S.counted head inside in let less = one_less order itself in omega arith

  pub head_left : Unplaced order head
  head_left = S.unplaced head some_waits

  zero_now : zeros (set pending head 0) (length pending) ≡ 1 + zeros pending (length pending)
  zero_now =
      count_less (λ n. eqb (get_or (set pending head 0) n 0) 0) (λ n. eqb (get_or pending n 0) 0) head (length pending) inside
      (eq-eqb (get_or (set pending head 0) head 0) 0 (get_or-set_same pending head 0 0 inside))
      (ne_eqb (get_or pending head 0) 0 (let w = some_waits in λ e. absurd (omega arith)))
      (λ n _ ne. ap (λ (v : ℕ). eqb v 0) (get_or-set_other pending head n 0 0 ne))

  -- and there is room for it
  pub has_room : length order < length pending
  has_room =
      let more = zero_now in
      let most = count_within (λ n. eqb (get_or (set pending head 0) n 0) 0) (length pending) in
      let full = S.full in
      omega arith

  -- the head waits for more arcs
  pub still_waits : (left : ℕ) → get_or pending head 0 ≡ 1 + left → 0 < left → Sorting arcs at (i + 1) (set pending head left) order
  still_waits left is pos =
      let long = length-set pending head left in
      record {
        numbers = subst (λ (n : ℕ). Numbers n order) (sym long) S.numbers;
        once = S.once;
        tails_first = S.tails_first;
        counted = counted_off order itself left is;
        placed = λ n lt. after_write (λ k v. k < length pending → v ≡ 0 → Placed order k) pending head left inside (λ _ e. absurd (omega arith)) (λ k _. S.placed k) n (omega arith);
        unplaced = after_write (λ k v. 0 < v → Unplaced order k) pending head left inside (λ _. head_left) (λ k _. S.unplaced k);
        full = S.full ∙ same_zeros ∙ ap (zeros (set pending head left)) (sym long);
      }
    where
      same_zeros : zeros pending (length pending) ≡ zeros (set pending head left) (length pending)
      same_zeros = count_same (λ n. eqb (get_or pending n 0) 0) (λ n. eqb (get_or (set pending head left) n 0) 0) (length pending) (λ n _. after_write (λ k v. eqb (get_or pending k 0) 0 ≡ eqb v 0) pending head left inside
          (ne_eqb (get_or pending head 0) 0 (λ e. absurd (omega arith)) ∙ sym (ne_eqb left 0 (λ e. absurd (omega arith))))
          (λ k _. refl) n)

  abbrev longer : List ℕ
  longer = order ++ head_of arcs i ∷ []

  long_by_one : length longer ≡ length order + 1
  long_by_one = length_push order head

  with_head : GoesOn longer
  with_head = record {
    kept = λ n. place_kept order head n;
    later = λ n l. elim (ℕ_discrete head n) [
      | yes q ↦ let e : place_of longer n ≡ length order = ap (place_of longer) (sym q) ∙ place_new order head head_left in omega arith
      | no q ↦ let e = place_other order head n q l in omega arith
    ];
  }

  -- all arcs into the head are counted off, so their tails are placed
  tails_placed : waiting arcs longer at (i + 1) head ≡ 0 → (j : ℕ) → j < length arcs → head_of arcs j ≡ head → Placed order (tail_of arcs j)
  tails_placed none j lt e = elim (cases_lt (place_of order (tail_of arcs j)) (length order)) [
    | inl placed ↦ placed
    | inr left ↦
        let far = with_head.later (tail_of arcs j) left in
        let fails = none_counted (λ j. eqb (head_of arcs j) head && waits (place_of longer (tail_of arcs j)) at (i + 1) j) (length arcs) none j lt in
        let passes = and_from (eqb (head_of arcs j) head) (waits (place_of longer (tail_of arcs j)) at (i + 1) j) (eq-eqb (head_of arcs j) head e) (past_waits (place_of longer (tail_of arcs j)) at (i + 1) j (omega arith)) in
        let z : ◌≡◌ {A = ℕ} 0 1 = cc in
        absurd (omega arith)
  ]

  tails_still_first : waiting arcs longer at (i + 1) head ≡ 0 → TailsFirst arcs longer
  tails_still_first none j lt p = elim (ℕ_discrete head (head_of arcs j)) [
    | yes q ↦
        let placed = tails_placed none j lt (sym q) in
        let tail = place_kept order head (tail_of arcs j) placed in
        let last : place_of longer (head_of arcs j) ≡ length order = ap (place_of longer) (sym q) ∙ place_new order head head_left in
        omega arith
    | no q ↦ elim (cases_lt (place_of order (head_of arcs j)) (length order)) [
      | inl old ↦
          let before = S.tails_first j lt old in
          let tail = place_kept order head (tail_of arcs j) (omega arith) in
          let same = place_kept order head (head_of arcs j) old in
          omega arith
      | inr left ↦ let e = place_other order head (head_of arcs j) q left in let l = long_by_one in absurd (omega arith)
    ]
  ]

  -- the head waits for no more, and is placed
  pub head_placed : get_or pending head 0 ≡ 1 → Sorting arcs at (i + 1) (set pending head 0) longer
  head_placed is =
      let long = length-set pending head 0 in
      let more = long_by_one in
      let counts = counted_off longer with_head 0 is in
      let none : waiting arcs longer at (i + 1) head ≡ 0 = sym (counts head (omega (arith, inside))) ∙ get_or-set_same pending head 0 0 inside in
      record {
        numbers = subst (λ (n : ℕ). Numbers n longer) (sym long) (numbers_push (length pending) order head inside S.numbers);
        once = once_push order head S.once head_left;
        tails_first = tails_still_first none;
        counted = counts;
        placed = λ n lt. after_write (λ k v. k < length pending → v ≡ 0 → Placed longer k) pending head 0 inside
            (λ _ _. let e = place_new order head head_left in omega arith)
            (λ k _ l e. let p = S.placed k l e in let same = place_kept order head k p in omega arith)
            n (omega arith);
        unplaced = after_write (λ k v. 0 < v → Unplaced longer k) pending head 0 inside
            (λ pos. absurd (omega arith))
            (λ k ne pos. let e = place_other order head k (λ q. ne (sym q)) (S.unplaced k pos) in omega arith);
        full = more ∙ (let f = S.full in let z = zero_now in omega arith) ∙ ap (zeros (set pending head 0)) (sym long);
      }

-- the nets that no waiting arc leads into: no more than there are, also of those from k on

pub zeros_within : (pending : List ℕ) (k : ℕ) → zeros pending k ≤ k
zeros_within pending k = count_within (λ n. eqb (get_or pending n 0) 0) k

-- an arc more is counted at its head

pub counted_more : (arcs : List Arc) (k : ℕ) (pending : List ℕ) → head_of arcs k < length pending → Counted arcs k pending → Counted arcs (k + 1) (set pending (head_of arcs k) (get_or pending (head_of arcs k) 0 + 1))
counted_more arcs k pending inside counted h lt =
    after_write (λ n v. n < length pending → v ≡ arcs_into arcs n (k + 1)) pending (head_of arcs k) (get_or pending (head_of arcs k) 0 + 1) inside
    (λ l. let before = counted (head_of arcs k) l in let up = one_more (head_of arcs k) in let own : one_if (eqb (head_of arcs k) (head_of arcs k)) ≡ 1 = ap one_if (eq-eqb (head_of arcs k) (head_of arcs k) refl) in omega arith)
    (λ n ne l. let before = counted n l in let up = one_more n in let none : one_if (eqb (head_of arcs k) n) ≡ 0 = ap one_if (ne_eqb (head_of arcs k) n (λ q. ne (sym q))) in omega arith)
    h (let long = length-set pending (head_of arcs k) (get_or pending (head_of arcs k) 0 + 1) in omega arith)
  where
    one_more : (n : ℕ) → arcs_into arcs n (k + 1) ≡ one_if (eqb (head_of arcs k) n) + arcs_into arcs n k
    one_more n = let e : k + 1 ≡ suc k = omega arith in ap (arcs_into arcs n) e

-- the nets that no arc leads into

pub no_sources : (pending : List ℕ) → SourcesPlaced pending 0 []
no_sources pending = record { numbers = λ k h. absurd (omega arith); once = λ k h. absurd (omega arith); placed = λ n h. absurd (omega arith); unplaced = λ n _. omega arith; full = refl }

up_one : (pending : List ℕ) (k : ℕ) → zeros pending (k + 1) ≡ one_if (eqb (get_or pending k 0) 0) + zeros pending k
up_one pending k = let e : k + 1 ≡ suc k = omega arith in ap (zeros pending) e

pub one_zero : (pending : List ℕ) (k : ℕ) → get_or pending k 0 ≡ 0 → zeros pending (k + 1) ≡ zeros pending k + 1
one_zero pending k is = let up = up_one pending k in let one : one_if (eqb (get_or pending k 0) 0) ≡ 1 = ap one_if (eq-eqb (get_or pending k 0) 0 is) in omega arith

pub no_zero : (pending : List ℕ) (k : ℕ) → 0 < get_or pending k 0 → zeros pending (k + 1) ≡ zeros pending k
no_zero pending k pos = let up = up_one pending k in let none : one_if (eqb (get_or pending k 0) 0) ≡ 0 = ap one_if (ne_eqb (get_or pending k 0) 0 (λ e. absurd (omega arith))) in omega arith

pub zeros_rest : (pending : List ℕ) (k n : ℕ) → k ≤ n → zeros pending n + k ≤ zeros pending k + n
zeros_rest pending k n le = subst (λ m. zeros pending m + k ≤ zeros pending k + m) (omega arith) (from_k (n - k))
  where
    from_k : (m : ℕ) → zeros pending (k + m) + k ≤ zeros pending k + (k + m)
    from_k zero = let e : k + 0 ≡ k = omega arith in let same = ap (zeros pending) e in omega arith
    from_k (suc m) =
        let e : k + suc m ≡ (k + m) + 1 = omega arith in
        let same = ap (zeros pending) e in
        let before = from_k m in
        elim (cases_lt 0 (get_or pending (k + m) 0)) [
          | inl pos ↦ let up = no_zero pending (k + m) pos in omega arith
          | inr none ↦ let up = one_zero pending (k + m) (omega arith) in omega arith
        ]

pub placed_within : (arcs : List Arc) (at i : ℕ) (pending order : List ℕ) → Sorting arcs at i pending order → length order ≤ length pending
placed_within arcs at i pending order S = let full = S.full in let few = zeros_within pending (length pending) in omega arith

-- the counts of the first nets alone
pub counted_front : (arcs : List Arc) (k n : ℕ) (pending : List ℕ) → n ≤ length pending → Counted arcs k pending → Counted arcs k (take n pending)
counted_front arcs k n pending le counted h lt =
    let long = length-take-le n pending le in
    get_or-take n pending h 0 (omega arith) ∙ counted h (omega arith)

-- the nets that no arc leads into

pub source_skipped : (pending : List ℕ) (k : ℕ) (order : List ℕ) → 0 < get_or pending k 0 → SourcesPlaced pending k order → SourcesPlaced pending (k + 1) order
source_skipped pending k order pos P = record {
  numbers = λ n h. let lt = P.numbers n h in omega arith;
  once = P.once;
  placed = λ n h e. elim (ℕ_discrete n k) [
    | yes q ↦ let same = ap (λ (m : ℕ). get_or pending m 0) q in absurd (omega arith)
    | no q ↦ P.placed n (omega arith) e
  ];
  unplaced = P.unplaced;
  full = let up = no_zero pending k pos in let f = P.full in omega arith;
}

pub source_placed : (pending : List ℕ) (k : ℕ) (order : List ℕ) → get_or pending k 0 ≡ 0 → SourcesPlaced pending k order → SourcesPlaced pending (k + 1) (order ++ k ∷ [])
source_placed pending k order is P =
    let new = none_past k order k P.numbers (omega arith) in
    let long = length_push order k in
    record {
      numbers = numbers_push (k + 1) order k (omega arith) (λ n h. let lt = P.numbers n h in omega arith);
      once = once_push order k P.once new;
      placed = λ n h e. elim (ℕ_discrete n k) [
        | yes q ↦ let p : place_of (order ++ k ∷ []) n ≡ length order = ap (place_of (order ++ k ∷ [])) q ∙ place_new order k new in omega arith
        | no q ↦ let p = P.placed n (omega arith) e in let same = place_kept order k n p in omega arith
      ];
      unplaced = λ n pos.
          let other : k ≢ n = λ q. let same = ap (λ (m : ℕ). get_or pending m 0) q in absurd (omega arith) in
          let e = place_other order k n other (P.unplaced n pos) in
          omega arith;
      full = let up = one_zero pending k is in let f = P.full in omega arith;
    }

-- before any arc is counted off, all wait
pub sorting_begins : (arcs : List Arc) (pending order : List ℕ) → Joined (length pending) arcs → Counted arcs (length arcs) pending → SourcesPlaced pending (length pending) order → Sorting arcs 0 0 pending order
sorting_begins arcs pending order joined counted P = record {
  numbers = P.numbers;
  once = P.once;
  tails_first = λ i lt p. absurd (no_arc_in i lt p);
  counted = λ h lt. counted h lt ∙ count_same (λ j. eqb (head_of arcs j) h) (λ j. eqb (head_of arcs j) h && waits (place_of order (tail_of arcs j)) 0 0 j) (length arcs) (λ j _. and_true (eqb (head_of arcs j) h) (waits (place_of order (tail_of arcs j)) 0 0 j) (all_wait (place_of order (tail_of arcs j)) j));
  placed = P.placed;
  unplaced = P.unplaced;
  full = P.full;
}
  where
    all_wait : (p j : ℕ) → waits p 0 0 j ≡ true
    all_wait p j = elim (ℕ_discrete p 0) [
      | yes q ↦ there_waits p 0 0 j q (omega arith)
      | no q ↦ past_waits p 0 0 j (omega arith)
    ]

    no_arc_in : (i : ℕ) → i < length arcs → Placed order (head_of arcs i) → ⊥
    no_arc_in i lt p = elim (cases_lt 0 (get_or pending (head_of arcs i) 0)) [
      | inl pos ↦ let l = P.unplaced (head_of arcs i) pos in omega arith
      | inr none ↦
          let is = counted (head_of arcs i) (joined i lt).1 in
          let fails = none_counted (λ j. eqb (head_of arcs j) (head_of arcs i)) (length arcs) (omega arith) i lt in
          let passes = eq-eqb (head_of arcs i) (head_of arcs i) refl in
          let z : ◌≡◌ {A = ℕ} 0 1 = cc in
          omega arith
    ]

-- at the end

module _ (arcs : List Arc) (at : ℕ) (pending order : List ℕ) (S : Sorting arcs at 0 pending order) (end : length order ≤ at) where
  pub taken_off : TakenOff (length pending) arcs order
  taken_off = record { numbers = S.numbers; once = S.once; tails_first = S.tails_first; none_can_be_placed = stuck }
    where
      stuck : (n : ℕ) → n < length pending → Unplaced order n → ((i : ℕ) → i < length arcs → head_of arcs i ≡ n → Placed order (tail_of arcs i)) → ⊥
      stuck n lt left all =
          let none = count_none (λ j. eqb (head_of arcs j) n && waits (place_of order (tail_of arcs j)) at 0 j) (length arcs) (λ j l. elim (ℕ_discrete (head_of arcs j) n) [
            | yes q ↦ let p = all j l q in and_false (eqb (head_of arcs j) n) (waits (place_of order (tail_of arcs j)) at 0 j) (before_done (place_of order (tail_of arcs j)) at 0 j (omega arith))
            | no q ↦ ap (λ (t : Bool). t && waits (place_of order (tail_of arcs j)) at 0 j) (ne_eqb (head_of arcs j) n q)
          ]) in
          let p = S.placed n lt (S.counted n lt ∙ none) in
          omega arith

  pub lowest_left : (o : Option ℕ) → LowestPending pending o → LowestUnplaced (length pending) order o
  lowest_left None none = λ n lt. S.placed n lt (none n lt)
  lowest_left (Some n) (lt, pos, below) = (lt, S.unplaced n pos, λ k h. S.placed k (omega arith) (below k h))

  pub all_placed : (o : Option ℕ) → LowestPending pending o → o ≡ None → length order ≡ length pending
  all_placed None none e = S.full ∙ count_all (λ n. eqb (get_or pending n 0) 0) (length pending) (λ n lt. eq-eqb (get_or pending n 0) 0 (none n lt))
  all_placed (Some n) low e = let z : ◌≡◌ {A = ℕ} 0 1 = cc in absurd (omega arith)
