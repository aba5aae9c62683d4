-- Required times net by net, against the topological order. Assumes nothing.
use Rattle.std.proofs.Common.{◌≡◌, ℕ, suc, ◌-◌, ◌*◌, ◌<◌, ◌≤◌, Bool, true, false, cond, ltb, ◌⊎◌, List, length, get_or, ℤ, pos, ◌-ℤ◌, neg_ℤ, ◌≤ℤ◌, Some, None, Option, sym, refl, ap, ◌∙◌, subst, inl, inr, arith}
use native.Mathlib.Decide.{ℕ_discrete}
use borrow.Rule.Slice.PartMut.{put_mid}
use Rattle.std.proofs.lemmas.List.{get_or_past}
use Rattle.std.proofs.lemmas.Int.{ints}
use Rattle.std.proofs.lemmas.Bool.{cases_lt, le-ltb}
use Rattle.units.specs.Senses.{Order}
use Rattle.units.specs.Steps.{step_count, last_step}
use Rattle.models.specs.Meaning.{Meaning, Lawful, max_delay}
use Rattle.paths.specs.declared.blocks.Net.{Net}
use Rattle.paths.specs.Blocks.{Block, max_nets, max_path, largest_limit, no_net, net_of, tail_of, head_of, kind_of, limit_of, Joined, LateLimitsFit, EarlyLimitsFit}
use Rattle.paths.specs.Orders.{place_of, TopologicalOrder}
use Rattle.paths.specs.Slacks.{First, limit_at}
use Rattle.paths.specs.ArcByArc.{RequiredTable, RequiredByArcs, RequiredByNets}
use Rattle.paths.specs.Ranges.{RequiredFits}
use Rattle.paths.proofs.Firsts.{first_is}
use Rattle.std.proofs.lemmas.Option.{none-some}
use Rattle.paths.proofs.Places.{at_place}
use Rattle.timing.specs.Areas.{figure, required_entry, required_in_area, FiguresPast}
use Rattle.timing.specs.Passes.{Backward}
use Rattle.timing.specs.RequiredRows.{AsHard, HeadsReady, RequiredRow}
use Rattle.timing.proofs.AreaParts.{in_table}
use Rattle.timing.proofs.HarderTimes.{first_same}
use Rattle.timing.proofs.RowWrites.{RowWritten, row_written}

-- a required time from which at most k arcs lead on
abbrev pub WithinArcs : ℕ → ℤ → Type 0
WithinArcs k r = (neg_ℤ (pos (k * max_delay)) ≤ℤ r) × (r ≤ℤ pos largest_limit)

more_arcs : (j k : ℕ) (r : ℤ) → j ≤ k → WithinArcs j r → WithinArcs k r
more_arcs j k r h (low, high) = (omega (arith, ints), high)

one_arc_more : (k delay : ℕ) (q r : ℤ) → delay ≤ max_delay → WithinArcs k q → r ≡ q -ℤ pos delay → WithinArcs (suc k) r
one_arc_more k delay q r short (low, high) e = (omega (arith, ints), omega (arith, ints))

limit_within : (k limit : ℕ) (r : ℤ) → limit ≤ largest_limit → r ≡ pos limit → WithinArcs k r
limit_within k limit r h e = (omega (arith, ints), omega (arith, ints))

-- the limit of either sense fits
limit_fits : (b : Block) (o : Order) → LateLimitsFit b.nets → EarlyLimitsFit b.nets → (n limit : ℕ) → limit_at b o n ≡ Some limit → limit ≤ largest_limit
limit_fits b o lates earlies n limit = go o.is_late
  where
    at : (x : Option ℕ) → limit_of x ≤ largest_limit → x ≡ Some limit → limit ≤ largest_limit
    at x h e = let same : limit_of x ≡ limit = ap limit_of e in omega arith

    go : (late : Bool) → cond late (net_of b n).late_limit (net_of b n).early_limit ≡ Some limit → limit ≤ largest_limit
    go true e = at (net_of b n).late_limit (lates n) e
    go false e = at (net_of b n).early_limit (earlies n) e

-- past the nets there is no limit
no_limit : (b : Block) (o : Order) (n limit : ℕ) → length b.nets ≤ n → ¬ (limit_at b o n ≡ Some limit)
no_limit b o n limit past e = none o.is_late (sym (ap (λ (net : Net). cond o.is_late net.late_limit net.early_limit) (get_or_past b.nets n no_net past)) ∙ e)
  where
    none : (late : Bool) → ¬ (cond late no_net.late_limit no_net.early_limit ≡ Some limit)
    none true = none-some limit
    none false = none-some limit

-- the nets from the place p of the order on have their rows
pub record RequiredFrom (b : Block) (m : Meaning) (o : Order) (order : List ℕ) (p : ℕ) (was is : List ℤ) : Type 0 where
  pub rows : (n s : ℕ) → n < length b.nets → p ≤ place_of order n → s ≤ last_step → First (AsHard o) (RequiredByArcs b m o (required_in_area (length b.nets) is) n s) (required_entry is n s)
  pub range : (n s : ℕ) (r : ℤ) → n < length b.nets → p ≤ place_of order n → s ≤ last_step → required_entry is n s ≡ Some r → WithinArcs (length b.nets - suc (place_of order n)) r
  pub past : FiguresPast (step_count * length b.nets) was is

-- inside the block the table of the area is its entries
in_area : (nets : ℕ) (required : List ℤ) (n s : ℕ) → n < nets → s ≤ last_step → required_in_area nets required n s ≡ required_entry required n s
in_area nets required n s h fits = in_table nets n s (required_entry required n s) h (omega arith)

outside : (nets : ℕ) (required : List ℤ) (n s : ℕ) → nets ≤ n → required_in_area nets required n s ≡ None
outside nets required n s h = ap (λ (v : Bool). cond (cond v (ltb s step_count) false) (required_entry required n s) None) (le-ltb n nets h)

module _ (b : Block) (m : Meaning) (law : Lawful m) (o : Order) (order : List ℕ) (joined : Joined (length b.nets) b.arcs) (ordered : TopologicalOrder (length b.nets) b.arcs order) where
  abbrev nets : ℕ
  nets = length b.nets

  -- tables that are the same at the heads of a net's arcs require the same of it
  required_same : (R R' : RequiredTable) (n s : ℕ) → ((i u : ℕ) → i < length b.arcs → tail_of b.arcs i ≡ n → u ≤ last_step → R (head_of b.arcs i) u ≡ R' (head_of b.arcs i) u) → (r : ℤ) → RequiredByArcs b m o R n s r → RequiredByArcs b m o R' n s r
  required_same R R' n s same r (inl limit) = inl limit
  required_same R R' n s same r (inr (i, q, is-arc, from, e, er)) =
      inr (i, q, is-arc, from, sym (same i (m.output_step (kind_of b.arcs i) s) is-arc from (law.output_step.fits (kind_of b.arcs i) s)) ∙ e, er)

  first_required : (R R' : RequiredTable) (n s : ℕ) → ((i u : ℕ) → i < length b.arcs → tail_of b.arcs i ≡ n → u ≤ last_step → R (head_of b.arcs i) u ≡ R' (head_of b.arcs i) u) → (x : Option ℤ) → First (AsHard o) (RequiredByArcs b m o R n s) x → First (AsHard o) (RequiredByArcs b m o R' n s) x
  first_required R R' n s same =
      first_same (AsHard o) (RequiredByArcs b m o R n s) (RequiredByArcs b m o R' n s) (required_same R R' n s same) (required_same R' R n s (λ i u is-arc from fits. sym (same i u is-arc from fits)))

  -- the head of an arc stands after its tail
  head_after : (i n : ℕ) → i < length b.arcs → tail_of b.arcs i ≡ n → place_of order n < place_of order (head_of b.arcs i)
  head_after i n is-arc from =
      let before = ordered.tails_first i is-arc in
      let here : place_of order (tail_of b.arcs i) ≡ place_of order n = ap (place_of order) from in
      omega arith

  module _ (p : ℕ) (was mid : List ℤ) (placed : p < nets) (done : RequiredFrom b m o order (suc p) was mid) where
    abbrev net : ℕ
    net = get_or order p 0

    net_within : net < nets
    net_within = ordered.numbers p (omega (arith, ordered.long))

    net_place : place_of order net ≡ p
    net_place = ordered.once p (omega (arith, ordered.long))

    head_done : (i : ℕ) → i < length b.arcs → tail_of b.arcs i ≡ net → suc p ≤ place_of order (head_of b.arcs i)
    head_done i is-arc from = let after = head_after i net is-arc from in omega (arith, net_place)

    head_place : (i : ℕ) → i < length b.arcs → place_of order (head_of b.arcs i) < nets
    head_place i is-arc = let within = ordered.whole (head_of b.arcs i) (joined i is-arc).1 in omega (arith, ordered.long)

    heads_ready_at : nets ≤ max_nets → step_count * nets ≤ length mid → HeadsReady b.arcs net mid
    heads_ready_at few room = record {
      room = λ i is-arc from. let within = (joined i is-arc).1 in omega arith;
      fits = λ i is-arc from s fits r e.
          more_arcs (nets - suc (place_of order (head_of b.arcs i))) max_path r (omega arith) (done.range (head_of b.arcs i) s r (joined i is-arc).1 (head_done i is-arc from) fits e);
    }

    module _ (row is : List ℤ) (limits : (n limit : ℕ) → limit_at b o n ≡ Some limit → limit ≤ largest_limit) (required : RequiredRow b m o (required_entry mid) net row) (written : RowWritten net row mid is) where
      -- a net further on is another, and is left as it was
      kept : (n s : ℕ) → suc p ≤ place_of order n → s ≤ last_step → required_entry is n s ≡ required_entry mid n s
      kept n s after fits = ap figure (written.other n s (λ e. let same : place_of order n ≡ p = ap (place_of order) e ∙ net_place in omega arith) fits)

      -- so are the heads of a net that stands at the place or further on
      heads_kept : (n i s : ℕ) → p ≤ place_of order n → i < length b.arcs → tail_of b.arcs i ≡ n → s ≤ last_step → required_in_area nets mid (head_of b.arcs i) s ≡ required_in_area nets is (head_of b.arcs i) s
      heads_kept n i s from-here is-arc from fits =
          let head = head_of b.arcs i in
          let within = (joined i is-arc).1 in
          let after = head_after i n is-arc from in
          in_area nets mid head s within fits ∙ sym (kept head s (omega arith) fits) ∙ sym (in_area nets is head s within fits)

      here : (s : ℕ) → s ≤ last_step → required_entry is net s ≡ figure (get_or row s (pos 0))
      here s fits = ap figure (written.here s fits)

      new_row : (s : ℕ) → s ≤ last_step → First (AsHard o) (RequiredByArcs b m o (required_in_area nets is) net s) (required_entry is net s)
      new_row s fits =
          subst (First (AsHard o) (RequiredByArcs b m o (required_in_area nets is) net s)) (sym (here s fits))
          (first_required (required_entry mid) (required_in_area nets is) net s (λ i u is-arc from h. sym (in_area nets mid (head_of b.arcs i) u (joined i is-arc).1 h) ∙ heads_kept net i u (omega (arith, net_place)) is-arc from h) (figure (get_or row s (pos 0))) (required s fits))

      new_range : (s : ℕ) (r : ℤ) → s ≤ last_step → required_entry is net s ≡ Some r → WithinArcs (nets - suc p) r
      new_range s r fits e = go (first_is (AsHard o) (RequiredByArcs b m o (required_entry mid) net s) (figure (get_or row s (pos 0))) (required s fits) r (sym (here s fits) ∙ e))
        where
          go : RequiredByArcs b m o (required_entry mid) net s r → WithinArcs (nets - suc p) r
          go (inl (limit, el, er)) = limit_within (nets - suc p) limit r (limits net limit el) er
          go (inr (i, q, is-arc, from, eq, er)) =
              let kind = kind_of b.arcs i in
              let head = head_of b.arcs i in
              let after = head_done i is-arc from in
              let within = head_place i is-arc in
              let head-range = done.range head (m.output_step kind s) q (joined i is-arc).1 after (law.output_step.fits kind s) eq in
              more_arcs (suc (nets - suc (place_of order head))) (nets - suc p) r (omega arith) (one_arc_more (nets - suc (place_of order head)) (m.delay kind s) q r (law.delay.fits kind s) head-range er)

      -- a net from the place on is the one of the place, or stands further on
      this_or_later : (n : ℕ) → n < nets → p ≤ place_of order n → (net ≡ n) ⊎ (suc p ≤ place_of order n)
      this_or_later n within from-here = elim (ℕ_discrete (place_of order n) p) [
        | yes e ↦ inl (ap (λ (k : ℕ). get_or order k 0) (sym e) ∙ at_place order n (ordered.whole n within))
        | no ne ↦ inr (omega arith)
      ]

      required_more : RequiredFrom b m o order p was is
      required_more = record {
        rows = λ n s within from-here fits. elim (this_or_later n within from-here) [
          | inl e ↦ subst (λ (v : ℕ). First (AsHard o) (RequiredByArcs b m o (required_in_area nets is) v s) (required_entry is v s)) e (new_row s fits)
          | inr later ↦ subst (First (AsHard o) (RequiredByArcs b m o (required_in_area nets is) n s)) (sym (kept n s later fits))
              (first_required (required_in_area nets mid) (required_in_area nets is) n s (λ i u is-arc from h. heads_kept n i u from-here is-arc from h) (required_entry mid n s) (done.rows n s within later fits))
        ];
        range = λ n s r within from-here fits e. elim (this_or_later n within from-here) [
          | inl same ↦ subst (λ (k : ℕ). WithinArcs (nets - suc k) r) (sym net_place ∙ ap (place_of order) same) (new_range s r fits (ap (λ (v : ℕ). required_entry is v s) same ∙ e))
          | inr later ↦ done.range n s r within later fits (sym (kept n s later fits) ∙ e)
        ];
        past = λ i h. (let within = net_within in written.past i (omega arith)) ∙ done.past i h;
      }

  -- before the loop no net has its row
  pub required_none : (required : List ℤ) → RequiredFrom b m o order (length order) required required
  required_none required = record {
    rows = λ n s within from-here fits. absurd (placed n within from-here);
    range = λ n s r within from-here fits e. absurd (placed n within from-here);
    past = λ i h. refl;
  }
    where
      placed : (n : ℕ) → n < nets → ¬ (length order ≤ place_of order n)
      placed n within h = let lt = ordered.whole n within in omega arith

  -- a turn of the loop, at the place before p
  back_one : (p : ℕ) → 0 < p → suc (p - 1) ≡ p
  back_one p h = omega arith

  -- the rows of the heads are ready
  pub heads_ready : (p : ℕ) (was mid : List ℤ) → nets ≤ max_nets → 0 < p → p ≤ length order → step_count * nets ≤ length mid → RequiredFrom b m o order p was mid → HeadsReady b.arcs (get_or order (p - 1) 0) mid
  heads_ready p was mid few h le room done =
      heads_ready_at (p - 1) was mid (omega (arith, ordered.long)) (subst (λ (k : ℕ). RequiredFrom b m o order k was mid) (sym (back_one p h)) done) few room

  -- and the net gets its row
  pub required_turn : (p count : ℕ) (was mid row row' : List ℤ) → LateLimitsFit b.nets → EarlyLimitsFit b.nets → 0 < p → p ≤ length order → step_count * nets ≤ length mid → count ≡ step_count → length row ≡ step_count → row' ≡ row → RequiredRow b m o (required_entry mid) (get_or order (p - 1) 0) row → RequiredFrom b m o order p was mid → RequiredFrom b m o order (p - 1) was (put_mid (step_count * get_or order (p - 1) 0) count mid row')
  required_turn p count was mid row row' lates earlies h le room part long same required done =
      let n = get_or order (p - 1) 0 in
      let placed : p - 1 < nets = omega (arith, ordered.long) in
      let within : n < nets = ordered.numbers (p - 1) (omega arith) in
      subst (λ (v : List ℤ). RequiredFrom b m o order (p - 1) was (put_mid (step_count * n) count mid v)) (sym same)
      (required_more (p - 1) was mid placed (subst (λ (k : ℕ). RequiredFrom b m o order k was mid) (sym (back_one p h)) done) row (put_mid (step_count * n) count mid row) (limit_fits b o lates earlies) required (row_written n count row mid part (omega arith) long))

  -- after the loop every net has its row
  pub backward : (p : ℕ) (was is : List ℤ) → nets ≤ max_nets → p ≤ 0 → RequiredFrom b m o order p was is → Backward b m o was is
  backward p was is few h done = record { by_nets = by_nets; range = range; past = done.past }
    where
      by_nets : RequiredByNets b m o (required_in_area nets is)
      by_nets n s fits = elim (cases_lt n nets) [
        | inl within ↦ subst (First (AsHard o) (RequiredByArcs b m o (required_in_area nets is) n s)) (sym (in_area nets is n s within fits)) (done.rows n s within (omega arith) fits)
        | inr past ↦ subst (First (AsHard o) (RequiredByArcs b m o (required_in_area nets is) n s)) (sym (outside nets is n s past)) (λ r. elim [
          | inl at-limit ↦ no_limit b o n at-limit.0 past at-limit.1
          | inr over_arc ↦ let tail = (joined over_arc.0 over_arc.2).0 in let from = over_arc.3 in omega arith
        ])
      ]

      range : (n s : ℕ) (r : ℤ) → n < nets → s ≤ last_step → required_entry is n s ≡ Some r → RequiredFits r
      range n s r within fits e = more_arcs (nets - suc (place_of order n)) max_path r (omega arith) (done.range n s r within (omega arith) fits e)
