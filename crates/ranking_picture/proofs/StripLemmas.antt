-- The parts of the strip.
use Rattle.std.proofs.Common.{◌≡◌, ℕ, suc, ◌<◌, ◌≤◌, ◌+◌, ◌-◌, ◌*◌, List, [], ◌∷◌, ◌++◌, length, drop, get_or, Bool, true, false, Result, Ok, Err, OnOk, refl, sym, ap, ◌∙◌, arith, append_assoc}
use Rattle.std.specs.Prelude.{codes, nat_lt, sum_by}
use Rattle.std.proofs.Math.Nat.{mul-le-mul_left}
use Rattle.std.proofs.Math.Seq.{drop-cons}
use Rattle.std.proofs.lemmas.Bool.{ltb-true, ltb-false}
use Rattle.std.proofs.lemmas.List.{drop_all}
use Rattle.std.proofs.lemmas.List.Sums.{sum_by-cons}
use Rattle.picture_parts.specs.declared.span.Span.{Span}
use Rattle.picture_parts.specs.Bars.{bar_text}
use Rattle.picture_parts.specs.Places.{PartIsExact, PartIsOnScale, PartsKeepOrder, place_of, span_of}
use Rattle.ranking_picture.specs.declared.ranked_row.RankedRow.{RankedRow}
use Rattle.ranking_picture.specs.Strips.{StripIsDrawn, end_of, part_text, strip_from, strip_spans}

-- one part more
pub strip_next : (all critical at : ℕ) (rows : List RankedRow) (i : ℕ) (row : RankedRow) (b b1 whole : List ℕ) (end : ℕ) (span : Span) → i < length rows → row ≡ get_or rows i row → end ≡ end_of critical at row.critical → span ≡ span_of at end all
    → b1 ≡ b ++ part_text all span row → b ++ strip_from all critical at (drop i rows) ≡ whole → b1 ++ strip_from all critical end (drop (i + 1) rows) ≡ whole
strip_next all critical at rows i row b b1 whole end span lt is ends spans part told =
    let next : i + 1 ≡ suc i = omega arith in
    let here : drop i rows ≡ row ∷ drop (i + 1) rows = drop-cons rows i row lt ∙ ap (λ (r : RankedRow). r ∷ drop (suc i) rows) (sym is) ∙ ap (λ k. row ∷ drop k rows) (sym next) in
    let same : part_text all span row ≡ part_text all (span_of at (end_of critical at row.critical) all) row = ap (λ (s : Span). part_text all s row) (spans ∙ ap (λ k. span_of at k all) ends) in
    ap (λ t. t ++ strip_from all critical end (drop (i + 1) rows)) (part ∙ ap (λ t. b ++ t) same)
    ∙ append_assoc b (part_text all (span_of at (end_of critical at row.critical) all) row) (strip_from all critical end (drop (i + 1) rows))
    ∙ ap (λ k. b ++ (part_text all (span_of at (end_of critical at row.critical) all) row ++ strip_from all critical k (drop (i + 1) rows))) ends
    ∙ ap (λ (rs : List RankedRow). b ++ strip_from all critical at rs) (sym here) ∙ told

-- no part is left but the rest and what is between
pub strip_done : {T E : Type 0} (r : Result T E) (all critical at : ℕ) (rows : List RankedRow) (i : ℕ) (b b1 b2 whole : List ℕ) (rest between : Span) → length rows ≤ i → rest ≡ span_of at critical all → between ≡ span_of critical all all
    → b ++ strip_from all critical at (drop i rows) ≡ whole → b1 ≡ b ++ bar_text (codes "path2") rest 0 34 → OnOk r (b2 ≡ b1 ++ bar_text (codes "wait") between 0 34) → OnOk r (b2 ≡ whole)
strip_done (Err e) all critical at rows i b b1 b2 whole rest between le x y told p q = tt
strip_done (Ok v) all critical at rows i b b1 b2 whole rest between le x y told p q =
    q ∙ ap (λ t. t ++ bar_text (codes "wait") between 0 34) p ∙ append_assoc b (bar_text (codes "path2") rest 0 34) (bar_text (codes "wait") between 0 34)
    ∙ ap (λ (s : Span). b ++ (bar_text (codes "path2") s 0 34 ++ bar_text (codes "wait") between 0 34)) x
    ∙ ap (λ (s : Span). b ++ (bar_text (codes "path2") (span_of at critical all) 0 34 ++ bar_text (codes "wait") s 0 34)) y
    ∙ ap (λ (rs : List RankedRow). b ++ strip_from all critical at rs) (sym (drop_all i rows le)) ∙ told

-- what is drawn has the spans of the list
pub strip_drawn : StripIsDrawn
strip_drawn all critical at [] = refl
strip_drawn all critical at (row ∷ rows) =
    ap (λ t. part_text all (span_of at (end_of critical at row.critical) all) row ++ t) (strip_drawn all critical (end_of critical at row.critical) rows)

-- ---- the parts add up

-- nothing lies at the beginning, and the end at the end
at_start : (part full : ℕ) → 0 < full → part * full ≤ 0 * 100000 → part ≡ 0
at_start part full some h =
    let one : 1 ≤ full = omega (arith, some) in
    let a : part * 1 ≤ part * full = mul-le-mul_left part one in
    omega (arith, a, h)

at_end : (part full : ℕ) → part ≤ 100000 → full * 100000 < part * full + full → part ≡ 100000
at_end part full on h = by (nat_lt part 100000) refl
  where
    by : (b : Bool) → nat_lt part 100000 ≡ b → part ≡ 100000
    by false e = omega (arith, ltb-false part 100000 e, on)
    by true e =
        let lt : part + 1 ≤ 100000 = omega (arith, ltb-true part 100000 e) in
        let a : full * (part + 1) ≤ full * 100000 = mul-le-mul_left full lt in
        absurd (omega (arith, a, h))

module _ (on_scale : PartIsOnScale) (order : PartsKeepOrder) (exact : PartIsExact) (all critical : ℕ) (le : critical ≤ all) (some : 0 < all) where
  adds_up : (times : List ℕ) (at : ℕ) → at ≤ critical → place_of at all + sum_by (λ (s : Span). s.width) (strip_spans all critical at times) ≡ place_of all all
  adds_up [] at h =
      let p : place_of at all ≤ place_of critical all = order 100000 at critical all h in
      let q : place_of critical all ≤ place_of all all = order 100000 critical all all le in
      let s = sum_by-cons (λ (s : Span). s.width) (span_of at critical all) (span_of critical all all ∷ []) in
      let t = sum_by-cons (λ (s : Span). s.width) (span_of critical all all) [] in
      widths (place_of at all) (place_of critical all) (place_of all all) _ _ p q s t
    where
      widths : (a c f w v : ℕ) → a ≤ c → c ≤ f → w ≡ (c - a) + v → v ≡ (f - c) + 0 → a + w ≡ f
      widths a c f w v p q s t = omega arith
  adds_up (time ∷ times) at h =
      let within : end_of critical at time ≤ critical = omega arith in
      let after : at ≤ end_of critical at time = omega (arith, h) in
      let p : place_of at all ≤ place_of (end_of critical at time) all = order 100000 at (end_of critical at time) all after in
      let s = sum_by-cons (λ (s : Span). s.width) (span_of at (end_of critical at time) all) (strip_spans all critical (end_of critical at time) times) in
      widths (place_of at all) (place_of (end_of critical at time) all) (place_of all all) _ _ p s (adds_up times (end_of critical at time) within)
    where
      widths : (a c f w v : ℕ) → a ≤ c → w ≡ (c - a) + v → c + v ≡ f → a + w ≡ f
      widths a c f w v p s t = omega arith

  pub strip_sum : (times : List ℕ) → sum_by (λ (s : Span). s.width) (strip_spans all critical 0 times) ≡ 100000
  strip_sum times =
      let start : place_of 0 all ≡ 0 = at_start (place_of 0 all) all some (exact 100000 0 all (omega arith) some).0 in
      let end : place_of all all ≡ 100000 = at_end (place_of all all) all (on_scale 100000 all all) (exact 100000 all all (omega arith) some).1 in
      omega (arith, adds_up times 0 (omega arith), start, end)
