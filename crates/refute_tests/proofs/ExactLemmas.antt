-- The pairs that were cleared are the relations that the trace refutes.
use Rattle.std.proofs.Common.{◌≡◌, ◌≢◌, ℕ, ◌<◌, Bool, true, false, ◌&&◌, ◌||◌, ◌==◌, T, List, length, get_or, take, slice_get, Option, Some, None, unwrap_or, IsPermutation, refl, sym, ap, ◌∙◌, subst, ⊎_elim, inl, inr, [], ◌∷◌, arith}
use Rattle.std.proofs.lemmas.Bool.{cases_order, eqb-true, eq-eqb, or_cases, or_left, or_right, and_parts, and_from, false≢true}
use Rattle.std.proofs.lemmas.List.{get_or_default, get_or-take, length-take-le}
use Rattle.std.proofs.lemmas.List.Sorted.{Contains-permutation, IsPermutation-sym}
use Rattle.std.proofs.lemmas.List.Folds.{Any-from_list_any, list_any_at}
use Rattle.std.proofs.lemmas.Nat.Bits.{bit_at-zero}
use Rattle.std.proofs.lemmas.Option.{get_or_from_slice_get, slice_get_read}
use Rattle.std.specs.Int.{bit_at}
use Rattle.std.specs.Int.Signed.{lt_z_yes}
use Rattle.std.specs.List.{Contains, list_any}
use Rattle.std.specs.Option.{option_map}
use Rattle.hypothesis_index.specs.Places.{IsRelation, place_of}
use Rattle.hypothesis_index.specs.Refuting.{RefutesNames, IsPlaceOfSome}
use Rattle.hypothesis_index.specs.declared.bit_place.BitPlace.{BitPlace}
use Rattle.hypothesis_index.specs.declared.relation.Relation.TheVariants.{Before, Exclusive, Apart, Pipe, Unshared}
use Rattle.hypothesis_index.specs.declared.relation.Relation.{Relation}
use Rattle.trace_types.proofs.TruthLemmas.{is_true}
use Rattle.refute_tests.proofs.StepLemmas.{any_below-some, any_below-from}
use Rattle.refute_tests.specs.Clearing.{AddsExactly, ClearsExactly, starts_early, is_at}
use Rattle.refute_tests.specs.inner.Hits.{NamesRise, hits, row_hits, all_hits}
use Rattle.trace_types.specs.Parts.{by_number}
use Rattle.trace_types.specs.Refuting.{StartsEarly}
use Rattle.trace_types.specs.declared.named_segment.NamedSegment.{NamedSegment}
use Rattle.trace_types.specs.declared.named_trace.NamedTrace.{NamedTrace}
use Rattle.word_rows.specs.Rows.{clears}
use Rattle.word_rows.specs.declared.entries.Entry.{Entry}

pub early_means : (t : NamedTrace) (s u : NamedSegment) → starts_early t.grace u s ≡ true → StartsEarly by_number t u s
early_means t s u h = lt_z_yes (subst T (sym h) tt)

pub early_from : (t : NamedTrace) (s u : NamedSegment) → StartsEarly by_number t u s → starts_early t.grace u s ≡ true
early_from t s u h = is_true (starts_early t.grace u s) h.lt

pub at_means : (r : Relation) (i b : ℕ) → is_at r i b ≡ true → place_of r ≡ record { word = i; bit = b }
at_means r i b h = let p = and_parts ((place_of r).word == i) ((place_of r).bit == b) h in let w = eqb-true (place_of r).word i p.0 in let e = eqb-true (place_of r).bit b p.1 in λ k. record { word = w k; bit = e k }

pub at_from : (r : Relation) (i b : ℕ) (q : BitPlace) → q ≡ record { word = i; bit = b } → place_of r ≡ q → is_at r i b ≡ true
at_from r i b q e f = let g : place_of r ≡ record { word = i; bit = b } = f ∙ e in and_from _ _ (eq-eqb (place_of r).word i (ap (λ (p : BitPlace). p.word) g)) (eq-eqb (place_of r).bit b (ap (λ (p : BitPlace). p.bit) g))

-- ---- what the first segments of a list have

row_of : (grace : ℕ) (ys : List NamedSegment) (y i b : ℕ) → row_hits grace ys y i b ≡ true
    → (u : NamedSegment) × (slice_get ys y ≡ Some u) × (list_any (λ s. hits grace s u i b) (take y ys) ≡ true)
row_of grace ys y i b h = by (slice_get ys y) refl
  where
    by : (o : Option NamedSegment) → slice_get ys y ≡ o → (u : NamedSegment) × (slice_get ys y ≡ Some u) × (list_any (λ s. hits grace s u i b) (take y ys) ≡ true)
    by None e = absurd (false≢true (sym (ap (λ o. unwrap_or (option_map (λ (t : NamedSegment). list_any (λ s. hits grace s t i b) (take y ys)) o) false) e) ∙ h))
    by (Some u) e = (u, e, sym (ap (λ o. unwrap_or (option_map (λ (t : NamedSegment). list_any (λ s. hits grace s t i b) (take y ys)) o) false) e) ∙ h)

row_from : (grace : ℕ) (ys : List NamedSegment) (x y i b : ℕ) (s u : NamedSegment) → x < y → y < length ys → get_or ys x s ≡ s → get_or ys y u ≡ u → hits grace s u i b ≡ true → row_hits grace ys y i b ≡ true
row_from grace ys x y i b s u l h es eu hit =
    let long : length (take y ys) ≡ y = length-take-le y ys (omega arith) in
    let here : get_or (take y ys) x s ≡ s = get_or-take y ys x s l ∙ es in
    let any = list_any_at (λ v. hits grace v u i b) (take y ys) x s (omega arith) (subst (λ (v : NamedSegment). hits grace v u i b ≡ true) (sym here) hit) in
    ap (λ o. unwrap_or (option_map (λ (t : NamedSegment). list_any (λ s. hits grace s t i b) (take y ys)) o) false) (slice_get_read ys (length ys) y u refl h (sym eu)) ∙ any

module _ (ys : List NamedSegment) (rise : NamesRise ys) where
  less_at : (x y : ℕ) (s u : NamedSegment) → get_or ys x s ≡ s → get_or ys y u ≡ u → x < y → y < length ys → s.name < u.name
  less_at x y s u e f l h = let g : get_or ys y s ≡ u = get_or_default ys y s u h ∙ f in let r : (get_or ys x s).name < (get_or ys y s).name = rise x y s l h in
      let p = ap (λ (v : NamedSegment). v.name) e in let q = ap (λ (v : NamedSegment). v.name) g in omega arith

  same_at : (x y : ℕ) (s u : NamedSegment) → get_or ys x s ≡ s → get_or ys y u ≡ u → y < length ys → x ≡ y → s ≡ u
  same_at x y s u e f h w = sym e ∙ ap (λ (k : ℕ). get_or ys k s) w ∙ get_or_default ys y s u h ∙ f

  -- two segments of one name are one
  pub one_of_name : (s u : NamedSegment) → Contains ys s → Contains ys u → s.name ≡ u.name → s ≡ u
  one_of_name s u x y same = ⊎_elim
      (λ (e : x.0 ≡ y.0). same_at x.0 y.0 s u x.2 y.2 y.1 e)
      (⊎_elim
      (λ (e : x.0 < y.0). absurd (let f = less_at x.0 y.0 s u x.2 y.2 e y.1 in omega arith))
      (λ (e : y.0 < x.0). absurd (let f = less_at y.0 x.0 u s y.2 x.2 e x.1 in omega arith)))
      (cases_order x.0 y.0)

  -- what a pair refutes is cleared
  pub pair_cleared : (grace : ℕ) (s u : NamedSegment) → Contains ys s → Contains ys u → s.name < u.name → (i b : ℕ) → hits grace s u i b ≡ true → all_hits grace ys (length ys) i b ≡ true
  pair_cleared grace s u x y less i b p = ⊎_elim
      (λ (e : x.0 ≡ y.0). absurd (let f : s.name ≡ u.name = ap (λ (v : NamedSegment). v.name) (same_at x.0 y.0 s u x.2 y.2 y.1 e) in omega arith))
      (⊎_elim
      (λ (e : x.0 < y.0). any_below-from (length ys) (λ z. row_hits grace ys z i b) y.0 y.1 (row_from grace ys x.0 y.0 i b s u e y.1 x.2 y.2 p))
      (λ (e : y.0 < x.0). absurd (let f = less_at y.0 x.0 u s y.2 x.2 e x.1 in omega arith)))
      (cases_order x.0 y.0)

  -- what is cleared, a pair refutes
  pub cleared_pair : (grace i b : ℕ) → all_hits grace ys (length ys) i b ≡ true
      → (s u : NamedSegment) × Contains ys s × Contains ys u × (s.name < u.name) × (hits grace s u i b ≡ true)
  cleared_pair grace i b h =
      let y = any_below-some (length ys) (λ y. row_hits grace ys y i b) h in
      let u = row_of grace ys y.0 i b y.2 in
      let s = Any-from_list_any (λ s. hits grace s u.0 i b) (take y.0 ys) u.2 in
      let ly : y.0 < length ys = y.1 in
      let long : length (take y.0 ys) ≡ y.0 = length-take-le y.0 ys (omega arith) in
      let lx : s.0 < y.0 = let q = s.2 in omega arith in
      let es : get_or ys s.0 s.1 ≡ s.1 = sym (get_or-take y.0 ys s.0 s.1 lx) ∙ s.3 in
      let eu : get_or ys y.0 u.0 ≡ u.0 = get_or_from_slice_get ys y.0 u.0 u.0 u.1 in
      (s.1, u.0, (s.0, omega arith, es), (y.0, ly, eu), less_at s.0 y.0 s.1 u.0 es eu lx ly, s.4)

module _ (t : NamedTrace) (ys : List NamedSegment) (perm : IsPermutation t.segments ys) (rise : NamesRise ys) where
  -- ---- a pair that was cleared is refuted
  there : (s : NamedSegment) → Contains ys s → Contains t.segments s
  there s c = Contains-permutation ys t.segments s (IsPermutation-sym t.segments ys perm) c

  found : (s u : NamedSegment) (i b : ℕ) → Contains t.segments s → Contains t.segments u → s.name < u.name → hits t.grace s u i b ≡ true → IsPlaceOfSome (λ r. RefutesNames r t) i b
  found s u i b cs cu up hit =
      let top : u.name < 512 = u.name_below in
      ⊎_elim
      (λ (p : ((starts_early t.grace u s && is_at (Before s.name u.name) i b) || (starts_early t.grace s u && is_at (Before u.name s.name) i b)) || ((starts_early t.grace u s && starts_early t.grace s u) && is_at (Exclusive s.name u.name) i b) ≡ true).
      ⊎_elim
      (λ (q : (starts_early t.grace u s && is_at (Before s.name u.name) i b) || (starts_early t.grace s u && is_at (Before u.name s.name) i b) ≡ true).
      ⊎_elim
      (λ (o : (starts_early t.grace u s && is_at (Before s.name u.name) i b) ≡ true). let d = and_parts (starts_early t.grace u s) (is_at (Before s.name u.name) i b) o in
      let r : IsPlaceOfSome (λ r. RefutesNames r t) i b = (Before s.name u.name, ((λ e. omega arith), omega arith, top), at_means (Before s.name u.name) i b d.1, (s, u, cs, cu, refl, refl, early_means t s u d.0)) in r)
      (λ (o : (starts_early t.grace s u && is_at (Before u.name s.name) i b) ≡ true). let d = and_parts (starts_early t.grace s u) (is_at (Before u.name s.name) i b) o in
      let r : IsPlaceOfSome (λ r. RefutesNames r t) i b = (Before u.name s.name, ((λ e. omega arith), top, omega arith), at_means (Before u.name s.name) i b d.1, (u, s, cu, cs, refl, refl, early_means t u s d.0)) in r)
      (or_cases _ _ q))
      (λ (q : ((starts_early t.grace u s && starts_early t.grace s u) && is_at (Exclusive s.name u.name) i b) ≡ true). let d = and_parts (starts_early t.grace u s && starts_early t.grace s u) (is_at (Exclusive s.name u.name) i b) q in let f = and_parts (starts_early t.grace u s) (starts_early t.grace s u) d.0 in
      let r : IsPlaceOfSome (λ r. RefutesNames r t) i b = (Exclusive s.name u.name, (up, top), at_means (Exclusive s.name u.name) i b d.1, (s, u, cs, cu, refl, refl, (early_means t u s f.1, early_means t s u f.0))) in r)
      (or_cases _ _ p))
      (λ (p : is_at (Apart s.name u.name) i b ≡ true). let r : IsPlaceOfSome (λ r. RefutesNames r t) i b = (Apart s.name u.name, (up, top), at_means (Apart s.name u.name) i b p, (s, u, cs, cu, refl, refl, tt)) in r)
      (or_cases _ _ hit)

  only : (i b : ℕ) → all_hits t.grace ys (length ys) i b ≡ true → IsPlaceOfSome (λ r. RefutesNames r t) i b
  only i b h = let p = cleared_pair ys rise t.grace i b h in found p.0 p.1 i b (there p.0 p.2) (there p.1 p.3) p.4 p.5

  -- ---- a relation that is refuted was cleared
  stands : (s : NamedSegment) → Contains t.segments s → Contains ys s
  stands s c = Contains-permutation t.segments ys s perm c

  pair_hit : (s u : NamedSegment) → Contains t.segments s → Contains t.segments u → s.name < u.name → (i b : ℕ) → hits t.grace s u i b ≡ true → all_hits t.grace ys (length ys) i b ≡ true
  pair_hit s u cs cu less i b p = pair_cleared ys rise t.grace s u (stands s cs) (stands u cu) less i b p

  before_hit : (s u : NamedSegment) → Contains t.segments s → Contains t.segments u → s.name ≢ u.name → StartsEarly by_number t u s → (i b : ℕ) → is_at (Before s.name u.name) i b ≡ true → all_hits t.grace ys (length ys) i b ≡ true
  before_hit s u cs cu apart l i b p = let o = and_from (starts_early t.grace u s) (is_at (Before s.name u.name) i b) (early_from t s u l) p in ⊎_elim
      (λ (e : s.name ≡ u.name). absurd (apart e))
      (⊎_elim
      (λ (e : s.name < u.name). pair_hit s u cs cu e i b (or_left _ _ (or_left _ _ (or_left _ _ o))))
      (λ (e : u.name < s.name). pair_hit u s cu cs e i b (or_left _ _ (or_left _ _ (or_right _ _ o)))))
      (cases_order s.name u.name)

  each : (i b : ℕ) (r : Relation) → IsRelation r → place_of r ≡ record { word = i; bit = b } → RefutesNames r t → all_hits t.grace ys (length ys) i b ≡ true
  each i b (Before m n) v e f = let s = f.0 in let u = f.1 in let es : s.name ≡ m = f.4 in let eu : u.name ≡ n = f.5 in let apart = v.0 in
      before_hit s u f.2 f.3 (λ h. apart (sym es ∙ h ∙ eu)) f.6 i b (at_from (Before s.name u.name) i b (place_of (Before m n)) e (λ k. place_of (Before (es k) (eu k))))
  each i b (Exclusive m n) v e f = let s = f.0 in let u = f.1 in let es : s.name ≡ m = f.4 in let eu : u.name ≡ n = f.5 in let l : m < n = v.0 in let g = f.6 in
      pair_hit s u f.2 f.3 (omega arith) i b (or_left _ _ (or_right _ _ (and_from _ _ (and_from _ _ (early_from t s u g.1) (early_from t u s g.0)) (at_from (Exclusive s.name u.name) i b (place_of (Exclusive m n)) e (λ k. place_of (Exclusive (es k) (eu k)))))))
  each i b (Apart m n) v e f = let s = f.0 in let u = f.1 in let es : s.name ≡ m = f.4 in let eu : u.name ≡ n = f.5 in let l : m < n = v.0 in
      pair_hit s u f.2 f.3 (omega arith) i b (or_right _ _ (at_from (Apart s.name u.name) i b (place_of (Apart m n)) e (λ k. place_of (Apart (es k) (eu k)))))
  each i b (Pipe m n) v e f = absurd f
  each i b (Unshared m n) v e f = absurd f

  pub exact : (old new : List Entry) → ((i b : ℕ) → clears new i b ≡ (clears old i b || all_hits t.grace ys (length ys) i b)) → AddsExactly old (λ r. RefutesNames r t) new
  exact old new same = λ i b. (
    (λ h. ⊎_elim (λ (o : clears old i b ≡ true). inl o) (λ (o : all_hits t.grace ys (length ys) i b ≡ true). inr (only i b o)) (or_cases _ _ (sym (same i b) ∙ h))),
    (λ p. same i b ∙ ⊎_elim
        (λ (o : clears old i b ≡ true). or_left (clears old i b) (all_hits t.grace ys (length ys) i b) o)
        (λ (o : IsPlaceOfSome (λ r. RefutesNames r t) i b). or_right (clears old i b) (all_hits t.grace ys (length ys) i b) (each i b o.0 o.1 o.2 o.3))
        p),
  )

-- from a row that clears nothing
pub from_nothing : (row : List Entry) (P : Relation → Type 0) → AddsExactly (record { word = 0; mask = 0 } ∷ []) P row → ClearsExactly row P
from_nothing row P adds i b = (
  (λ h. ⊎_elim (λ (o : clears (record { word = 0; mask = 0 } ∷ []) i b ≡ true). absurd (blank_clears i b o)) (λ (o : IsPlaceOfSome P i b). o) ((adds i b).0 h)),
  (λ p. (adds i b).1 (inr p)),
)
  where
    blank_clears : (i b : ℕ) → clears (record { word = 0; mask = 0 } ∷ []) i b ≡ true → ⊥
    blank_clears i b h = false≢true (sym (nothing (0 == i) b) ∙ h)
      where
        nothing : (c : Bool) (b : ℕ) → ((c && (bit_at 0 b == 1)) || false) ≡ false
        nothing true b = rw (bit_at-zero b) refl
        nothing false b = refl
