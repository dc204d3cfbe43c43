-- Names that one trace alone has.
use Rattle.std.proofs.Common.{◌≡◌, ◌≢◌, inl, inr, ℕ, zero, suc, ◌+◌, ◌||◌, List, [], ◌∷◌, Bool, true, false, All, cond, eqb, filter, map, ap, refl, sym, subst, ◌∙◌, arith}
use Rattle.std.specs.Prelude.{count_by}
use Rattle.std.specs.List.{AllPairs, AllZip, list_any}
use Rattle.std.proofs.lemmas.List.Concat.{flat_map-cons}
use Rattle.std.proofs.lemmas.List.Elements.{All-cons, All-head, All-map, All-tail, All-weaker}
use Rattle.std.proofs.lemmas.List.Kept.{AllPairs-cons}
use Rattle.std.proofs.lemmas.List.Sums.{sum_by-append, sum_by-cons}
use Rattle.std.proofs.lemmas.Map.Views.{Contains-from_any}
use Rattle.alike_groups.proofs.LawLemmas.{counts_stand, firsts_stand}
use Rattle.alike_groups.specs.Groups.{groups_of}
use Rattle.alike_groups.specs.declared.group.Group.{Group}
use Rattle.event_table.specs.Texts.{AreDifferent}
use Rattle.segment_names.proofs.TextLemmas.{name_means, name_own}
use Rattle.segment_names.specs.Known.{same_name}
use Rattle.trace_types.proofs.ListingLemmas.{head_before, pairs_tail}
use Rattle.trace_types.proofs.PairLemmas.{AllPairs-nil}
use Rattle.trace_types.specs.Batch.{PlainTrace}
use Rattle.trace_types.specs.Segments.{SegmentName, name_of}
use Rattle.name_quality.specs.Names.{HasNames, all_names, count_traces, first_of, names_alone}

-- ---- a trace has a name once

differ_map : {X Y : Type 0} (f : X → Y) (xs : List X) → AllPairs (λ a b. f a ≢ f b) xs → AllPairs (λ a b. a ≢ b) (map f xs)
differ_map f [] p = AllPairs-nil (λ a b. a ≢ b)
differ_map f (x ∷ xs) p =
    AllPairs-cons (λ a b. a ≢ b) (f x) (map f xs) (All-map (λ y. f x ≢ y) f xs (λ k d lt. p zero (suc k) d (omega arith) (omega (arith, lt))))
    (differ_map f xs (pairs_tail (λ a b. f a ≢ f b) x xs p))

pub names_differ : (t : PlainTrace) (names : List SegmentName) → HasNames t names → AreDifferent names
names_differ t names (inl (trace, is, e)) = subst AreDifferent (sym e) (differ_map name_of trace.segments trace.names_differ)
names_differ t names (inr (fault, is, e)) = subst AreDifferent (sym e) (AllPairs-nil (λ a b. a ≢ b))

pub all_differ : (traces : List PlainTrace) (named : List (List SegmentName)) → AllZip HasNames traces named → All AreDifferent named
all_differ [] [] h = λ k d lt. absurd (omega (arith, lt))
all_differ [] (names ∷ named) h = absurd h
all_differ (t ∷ ts) [] h = absurd h
all_differ (t ∷ ts) (names ∷ named) h = All-cons AreDifferent names named (names_differ t names h.0) (all_differ ts named h.1)

-- ---- so many segments, so many traces

module _ (n : SegmentName) where
  none_later : (x : SegmentName) (xs : List SegmentName) → same_name n x ≡ true → AreDifferent (x ∷ xs) → list_any (same_name n) xs ≡ false
  none_later x xs e d = by (list_any (same_name n) xs) refl
    where
      by : (b : Bool) → list_any (same_name n) xs ≡ b → list_any (same_name n) xs ≡ false
      by true h = absurd (head_before (λ a b. a ≢ b) x xs n d (Contains-from_any name_means n xs h) (sym (name_means n x e)))
      by false h = h

  once : (xs : List SegmentName) → AreDifferent xs → count_by (same_name n) xs ≡ cond (list_any (same_name n) xs) 1 0
  once [] d = refl
  once (x ∷ xs) d = by (same_name n x) refl (sum_by-cons (λ z. cond (same_name n z) 1 0) x xs) (once xs (pairs_tail (λ a b. a ≢ b) x xs d))
    where
      by : (b : Bool) → same_name n x ≡ b → count_by (same_name n) (x ∷ xs) ≡ cond (same_name n x) 1 0 + count_by (same_name n) xs
          → count_by (same_name n) xs ≡ cond (list_any (same_name n) xs) 1 0 → count_by (same_name n) (x ∷ xs) ≡ cond (list_any (same_name n) (x ∷ xs)) 1 0
      by true e s rest =
          let one : ◌≡◌ {A = ℕ} (cond (same_name n x) 1 0) 1 = ap (λ b. cond b 1 0) e in
          let none : count_by (same_name n) xs ≡ 0 = rest ∙ ap (λ b. cond b 1 0) (none_later x xs e d) in
          let all : count_by (same_name n) (x ∷ xs) ≡ 1 = omega (arith, s, one, none) in
          all ∙ sym (ap (λ b. cond (b || list_any (same_name n) xs) 1 0) e)
      by false e s rest =
          let no : ◌≡◌ {A = ℕ} (cond (same_name n x) 1 0) 0 = ap (λ b. cond b 1 0) e in
          let all : count_by (same_name n) (x ∷ xs) ≡ count_by (same_name n) xs = omega (arith, s, no) in
          all ∙ rest ∙ sym (ap (λ b. cond (b || list_any (same_name n) xs) 1 0) e)

  pub counted : (named : List (List SegmentName)) → All AreDifferent named → count_by (same_name n) (all_names named) ≡ count_traces named n
  counted [] d = refl
  counted (names ∷ named) d =
      let whole : List SegmentName → List SegmentName = λ l. l in
      let has : SegmentName → ℕ = λ z. cond (same_name n z) 1 0 in
      ap (count_by (same_name n)) (flat_map-cons whole names named)
      ∙ sum_by-append has names (all_names named)
      ∙ ap (λ k. k + count_by (same_name n) (all_names named)) (once names (All-head AreDifferent names named d))
      ∙ ap (λ k. cond (list_any (same_name n) names) 1 0 + k) (counted named (All-tail AreDifferent names named d))
      ∙ sym (sum_by-cons (λ ns. cond (list_any (same_name n) ns) 1 0) names named)

-- ---- the groups of one

-- elements that pass, and what they stand for
filter_back : {X Y : Type 0} (h : X → Y) (q : X → Bool) (r : Y → Bool) (xs : List X) → All (λ x. q x ≡ r (h x)) xs → map h (filter q xs) ≡ filter r (map h xs)
filter_back h q r [] all = refl
filter_back {X} {Y} h q r (x ∷ xs) all = by (q x) refl (filter_back h q r xs (All-tail (λ x. q x ≡ r (h x)) x xs all))
  where
    by : (b : Bool) → q x ≡ b → map h (filter q xs) ≡ filter r (map h xs) → map h (filter q (x ∷ xs)) ≡ filter r (map h (x ∷ xs))
    by true e rest = let f : r (h x) ≡ true = sym (All-head (λ x. q x ≡ r (h x)) x xs all) ∙ e in rw (e, f) (ap (λ (l : List Y). h x ∷ l) rest)
    by false e rest = let f : r (h x) ≡ false = sym (All-head (λ x. q x ≡ r (h x)) x xs all) ∙ e in rw (e, f) rest

pub alone : (traces : List PlainTrace) (named : List (List SegmentName)) (groups single : List Group) → AllZip HasNames traces named → groups ≡ groups_of same_name (all_names named) → single ≡ filter (λ (g : Group). eqb g.count 1) groups
    → map (first_of (all_names named)) single ≡ names_alone named
alone traces named groups single each are is =
    let names : List SegmentName = all_names named in
    let one : Group → Bool = λ g. eqb g.count 1 in
    let few : SegmentName → Bool = λ n. eqb (count_traces named n) 1 in
    let stand : All (λ (g : Group). g.count ≡ count_by (same_name (first_of names g)) names) (groups_of same_name names) = counts_stand same_name name_means name_own names ([], [], []) in
    let agree : All (λ g. one g ≡ few (first_of names g)) (groups_of same_name names) =
    All-weaker (λ (g : Group). g.count ≡ count_by (same_name (first_of names g)) names) (λ g. one g ≡ few (first_of names g))
    (λ g e. ap (λ k. eqb k 1) (e ∙ counted (first_of names g) named (all_differ traces named each))) (groups_of same_name names) stand in
    ap (map (first_of names)) (is ∙ ap (filter one) are)
    ∙ filter_back (first_of names) one few (groups_of same_name names) agree
    ∙ ap (filter few) (firsts_stand same_name name_means name_own names ([], [], []))
