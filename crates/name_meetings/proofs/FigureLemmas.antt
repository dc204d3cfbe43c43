-- The figures of meetings and one more.
use Rattle.std.proofs.Common.{◌≡◌, ℕ, suc, ◌+◌, ℤ, ◌≤ℤ◌, Bool, true, false, cond, eqb, ◌&&◌, ◌||◌, List, [], ◌∷◌, ◌++◌, map, length, filter, count_by, int_lt, All, Contains, refl, sym, ap, ◌∙◌, subst, arith, append-nil}
use Rattle.std.proofs.lemmas.Bool.{ne_eqb}
use Rattle.std.proofs.lemmas.Int.{ints}
use Rattle.std.proofs.lemmas.List.{length_push, map-append}
use Rattle.std.proofs.lemmas.List.Elements.{All-cons, All-nil, All-push, All-weaker, Contains-append_left, Contains-push, filter-append}
use Rattle.std.proofs.lemmas.List.Sums.{length-filter}
use Rattle.evidence_rules.specs.Meetings.{AreMeetingFigures, IsGreatestOf, IsLeastOf, distance, first_trace, is_both, is_early, is_turned}
use Rattle.evidence_rules.specs.declared.between.Between.{Between}
use Rattle.evidence_rules.specs.declared.meeting.Meeting.{Meeting}
use Rattle.name_meetings.specs.inner.Adding.{first_of, greater_of, lesser_of, one_more, with_meeting}

-- one more is counted where the test holds
count_push : {X : Type 0} (test : X → Bool) (xs : List X) (x : X) → count_by test (xs ++ x ∷ []) ≡ one_more (test x) (count_by test xs)
count_push {X} test xs x =
    sym (length-filter test (xs ++ x ∷ [])) ∙ (ap length (filter-append test xs (x ∷ [])) ∙ (by (test x) (filter test xs) ∙ ap (one_more (test x)) (length-filter test xs)))
  where
    by : (b : Bool) (ys : List X) → length (ys ++ cond b (x ∷ []) []) ≡ one_more b (length ys)
    by true ys = length_push ys x
    by false ys = ap length (append-nil ys)

-- the first of some, and of some and one more
first_more : (xs : List Meeting) (n : ℕ) (m : Meeting) (b : Bool) → n ≡ length xs → first_trace (xs ++ cond b (m ∷ []) []) ≡ cond (eqb n 0 && b) m.trace (first_trace xs)
first_more [] n m true e = rw e refl
first_more [] n m false e = rw e refl
first_more (x ∷ xs) n m b e = sym (ap (λ (t : Bool). cond (t && b) m.trace x.trace) (ne_eqb n 0 (λ z. omega (arith, e, z))))

filter_push : (test : Meeting → Bool) (xs : List Meeting) (m : Meeting) → filter test (xs ++ m ∷ []) ≡ filter test xs ++ cond (test m) (m ∷ []) []
filter_push test xs m = filter-append test xs (m ∷ [])

first_push : (test : Meeting → Bool) (xs : List Meeting) (m : Meeting) (n first : ℕ) → n ≡ count_by test xs → first ≡ first_trace (filter test xs) → first_of n (test m) first m.trace ≡ first_trace (filter test (xs ++ m ∷ []))
first_push test xs m n first counted is =
    ap (λ (k : ℕ). cond (eqb n 0 && test m) m.trace k) is
    ∙ sym (first_more (filter test xs) n m (test m) (counted ∙ sym (length-filter test xs)))
    ∙ sym (ap first_trace (filter_push test xs m))

-- the least of numbers, and of one more
least_push : (xs : List ℤ) (y n : ℤ) (k : ℕ) → k ≡ length xs → IsLeastOf xs n → IsLeastOf (xs ++ y ∷ []) (lesser_of (eqb k 0) n y)
least_push [] y n k e is = rw e ((0, omega arith, refl), All-cons (λ (z : ℤ). y ≤ℤ z) y [] (omega (arith, ints)) (All-nil (λ (z : ℤ). y ≤ℤ z)))
least_push (x ∷ xs) y n k e is = subst (λ (t : Bool). IsLeastOf (x ∷ xs ++ y ∷ []) (cond (t || int_lt y n) y n)) (sym (ne_eqb k 0 (λ z. omega (arith, e, z)))) (by (int_lt y n) refl)
  where
    by : (b : Bool) → int_lt y n ≡ b → Contains (x ∷ xs ++ y ∷ []) (cond b y n) × All (λ (z : ℤ). cond b y n ≤ℤ z) (x ∷ xs ++ y ∷ [])
    by true l = (Contains-push (x ∷ xs) y, All-push (λ (z : ℤ). y ≤ℤ z) (x ∷ xs) y (All-weaker (λ (z : ℤ). n ≤ℤ z) (λ (z : ℤ). y ≤ℤ z) (λ z h. grind (arith, ints)) (x ∷ xs) is.1) (omega (arith, ints)))
    by false l = (Contains-append_left (x ∷ xs) (y ∷ []) n is.0, All-push (λ (z : ℤ). n ≤ℤ z) (x ∷ xs) y is.1 (grind (arith, ints)))

greatest_push : (xs : List ℤ) (y n : ℤ) (k : ℕ) → k ≡ length xs → IsGreatestOf xs n → IsGreatestOf (xs ++ y ∷ []) (greater_of (eqb k 0) n y)
greatest_push [] y n k e is = rw e ((0, omega arith, refl), All-cons (λ (z : ℤ). z ≤ℤ y) y [] (omega (arith, ints)) (All-nil (λ (z : ℤ). z ≤ℤ y)))
greatest_push (x ∷ xs) y n k e is = subst (λ (t : Bool). IsGreatestOf (x ∷ xs ++ y ∷ []) (cond (t || int_lt n y) y n)) (sym (ne_eqb k 0 (λ z. omega (arith, e, z)))) (by (int_lt n y) refl)
  where
    by : (b : Bool) → int_lt n y ≡ b → Contains (x ∷ xs ++ y ∷ []) (cond b y n) × All (λ (z : ℤ). z ≤ℤ cond b y n) (x ∷ xs ++ y ∷ [])
    by true l = (Contains-push (x ∷ xs) y, All-push (λ (z : ℤ). z ≤ℤ y) (x ∷ xs) y (All-weaker (λ (z : ℤ). z ≤ℤ n) (λ (z : ℤ). z ≤ℤ y) (λ z h. grind (arith, ints)) (x ∷ xs) is.1) (omega (arith, ints)))
    by false l = (Contains-append_left (x ∷ xs) (y ∷ []) n is.0, All-push (λ (z : ℤ). z ≤ℤ n) (x ∷ xs) y is.1 (grind (arith, ints)))

-- the figures of some meetings, and of one more
pub figures_push : (met : List Meeting) (f : Between) (m : Meeting) → AreMeetingFigures met f → AreMeetingFigures (met ++ m ∷ []) (with_meeting f m)
figures_push met f m are =
    let gaps = map-append (λ (x : Meeting). x.gap) met (m ∷ []) in
    let gap_count = length_of (λ (x : Meeting). x.gap) met in
    let distances = map-append distance met (m ∷ []) in
    let distance_count = length_of distance met in
    record {
      traces = ap (λ (n : ℕ). n + 1) are.traces ∙ sym (length_push met m);
      early = ap (one_more (is_early m)) are.early ∙ sym (count_push is_early met m);
      turned = ap (one_more (is_turned m)) are.turned ∙ sym (count_push is_turned met m);
      both = ap (one_more (is_both m)) are.both ∙ sym (count_push is_both met m);
      first_early = first_push is_early met m f.early f.first_early are.early are.first_early;
      first_both = first_push is_both met m f.both f.first_both are.both are.first_both;
      least = subst (λ (l : List ℤ). IsLeastOf l (lesser_of (eqb f.traces 0) f.least m.gap)) (sym gaps) (least_push (map (λ (x : Meeting). x.gap) met) m.gap f.least f.traces (are.traces ∙ sym gap_count) are.least);
      greatest = subst (λ (l : List ℤ). IsGreatestOf l (greater_of (eqb f.traces 0) f.greatest m.gap)) (sym gaps) (greatest_push (map (λ (x : Meeting). x.gap) met) m.gap f.greatest f.traces (are.traces ∙ sym gap_count) are.greatest);
      nearest = subst (λ (l : List ℤ). IsLeastOf l (lesser_of (eqb f.traces 0) f.nearest (distance m))) (sym distances) (least_push (map distance met) (distance m) f.nearest f.traces (are.traces ∙ sym distance_count) are.nearest);
    }
  where
    length_of : (h : Meeting → ℤ) (xs : List Meeting) → length (map h xs) ≡ length xs
    length_of h [] = refl
    length_of h (x ∷ xs) = ap (λ (n : ℕ). suc n) (length_of h xs)
