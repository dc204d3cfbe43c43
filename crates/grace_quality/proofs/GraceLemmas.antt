-- What survives under a grace.
use Rattle.std.proofs.Common.{◌≡◌, ◌≢◌, ◌↔◌, ℕ, zero, suc, ◌+◌, ◌*◌, ◌<◌, ℤ, pos, neg_ℤ, int_lt, Bool, true, false, cond, ◌&&◌, List, [], ◌∷◌, ◌++◌, length, map, get_or, flat_map, count_by, All, refl, sym, ap, ap₂, ◌∙◌, subst, arith}
use Rattle.std.proofs.lemmas.Int.{ints}
use Rattle.std.proofs.lemmas.List.{map-append}
use Rattle.std.proofs.lemmas.List.Elements.{All-cons, All-head, All-nil, All-tail}
use Rattle.std.proofs.lemmas.List.Sums.{sum_by-cons}
use Rattle.evidence_laws.specs.ModelLaws.{TellsSame}
use Rattle.evidence_laws.proofs.HasLemmas.{both_tells, early_tells}
use Rattle.evidence_laws.proofs.ModelLemmas.{none_refuted, refuted_none, some_together}
use Rattle.evidence_rules.specs.Meetings.{AreMeetingFigures, distance, is_both, is_early, meeting, meetings_from, meetings_in}
use Rattle.evidence_rules.specs.declared.between.Between.{Between}
use Rattle.evidence_rules.specs.declared.meeting.Meeting.{Meeting}
use Rattle.trace_types.specs.Parts.{Parts}
use Rattle.trace_types.specs.Refuting.{RefutesBefore, RefutesExclusive}
use Rattle.grace_quality.specs.GraceLaws.{ExclusionsSurviveUnder, OrdersSurviveUnder}
use Rattle.grace_quality.specs.Graces.{refutes_under, under_grace}
use Rattle.grace_quality.proofs.GapLemmas.{least_tells}

-- the meeting under a grace
abbrev regraded : ℕ → Meeting → Meeting
regraded grace m = record { trace = m.trace; grace = grace; gap = m.gap; back = m.back }

map_flat : {X Y Z : Type 0} (h : Y → Z) (f : X → List Y) (xs : List X) → map h (flat_map f xs) ≡ flat_map (λ (x : X). map h (f x)) xs
map_flat h f [] = refl
map_flat h f (x ∷ xs) = map-append h (f x) (flat_map f xs) ∙ ap (λ l. map h (f x) ++ l) (map_flat h f xs)

flat_same : {X Y : Type 0} (f g : X → List Y) → ((x : X) → f x ≡ g x) → (xs : List X) → flat_map f xs ≡ flat_map g xs
flat_same f g same [] = refl
flat_same f g same (x ∷ xs) = ap₂ (λ k l. k ++ l) (same x) (flat_same f g same xs)

count_map : {X Y : Type 0} (test : Y → Bool) (h : X → Y) (xs : List X) → count_by test (map h xs) ≡ count_by (λ (x : X). test (h x)) xs
count_map test h [] = refl
count_map {X} {Y} test h (x ∷ xs) =
    sum_by-cons (λ (y : Y). cond (test y) 1 0) (h x) (map h xs)
    ∙ ap (λ n. cond (test (h x)) 1 0 + n) (count_map test h xs)
    ∙ sym (sum_by-cons (λ (y : X). cond (test (h y)) 1 0) x xs)

count_same : {X : Type 0} (p q : X → Bool) → ((x : X) → p x ≡ q x) → (xs : List X) → count_by p xs ≡ count_by q xs
count_same p q same [] = refl
count_same {X} p q same (x ∷ xs) =
    sum_by-cons (λ (y : X). cond (p y) 1 0) x xs
    ∙ ap₂ (λ b n. cond b 1 0 + n) (same x) (count_same p q same xs)
    ∙ sym (sum_by-cons (λ (y : X). cond (q y) 1 0) x xs)

-- none passes exactly where none is counted
none_counted : {X : Type 0} (test : X → Bool) (xs : List X) → All (λ (x : X). test x ≡ false) xs → count_by test xs ≡ 0
none_counted test [] all = refl
none_counted {X} test (x ∷ xs) all =
    sum_by-cons (λ (y : X). cond (test y) 1 0) x xs
    ∙ ap₂ (λ b n. cond b 1 0 + n) (All-head (λ (y : X). test y ≡ false) x xs all) (none_counted test xs (All-tail (λ (y : X). test y ≡ false) x xs all))

counted_none : {X : Type 0} (test : X → Bool) (xs : List X) → count_by test xs ≡ 0 → All (λ (x : X). test x ≡ false) xs
counted_none {X} test [] none = All-nil (λ (x : X). test x ≡ false)
counted_none {X} test (x ∷ xs) none = by (counted_none test xs) (test x) refl
  where
    by : (count_by test xs ≡ 0 → All (λ (y : X). test y ≡ false) xs) → (b : Bool) → test x ≡ b → All (λ (y : X). test y ≡ false) (x ∷ xs)
    by rest true e = let one = sum_by-cons (λ (y : X). cond (test y) 1 0) x xs in let counts = ap (λ b. cond b 1 0 + count_by test xs) e in absurd (omega (arith, none, one, counts))
    by rest false e =
        let one = sum_by-cons (λ (y : X). cond (test y) 1 0) x xs in
        let counts = ap (λ b. cond b 1 0 + count_by test xs) e in
        All-cons (λ (y : X). test y ≡ false) x xs e (rest (omega (arith, none, one, counts)))

-- both gaps are below a number exactly where the greater one is
both_below : (x y n : ℤ) → (int_lt x n && int_lt y n) ≡ int_lt (cond (int_lt x y) y x) n
both_below x y n = by (int_lt x y) (int_lt x n) (int_lt y n) refl refl refl
  where
    by : (k l m : Bool) → int_lt x y ≡ k → int_lt x n ≡ l → int_lt y n ≡ m → (l && m) ≡ int_lt (cond k y x) n
    by true true true a b c = sym c
    by true true false a b c = sym c
    by true false true a b c = absurd (grind (arith, ints))
    by true false false a b c = sym c
    by false true true a b c = sym b
    by false true false a b c = absurd (grind (arith, ints))
    by false false true a b c = sym b
    by false false false a b c = sym b

module _ {A S N T E : Type 0} (p : Parts A S N T E) (same : N → N → Bool) (grace : ℕ) (a b : N) where
  abbrev q : Parts A S N T E
  q = under_grace grace p

  regraded_in : (index : ℕ) (trace : A) → meetings_in q same a b index trace ≡ map (regraded grace) (meetings_in p same a b index trace)
  regraded_in index trace =
      flat_same (λ (s : S). flat_map (λ (t : S). one q s t) (p.segments trace)) (λ (s : S). map (regraded grace) (flat_map (λ (t : S). one p s t) (p.segments trace)))
      (λ s. flat_same (λ (t : S). one q s t) (λ (t : S). map (regraded grace) (one p s t)) (λ t. by s t (same (p.name s) a && same (p.name t) b)) (p.segments trace)
      ∙ sym (map_flat (regraded grace) (λ (t : S). one p s t) (p.segments trace))) (p.segments trace)
      ∙ sym (map_flat (regraded grace) (λ (s : S). flat_map (λ (t : S). one p s t) (p.segments trace)) (p.segments trace))
    where
      one : Parts A S N T E → S → S → List Meeting
      one r s t = cond (same (p.name s) a && same (p.name t) b) (meeting r index trace s t ∷ []) []

      by : (s t : S) (c : Bool) → cond c (meeting q index trace s t ∷ []) [] ≡ map (regraded grace) (cond c (meeting p index trace s t ∷ []) [])
      by s t true = refl
      by s t false = refl

  regraded_from : (index : ℕ) (traces : List A) → meetings_from q same a b index traces ≡ map (regraded grace) (meetings_from p same a b index traces)
  regraded_from index [] = refl
  regraded_from index (t ∷ ts) =
      ap₂ (λ k l. k ++ l) (regraded_in index t) (regraded_from (index + 1) ts)
      ∙ sym (map-append (regraded grace) (meetings_in p same a b index t) (meetings_from p same a b (index + 1) ts))

  -- so many meetings pass the test
  counted_under : (test passes : Meeting → Bool) → ((m : Meeting) → test (regraded grace m) ≡ passes m) → (traces : List A) → count_by test (meetings_from q same a b 0 traces) ≡ count_by passes (meetings_from p same a b 0 traces)
  counted_under test passes is traces =
      ap (count_by test) (regraded_from 0 traces)
      ∙ count_map test (regraded grace) (meetings_from p same a b 0 traces)
      ∙ count_same (λ m. test (regraded grace m)) passes is (meetings_from p same a b 0 traces)

pub orders_survive : {A S N T E : Type 0} (p : Parts A S N T E) (same : N → N → Bool) → OrdersSurviveUnder p same
orders_survive p same tells traces a b f micros differ are some =
    let g : ℕ = 1000 * micros in
    let q = under_grace g p in
    let met : List Meeting = meetings_from p same a b 0 traces in
    let told = least_tells (λ (m : Meeting). m.gap) (neg_ℤ (pos g)) met f.least f.traces are.least are.traces some in
    let counts : count_by is_early (meetings_from q same a b 0 traces) ≡ count_by (λ (m : Meeting). refutes_under micros m.gap) met =
    counted_under p same g a b is_early (λ (m : Meeting). refutes_under micros m.gap) (λ m. refl) traces in (
      (λ h. told.0 (counted_none (λ (m : Meeting). refutes_under micros m.gap) met (sym counts ∙ refuted_none q same tells a b traces is_early (RefutesBefore q a b) (early_tells q same tells a b) h.survives))),
      (λ fails. record {
        differ = differ;
        together = some_together q same tells a b traces (subst (λ (l : List Meeting). 0 < length l) (sym (regraded_from p same g a b 0 traces)) (subst (λ (n : ℕ). 0 < n) (are.traces ∙ sym (length_map (regraded g) met)) some));
        survives = none_refuted q same tells a b traces is_early (RefutesBefore q a b) (early_tells q same tells a b) (counts ∙ none_counted (λ (m : Meeting). refutes_under micros m.gap) met (told.1 fails));
      }),
    )
  where
    length_map : {X Y : Type 0} (h : X → Y) (xs : List X) → length (map h xs) ≡ length xs
    length_map h [] = refl
    length_map h (x ∷ xs) = ap suc (length_map h xs)

pub exclusions_survive : {A S N T E : Type 0} (p : Parts A S N T E) (same : N → N → Bool) → ExclusionsSurviveUnder p same
exclusions_survive p same tells traces a b f micros are some =
    let g : ℕ = 1000 * micros in
    let q = under_grace g p in
    let met : List Meeting = meetings_from p same a b 0 traces in
    let told = least_tells distance (neg_ℤ (pos g)) met f.nearest f.traces are.nearest are.traces some in
    let counts : count_by is_both (meetings_from q same a b 0 traces) ≡ count_by (λ (m : Meeting). refutes_under micros (distance m)) met =
    counted_under p same g a b is_both (λ (m : Meeting). refutes_under micros (distance m)) (λ m. both_below m.gap m.back (neg_ℤ (pos g))) traces in (
      (λ h. told.0 (counted_none (λ (m : Meeting). refutes_under micros (distance m)) met (sym counts ∙ refuted_none q same tells a b traces is_both (RefutesExclusive q a b) (both_tells q same tells a b) h))),
      (λ fails. none_refuted q same tells a b traces is_both (RefutesExclusive q a b) (both_tells q same tells a b) (counts ∙ none_counted (λ (m : Meeting). refutes_under micros (distance m)) met (told.1 fails))),
    )
