-- The meetings of two names in a trace, turned round.
use Rattle.std.proofs.Common.{◌≡◌, ◌≢◌, ℕ, suc, ◌<◌, ◌≤◌, Bool, true, false, cond, eqb, ◌&&◌, List, [], ◌∷◌, ◌++◌, length, map, get_or, flat_map, filter, refl, sym, ap, ap₂, ◌∙◌, subst, arith}
use Rattle.std.proofs.lemmas.Bool.{eqb-true, ne_eqb}
use Rattle.evidence_rules.specs.Meetings.{meetings_in}
use Rattle.trace_types.specs.NamedSegments.{number_of_name}
use Rattle.trace_types.specs.Parts.{by_number}
use Rattle.trace_types.specs.SegmentLists.{NamesDiffer}
use Rattle.trace_types.specs.declared.named_segment.NamedSegment.{NamedSegment}
use Rattle.trace_types.specs.declared.named_trace.NamedTrace.{NamedTrace}
use Rattle.name_meetings.specs.inner.Noting.{meetings_among, turned_meeting}

single : {X Y : Type 0} (q : X → Bool) (m : X → Y) (ys : List X) → flat_map (λ (y : X). cond (q y) (m y ∷ []) []) ys ≡ map m (filter q ys)
single q m [] = refl
single {X} {Y} q m (y ∷ ys) = by (single q m ys) (q y)
  where
    by : flat_map (λ (z : X). cond (q z) (m z ∷ []) []) ys ≡ map m (filter q ys) → (b : Bool) → cond b (m y ∷ []) [] ++ flat_map (λ (z : X). cond (q z) (m z ∷ []) []) ys ≡ map m (cond b (y ∷ filter q ys) (filter q ys))
    by rest true = ap (λ (l : List Y). m y ∷ l) rest
    by rest false = rest

nothing : {X Y : Type 0} (none : X → List Y) → ((x : X) → none x ≡ []) → (ys : List X) → flat_map none ys ≡ []
nothing none is [] = refl
nothing none is (y ∷ ys) = ap₂ (λ k l. k ++ l) (is y) (nothing none is ys)

nested : {X Y : Type 0} (p q : X → Bool) (m : X → X → Y) (xs ys : List X) → flat_map (λ (x : X). flat_map (λ (y : X). cond (p x && q y) (m x y ∷ []) []) ys) xs ≡ flat_map (λ (x : X). map (m x) (filter q ys)) (filter p xs)
nested p q m [] ys = refl
nested {X} {Y} p q m (x ∷ xs) ys = by (nested p q m xs ys) (p x)
  where
    rest : List Y
    rest = flat_map (λ (z : X). flat_map (λ (y : X). cond (p z && q y) (m z y ∷ []) []) ys) xs

    by : rest ≡ flat_map (λ (z : X). map (m z) (filter q ys)) (filter p xs) → (b : Bool) → flat_map (λ (y : X). cond (b && q y) (m x y ∷ []) []) ys ++ rest ≡ flat_map (λ (z : X). map (m z) (filter q ys)) (cond b (x ∷ filter p xs) (filter p xs))
    by e true = ap₂ (λ (k l : List Y). k ++ l) (single q (m x) ys) e
    by e false = ap (λ (l : List Y). l ++ rest) (nothing (λ (y : X). []) (λ y. refl) ys) ∙ e

none_of : (n : ℕ) (ss : List NamedSegment) → ((j : ℕ) (d : NamedSegment) → j < length ss → (get_or ss j d).name ≢ n) → filter (λ (s : NamedSegment). eqb s.name n) ss ≡ []
none_of n [] other = refl
none_of n (s ∷ ss) other = subst (λ (b : Bool). cond b (s ∷ filter (λ (t : NamedSegment). eqb t.name n) ss) (filter (λ (t : NamedSegment). eqb t.name n) ss) ≡ []) (sym (ne_eqb s.name n (other 0 s (omega arith)))) (none_of n ss (λ j d h. other (suc j) d (omega (arith, h))))

-- a trace has at most one segment of a name
at_most_one : (n : ℕ) (ss : List NamedSegment) → NamesDiffer number_of_name ss → length (filter (λ (s : NamedSegment). eqb s.name n) ss) ≤ 1
at_most_one n [] differ = omega arith
at_most_one n (s ∷ ss) differ = by (at_most_one n ss (λ i j d l h. differ (suc i) (suc j) d (omega (arith, l)) (omega (arith, h)))) (eqb s.name n) refl
  where
    by : length (filter (λ (t : NamedSegment). eqb t.name n) ss) ≤ 1 → (b : Bool) → eqb s.name n ≡ b → length (cond b (s ∷ filter (λ (t : NamedSegment). eqb t.name n) ss) (filter (λ (t : NamedSegment). eqb t.name n) ss)) ≤ 1
    by few true e =
        let none = none_of n ss (λ j d h same. differ 0 (suc j) d (omega arith) (omega (arith, h)) (eqb-true s.name n e ∙ sym same)) in
        subst (λ (l : List NamedSegment). length (s ∷ l) ≤ 1) (sym none) (omega arith)
    by few false e = few

cross : {X Y : Type 0} (f : X → X → Y) (xs ys : List X) → length xs ≤ 1 → length ys ≤ 1 → flat_map (λ (x : X). map (λ (y : X). f x y) ys) xs ≡ flat_map (λ (y : X). map (λ (x : X). f x y) xs) ys
cross f [] [] l m = refl
cross f [] (y ∷ []) l m = refl
cross f [] (y ∷ z ∷ zs) l m = absurd (omega (arith, m))
cross f (x ∷ []) [] l m = refl
cross f (x ∷ []) (y ∷ []) l m = refl
cross f (x ∷ []) (y ∷ z ∷ zs) l m = absurd (omega (arith, m))
cross f (x ∷ w ∷ ws) ys l m = absurd (omega (arith, l))

-- the meetings of the second name and the first are those of the first and the second, turned round
pub turned_in : (index : ℕ) (trace : NamedTrace) (a b : ℕ) → NamesDiffer number_of_name trace.segments → meetings_among (turned_meeting index trace) trace.segments trace.segments a b ≡ meetings_in by_number (λ m n. eqb m n) b a index trace
turned_in index trace a b differ =
    let ss : List NamedSegment = trace.segments in
    let is = λ (n : ℕ) (s : NamedSegment). eqb s.name n in
    nested (is a) (is b) (turned_meeting index trace) ss ss
    ∙ cross (turned_meeting index trace) (filter (is a) ss) (filter (is b) ss) (at_most_one a ss differ) (at_most_one b ss differ)
    ∙ sym (nested (is b) (is a) (λ s t. turned_meeting index trace t s) ss ss)
