-- Durations by the numbers of names, one segment after another.
use Rattle.std.proofs.Common.{◌≡◌, ◌≢◌, ℕ, ◌+◌, ◌<◌, Bool, true, false, cond, eqb, List, [], ◌∷◌, ◌++◌, map, length, get_or, set, arith, refl, sym, ap, ◌∙◌, subst, ⊎_elim}
use Rattle.std.specs.Prelude.{replicate, unsigned_abs, ◌-ℤ◌, filter}
use Rattle.std.specs.declared.vec.Vec.{Vec}
use Rattle.std.proofs.lemmas.Bool.{eqb-true, eq-eqb, eqb-false}
use Rattle.std.proofs.lemmas.List.{get_or-replicate, length-replicate, length-set, get_or-set_same, get_or-set_other, map-append, append-nil}
use Rattle.std.proofs.lemmas.List.Elements.{filter-append}
use Rattle.trace_types.specs.declared.named_segment.NamedSegment.{NamedSegment}
use Rattle.trace_types.specs.Parts.{by_number}
use Rattle.trace_rules.specs.Durations.{duration, durations_of}
use Rattle.trace_paths.specs.Tables.{IsTableOf}

-- the lists that a list of vectors shows
abbrev pub shown : {Z : Type 0} → List (Vec ℕ Z) → List (List ℕ)
shown {Z} lists = map (λ (v : Vec ℕ Z). v.items) lists

pub empty_table : (names : ℕ) → IsTableOf names [] (replicate names [])
empty_table names = record {
  count = length-replicate names [];
  lists = λ n lt. get_or-replicate names n [] [] lt;
}

durations-push : (n : ℕ) (before : List NamedSegment) (s : NamedSegment) → durations_of by_number eqb n (before ++ s ∷ []) ≡ durations_of by_number eqb n before ++ cond (eqb s.name n) (duration by_number s ∷ []) []
durations-push n before s = ap (map (duration by_number)) (filter-append (λ (x : NamedSegment). eqb x.name n) before (s ∷ [])) ∙ (map-append (duration by_number) (filter (λ (x : NamedSegment). eqb x.name n) before) (filter (λ (x : NamedSegment). eqb x.name n) (s ∷ [])) ∙ ap (λ l. durations_of by_number eqb n before ++ l) (one (eqb s.name n)))
  where
    one : (b : Bool) → map (duration by_number) (cond b (s ∷ []) []) ≡ cond b (duration by_number s ∷ []) []
    one true = refl
    one false = refl

-- the table after one more segment
pub table_push : (names : ℕ) (before : List NamedSegment) (s : NamedSegment) (table : List (List ℕ)) → s.name < names → IsTableOf names before table → IsTableOf names (before ++ s ∷ []) (set table s.name (get_or table s.name [] ++ duration by_number s ∷ []))
table_push names before s table small t = record {
  count = length-set table s.name (get_or table s.name [] ++ duration by_number s ∷ []) ∙ t.count;
  lists = λ n lt. at n lt (eqb s.name n) refl;
}
  where
    more : List ℕ
    more = get_or table s.name [] ++ duration by_number s ∷ []

    at : (n : ℕ) → n < names → (b : Bool) → eqb s.name n ≡ b → get_or (set table s.name more) n [] ≡ durations_of by_number eqb n (before ++ s ∷ [])
    at n lt true e =
        let same : s.name ≡ n = eqb-true s.name n e in
        subst (λ (m : ℕ). get_or (set table s.name more) m [] ≡ durations_of by_number eqb m (before ++ s ∷ [])) same
        (get_or-set_same table s.name more [] (let c = t.count in omega arith) ∙ (ap (λ l. l ++ duration by_number s ∷ []) (t.lists s.name small)
        ∙ sym (durations-push s.name before s ∙ ap (λ b. durations_of by_number eqb s.name before ++ cond b (duration by_number s ∷ []) []) (eq-eqb s.name s.name refl))))
    at n lt false e =
        get_or-set_other table s.name n more [] (λ same. eqb-false s.name n e (sym same)) ∙ (t.lists n lt
        ∙ sym (durations-push n before s ∙ (ap (λ b. durations_of by_number eqb n before ++ cond b (duration by_number s ∷ []) []) e ∙ append-nil (durations_of by_number eqb n before))))
