-- Where numbers stand first in a list that grows.
use Rattle.std.proofs.Common.{◌≡◌, ◌≢◌, ◌⊎◌, inl, inr, ℕ, zero, suc, ◌+◌, ◌<◌, List, [], ◌∷◌, ◌++◌, Bool, true, false, cond, eqb, ltb, Option, Some, None, length, get_or, set, take, replicate, refl, sym, ap, ◌∙◌, arith, eq-eqb}
use Rattle.std.specs.Prelude.{position, IfSome}
use Rattle.std.specs.List.{position_or_len}
use Rattle.std.specs.Option.{option_and_then}
use Rattle.std.proofs.lemmas.Bool.{cases_eq, le-ltb, lt-ltb, ne_eqb}
use Rattle.std.proofs.lemmas.List.{get_or-set_other, get_or-set_same, length-append, length-replicate, length-set, length-take-le, map-id, set-get_or, take_more}
use Rattle.std.proofs.lemmas.List.Folds.{position_or_len_push}
use Rattle.call_trees.specs.Tables.{table_of}
use Rattle.call_trees.proofs.TableLemmas.{table_more}
use Rattle.span_requests.specs.CallerNumbers.{AreCallers}
use Rattle.span_requests.proofs.ListLemmas.{place_within}
use Rattle.span_calls.specs.Calls.{position_at}
use Rattle.span_calls.specs.inner.Places.{ArePlaces, place_with, with_place}

module _ {X : Type 0} (p : X → Bool) (ys : List X) (x : X) where
  len : length (ys ++ x ∷ []) ≡ length ys + 1
  len = length-append ys (x ∷ [])

  pub place_kept : position_or_len p ys < length ys → position p (ys ++ x ∷ []) ≡ position p ys
  place_kept lt =
      let ne : eqb (position_or_len p ys) (length ys) ≡ false = ne_eqb (position_or_len p ys) (length ys) (λ e. omega (arith, e, lt)) in
      let here : position_or_len p (ys ++ x ∷ []) ≡ position_or_len p ys = position_or_len_push p ys x ∙ ap (λ b. cond b (length ys + cond (p x) 0 1) (position_or_len p ys)) ne in
      let one : ltb (position_or_len p ys) (length (ys ++ x ∷ [])) ≡ true = lt-ltb (position_or_len p ys) (length (ys ++ x ∷ [])) (omega (arith, lt, len)) in
      let two : ltb (position_or_len p ys) (length ys) ≡ true = lt-ltb (position_or_len p ys) (length ys) lt in
      ap (λ n. cond (ltb n (length (ys ++ x ∷ []))) (Some n) None) here ∙ ap (λ b. cond b (Some (position_or_len p ys)) None) (one ∙ sym two)

  full : position_or_len p ys ≡ length ys → position_or_len p (ys ++ x ∷ []) ≡ length ys + cond (p x) 0 1
  full e = position_or_len_push p ys x ∙ ap (λ b. cond b (length ys + cond (p x) 0 1) (position_or_len p ys)) (eq-eqb (position_or_len p ys) (length ys) e)

  pub place_first : position_or_len p ys ≡ length ys → p x ≡ true → position p (ys ++ x ∷ []) ≡ Some (length ys)
  place_first e passes =
      let here : position_or_len p (ys ++ x ∷ []) ≡ length ys = full e ∙ ap (λ b. length ys + cond b 0 1) passes ∙ (let z : length ys + 0 ≡ length ys = omega arith in z) in
      let one : ltb (length ys) (length (ys ++ x ∷ [])) ≡ true = lt-ltb (length ys) (length (ys ++ x ∷ [])) (omega (arith, len)) in
      ap (λ n. cond (ltb n (length (ys ++ x ∷ []))) (Some n) None) here ∙ ap (λ b. cond b (Some (length ys)) None) one

  pub place_none : position_or_len p ys ≡ length ys → p x ≡ false → position p (ys ++ x ∷ []) ≡ None
  place_none e fails =
      let here : position_or_len p (ys ++ x ∷ []) ≡ length ys + 1 = full e ∙ ap (λ b. length ys + cond b 0 1) fails in
      let one : ltb (length ys + 1) (length (ys ++ x ∷ [])) ≡ false = le-ltb (length ys + 1) (length (ys ++ x ∷ [])) (omega (arith, len)) in
      ap (λ n. cond (ltb n (length (ys ++ x ∷ []))) (Some n) None) here ∙ ap (λ b. cond b (Some (length ys + 1)) None) one

  pub missing_before : position_or_len p ys ≡ length ys → position p ys ≡ None
  missing_before e =
      let one : ltb (position_or_len p ys) (length ys) ≡ false = le-ltb (position_or_len p ys) (length ys) (omega (arith, e)) in
      ap (λ b. cond b (Some (position_or_len p ys)) None) one

  pub found_before : position_or_len p ys < length ys → position p ys ≡ Some (position_or_len p ys)
  found_before lt =
      let one : ltb (position_or_len p ys) (length ys) ≡ true = lt-ltb (position_or_len p ys) (length ys) lt in
      ap (λ b. cond b (Some (position_or_len p ys)) None) one

-- where a list ends, or before it
split_place : {X : Type 0} (p : X → Bool) (ys : List X) → (position_or_len p ys < length ys) ⊎ (position_or_len p ys ≡ length ys)
split_place p ys = by (cases_eq (position_or_len p ys) (length ys))
  where
    by : (position_or_len p ys ≡ length ys) ⊎ (position_or_len p ys ≢ length ys) → (position_or_len p ys < length ys) ⊎ (position_or_len p ys ≡ length ys)
    by (inl e) = inr e
    by (inr ne) = inl (below (ltb (position_or_len p ys) (length ys)) refl)
      where
        below : (b : Bool) → ltb (position_or_len p ys) (length ys) ≡ b → position_or_len p ys < length ys
        below b e = omega (arith, place_within p ys, ne)

module _ (numbers : List ℕ) (places : List (Option ℕ)) (i n : ℕ) (lt : i < length numbers) (is : n ≡ get_or numbers i 0) (low : n < length places) (h : ArePlaces (take i numbers) places) where
  size : length (take i numbers) ≡ i
  size = length-take-le i numbers (omega (arith, lt))

  next : take (i + 1) numbers ≡ take i numbers ++ n ∷ []
  next = take_more numbers i 0 lt ∙ ap (λ m. take i numbers ++ m ∷ []) (sym is)

  pub places_more : (new : List (Option ℕ)) → new ≡ with_place places n i → (length new ≡ length places) × ArePlaces (take (i + 1) numbers) new
  places_more new step = by (split_place (λ m. eqb m n) (take i numbers))
    where
      own : eqb n n ≡ true
      own = eq-eqb n n refl

      other : (k : ℕ) → k ≢ n → position (λ m. eqb m k) (take (i + 1) numbers) ≡ position (λ m. eqb m k) (take i numbers)
      other k ne = ap (position (λ m. eqb m k)) next ∙ also (split_place (λ m. eqb m k) (take i numbers))
        where
          apart : eqb n k ≡ false
          apart = ne_eqb n k (λ e. ne (sym e))

          also : (position_or_len (λ m. eqb m k) (take i numbers) < length (take i numbers)) ⊎ (position_or_len (λ m. eqb m k) (take i numbers) ≡ length (take i numbers)) → position (λ m. eqb m k) (take i numbers ++ n ∷ []) ≡ position (λ m. eqb m k) (take i numbers)
          also (inl found) = place_kept (λ m. eqb m k) (take i numbers) n found
          also (inr missing) = place_none (λ m. eqb m k) (take i numbers) n missing apart ∙ sym (missing_before (λ m. eqb m k) (take i numbers) n missing)

      by : (position_or_len (λ m. eqb m n) (take i numbers) < length (take i numbers)) ⊎ (position_or_len (λ m. eqb m n) (take i numbers) ≡ length (take i numbers)) → (length new ≡ length places) × ArePlaces (take (i + 1) numbers) new
      by (inl found) = (ap length same, λ k less. at k less (cases_eq k n))
        where
          same : new ≡ places
          same =
              step ∙ ap (λ (o : Option ℕ). set places n (place_with o i)) (h n low ∙ found_before (λ m. eqb m n) (take i numbers) n found)
              ∙ ap (λ (o : Option ℕ). set places n o) (sym (h n low ∙ found_before (λ m. eqb m n) (take i numbers) n found)) ∙ set-get_or places n None

          at : (k : ℕ) → k < length new → (k ≡ n) ⊎ (k ≢ n) → get_or new k None ≡ position (λ m. eqb m k) (take (i + 1) numbers)
          at k less (inl e) =
              ap (λ (ps : List (Option ℕ)). get_or ps k None) same ∙ ap (λ m. get_or places m None) e ∙ h n low
              ∙ sym (place_kept (λ m. eqb m n) (take i numbers) n found) ∙ ap (position (λ m. eqb m n)) (sym next) ∙ ap (λ j. position (λ m. eqb m j) (take (i + 1) numbers)) (sym e)
          at k less (inr ne) =
              ap (λ (ps : List (Option ℕ)). get_or ps k None) same ∙ h k (omega (arith, less, ap length same)) ∙ sym (other k ne)
      by (inr missing) = (ap length changed ∙ length-set places n (Some i), λ k less. at k less (cases_eq k n))
        where
          changed : new ≡ set places n (Some i)
          changed = step ∙ ap (λ (o : Option ℕ). set places n (place_with o i)) (h n low ∙ missing_before (λ m. eqb m n) (take i numbers) n missing)

          at : (k : ℕ) → k < length new → (k ≡ n) ⊎ (k ≢ n) → get_or new k None ≡ position (λ m. eqb m k) (take (i + 1) numbers)
          at k less (inl e) =
              ap (λ (ps : List (Option ℕ)). get_or ps k None) changed ∙ ap (λ m. get_or (set places n (Some i)) m None) e ∙ get_or-set_same places n (Some i) None low
              ∙ ap (λ m. Some m) (sym size) ∙ sym (place_first (λ m. eqb m n) (take i numbers) n missing own) ∙ ap (position (λ m. eqb m n)) (sym next)
              ∙ ap (λ j. position (λ m. eqb m j) (take (i + 1) numbers)) (sym e)
          at k less (inr ne) =
              ap (λ (ps : List (Option ℕ)). get_or ps k None) changed ∙ get_or-set_other places n k (Some i) None ne
              ∙ h k (omega (arith, less, ap length changed, length-set places n (Some i))) ∙ sym (other k ne)

pub no_places : (places : List (Option ℕ)) (count : ℕ) → places ≡ replicate count None → (length places ≡ count) × ArePlaces [] places
no_places places count h = (ap length h ∙ length-replicate count None, λ k lt. ap (λ (ps : List (Option ℕ)). get_or ps k None) h ∙ nones count k)
  where
    nones : (n k : ℕ) → get_or {A = Option ℕ} (replicate n None) k None ≡ None
    nones zero k = refl
    nones (suc n) zero = refl
    nones (suc n) (suc k) = nones n k

-- the place of the caller of a number
pub place_at : (numbers : List ℕ) (callers places : List (Option ℕ)) (i n : ℕ) (r : Option ℕ) → n ≡ get_or numbers i 0 → AreCallers callers → length places ≡ length callers → ArePlaces (take i numbers) places → r ≡ option_and_then (λ c. get_or places c None) (get_or callers n None) → r ≡ position_at callers numbers i
place_at numbers callers places i n r is are size h own = own ∙ by (get_or callers n None) refl ∙ ap (λ m. option_and_then (λ c. position (λ k. eqb k c) (take i numbers)) (get_or callers m None)) is
  where
    by : (o : Option ℕ) → get_or callers n None ≡ o → option_and_then (λ c. get_or places c None) o ≡ option_and_then (λ c. position (λ k. eqb k c) (take i numbers)) o
    by None e = refl
    by (Some c) e = h c (omega (arith, size, are n c e))

pub positions_more : (f : ℕ → Option ℕ) (ps new : List (Option ℕ)) (p : Option ℕ) (i : ℕ) → ps ≡ table_of f i → p ≡ f i → new ≡ ps ++ p ∷ [] → new ≡ table_of f (i + 1)
positions_more f ps new p i h is step = sym (map-id new) ∙ table_more f (λ (q : Option ℕ). q) ps new p i (map-id ps ∙ h) is step

pub some_within : (o : Option ℕ) (n : ℕ) → ((c : ℕ) → o ≡ Some c → c < n) → IfSome o (λ c. c < n)
some_within None n h = tt
some_within (Some c) n h = h c refl
