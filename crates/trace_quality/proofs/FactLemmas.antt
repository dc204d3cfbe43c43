-- The facts of traces, one after another.
use Rattle.std.proofs.Common.{◌≡◌, ℕ, zero, suc, ◌+◌, ◌<◌, ◌≤◌, List, [], ◌∷◌, ◌++◌, length, get_or, take, subst, sym, Some, refl, arith}
use Rattle.std.specs.List.{AllZip, slice_get}
use Rattle.std.proofs.lemmas.List.{take_all, take_more}
use Rattle.std.proofs.lemmas.Option.{get_or_from_slice_get, slice_get_within}
use Rattle.trace_types.specs.Batch.{PlainTrace}
use Rattle.trace_quality.specs.Facts.{IsFacts}
use Rattle.trace_quality.specs.declared.trace_facts.TraceFacts.{TraceFacts}

pub zip_push : {A B : Type 0} (R : A → B → Type 0) (xs : List A) (ys : List B) (x : A) (y : B) → AllZip R xs ys → R x y → AllZip R (xs ++ x ∷ []) (ys ++ y ∷ [])
zip_push R [] [] x y h r = (r, tt)
zip_push R [] (z ∷ ys) x y h r = absurd h
zip_push R (z ∷ xs) [] x y h r = absurd h
zip_push R (w ∷ xs) (z ∷ ys) x y h r = (h.0, zip_push R xs ys x y h.1 r)

module _ (traces : List PlainTrace) (facts : List TraceFacts) (i : ℕ) (h : AllZip IsFacts (take i traces) facts) where
  -- the facts of one trace more
  pub facts_more : (t : PlainTrace) (f : TraceFacts) (after : List TraceFacts) → slice_get traces i ≡ Some t → IsFacts t f → after ≡ facts ++ f ∷ [] → AllZip IsFacts (take (i + 1) traces) after
  facts_more t f after at is e =
      let read = get_or_from_slice_get traces i t t at in
      subst (AllZip IsFacts (take (i + 1) traces)) (sym e)
      (subst (λ ts. AllZip IsFacts ts (facts ++ f ∷ [])) (sym (take_more traces i t (slice_get_within traces i t at)))
      (zip_push IsFacts (take i traces) facts (get_or traces i t) f h (subst (λ u. IsFacts u f) (sym read) is)))

  pub facts_all : length traces ≤ i → AllZip IsFacts traces facts
  facts_all ge = subst (λ ts. AllZip IsFacts ts facts) (take_all i traces ge) h

-- a place within a list has an element
pub some_at : {X : Type 0} (xs : List X) (i : ℕ) → i < length xs → (x : X) × slice_get xs i ≡ Some x
some_at [] i h = absurd (omega (arith, h))
some_at (x ∷ xs) zero h = (x, refl)
some_at (x ∷ xs) (suc i) h = some_at xs i (omega (arith, h))
