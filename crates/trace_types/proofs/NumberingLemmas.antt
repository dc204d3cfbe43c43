-- Lists numbered by index.
use Rattle.std.proofs.Common.{◌≡◌, ◌≢◌, ℕ, ◌<◌, ◌↔◌, Some, List, length, get_or, arith, sym, ap, ◌∙◌, subst}
use Rattle.std.proofs.lemmas.List.FromFn.{length-enumerate_from, get_or-enumerate_from}
use Rattle.std.proofs.lemmas.Option.{slice_get-get_or, slice_get_within, get_or_from_slice_get}
use Rattle.std.specs.List.{AllPairs, Contains, enumerate_from, slice_get}
use Rattle.trace_types.specs.Renaming.{IsOneToOne}

entry : {X : Type 0} (xs : List X) (k : ℕ) (d : ℕ × X) → k < length xs → get_or (enumerate_from 0 xs) k d ≡ (k, get_or xs k d.1)
entry {X} xs k d lt = get_or-enumerate_from 0 xs k d lt ∙ ap (λ (n : ℕ). (n, get_or xs k d.1)) (omega arith)

pub numbered_once : {X : Type 0} (xs : List X) → AllPairs (λ x y. x ≢ y) xs → IsOneToOne (enumerate_from 0 xs)
numbered_once {X} xs differ i j d lt within =
    let inside : j < length xs = omega (arith, length-enumerate_from 0 xs) in
    let ei = entry xs i d (omega arith) in
    let ej = entry xs j d inside in (
      (λ e. let same : i ≡ j = ap (λ (m : ℕ × X). m.0) (sym ei) ∙ e ∙ ap (λ (m : ℕ × X). m.0) ej in absurd (omega arith)),
      (λ e. differ i j d.1 lt inside (ap (λ (m : ℕ × X). m.1) (sym ei) ∙ e ∙ ap (λ (m : ℕ × X). m.1) ej)),
    )

pub numbered_at : {X : Type 0} (xs : List X) (k : ℕ) (x : X) → Contains (enumerate_from 0 xs) (k, x) ↔ (slice_get xs k ≡ Some x)
numbered_at {X} xs k x = (
  (λ c.
      let inside : c.0 < length xs = let lt : c.0 < length (enumerate_from 0 xs) = c.1 in omega (arith, length-enumerate_from 0 xs) in
      let e : (c.0, get_or xs c.0 x) ≡ (k, x) = sym (entry xs c.0 (k, x) inside) ∙ c.2 in
      let n : c.0 ≡ k = ap (λ (m : ℕ × X). m.0) e in
      subst (λ (n : ℕ). slice_get xs n ≡ Some x) n (slice_get-get_or xs c.0 x inside ∙ ap (λ (m : ℕ × X). Some m.1) e)),
  (λ e.
      let inside : k < length xs = slice_get_within xs k x e in
      (k, (omega (arith, length-enumerate_from 0 xs)), entry xs k (k, x) inside ∙ ap (λ (v : X). (k, v)) (get_or_from_slice_get xs k x x e))),
)
