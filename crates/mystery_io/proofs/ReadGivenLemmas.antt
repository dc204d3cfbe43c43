-- What the reads of an open file bring to its reading.
use Rattle.std.proofs.Common.{◌≡◌, ◌≤◌, ◌<◌, ℕ, List, [], ◌∷◌, ◌++◌, Bool, true, false, ◌||◌, length, take, ap, arith, refl, ◌∙◌, append-nil}
use Rattle.std.specs.Prelude.{◌==◌, if◌then◌else◌}
use Rattle.std.proofs.lemmas.Bool.{eq-eqb, ne_eqb}
use Rattle.std.proofs.lemmas.List.{length-take}
use Rattle.mystery_io.specs.Readings.{Reading, after_bytes, after_read}

abbrev pub reading : List ℕ → List ℕ → Bool → Reading
reading name bytes at_end = record { name = name; bytes = bytes; at_end = at_end }

pub to_last : (first : List Reading) (r : Reading) (more : List ℕ) (e : Bool) → after_bytes (first ++ r ∷ []) more e ≡ first ++ record { name = r.name; bytes = r.bytes ++ more; at_end = r.at_end || e } ∷ []
unfolding after_bytes
to_last [] r more e = refl
to_last (x ∷ []) r more e = refl
to_last (x ∷ y ∷ ys) r more e = ap (λ rs. x ∷ rs) (to_last (y ∷ ys) r more e)

module _ (first : List Reading) (name bytes : List ℕ) (before now : List Reading) (is_open : Bool) (n : ℕ) (into : List ℕ) (opened : is_open ≡ true) (within : n ≤ length into) (gives : now ≡ (if is_open then after_read before (take n into) else before))
    (given : before ≡ first ++ reading name bytes false ∷ []) where
  given_by : (e : Bool) → (length (take n into) == 0) ≡ e → now ≡ first ++ reading name (bytes ++ take n into) e ∷ []
  given_by e is =
      gives ∙ ap (λ (b : Bool). if b then after_read before (take n into) else before) opened ∙ ap (λ (rs : List Reading). after_read rs (take n into)) given
      ∙ to_last first (reading name bytes false) (take n into) (length (take n into) == 0) ∙ ap (λ (b : Bool). first ++ reading name (bytes ++ take n into) b ∷ []) is

  -- a piece came
  pub given_more : 0 < n → now ≡ first ++ reading name (bytes ++ take n into) false ∷ []
  given_more some = given_by false (ne_eqb (length (take n into)) 0 (λ e. omega (arith, e, length-take n into, within, some)))

  -- the end came
  pub given_end : n ≡ 0 → now ≡ first ++ reading name bytes true ∷ []
  given_end none =
      let empty : take n into ≡ [] = ap (λ k. take k into) none in
      given_by true (eq-eqb (length (take n into)) 0 (omega (arith, length-take n into, none))) ∙ ap (λ (xs : List ℕ). first ++ reading name (bytes ++ xs) true ∷ []) empty ∙ ap (λ (xs : List ℕ). first ++ reading name xs true ∷ []) (append-nil bytes)
