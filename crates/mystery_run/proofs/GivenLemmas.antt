-- Options of what is given at the beginning of arguments.
use Rattle.std.proofs.Common.{◌≡◌, ℕ, ◌+◌, ◌∷◌, ◌++◌, ◌≤◌, ◌-◌, List, [], Bool, true, false, length, drop, take, codes, Option, Some, None, if◌then◌else◌, arith, ap, append_assoc, refl, sym, ◌∙◌}
use Rattle.std.specs.List.{list_all}
use Rattle.std.specs.Str.{bytes_eq}
use Rattle.std.proofs.lemmas.List.{drop-drop, length-drop, take_all}
use Rattle.mystery_run.specs.CommandLines.{after_given, given_in, is_filled}
use Rattle.mystery_run.specs.inner.GivenWords.{first_given}

-- arguments that begin with an option
pub record BeginsWith (words : List (List ℕ)) (file : List ℕ) : Type 0 where
  pub given : given_in words ≡ file ∷ given_in (drop 2 words)
  pub after : after_given words ≡ after_given (drop 2 words)
  pub long : 2 ≤ length words

pub some_given : (words : List (List ℕ)) (file : List ℕ) → first_given words ≡ Some file → BeginsWith words file
some_given [] file e = absurd (cc e)
some_given (first ∷ []) file e = absurd (cc e)
some_given (first ∷ found ∷ words) file e = by (bytes_eq first (codes "--given")) refl
  where
    by : (b : Bool) → bytes_eq first (codes "--given") ≡ b → BeginsWith (first ∷ found ∷ words) file
    by true t =
        let is : Some found ≡ Some file = rw t at e in
        let same : found ≡ file = cc in
        record { given = rw t (ap (λ f. f ∷ given_in words) same); after = rw t refl; long = omega arith }
    by false t = absurd (cc (rw t at e))

-- arguments that do not
pub none_given : (words : List (List ℕ)) → first_given words ≡ None → (given_in words ≡ []) × (after_given words ≡ words)
none_given [] e = (refl, refl)
none_given (first ∷ []) e = (refl, refl)
none_given (first ∷ found ∷ words) e = by (bytes_eq first (codes "--given")) refl
  where
    by : (b : Bool) → bytes_eq first (codes "--given") ≡ b → (given_in (first ∷ found ∷ words) ≡ []) × (after_given (first ∷ found ∷ words) ≡ first ∷ found ∷ words)
    by true t = absurd (cc (rw t at e))
    by false t = (rw t refl, rw t refl)

-- the options and the arguments after them are no more than all arguments
pub few_given : (words : List (List ℕ)) → length (given_in words) + length (after_given words) ≤ length words
few_given [] = omega arith
few_given (first ∷ []) = omega arith
few_given (first ∷ found ∷ words) = by (bytes_eq first (codes "--given")) refl (few_given words)
  where
    by : (b : Bool) → bytes_eq first (codes "--given") ≡ b → length (given_in words) + length (after_given words) ≤ length words
        → length (given_in (first ∷ found ∷ words)) + length (after_given (first ∷ found ∷ words)) ≤ length (first ∷ found ∷ words)
    by true t h = rw t (omega (arith, h))
    by false t h = rw t (omega arith)

-- the arguments from an index on
from : (words : List (List ℕ)) (at : ℕ) → take (length words - at) (drop at words) ≡ drop at words
from words at = take_all (length words - at) (drop at words) (omega (arith, length-drop at words))

-- one option more
module _ (words : List (List ℕ)) (at : ℕ) (file : List ℕ) (found : first_given (take (length words - at) (drop at words)) ≡ Some file) where
  begins : BeginsWith (drop at words) file
  begins = some_given (drop at words) file (ap first_given (sym (from words at)) ∙ found)

  pub within_more : at + 2 ≤ length words
  within_more = omega (arith, begins.long, length-drop at words)

  pub after_more : after_given (drop at words) ≡ after_given (drop (at + 2) words)
  after_more = begins.after ∙ ap after_given (drop-drop 2 at words)

  pub given_more : given_in (drop at words) ≡ file ∷ given_in (drop (at + 2) words)
  given_more = begins.given ∙ ap (λ (ws : List (List ℕ)). file ∷ given_in ws) (drop-drop 2 at words)

  pub filled_more : is_filled file ≡ true → list_all is_filled (given_in (drop at words)) ≡ list_all is_filled (given_in (drop (at + 2) words))
  filled_more filled = ap (list_all is_filled) given_more ∙ rw filled refl

  pub unfilled : is_filled file ≡ false → list_all is_filled (given_in (drop at words)) ≡ false
  unfilled empty = ap (list_all is_filled) given_more ∙ rw empty refl

  -- its file is copied behind those before it
  pub copied_more : (files old : List (List ℕ)) → files ≡ old ++ file ∷ [] → old ++ given_in (drop at words) ≡ given_in words → files ++ given_in (drop (at + 2) words) ≡ given_in words
  copied_more files old pushed all =
      ap (λ (fs : List (List ℕ)). fs ++ given_in (drop (at + 2) words)) pushed ∙ append_assoc old (file ∷ []) (given_in (drop (at + 2) words)) ∙ ap (λ (fs : List (List ℕ)). old ++ fs) (sym given_more) ∙ all

-- no option more
module _ (words : List (List ℕ)) (at : ℕ) (found : first_given (take (length words - at) (drop at words)) ≡ None) where
  none : (given_in (drop at words) ≡ []) × (after_given (drop at words) ≡ drop at words)
  none = none_given (drop at words) (ap first_given (sym (from words at)) ∙ found)

  pub given_none : given_in (drop at words) ≡ []
  given_none = none.0

  pub filled_none : list_all is_filled (given_in (drop at words)) ≡ true
  filled_none = ap (list_all is_filled) none.0

  pub after_none : after_given (drop at words) ≡ take (length words - at) (drop at words)
  after_none = none.1 ∙ sym (from words at)

-- what is found after all options, by whether their files are filled
pub found_form : (filled : Bool) (all : Bool) (form found : List (List ℕ)) → all ≡ filled → filled ≡ true → form ≡ found → Some found ≡ (if all then Some form else None)
found_form filled all form found e t same = rw (e, t, same) refl

pub no_form : (filled : Bool) (all : Bool) (form : List (List ℕ)) → all ≡ filled → filled ≡ false → None ≡ (if all then Some form else None)
no_form filled all form e f = rw (e, f) refl
