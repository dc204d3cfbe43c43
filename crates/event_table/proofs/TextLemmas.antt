-- Texts and their numbers in a table that grows.
use Rattle.std.proofs.Common.{◌≡◌, ◌↔◌, ℕ, ◌+◌, ◌<◌, ◌≤◌, List, [], ◌∷◌, ◌++◌, length, get_or, slice_get, Some, Bool, true, false, if◌then◌else◌, refl, sym, ap, ◌∙◌, subst, ⊎_elim, append-nil, append_assoc, length-append, arith}
use Rattle.std.proofs.lemmas.Bool.{cases_order}
use Rattle.std.proofs.lemmas.List.{get_or_append_left}
use Rattle.std.proofs.lemmas.List.Folds.{list_any_at}
use Rattle.std.proofs.lemmas.Option.{get_or_from_slice_get, slice_get_within, slice_get_read}
use Rattle.std.specs.List.{list_any}
use Rattle.std.specs.Str.{bytes_eq}
use Rattle.trace_types.proofs.ComparingLemmas.{text_laws}
use Rattle.event_table.specs.Texts.{AreDifferent}
use Rattle.event_table.specs.inner.Growth.{GrowsBy, with_text}

-- a text that is there is found
pub found_there : (texts : List (List ℕ)) (number : ℕ) (text : List ℕ) → slice_get texts number ≡ Some text → list_any (bytes_eq text) texts ≡ true
found_there texts number text at =
    let same : get_or texts number text ≡ text = get_or_from_slice_get texts number text text at in
    list_any_at (bytes_eq text) texts number text (slice_get_within texts number text at) (subst (λ (x : List ℕ). bytes_eq text x ≡ true) (sym same) (text_laws.refl text))

-- a text that is there adds none
pub with_known : (texts : List (List ℕ)) (number : ℕ) (text : List ℕ) → slice_get texts number ≡ Some text → texts ≡ with_text texts text
with_known texts number text at = sym (ap (λ (b : Bool). if b then texts else texts ++ text ∷ []) (found_there texts number text at))

-- at most one text is appended
pub with_grows : (texts : List (List ℕ)) (text : List ℕ) → GrowsBy 1 texts (with_text texts text)
with_grows texts text = by (list_any (bytes_eq text) texts)
  where
    by : (b : Bool) → GrowsBy 1 texts (if b then texts else texts ++ text ∷ [])
    by true = ([], sym (append-nil texts), omega arith)
    by false = (text ∷ [], refl, omega arith)

pub grows_none : (most : ℕ) (old new : List (List ℕ)) → new ≡ old → GrowsBy most old new
grows_none most old new same = ([], same ∙ sym (append-nil old), omega arith)

pub grows_more : (first second all : ℕ) (a b c : List (List ℕ)) → GrowsBy first a b → GrowsBy second b c → first + second ≤ all → GrowsBy all a c
grows_more first second all a b c f s few =
    let long : length (f.0 ++ s.0) ≡ length f.0 + length s.0 = length-append f.0 s.0 in
    let one : length f.0 ≤ first = f.2 in
    let two : length s.0 ≤ second = s.2 in
    (f.0 ++ s.0, s.1 ∙ ap (λ (xs : List (List ℕ)). xs ++ s.0) f.1 ∙ append_assoc a f.0 s.0, omega arith)

-- how many there are then
pub grown_length : (most : ℕ) (old new : List (List ℕ)) → GrowsBy most old new → length new ≤ length old + most
grown_length most old new g =
    let e : length new ≡ length old + length g.0 = ap (λ (xs : List (List ℕ)). length xs) g.1 ∙ length-append old g.0 in
    let few : length g.0 ≤ most = g.2 in
    omega arith

-- a number stays that of its text
pub still_there : (most : ℕ) (old new : List (List ℕ)) (number : ℕ) (text : List ℕ) → GrowsBy most old new → slice_get old number ≡ Some text → slice_get new number ≡ Some text
still_there most old new number text g at =
    let more = g.0 in
    let within = slice_get_within old number text at in
    let here : get_or old number text ≡ text = get_or_from_slice_get old number text text at in
    let stays : get_or (old ++ more) number text ≡ get_or old number text = get_or_append_left old more text number within in
    let long : length (old ++ more) ≡ length old + length more = length-append old more in
    subst (λ (texts : List (List ℕ)). slice_get texts number ≡ Some text) (sym g.1) (slice_get_read (old ++ more) (length (old ++ more)) number text refl (omega arith) (sym (stays ∙ here)))

-- of different texts, two numbers are one where their texts are
pub numbers_apart : (texts : List (List ℕ)) → AreDifferent texts → (i j : ℕ) (x y : List ℕ) → slice_get texts i ≡ Some x → slice_get texts j ≡ Some y → (i ≡ j) ↔ (x ≡ y)
numbers_apart texts differ i j x y at_i at_j =
    let here : get_or texts i x ≡ x = get_or_from_slice_get texts i x x at_i in
    let there : get_or texts j x ≡ y = get_or_from_slice_get texts j y x at_j in
    let li = slice_get_within texts i x at_i in
    let lj = slice_get_within texts j y at_j in (
      λ (e : i ≡ j). sym here ∙ ap (λ (k : ℕ). get_or texts k x) e ∙ there,
      λ (e : x ≡ y).
          let same : get_or texts i x ≡ get_or texts j x = here ∙ e ∙ sym there in ⊎_elim
          (λ (h : i ≡ j). h)
          (⊎_elim (λ (h : i < j). absurd (differ i j x h lj same)) (λ (h : j < i). absurd (differ j i x h li (sym same))))
          (cases_order i j),
    )
