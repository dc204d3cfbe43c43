-- Texts by their numbers in a table.
use Rattle.std.proofs.Common.{◌≡◌, ℕ, ◌<◌, List, [], length, slice_get, Some, sym, subst}
use Rattle.std.proofs.lemmas.Option.{get_or_from_slice_get}
use Rattle.event_table.specs.Numbers.{text_under}

-- the text that a table lends is the one with the number
pub text_is : (lent texts : List (List ℕ)) (number : ℕ) (text : List ℕ) → lent ≡ texts → number < length texts → slice_get lent number ≡ Some text → text ≡ text_under texts number
text_is lent texts number text same within there =
    sym (get_or_from_slice_get texts number text [] (subst (λ (ts : List (List ℕ)). slice_get ts number ≡ Some text) same there))
