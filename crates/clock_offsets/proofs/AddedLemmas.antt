-- A table after a text was given an index: it has the text's index, and a text that it had keeps its own.
use Rattle.std.proofs.Common.{◌≡◌, ◌≢◌, ℕ, true, cond, Option, Some, None, is_some, List, ◌∷◌, refl, sym, ap, ◌∙◌}
use Rattle.std.specs.Str.{bytes_eq}
use Rattle.std.proofs.lemmas.Slice.Eq.{bytes_eq-Decides}
use Rattle.clock_offsets.specs.inner.MessagePlaces.{MessagePlace, message_place_in, message_places_with}

-- a text that the table has adds nothing
pub added_seen : (m w : List MessagePlace) (t : List ℕ) (n p : ℕ) → w ≡ message_places_with m t n → message_place_in m t ≡ Some p → w ≡ m
added_seen m w t n p is seen = is ∙ ap (λ o. cond (is_some o) m (record { message = t; place = n } ∷ m)) seen

-- a text that it has not is there from now on
pub added_new : (m w : List MessagePlace) (t : List ℕ) (n : ℕ) → w ≡ message_places_with m t n → message_place_in m t ≡ None → (q : List ℕ) → message_place_in w q ≡ cond (bytes_eq t q) (Some n) (message_place_in m q)
added_new m w t n is absent q = ap (λ ps. message_place_in ps q) (is ∙ ap (λ o. cond (is_some o) m (record { message = t; place = n } ∷ m)) absent)

-- it has its own index then
pub added_index : (m w : List MessagePlace) (t : List ℕ) (n : ℕ) → w ≡ message_places_with m t n → message_place_in m t ≡ None → message_place_in w t ≡ Some n
added_index m w t n is absent = added_new m w t n is absent t ∙ ap (λ b. cond b (Some n) (message_place_in m t)) ((bytes_eq-Decides t t).1 refl)

-- an index that is not the new one is of a text that the table had
pub added_other : (m w : List MessagePlace) (t : List ℕ) (n p : ℕ) → w ≡ message_places_with m t n → message_place_in w t ≡ Some p → p ≢ n → is_some (message_place_in m t) ≡ true
added_other m w t n p is now other = at (message_place_in m t) refl
  where
    at : (o : Option ℕ) → message_place_in m t ≡ o → is_some (message_place_in m t) ≡ true
    at None e = let new : Some n ≡ Some p = sym (added_index m w t n is e) ∙ now in absurd (other (sym cc))
    at (Some j) e = ap is_some e
