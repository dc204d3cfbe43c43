-- A book without days.
use Rattle.std.proofs.Common.{◌≡◌, ℕ, zero, suc, ◌≤◌, List, [], get_or, replicate, Option, Some, None, is_some, refl, sym, ap, ◌∙◌, subst, arith}
use Rattle.std.proofs.lemmas.Bool.{false≢true}
use Rattle.day_partitions.specs.Books.{book, IsBook}
use Rattle.day_partitions.specs.inner.Trees.{TreeState, tree}
use Rattle.day_partitions.specs.inner.Slots.{AreInSlots, shown_days}
use Rattle.day_partitions.specs.declared.day.Day.{Day}

get_none : (n k : ℕ) → let none : Option (List ℕ) = None in get_or (replicate n none) k none ≡ none
get_none zero k = refl
get_none (suc n) zero = refl
get_none (suc n) (suc k) = get_none n k

none_some : (o : Option (List ℕ)) (x : List ℕ) → o ≡ None → o ≡ Some x → ⊥
none_some o x e f = false≢true (ap is_some (sym e ∙ f))

slots_none : (w : ℕ) → AreInSlots (tree w (replicate 64 None) 0) []
slots_none w =
    record {
      leaves = refl;
      kept = λ k d l. absurd (omega arith);
      apart = λ i j d l m. absurd (omega arith);
      owned = λ s words e. absurd (none_some _ words (get_none 64 s) e);
      counted = refl;
    }

pub slots_empty : (t : TreeState) (ds : List Day) (w : ℕ) → t ≡ tree w (replicate 64 None) 0 → ds ≡ [] → AreInSlots t ds
slots_empty t ds w et ed = subst (λ u. AreInSlots u ds) (sym et) (subst (λ l. AreInSlots (tree w (replicate 64 None) 0) l) (sym ed) (slots_none w))

book_none : (names : ℕ) → names ≤ 512 → IsBook (book [] names 0)
book_none names h =
    record {
      names = h;
      rising = λ i j d l m. absurd (omega arith);
      some = λ k d l. absurd (omega arith);
      dated = λ k d l. absurd (omega arith);
      named = λ k d l. absurd (omega arith);
      counted = omega arith;
      room = omega arith;
    }

pub book_empty : (names : ℕ) (t : TreeState) (ds : List Day) (w : ℕ) → names ≤ 512 → t ≡ tree w (replicate 64 None) 0 → ds ≡ [] → IsBook (book (shown_days ds) names t.spare)
book_empty names t ds w h et ed =
    subst (λ s. IsBook (book (shown_days ds) names s)) (sym (ap (λ u. u.spare) et)) (subst (λ l. IsBook (book (shown_days l) names 0)) (sym ed) (book_none names h))
