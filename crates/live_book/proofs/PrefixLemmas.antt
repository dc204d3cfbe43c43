-- Fronts: prefixes of one list of entries.
use Rattle.std.proofs.Common.{◌≡◌, ◌≤◌, nat_lt, List, [], ◌∷◌, ◌++◌, length, sym, refl, ap, ◌∙◌, ◌⊎◌, ⊎_elim, arith, append_assoc, length-append}
use Rattle.std.proofs.lemmas.Bool.{cond_both, ltb-true, ltb-false}
use Rattle.std.proofs.lemmas.List.{append-nil}
use mathlib.Core.List.{IsPrefix}
use Rattle.live_journal.specs.declared.entry.Entry.{Entry}
use Rattle.live_book.specs.Rule.{AllBegin}
use Rattle.live_book.specs.Views.{longer}
use Rattle.live_book.specs.inner.Seats.{AreShort}

pub begins_itself : (p : List Entry) → IsPrefix p p
begins_itself p = ([], append-nil p)

pub begins_longer : (p q r : List Entry) → IsPrefix p q → IsPrefix q r → IsPrefix p r
begins_longer p q r f g = (f.0 ++ g.0, sym (append_assoc p f.0 g.0) ∙ ap (λ (l : List Entry). l ++ g.0) f.1 ∙ g.1)

pub begins_same : (p q : List Entry) → p ≡ q → IsPrefix p q
begins_same p q e = ([], append-nil p ∙ e)

-- of two prefixes of one list the shorter begins the longer
pub begins_other : (p q r : List Entry) → IsPrefix p r → IsPrefix q r → length p ≤ length q → IsPrefix p q
begins_other [] q r f g l = (q, refl)
begins_other (x ∷ p) [] r f g l = absurd (omega arith)
begins_other (x ∷ p) (y ∷ q) r f g l =
    let e : x ∷ (p ++ f.0) ≡ y ∷ (q ++ g.0) = f.1 ∙ sym g.1 in
    let head : x ≡ y = cc in
    let tail : p ++ f.0 ≡ q ++ g.0 = cc in
    let rest : IsPrefix p q = begins_other p q (q ++ g.0) (f.0, tail) (g.0, refl) (omega arith) in
    (rest.0, λ j. head j ∷ rest.1 j)

pub prefix_length : (p r : List Entry) → IsPrefix p r → length p ≤ length r
prefix_length p r f = let e = ap (λ (l : List Entry). length l) f.1 in omega (arith, length-append p f.0)

none_left : (l : List Entry) → length l ≡ 0 → l ≡ []
none_left [] e = refl
none_left (x ∷ l) e = absurd (omega arith)

-- a prefix that is as long as the list is the list
pub prefix_whole : (p r : List Entry) → IsPrefix p r → length r ≤ length p → p ≡ r
prefix_whole p r f l =
    let e = ap (λ (l : List Entry). length l) f.1 in
    let z : length f.0 ≡ 0 = omega (arith, length-append p f.0) in
    sym (append-nil p) ∙ ap (λ (l : List Entry). p ++ l) (sym (none_left f.0 z)) ∙ f.1

-- ---- the longer of two fronts
module _ (p q : List Entry) where
  pub longer_either : (F : List Entry → Type 0) → F p → F q → F (longer p q)
  longer_either F a b = cond_both (nat_lt (length p) (length q)) q p F (λ _. b) (λ _. a)

  pub first_short : length p ≤ length (longer p q)
  first_short = cond_both (nat_lt (length p) (length q)) q p (λ l. length p ≤ length l) (λ t. let m = ltb-true (length p) (length q) t in omega arith) (λ _. omega arith)

  pub second_short : length q ≤ length (longer p q)
  second_short = cond_both (nat_lt (length p) (length q)) q p (λ l. length q ≤ length l) (λ _. omega arith) (λ t. ltb-false (length p) (length q) t)

  pub longer_is : (r : List Entry) → IsPrefix p r → IsPrefix q r → (p ≡ r) ⊎ (q ≡ r) → longer p q ≡ r
  longer_is r f g e =
      let most : length r ≤ length (longer p q) = ⊎_elim
      (λ (t : p ≡ r). let n = ap (λ (l : List Entry). length l) t in let a = first_short in omega arith)
      (λ (t : q ≡ r). let n = ap (λ (l : List Entry). length l) t in let a = second_short in omega arith) e in
      prefix_whole (longer p q) r (longer_either (λ l. IsPrefix l r) f g) most

-- ---- fronts that a caller heard of
pub all_longer : (ps : List (List Entry)) (r t : List Entry) → IsPrefix r t → AllBegin ps r → AllBegin ps t
all_longer [] r t f h = tt
all_longer (p ∷ ps) r t f h = (begins_longer p r t h.0 f, all_longer ps r t f h.1)

pub all_shorter : (ps : List (List Entry)) (q r : List Entry) → IsPrefix q r → AreShort ps (length q) → AllBegin ps r → AllBegin ps q
all_shorter [] q r f l h = tt
all_shorter (p ∷ ps) q r f l h = (begins_other p q r h.0 f l.0, all_shorter ps q r f l.1 h.1)
