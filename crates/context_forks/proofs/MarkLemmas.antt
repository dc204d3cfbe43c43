-- Marks, one after another.
use Rattle.std.proofs.Common.{◌≡◌, ◌⊎◌, inl, inr, ℕ, ◌+◌, ◌<◌, List, [], ◌∷◌, ◌++◌, ◌||◌, Bool, true, false, length, get_or, set, take, drop, replicate, refl, sym, ap, ◌∙◌, arith}
use Rattle.std.specs.Prelude.{◌==◌, ◌&&◌}
use Rattle.std.specs.List.{list_any, range_with_len}
use Rattle.std.proofs.lemmas.Bool.{cases_eq, eq-eqb, ne_eqb, or_right}
use Rattle.std.proofs.lemmas.List.{get_or-replicate, get_or-set_other, get_or-set_same, length-replicate, take_at}
use Rattle.std.proofs.lemmas.List.Folds.{list_any-append, list_any_more}
use Rattle.std.proofs.lemmas.List.FromFn.{fill_by_all}
use Rattle.call_trees.specs.Tables.{table_of}
use Rattle.call_trees.proofs.OrderLemmas.{range_more}
use Rattle.context_forks.specs.inner.Marks.{AreMarked}

or-false : (b : Bool) → (b || false) ≡ b
or-false true = refl
or-false false = refl

or-assoc : (a b c : Bool) → ((a || b) || c) ≡ (a || (b || c))
or-assoc true b c = refl
or-assoc false b c = refl

pub marked_none : (p : ℕ → Bool) (old : List Bool) → ((x : ℕ) → p x ≡ false) → AreMarked p old old
marked_none p old none x lt = sym (ap (λ b. get_or old x false || b) (none x) ∙ or-false (get_or old x false))

pub marked_same : (p q : ℕ → Bool) (old new : List Bool) → ((x : ℕ) → q x ≡ p x) → AreMarked p old new → AreMarked q old new
marked_same p q old new e h x lt = h x lt ∙ ap (λ b. get_or old x false || b) (sym (e x))

-- one more mark
pub marked_more : (p : ℕ → Bool) (old mid new : List Bool) (n : ℕ) → length mid ≡ length old → new ≡ set mid n true → AreMarked p old mid → AreMarked (λ x. p x || (n == x)) old new
marked_more p old mid new n size step h x lt = by (cases_eq n x)
  where
    by : (n ≡ x) ⊎ (n ≡ x → ⊥) → get_or new x false ≡ (get_or old x false || (p x || (n == x)))
    by (inl e) =
        ap (λ (xs : List Bool). get_or xs x false) step ∙ ap (λ k. get_or (set mid k true) x false) e ∙ get_or-set_same mid x true false (omega (arith, lt, size))
        ∙ sym (or_right (get_or old x false) (p x || (n == x)) (or_right (p x) (n == x) (eq-eqb n x e)))
    by (inr ne) =
        ap (λ (xs : List Bool). get_or xs x false) step ∙ get_or-set_other mid n x true false (λ e. ne (sym e)) ∙ h x lt
        ∙ ap (λ b. get_or old x false || b) (sym (ap (λ b. p x || b) (ne_eqb n x ne) ∙ or-false (p x)))

-- a test of one more number
pub any_more : (p : ℕ → Bool) (at : ℕ) → list_any p (range_with_len 0 (at + 1)) ≡ (list_any p (range_with_len 0 at) || p at)
any_more p at = ap (list_any p) (range_more 0 at ∙ ap (λ k. range_with_len 0 at ++ k ∷ []) (let e : 0 + at ≡ at = omega arith in e)) ∙ list_any-append p (range_with_len 0 at) (at ∷ []) ∙ ap (λ b. list_any p (range_with_len 0 at) || b) (or-false (p at))

-- of a test by number, where the number passes or not
pub any_yes : (q : ℕ → Bool) (numbers : List ℕ) (at x : ℕ) → q at ≡ true → list_any (λ i. get_or numbers i 0 == x && q i) (range_with_len 0 (at + 1)) ≡ (list_any (λ i. get_or numbers i 0 == x && q i) (range_with_len 0 at) || (get_or numbers at 0 == x))
any_yes q numbers at x h = any_more (λ i. get_or numbers i 0 == x && q i) at ∙ ap (λ b. list_any (λ i. get_or numbers i 0 == x && q i) (range_with_len 0 at) || ((get_or numbers at 0 == x) && b)) h ∙ ap (λ b. list_any (λ i. get_or numbers i 0 == x && q i) (range_with_len 0 at) || b) (and-true (get_or numbers at 0 == x))
  where
    and-true : (b : Bool) → (b && true) ≡ b
    and-true true = refl
    and-true false = refl

pub any_no : (q : ℕ → Bool) (numbers : List ℕ) (at x : ℕ) → q at ≡ false → list_any (λ i. get_or numbers i 0 == x && q i) (range_with_len 0 (at + 1)) ≡ list_any (λ i. get_or numbers i 0 == x && q i) (range_with_len 0 at)
any_no q numbers at x h = any_more (λ i. get_or numbers i 0 == x && q i) at ∙ ap (λ b. list_any (λ i. get_or numbers i 0 == x && q i) (range_with_len 0 at) || ((get_or numbers at 0 == x) && b)) h ∙ ap (λ b. list_any (λ i. get_or numbers i 0 == x && q i) (range_with_len 0 at) || b) (and-false (get_or numbers at 0 == x)) ∙ or-false (list_any (λ i. get_or numbers i 0 == x && q i) (range_with_len 0 at))
  where
    and-false : (b : Bool) → (b && false) ≡ false
    and-false true = refl
    and-false false = refl

-- marks by a test by number, where one more number passes or not
module _ (q : ℕ → Bool) (numbers : List ℕ) (at : ℕ) (old mid new : List Bool) (h : AreMarked (λ x. list_any (λ i. get_or numbers i 0 == x && q i) (range_with_len 0 at)) old mid) where
  pub marked_yes : length mid ≡ length old → q at ≡ true → new ≡ set mid (get_or numbers at 0) true → AreMarked (λ x. list_any (λ i. get_or numbers i 0 == x && q i) (range_with_len 0 (at + 1))) old new
  marked_yes size is step =
      marked_same (λ x. list_any (λ i. get_or numbers i 0 == x && q i) (range_with_len 0 at) || (get_or numbers at 0 == x)) (λ x. list_any (λ i. get_or numbers i 0 == x && q i) (range_with_len 0 (at + 1))) old new
      (λ x. any_yes q numbers at x is) (marked_more (λ x. list_any (λ i. get_or numbers i 0 == x && q i) (range_with_len 0 at)) old mid new (get_or numbers at 0) size step h)

  pub marked_no : q at ≡ false → new ≡ mid → AreMarked (λ x. list_any (λ i. get_or numbers i 0 == x && q i) (range_with_len 0 (at + 1))) old new
  marked_no isnt same =
      marked_same (λ x. list_any (λ i. get_or numbers i 0 == x && q i) (range_with_len 0 at)) (λ x. list_any (λ i. get_or numbers i 0 == x && q i) (range_with_len 0 (at + 1))) old new
      (λ x. any_no q numbers at x isnt) (λ x lt. ap (λ (xs : List Bool). get_or xs x false) same ∙ h x lt)

-- one more pair
pub linked_more : (links : List (ℕ × ℕ)) (at x : ℕ) (d : ℕ × ℕ) → at < length links
    → list_any (λ (p : ℕ × ℕ). (p.0 == x) || (p.1 == x)) (take (at + 1) links) ≡ ((list_any (λ (p : ℕ × ℕ). (p.0 == x) || (p.1 == x)) (take at links) || ((get_or links at d).0 == x)) || ((get_or links at d).1 == x))
linked_more links at x d lt =
    list_any_more (λ (p : ℕ × ℕ). (p.0 == x) || (p.1 == x)) links at d lt
    ∙ sym (or-assoc (list_any (λ (p : ℕ × ℕ). (p.0 == x) || (p.1 == x)) (take at links)) ((get_or links at d).0 == x) ((get_or links at d).1 == x))

-- marks by two tests, one after the other
pub marked_both : (p q : ℕ → Bool) (first mid last : List Bool) → length mid ≡ length first → AreMarked p first mid → AreMarked q mid last → AreMarked (λ x. p x || q x) first last
marked_both p q first mid last size h k x lt = k x (omega (arith, lt, size)) ∙ ap (λ b. b || q x) (h x lt) ∙ or-assoc (get_or first x false) (p x) (q x)

-- all marks, where none stood before
pub marked_all : (p : ℕ → Bool) (first last : List Bool) (count : ℕ) → first ≡ replicate count false → length last ≡ length first → AreMarked p first last → last ≡ table_of p count
marked_all p first last count none size h = fill_by_all p last count false (size ∙ ap length none ∙ length-replicate count false) (λ x lt.
    h x (omega (arith, lt, ap length none, length-replicate count false)) ∙ ap (λ b. b || p x) (ap (λ (xs : List Bool). get_or xs x false) none ∙ get_or-replicate count x false false lt))

-- what is left in a list of marks that were written in place
pub written_back : (new old : List Bool) (len : ℕ) → length new ≡ len → take len (new ++ drop (length new) old) ≡ new
written_back new old len e = take_at new (drop (length new) old) len e
