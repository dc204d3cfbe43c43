-- What is added up, as one element is added after another.
use Rattle.std.proofs.Common.{◌≡◌, ◌⊎◌, inl, inr, subst, ℕ, ◌+◌, ◌*◌, ◌<◌, ◌≤◌, List, [], ◌∷◌, ◌++◌, Bool, true, false, cond, eqb, ltb, length, get_or, take, ap, refl, sym, ◌∙◌, arith, Some, None}
use Rattle.std.specs.Prelude.{count_by, sum_by, position, Option, IfSome, nat_lt}
use Rattle.std.specs.List.{position_or_len}
use Rattle.std.proofs.lemmas.Bool.{cases_lt, eq-eqb, le-ltb, lt-ltb, ltb-true, ne_eqb}
use Rattle.std.proofs.lemmas.List.{length-append, length-take-le, take_all, take_more}
use Rattle.std.proofs.lemmas.List.Folds.{position_or_len_push}
use Rattle.std.proofs.lemmas.List.Sums.{prefix_len-le-length, sum_by_more}
use Rattle.trace_quality.specs.declared.tallies.Tally.{Tally}
use Rattle.trace_quality.specs.Measures.{one_if}
use Rattle.trace_quality.specs.Tallies.{IsTally}
use Rattle.trace_quality.specs.inner.Adding.{first_or}

-- ---- one element more

pub count_more : {X : Type 0} (p : X → Bool) (xs : List X) (i : ℕ) (d x : X) (now after : ℕ) → i < length xs → now ≡ count_by p (take i xs) → x ≡ get_or xs i d → after ≡ now + one_if (p x) → after ≡ count_by p (take (i + 1) xs)
count_more p xs i d x now after lt so same e =
    e ∙ ap (λ (n : ℕ). n + one_if (p x)) so ∙ ap (λ y. count_by p (take i xs) + one_if (p y)) same ∙ sym (sum_by_more (λ y. cond (p y) 1 0) xs i d lt)

pub sum_more : {X : Type 0} (f : X → ℕ) (xs : List X) (i : ℕ) (d : X) (now more after : ℕ) → i < length xs → now ≡ sum_by f (take i xs) → more ≡ f (get_or xs i d) → after ≡ now + more → after ≡ sum_by f (take (i + 1) xs)
sum_more f xs i d now more after lt so same e =
    e ∙ ap (λ (n : ℕ). n + more) so ∙ ap (λ n. sum_by f (take i xs) + n) same ∙ sym (sum_by_more f xs i d lt)

-- ---- the first that counts

module _ {X : Type 0} (p : X → Bool) (xs : List X) (y : X) where
  all : position p (xs ++ y ∷ []) ≡ cond (ltb (cond (eqb (position_or_len p xs) (length xs)) (length xs + cond (p y) 0 1) (position_or_len p xs)) (length xs + 1)) (Some (cond (eqb (position_or_len p xs) (length xs)) (length xs + cond (p y) 0 1) (position_or_len p xs))) None
  all =
      let same = position_or_len_push p xs y in
      let long : length (xs ++ y ∷ []) ≡ length xs + 1 = length-append xs (y ∷ []) in
      ap (λ (n : ℕ). cond (ltb n (length (xs ++ y ∷ []))) (Some n) None) same
      ∙ ap (λ (l : ℕ). cond (ltb (cond (eqb (position_or_len p xs) (length xs)) (length xs + cond (p y) 0 1) (position_or_len p xs)) l) (Some (cond (eqb (position_or_len p xs) (length xs)) (length xs + cond (p y) 0 1) (position_or_len p xs))) None) long

by_number : (n l : ℕ) (b : Bool) → (n < l) ⊎ (l ≤ n) → n ≤ l → cond (ltb (cond (eqb n l) (l + cond b 0 1) n) (l + 1)) (Some (cond (eqb n l) (l + cond b 0 1) n)) None ≡ cond (ltb n l) (Some n) (cond b (Some l) None)
by_number n l b (inl lt) le =
    ap (λ (e : Bool). cond (ltb (cond e (l + cond b 0 1) n) (l + 1)) (Some (cond e (l + cond b 0 1) n)) None) (ne_eqb n l (λ e. omega (arith, e, lt)))
    ∙ ap (λ (e : Bool). cond e (Some n) None) (lt-ltb n (l + 1) (omega (arith, lt)))
    ∙ sym (ap (λ (e : Bool). cond e (Some n) (cond b (Some l) None)) (lt-ltb n l lt))
by_number n l b (inr ge) le =
    ap (λ (e : Bool). cond (ltb (cond e (l + cond b 0 1) n) (l + 1)) (Some (cond e (l + cond b 0 1) n)) None) (eq-eqb n l (omega (arith, le, ge)))
    ∙ last b
    ∙ sym (ap (λ (e : Bool). cond e (Some n) (cond b (Some l) None)) (le-ltb n l ge))
  where
    last : (c : Bool) → cond (ltb (l + cond c 0 1) (l + 1)) (Some (l + cond c 0 1)) None ≡ cond c (Some l) None
    last true = ap (λ (e : Bool). cond e (Some (l + 0)) None) (lt-ltb (l + 0) (l + 1) (omega arith)) ∙ ap (λ (m : ℕ). Some m) (omega arith)
    last false = ap (λ (e : Bool). cond e (Some (l + 1)) None) (le-ltb (l + 1) (l + 1) (omega arith))

or_first : (c b : Bool) (n l m : ℕ) → b ≡ ltb 0 m → cond c (Some n) (cond b (Some l) None) ≡ first_or (cond c (Some n) None) l m
or_first true b n l m e = refl
or_first false b n l m e = ap (λ (t : Bool). cond t (Some l) None) e

-- the first of a list with one element more, by the first of the list
first_push : {X : Type 0} (f : X → ℕ) (xs : List X) (y : X) → position (λ x. nat_lt 0 (f x)) (xs ++ y ∷ []) ≡ first_or (position (λ x. nat_lt 0 (f x)) xs) (length xs) (f y)
first_push f xs y =
    let n = position_or_len (λ x. nat_lt 0 (f x)) xs in
    let short : n ≤ length xs = prefix_len-le-length _ xs in
    all (λ x. nat_lt 0 (f x)) xs y
    ∙ by_number n (length xs) (nat_lt 0 (f y)) (cases_lt n (length xs)) short
    ∙ or_first (ltb n (length xs)) (nat_lt 0 (f y)) n (length xs) (f y) refl

pub first_more : {X : Type 0} (f : X → ℕ) (xs : List X) (i : ℕ) (d : X) (now after : Option ℕ) (more : ℕ) → i < length xs → now ≡ position (λ x. nat_lt 0 (f x)) (take i xs) → more ≡ f (get_or xs i d) → after ≡ first_or now i more → after ≡ position (λ x. nat_lt 0 (f x)) (take (i + 1) xs)
first_more f xs i d now after more lt so same e =
    let long : i ≡ length (take i xs) = sym (length-take-le i xs (omega (arith, lt))) in
    e ∙ ap (λ (o : Option ℕ). first_or o i more) so
    ∙ ap (λ (m : ℕ). first_or (position (λ x. nat_lt 0 (f x)) (take i xs)) i m) same
    ∙ ap (λ (j : ℕ). first_or (position (λ x. nat_lt 0 (f x)) (take i xs)) j (f (get_or xs i d))) long
    ∙ sym (first_push f (take i xs) (get_or xs i d))
    ∙ ap (position (λ x. nat_lt 0 (f x))) (sym (take_more xs i d lt))

-- ---- tallies

-- what the first so many count, each fewer than 2^32
pub record IsTallyBelow {X : Type 0} (part whole : X → ℕ) (xs : List X) (i : ℕ) (t : Tally) : Type 0 where
  pub tally : IsTally part whole (take i xs) t
  pub few : t.count ≤ i * 4294967296
  pub of_few : t.of ≤ i * 4294967296

module _ {X : Type 0} (part whole : X → ℕ) (xs : List X) where
  pub tally_more : (i : ℕ) (d : X) (t u : Tally) (count of : ℕ) → i < length xs → IsTallyBelow part whole xs i t → count ≡ part (get_or xs i d) → of ≡ whole (get_or xs i d) → count < 4294967296 → of < 4294967296 → u.count ≡ t.count + count → u.of ≡ t.of + of → u.first ≡ first_or t.first i count → IsTallyBelow part whole xs (i + 1) u
  tally_more i d t u count of lt h is is_of small small_of e f g = record {
    tally = record {
      count = sum_more part xs i d t.count count u.count lt h.tally.count is e;
      of = sum_more whole xs i d t.of of u.of lt h.tally.of is_of f;
      first = first_more part xs i d t.first u.first count lt h.tally.first is g;
    };
    few = omega (arith, h.few, small, e);
    of_few = omega (arith, h.of_few, small_of, f);
  }

  pub tally_all : (i : ℕ) (t : Tally) → length xs ≤ i → IsTallyBelow part whole xs i t → IsTally part whole xs t
  tally_all i t ge h = subst (λ ys. IsTally part whole ys t) (take_all i xs ge) h.tally

-- the first is within the list
pub first_within : {X : Type 0} (p : X → Bool) (xs : List X) (o : Option ℕ) → o ≡ position p xs → IfSome o (λ k. k < length xs)
first_within p xs o e = by o e
  where
    short : (t : Bool) (k : ℕ) → ltb k (length xs) ≡ t → IfSome (cond t (Some k) None) (λ k. k < length xs)
    short true k h = ltb-true k (length xs) h
    short false k h = tt

    by : (o : Option ℕ) → o ≡ position p xs → IfSome o (λ k. k < length xs)
    by o e = subst (λ (q : Option ℕ). IfSome q (λ k. k < length xs)) (sym e) (short (ltb (position_or_len p xs) (length xs)) (position_or_len p xs) refl)
