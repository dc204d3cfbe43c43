-- What the marks of a pair tell, and the digest that marks make.
use Rattle.std.proofs.Common.{◌≡◌, ◌≢◌, ◌⊎◌, ℕ, ◌-◌, ◌/◌, ◌%◌, ◌≤◌, ◌==◌, ◌||◌, not, List, [], ◌∷◌, map, Bool, true, false, true≢false, refl, sym, ap, ◌∙◌, subst, ⊎_elim, inl, inr, arith, Ordering}
use Rattle.std.specs.Prelude.{Contains, cond, filter, nat_le}
use Rattle.std.specs.Int.{is_in_range}
use Rattle.std.specs.List.{flat_map}
use Rattle.std.specs.declared.cmp.Ordering.TheVariants.{Less, Equal}
use Rattle.std.proofs.lemmas.Bool.{and_parts, eqb-true, leb-true}
use Rattle.std.proofs.lemmas.Bool.Decides.{eqb_tells}
use Rattle.std.proofs.lemmas.Cmp.{tied_itself}
use Rattle.trace_types.specs.NameOrder.{pair_cmp}
use Rattle.digest_facts.specs.Coherence.{AreAmong, ArePairsOf}
use Rattle.digest_facts.specs.Digests.{Rises, TellsApart, union}
use Rattle.digest_facts.specs.Tables.{has, pair_byte}
use Rattle.digest_facts.proofs.ListLemmas.{from_flat, from_map, to_flat, to_map}
use Rattle.digest_facts.proofs.MergeLemmas.{pair_apart}
use Rattle.digest_facts.proofs.TableLemmas.{has_from, has_to}
use Rattle.digest_facts.proofs.UnionLemmas.{cons_cases, cons_here, cons_there, nil_has, union_has, union_rises}
use Rattle.digest_reading.specs.DigestRows.{is_name_mark, is_task_mark}

-- ---- a mark
-- some trace has both; the first order is refuted; the other is; mutual exclusion is
abbrev pub together_in : ℕ → Bool
together_in mark = not (mark == 46)

abbrev pub first_in : ℕ → Bool
first_in mark = (mark - 48) % 2 == 1

abbrev pub second_in : ℕ → Bool
second_in mark = (mark - 48) / 2 % 2 == 1

abbrev pub third_in : ℕ → Bool
third_in mark = (mark - 48) / 4 == 1

-- the marks of two names, one after another
pub data IsMark : ℕ → Type 0 where
  none : IsMark 46
  no_order : IsMark 48
  one_order : IsMark 49
  other_order : IsMark 50
  both_orders : IsMark 51
  all_three : IsMark 55

at_mark : (n m : ℕ) → n ≡ m → IsMark n → IsMark m
at_mark n m e h = subst IsMark e h

pub mark_cases : (m : ℕ) → is_name_mark m ≡ true → IsMark m
mark_cases m h = ⊎_elim
    (λ (e : (m == 46) ≡ true). at_mark 46 m (sym (eqb-true m 46 e)) none)
    (λ (e : (m == 46) ≡ false). ⊎_elim
    (λ (f : (m == 55) ≡ true). at_mark 55 m (sym (eqb-true m 55 f)) all_three)
    (λ (f : (m == 55) ≡ false). in_range (only m (m == 46) (is_in_range 48 51 m) (m == 55) e f h))
    (true_or_false (m == 55)))
    (true_or_false (m == 46))
  where
    true_or_false : (b : Bool) → (b ≡ true) ⊎ (b ≡ false)
    true_or_false true = inl refl
    true_or_false false = inr refl

    only : (n : ℕ) (a b c : Bool) → a ≡ false → c ≡ false → ((a || b) || c) ≡ true → b ≡ true
    only n true b c e f h = absurd (true≢false e)
    only n false b true e f h = absurd (true≢false f)
    only n false true false e f h = refl
    only n false false false e f h = absurd (true≢false (sym h))

    in_range : is_in_range 48 51 m ≡ true → IsMark m
    in_range r =
        let p = and_parts (nat_le 48 m) (nat_le m 51) r in
        let low : 48 ≤ m = leb-true 48 m p.0 in
        let high : m ≤ 51 = leb-true m 51 p.1 in
        ⊎_elim (λ (q : ((m == 48) ≡ true) × (m ≡ 48)). at_mark 48 m (sym q.1) no_order)
        (λ (q : ((m == 48) ≡ false) × (m ≢ 48)). ⊎_elim (λ (w : ((m == 49) ≡ true) × (m ≡ 49)). at_mark 49 m (sym w.1) one_order)
        (λ (w : ((m == 49) ≡ false) × (m ≢ 49)). ⊎_elim (λ (x : ((m == 50) ≡ true) × (m ≡ 50)). at_mark 50 m (sym x.1) other_order)
        (λ (x : ((m == 50) ≡ false) × (m ≢ 50)). at_mark 51 m (omega (arith, low, high, q.1, w.1, x.1)) both_orders)
        (eqb_tells m 50)) (eqb_tells m 49)) (eqb_tells m 48)

-- a mark says what it is made of
pub mark_back : (m : ℕ) → IsMark m → pair_byte (together_in m) (first_in m) (second_in m) (third_in m) ≡ m
mark_back m none = refl
mark_back m no_order = refl
mark_back m one_order = refl
mark_back m other_order = refl
mark_back m both_orders = refl
mark_back m all_three = refl

pub first_together : (m : ℕ) → IsMark m → first_in m ≡ true → together_in m ≡ true
first_together m none h = absurd (true≢false (sym h))
first_together m no_order h = refl
first_together m one_order h = refl
first_together m other_order h = refl
first_together m both_orders h = refl
first_together m all_three h = refl

pub second_together : (m : ℕ) → IsMark m → second_in m ≡ true → together_in m ≡ true
second_together m none h = absurd (true≢false (sym h))
second_together m no_order h = refl
second_together m one_order h = refl
second_together m other_order h = refl
second_together m both_orders h = refl
second_together m all_three h = refl

pub third_first : (m : ℕ) → IsMark m → third_in m ≡ true → first_in m ≡ true
third_first m none h = absurd (true≢false (sym h))
third_first m no_order h = absurd (true≢false (sym h))
third_first m one_order h = refl
third_first m other_order h = absurd (true≢false (sym h))
third_first m both_orders h = refl
third_first m all_three h = refl

pub third_second : (m : ℕ) → IsMark m → third_in m ≡ true → second_in m ≡ true
third_second m none h = absurd (true≢false (sym h))
third_second m no_order h = absurd (true≢false (sym h))
third_second m one_order h = absurd (true≢false (sym h))
third_second m other_order h = refl
third_second m both_orders h = refl
third_second m all_three h = refl

-- a mark of two tasks says nothing of mutual exclusion
pub task_third : (m : ℕ) → IsMark m → is_task_mark m ≡ true → third_in m ≡ false
task_third m none h = refl
task_third m no_order h = refl
task_third m one_order h = refl
task_third m other_order h = refl
task_third m both_orders h = refl
task_third m all_three h = absurd (true≢false (sym h))

-- ---- pairs that pass a test
kept_in : {X : Type 0} (p : X → Bool) (xs : List X) (x : X) → Contains (filter p xs) x → Contains xs x × (p x ≡ true)
kept_in p [] x c = absurd (nil_has x c)
kept_in {X} p (y ∷ ys) x c = by (p y) refl (kept_in p ys x) c
  where
    by : (b : Bool) → p y ≡ b → (Contains (filter p ys) x → Contains ys x × (p x ≡ true)) → Contains (cond b (y ∷ filter p ys) (filter p ys)) x → Contains (y ∷ ys) x × (p x ≡ true)
    by true e rest d = ⊎_elim
        (λ (q : y ≡ x). (subst (λ (v : X). Contains (y ∷ ys) v) q (cons_here y ys), sym (ap p q) ∙ e))
        (λ (q : Contains (filter p ys) x). (cons_there y ys x (rest q).0, (rest q).1))
        (cons_cases y (filter p ys) x d)
    by false e rest d = (cons_there y ys x (rest d).0, (rest d).1)

kept_has : {X : Type 0} (p : X → Bool) (xs : List X) (x : X) → Contains xs x → p x ≡ true → Contains (filter p xs) x
kept_has p [] x c h = absurd (nil_has x c)
kept_has {X} p (y ∷ ys) x c h = by (p y) refl (λ d. kept_has p ys x d h) (cons_cases y ys x c)
  where
    by : (b : Bool) → p y ≡ b → (Contains ys x → Contains (filter p ys) x) → (y ≡ x) ⊎ Contains ys x → Contains (cond b (y ∷ filter p ys) (filter p ys)) x
    by true e rest s = ⊎_elim
        (λ (q : y ≡ x). subst (λ (v : X). Contains (y ∷ filter p ys) v) q (cons_here y (filter p ys)))
        (λ (q : Contains ys x). cons_there y (filter p ys) x (rest q))
        s
    by false e rest s = ⊎_elim
        (λ (q : y ≡ x). absurd (true≢false (sym (ap p q ∙ h) ∙ e)))
        (λ (q : Contains ys x). rest q)
        s

-- all pairs of elements
abbrev all_pairs : {X : Type 0} → List X → List (X × X)
all_pairs {X} xs = flat_map (λ (a : X). map (λ (b : X). (a, b)) xs) xs

pair_of : {X : Type 0} (xs : List X) (a b : X) → Contains xs a → Contains xs b → Contains (all_pairs xs) (a, b)
pair_of {X} xs a b c d = to_flat (λ (x : X). map (λ (y : X). (x, y)) xs) xs a (a, b) c (to_map (λ (y : X). (a, y)) xs b d)

in_pair : {X : Type 0} (xs : List X) (a b : X) → Contains (all_pairs xs) (a, b) → Contains xs a × Contains xs b
in_pair {X} xs a b c =
    let r = from_flat (λ (x : X). map (λ (y : X). (x, y)) xs) xs (a, b) c in
    let q = from_map (λ (y : X). (r.0, y)) xs (a, b) r.2 in
    let first : r.0 ≡ a = ap (λ (p : X × X). p.0) q.2 in
    let second : q.0 ≡ b = ap (λ (p : X × X). p.1) q.2 in
    (subst (λ (v : X). Contains xs v) first r.1, subst (λ (v : X). Contains xs v) second q.1)

or_cases : (a b : Bool) → (a || b) ≡ true → (a ≡ true) ⊎ (b ≡ true)
or_cases true b h = inl refl
or_cases false b h = inr h

or_left : (a b : Bool) → a ≡ true → (a || b) ≡ true
or_left a b h = rw h refl

or_right : (a b : Bool) → b ≡ true → (a || b) ≡ true
or_right true b h = refl
or_right false b h = h

or_nothing : (b : Bool) → (b || false) ≡ b
or_nothing true = refl
or_nothing false = refl

same_test : (a b : Bool) → (a ≡ true → b ≡ true) → (b ≡ true → a ≡ true) → a ≡ b
same_test true b f g = sym (f refl)
same_test false true f g = g refl
same_test false false f g = refl

module _ {X : Type 0} (cmp : X → X → Ordering) (o : TellsApart cmp) (listed : List X) (f : X → X → ℕ) where
  -- the pair passes by its mark, or the turned pair does by its own
  abbrev pub says : (ℕ → Bool) → (ℕ → Bool) → X → X → Bool
  says p q a b = p (f a b) || q (f b a)

  -- all pairs of listed elements that pass, rising
  abbrev pub pairs_by : (ℕ → Bool) → (ℕ → Bool) → List (X × X)
  pairs_by p q = union (pair_cmp cmp) (filter (λ (x : X × X). says p q x.0 x.1) (all_pairs listed)) []

  pub pairs_rise : (p q : ℕ → Bool) → Rises (pair_cmp cmp) (pairs_by p q)
  pairs_rise p q = union_rises (pair_cmp cmp) (pair_apart cmp o) (filter (λ (x : X × X). says p q x.0 x.1) (all_pairs listed)) [] (λ i j d lt within. absurd (omega arith))

  pub pair_to : (p q : ℕ → Bool) (a b : X) → Contains (pairs_by p q) (a, b) → Contains listed a × Contains listed b × (says p q a b ≡ true)
  pair_to p q a b c =
      let test : X × X → Bool = λ x. says p q x.0 x.1 in
      let there : Contains (filter test (all_pairs listed)) (a, b) = ⊎_elim (λ (k : Contains (filter test (all_pairs listed)) (a, b)). k) (λ (k : Contains [] (a, b)). absurd (nil_has (a, b) k)) ((union_has (pair_cmp cmp) (pair_apart cmp o) (filter test (all_pairs listed)) [] (a, b)).0 c) in
      let k = kept_in test (all_pairs listed) (a, b) there in
      let both = in_pair listed a b k.0 in
      (both.0, both.1, k.1)

  pub pair_from : (p q : ℕ → Bool) (a b : X) → Contains listed a → Contains listed b → says p q a b ≡ true → Contains (pairs_by p q) (a, b)
  pair_from p q a b c d h =
      let test : X × X → Bool = λ x. says p q x.0 x.1 in
      (union_has (pair_cmp cmp) (pair_apart cmp o) (filter test (all_pairs listed)) [] (a, b)).1 (inl (kept_has test (all_pairs listed) (a, b) (pair_of listed a b c d) h))

  pub has_pair : (p q : ℕ → Bool) (a b : X) → Contains listed a → Contains listed b → has (pair_cmp cmp) (pairs_by p q) (a, b) ≡ says p q a b
  has_pair p q a b c d = same_test (has (pair_cmp cmp) (pairs_by p q) (a, b)) (says p q a b)
      (λ e. (pair_to p q a b (has_to (pair_cmp cmp) (pair_apart cmp o) (pairs_by p q) (a, b) e)).2)
      (λ e. has_from (pair_cmp cmp) (pair_apart cmp o) (pairs_by p q) (a, b) (pair_from p q a b c d e))

  -- a pair turned passes the tests turned
  pub pair_turned : (p : ℕ → Bool) (a b : X) → Contains (pairs_by p p) (a, b) → Contains (pairs_by p p) (b, a)
  pair_turned p a b c =
      let k = pair_to p p a b c in
      pair_from p p b a k.1 k.0 (⊎_elim (λ (h : p (f a b) ≡ true). or_right (p (f b a)) (p (f a b)) h) (λ (h : p (f b a) ≡ true). or_left (p (f b a)) (p (f a b)) h) (or_cases (p (f a b)) (p (f b a)) k.2))

  module _ (marks : (a b : X) → IsMark (f a b)) (late : (a b : X) → (cmp a b ≡ Less → ⊥) → f a b ≡ 46) where
    abbrev pub together : List (X × X)
    together = pairs_by together_in together_in

    abbrev pub before : List (X × X)
    before = pairs_by first_in second_in

    abbrev pub exclusive : List (X × X)
    exclusive = pairs_by third_in third_in

    itself : (a : X) → f a a ≡ 46
    itself a = late a a (λ e. let q : Less ≡ Equal = sym e ∙ tied_itself o.total a in cc)

    pub are_pairs : ArePairsOf listed together
    are_pairs = record {
      differ = λ a b c e.
          let k = pair_to together_in together_in a b c in
          let none : f a b ≡ 46 = ap (λ (v : X). f a v) (sym e) ∙ itself a in
          let turned : f b a ≡ 46 = ap (λ (v : X). f v a) (sym e) ∙ itself a in
          let nothing : says together_in together_in a b ≡ false = rw (none, turned) refl in
          true≢false (sym k.2 ∙ nothing);
      first = λ a b c. (pair_to together_in together_in a b c).0;
      second = λ a b c. (pair_to together_in together_in a b c).1;
      turned = λ a b c. pair_turned together_in a b c;
    }

    pub before_among : AreAmong before together
    before_among a b c =
        let k = pair_to first_in second_in a b c in
        pair_from together_in together_in a b k.0 k.1 (⊎_elim
        (λ (h : first_in (f a b) ≡ true). or_left (together_in (f a b)) (together_in (f b a)) (first_together (f a b) (marks a b) h))
        (λ (h : second_in (f b a) ≡ true). or_right (together_in (f a b)) (together_in (f b a)) (second_together (f b a) (marks b a) h))
        (or_cases (first_in (f a b)) (second_in (f b a)) k.2))

    pub exclusive_among : AreAmong exclusive before
    exclusive_among a b c =
        let k = pair_to third_in third_in a b c in
        pair_from first_in second_in a b k.0 k.1 (⊎_elim
        (λ (h : third_in (f a b) ≡ true). or_left (first_in (f a b)) (second_in (f b a)) (third_first (f a b) (marks a b) h))
        (λ (h : third_in (f b a) ≡ true). or_right (first_in (f a b)) (second_in (f b a)) (third_second (f b a) (marks b a) h))
        (or_cases (third_in (f a b)) (third_in (f b a)) k.2))

    -- the mark of a pair in order
    module _ (a b : X) (c : Contains listed a) (d : Contains listed b) (less : cmp a b ≡ Less) where
      turned_none : f b a ≡ 46
      turned_none = late b a (λ e.
          let z : cmp a a ≡ Less = o.total.trans a b a less e in
          let q : Less ≡ Equal = sym z ∙ tied_itself o.total a in
          cc)

      pub together_is : has (pair_cmp cmp) together (a, b) ≡ together_in (f a b)
      together_is = has_pair together_in together_in a b c d ∙ ap (λ (m : ℕ). together_in (f a b) || together_in m) turned_none ∙ or_nothing (together_in (f a b))

      pub before_is : has (pair_cmp cmp) before (a, b) ≡ first_in (f a b)
      before_is = has_pair first_in second_in a b c d ∙ ap (λ (m : ℕ). first_in (f a b) || second_in m) turned_none ∙ or_nothing (first_in (f a b))

      pub after_is : has (pair_cmp cmp) before (b, a) ≡ second_in (f a b)
      after_is = has_pair first_in second_in b a d c ∙ ap (λ (m : ℕ). first_in m || second_in (f a b)) turned_none

      pub exclusive_is : has (pair_cmp cmp) exclusive (a, b) ≡ third_in (f a b)
      exclusive_is = has_pair third_in third_in a b c d ∙ ap (λ (m : ℕ). third_in (f a b) || third_in m) turned_none ∙ or_nothing (third_in (f a b))

      pub mark_is : pair_byte (has (pair_cmp cmp) together (a, b)) (has (pair_cmp cmp) before (a, b)) (has (pair_cmp cmp) before (b, a)) (has (pair_cmp cmp) exclusive (a, b)) ≡ f a b
      mark_is = (λ i. pair_byte (together_is i) (before_is i) (after_is i) (exclusive_is i)) ∙ mark_back (f a b) (marks a b)

      pub task_mark_is : is_task_mark (f a b) ≡ true → pair_byte (has (pair_cmp cmp) together (a, b)) (has (pair_cmp cmp) before (a, b)) (has (pair_cmp cmp) before (b, a)) false ≡ f a b
      task_mark_is h = (λ i. pair_byte (together_is i) (before_is i) (after_is i) (sym (task_third (f a b) (marks a b) h) i)) ∙ mark_back (f a b) (marks a b)
