-- Groups of equal elements, as one element is added after another.
use Rattle.std.proofs.Common.{◌≡◌, ◌≢◌, ℕ, ◌+◌, ◌<◌, ◌≤◌, List, [], ◌∷◌, ◌++◌, Bool, true, false, not, cond, eqb, filter, length, get_or, map, take, Option, Some, None, slice_get, ap, refl, sym, subst, ◌∙◌, arith, true≢false, append-nil}
use Rattle.std.specs.Prelude.{count_by, if◌then◌else◌, IfSome}
use Rattle.std.specs.Cmp.{IsEquivalence}
use Rattle.std.specs.List.{list_any, position_or_len}
use Rattle.std.proofs.lemmas.Bool.{eqb-true, ne_eqb}
use Rattle.std.proofs.lemmas.List.{length-take-le, map-append, take_all, take_more}
use Rattle.std.proofs.lemmas.List.Elements.{filter-append}
use Rattle.std.proofs.lemmas.List.Sums.{count_by-le-length, sum_by-cons, sum_by_push}
use Rattle.std.proofs.lemmas.Option.{same_Some, slice_get-get_or}
use Rattle.indexmap.specs.IndexMap.{IndexMap, get, keys}
use Rattle.indexmap.specs.IndexSet.{insert_key}
use Rattle.trace_types.specs.Firsts.{firsts_of}
use Rattle.alike_groups.specs.Groups.{group_of, groups_of}
use Rattle.alike_groups.specs.declared.group.Group.{Group}
use Rattle.alike_groups.specs.inner.Grouping.{AreGrouped, group_if, group_with}

-- ---- the first that passes, and how many do

none_first : {X : Type 0} (p : X → Bool) (xs : List X) → count_by p xs ≡ 0 → position_or_len p xs ≡ length xs
none_first p [] e = refl
none_first p (x ∷ xs) e = by (p x) refl (sum_by-cons (λ y. cond (p y) 1 0) x xs) (none_first p xs)
  where
    by : (b : Bool) → p x ≡ b → count_by p (x ∷ xs) ≡ cond (p x) 1 0 + count_by p xs → (count_by p xs ≡ 0 → position_or_len p xs ≡ length xs) → position_or_len p (x ∷ xs) ≡ length (x ∷ xs)
    by true h s rest = let one : ◌≡◌ {A = ℕ} (cond (p x) 1 0) 1 = ap (λ c. cond c 1 0) h in absurd (omega (arith, e, s, one))
    by false h s rest =
        let no : ◌≡◌ {A = ℕ} (cond (p x) 1 0) 0 = ap (λ c. cond c 1 0) h in
        let zero : count_by p xs ≡ 0 = omega (arith, e, s, no) in
        let same : position_or_len p xs ≡ length xs = rest zero in
        ap (λ c. cond (not c) (1 + position_or_len p xs) 0) h ∙ omega (arith, same)

first_yes : {X : Type 0} (p : X → Bool) (ys : List X) (x : X) → p x ≡ true → position_or_len p (ys ++ x ∷ []) ≡ position_or_len p ys
first_yes p [] x h = ap (λ c. cond (not c) 1 0) h
first_yes p (y ∷ ys) x h = ap (λ n. cond (not (p y)) (1 + n) 0) (first_yes p ys x h)

first_kept : {X : Type 0} (p : X → Bool) (ys : List X) (x : X) → count_by p ys ≢ 0 → position_or_len p (ys ++ x ∷ []) ≡ position_or_len p ys
first_kept p [] x some = absurd (some refl)
first_kept p (y ∷ ys) x some = by (p y) refl (sum_by-cons (λ z. cond (p z) 1 0) y ys) (first_kept p ys x)
  where
    by : (b : Bool) → p y ≡ b → count_by p (y ∷ ys) ≡ cond (p y) 1 0 + count_by p ys → (count_by p ys ≢ 0 → position_or_len p (ys ++ x ∷ []) ≡ position_or_len p ys) → position_or_len p ((y ∷ ys) ++ x ∷ []) ≡ position_or_len p (y ∷ ys)
    by true h s rest = ap (λ c. cond (not c) (1 + position_or_len p (ys ++ x ∷ [])) 0) h ∙ sym (ap (λ c. cond (not c) (1 + position_or_len p ys) 0) h)
    by false h s rest =
        let no : ◌≡◌ {A = ℕ} (cond (p y) 1 0) 0 = ap (λ c. cond c 1 0) h in
        ap (λ n. cond (not (p y)) (1 + n) 0) (rest (λ zero. some (omega (arith, s, no, zero))))

-- ---- the group of what passes

abbrev pub group_by : {X : Type 0} → (X → Bool) → List X → Option Group
group_by p xs = if eqb (count_by p xs) 0 then None else Some (record { first = position_or_len p xs; count = count_by p xs })

module _ {X : Type 0} (p : X → Bool) (ys : List X) (x : X) where
  push_yes : p x ≡ true → Some (group_with (group_by p ys) (length ys)) ≡ group_by p (ys ++ x ∷ [])
  push_yes h = by (eqb (count_by p ys) 0) refl ∙ sym whole
    where
      counted : count_by p (ys ++ x ∷ []) ≡ count_by p ys + 1
      counted = sum_by_push (λ y. cond (p y) 1 0) ys x ∙ ap (λ b. count_by p ys + cond b 1 0) h

      whole : group_by p (ys ++ x ∷ []) ≡ Some (record { first = position_or_len p ys; count = count_by p ys + 1 })
      whole =
          ap (λ b. if b then None else Some (record { first = position_or_len p (ys ++ x ∷ []); count = count_by p (ys ++ x ∷ []) })) (ne_eqb (count_by p (ys ++ x ∷ [])) 0 (λ e. omega (arith, e, counted)))
          ∙ ap (λ (n : ℕ). Some (record { first = n; count = count_by p (ys ++ x ∷ []) })) (first_yes p ys x h)
          ∙ ap (λ (n : ℕ). Some (record { first = position_or_len p ys; count = n })) counted

      by : (b : Bool) → eqb (count_by p ys) 0 ≡ b → Some (group_with (group_by p ys) (length ys)) ≡ Some (record { first = position_or_len p ys; count = count_by p ys + 1 })
      by true e =
          let zero = eqb-true (count_by p ys) 0 e in
          ap (λ b. Some (group_with (if b then None else Some (record { first = position_or_len p ys; count = count_by p ys })) (length ys))) e
          ∙ ap (λ (n : ℕ). Some (record { first = n; count = 1 })) (sym (none_first p ys zero))
          ∙ ap (λ (n : ℕ). Some (record { first = position_or_len p ys; count = n })) (omega (arith, zero))
      by false e = ap (λ b. Some (group_with (if b then None else Some (record { first = position_or_len p ys; count = count_by p ys })) (length ys))) e

  push_no : p x ≡ false → group_by p ys ≡ group_by p (ys ++ x ∷ [])
  push_no h = by (eqb (count_by p ys) 0) refl
    where
      counted : count_by p (ys ++ x ∷ []) ≡ count_by p ys
      counted = let s : count_by p (ys ++ x ∷ []) ≡ count_by p ys + 0 = sum_by_push (λ y. cond (p y) 1 0) ys x ∙ ap (λ b. count_by p ys + cond b 1 0) h in omega (arith, s)

      by : (b : Bool) → eqb (count_by p ys) 0 ≡ b → group_by p ys ≡ group_by p (ys ++ x ∷ [])
      by true e =
          ap (λ b. if b then None else Some (record { first = position_or_len p ys; count = count_by p ys })) e
          ∙ sym (ap (λ b. if b then None else Some (record { first = position_or_len p (ys ++ x ∷ []); count = count_by p (ys ++ x ∷ []) })) (ap (λ n. eqb n 0) counted ∙ e))
      by false e =
          let some : count_by p ys ≢ 0 = λ zero. true≢false (sym (ap (λ n. eqb n 0) zero) ∙ e) in
          ap (λ (n : ℕ). if eqb n 0 then None else Some (record { first = position_or_len p ys; count = n })) (sym counted)
          ∙ ap (λ (n : ℕ). if eqb (count_by p (ys ++ x ∷ [])) 0 then None else Some (record { first = n; count = count_by p (ys ++ x ∷ []) })) (sym (first_kept p ys x some))

-- a filter that loses none that passes p leaves whether some passes p
any-filter : {X : Type 0} (p q : X → Bool) → ((z : X) → p z ≡ true → q z ≡ true) → (xs : List X) → list_any p (filter q xs) ≡ list_any p xs
any-filter p q keeps [] = refl
any-filter p q keeps (x ∷ xs) = by (q x) (p x) refl refl (any-filter p q keeps xs)
  where
    by : (b c : Bool) → q x ≡ b → p x ≡ c → list_any p (filter q xs) ≡ list_any p xs → list_any p (filter q (x ∷ xs)) ≡ list_any p (x ∷ xs)
    by true c e f rest = rw (e, rest) refl
    by false true e f rest = absurd (true≢false (sym (keeps x f) ∙ e))
    by false false e f rest = rw (e, f, rest) refl

module _ {K : Type 0} (same : K → K → Bool) (laws : IsEquivalence same) where
  -- the order of first sight with one more at the end
  firsts-push : (xs : List K) (x : K) → firsts_of same (xs ++ x ∷ []) ≡ insert_key same (firsts_of same xs) x
  firsts-push [] x = refl
  firsts-push (y ∷ ys) x = by (same x y) (list_any (same x) (firsts_of same ys)) refl refl (firsts-push ys x)
    where
      keeps : same x y ≡ false → (z : K) → same x z ≡ true → not (same y z) ≡ true
      keeps e z h = ap not (laws.symm y z ∙ sym (laws.congr x z y h) ∙ e)

      by : (b c : Bool) → same x y ≡ b → list_any (same x) (firsts_of same ys) ≡ c → firsts_of same (ys ++ x ∷ []) ≡ insert_key same (firsts_of same ys) x
          → firsts_of same ((y ∷ ys) ++ x ∷ []) ≡ insert_key same (firsts_of same (y ∷ ys)) x
      by true true e f r = rw (r, f, e) refl
      by true false e f r = let g : same y x ≡ true = laws.symm y x ∙ e in
          rw (r, f, e, filter-append (λ z. not (same y z)) (firsts_of same ys) (x ∷ []), g, append-nil (filter (λ z. not (same y z)) (firsts_of same ys))) refl
      by false true e f r = let a = any-filter (same x) (λ z. not (same y z)) (keeps e) (firsts_of same ys) in rw (r, f, e, a, f) refl
      by false false e f r = let g : same y x ≡ false = laws.symm y x ∙ e in let a = any-filter (same x) (λ z. not (same y z)) (keeps e) (firsts_of same ys) in
          rw (r, f, e, a, f, filter-append (λ z. not (same y z)) (firsts_of same ys) (x ∷ []), g) refl

  grown : (ys : List K) (x k : K) → cond (same x k) (Some (group_with (group_if same ys x) (length ys))) (group_if same ys k) ≡ group_if same (ys ++ x ∷ []) k
  grown ys x k = by (same x k) refl
    where
      by : (b : Bool) → same x k ≡ b → cond (same x k) (Some (group_with (group_if same ys x) (length ys))) (group_if same ys k) ≡ group_if same (ys ++ x ∷ []) k
      by true e =
          ap (λ b. cond b (Some (group_with (group_if same ys x) (length ys))) (group_if same ys k)) e
          ∙ ap (λ (p : K → Bool). Some (group_with (group_by p ys) (length ys))) (λ i z. laws.congr x k z e i)
          ∙ push_yes (same k) ys x (laws.symm k x ∙ e)
      by false e =
          ap (λ b. cond b (Some (group_with (group_if same ys x) (length ys))) (group_if same ys k)) e
          ∙ push_no (same k) ys x (laws.symm k x ∙ e)

  pub grouped_more : {S : Type 0} (xs : List K) (i : ℕ) (d x : K) (old new : IndexMap K Group S) → i < length xs → x ≡ get_or xs i d → AreGrouped same (take i xs) old
      → ((k : K) → get same new k ≡ cond (same x k) (Some (group_with (get same old x) i)) (get same old k)) → keys new ≡ insert_key same (keys old) x → AreGrouped same (take (i + 1) xs) new
  grouped_more xs i d x old new lt is h each keys_are =
      let next : take i xs ++ x ∷ [] ≡ take (i + 1) xs = ap (λ (y : K). take i xs ++ y ∷ []) is ∙ sym (take_more xs i d lt) in
      let long : i ≡ length (take i xs) = sym (length-take-le i xs (omega (arith, lt))) in
      record {
        keys_are = keys_are ∙ ap (λ ks. insert_key same ks x) h.keys_are ∙ sym (firsts-push (take i xs) x) ∙ ap (firsts_of same) next;
        each = λ k.
            each k
            ∙ ap (λ (o : Option Group). cond (same x k) (Some (group_with o i)) (get same old k)) (h.each x)
            ∙ ap (λ (o : Option Group). cond (same x k) (Some (group_with (group_if same (take i xs) x) i)) o) (h.each k)
            ∙ ap (λ (n : ℕ). cond (same x k) (Some (group_with (group_if same (take i xs) x) n)) (group_if same (take i xs) k)) long
            ∙ grown (take i xs) x k
            ∙ ap (λ zs. group_if same zs k) next;
      }

  pub grouped_all : {S : Type 0} (xs : List K) (i : ℕ) (groups : IndexMap K Group S) → length xs ≤ i → AreGrouped same (take i xs) groups → AreGrouped same xs groups
  grouped_all xs i groups ge h = subst (λ ys. AreGrouped same ys groups) (take_all i xs ge) h

  -- no group has more elements than there are
  pub grouped_few : {S : Type 0} (xs : List K) (i : ℕ) (groups : IndexMap K Group S) (x : K) → i ≤ length xs → AreGrouped same (take i xs) groups → IfSome (get same groups x) (λ g. g.count ≤ i)
  grouped_few xs i groups x le h = subst (λ (o : Option Group). IfSome o (λ g. g.count ≤ i)) (sym (h.each x)) (by (eqb (count_by (same x) (take i xs)) 0))
    where
      by : (b : Bool) → IfSome (if b then None else Some (group_of same (take i xs) x)) (λ (g : Group). g.count ≤ i)
      by true = tt
      by false = omega (arith, count_by-le-length (same x) (take i xs), length-take-le i xs le)

  value_is : (b : Bool) (g h : Group) → Some g ≡ (if b then None else Some h) → g ≡ h
  value_is true g h e = absurd (let n : None ≡ Some g = sym e in cc)
  value_is false g h e = same_Some g h e

  element : {X : Type 0} (xs : List X) (i : ℕ) → i < length xs → X
  element [] i lt = absurd (omega (arith, lt))
  element (x ∷ xs) i lt = x

  pub listed_more : {S : Type 0} (xs : List K) (groups : IndexMap K Group S) (i : ℕ) (g : Group) → i < length (keys groups) → AreGrouped same xs groups → ((k : K) → slice_get (keys groups) i ≡ Some k → get same groups k ≡ Some g)
      → map (group_of same xs) (take i (keys groups)) ++ g ∷ [] ≡ map (group_of same xs) (take (i + 1) (keys groups))
  listed_more xs groups i g lt h at =
      let d = element (keys groups) i lt in
      let k = get_or (keys groups) i d in
      let is : g ≡ group_of same xs k = value_is (eqb (count_by (same k) xs) 0) g (group_of same xs k) (sym (at k (slice_get-get_or (keys groups) i d lt)) ∙ h.each k) in
      ap (λ (y : Group). map (group_of same xs) (take i (keys groups)) ++ y ∷ []) is
      ∙ sym (map-append (group_of same xs) (take i (keys groups)) (k ∷ []))
      ∙ sym (ap (map (group_of same xs)) (take_more (keys groups) i d lt))

  pub listed_all : {S : Type 0} (xs : List K) (groups : IndexMap K Group S) (i : ℕ) → length (keys groups) ≤ i → AreGrouped same xs groups → map (group_of same xs) (take i (keys groups)) ≡ groups_of same xs
  listed_all xs groups i ge h = ap (map (group_of same xs)) (take_all i (keys groups) ge ∙ h.keys_are)
