-- Days in the leaves of a tree: one extended, one new, one dropped.
use Rattle.std.proofs.Common.{◌≡◌, ◌≢◌, ℕ, zero, suc, ◌+◌, ◌-◌, ◌<◌, ◌≤◌, inl, inr, cond, List, [], ◌∷◌, ◌++◌, length, get_or, set, take, drop, insert, remove, Option, Some, None, IsNone, is_some, IsSome, unwrap_or, All, AllPairs, Any, refl, sym, ap, ◌∙◌, subst, arith, length-set}
use Rattle.std.proofs.lemmas.Bool.{cases_eq, cases_lt, false≢true, true≢false}
use Rattle.std.proofs.lemmas.List.{get_or-set_same, get_or-set_other, get_or_default, take-append-drop, drop_more}
use Rattle.std.proofs.lemmas.List.Edits.{length-insert, length-remove, get_or-remove_below, get_or-remove_above}
use Rattle.std.proofs.lemmas.List.Elements.{All-cons, All-append, All-take, All-drop, All-head, All-tail}
use Rattle.std.proofs.lemmas.List.Quantifiers.{all_pairs_remove}
use Rattle.std.proofs.lemmas.List.Sums.{sum_by-set}
use Rattle.trace_types.specs.declared.named_trace.NamedTrace.{NamedTrace}
use Rattle.day_partitions.specs.inner.Trees.{TreeState, tree, IsMissing, IsMetLeaf, leaf_words}
use Rattle.pipeline_tests.specs.DayLaws.{CommonLacks}
use Rattle.refute_tests.specs.Survivors.{LackRefuted}
use Rattle.day_partitions.specs.inner.Slots.{HasLeaf, AreInSlots}
use Rattle.day_partitions.specs.declared.day.Day.{Day}
use Rattle.day_partitions.proofs.AnyLemmas.{any_head, any_tail, any_left, any_right, any_either, any_cases}
use Rattle.day_partitions.proofs.DayLemmas.{pairs_nil, pairs_cons, pairs_head, pairs_tail}

abbrev weight : Option (List ℕ) → ℕ
weight o = cond (is_some o) 1 0

some_weight : (o : Option (List ℕ)) → IsSome o → weight o ≡ 1
some_weight o h = ap (λ b. cond b 1 0) h

none_is : (o : Option (List ℕ)) → IsNone o → o ≡ None
none_is None h = refl
none_is (Some x) h = absurd (true≢false h)

some_same : (x y : List ℕ) → Some x ≡ Some y → x ≡ y
some_same x y e = ap (λ o. unwrap_or o []) e

-- ---- pairs of lists that follow one another
module _ {X : Type 0} (R : X → X → Type 0) where
  pub pairs_append : (xs ys : List X) → AllPairs R xs → AllPairs R ys → All (λ x. All (R x) ys) xs → AllPairs R (xs ++ ys)
  pairs_append [] ys p q h = q
  pairs_append (x ∷ xs) ys p q h =
      pairs_cons R x (xs ++ ys) (All-append (R x) xs ys (pairs_head R x xs p) (All-head (λ z. All (R z) ys) x xs h))
      (pairs_append xs ys (pairs_tail R x xs p) q (All-tail (λ z. All (R z) ys) x xs h))

  pub pairs_take : (n : ℕ) (xs : List X) → AllPairs R xs → AllPairs R (take n xs)
  pairs_take zero xs p = pairs_nil R
  pairs_take (suc n) [] p = p
  pairs_take (suc n) (x ∷ xs) p = pairs_cons R x (take n xs) (All-take (R x) n xs (pairs_head R x xs p)) (pairs_take n xs (pairs_tail R x xs p))

  pub pairs_drop : (n : ℕ) (xs : List X) → AllPairs R xs → AllPairs R (drop n xs)
  pairs_drop zero xs p = p
  pairs_drop (suc n) [] p = p
  pairs_drop (suc n) (x ∷ xs) p = pairs_drop n xs (pairs_tail R x xs p)

  pairs_split : (n : ℕ) (xs : List X) → AllPairs R xs → All (λ x. All (R x) (drop n xs)) (take n xs)
  pairs_split zero xs p = λ k d l. absurd (omega arith)
  pairs_split (suc n) [] p = λ k d l. absurd (omega arith)
  pairs_split (suc n) (x ∷ xs) p = All-cons (λ z. All (R z) (drop n xs)) x (take n xs) (All-drop (R x) n xs (pairs_head R x xs p)) (pairs_split n xs (pairs_tail R x xs p))

  pub pairs_insert : (n : ℕ) (y : X) (xs : List X) → AllPairs R xs → All (λ x. R x y) xs → All (R y) xs → AllPairs R (insert xs n y)
  pairs_insert n y xs p before after =
      pairs_append (take n xs) (y ∷ drop n xs) (pairs_take n xs p) (pairs_cons R y (drop n xs) (All-drop (R y) n xs after) (pairs_drop n xs p))
      (λ k d l. All-cons (R (get_or (take n xs) k d)) y (drop n xs) (All-take (λ x. R x y) n xs before k d l) (pairs_split n xs p k d l))

pub all_insert : {X : Type 0} (P : X → Type 0) (n : ℕ) (y : X) (xs : List X) → All P xs → P y → All P (insert xs n y)
all_insert P n y xs h new = All-append P (take n xs) (y ∷ drop n xs) (All-take P n xs h) (All-cons P y (drop n xs) new (All-drop P n xs h))

pub all_remove : {X : Type 0} (P : X → Type 0) (n : ℕ) (xs : List X) → All P xs → All P (remove xs n)
all_remove P n xs h = All-append P (take n xs) (drop (suc n) xs) (All-take P n xs h) (All-drop P (suc n) xs h)

pub any_insert : {X : Type 0} (P : X → Type 0) (n : ℕ) (y : X) (xs : List X) → Any P xs → Any P (insert xs n y)
any_insert P n y xs h = elim (any_either P (take n xs) (drop n xs) (subst (λ l. Any P l) (sym (take-append-drop n xs)) h)) [
  | inl a ↦ any_left P (take n xs) (y ∷ drop n xs) a
  | inr b ↦ any_right P (take n xs) (y ∷ drop n xs) (any_tail P y (drop n xs) b)
]

pub any_inserted : {X : Type 0} (P : X → Type 0) (n : ℕ) (y : X) (xs : List X) → P y → Any P (insert xs n y)
any_inserted P n y xs h = any_right P (take n xs) (y ∷ drop n xs) (any_head P y (drop n xs) h)

-- what holds of some element, and not of the removed one
pub any_remove : {X : Type 0} (P : X → Type 0) (n : ℕ) (xs : List X) (d : X) → n < length xs → (P (get_or xs n d) → ⊥) → Any P xs → Any P (remove xs n)
any_remove P n xs d within not_it h =
    let split : drop n xs ≡ get_or xs n d ∷ drop (suc n) xs = drop_more xs n d within ∙ (let e : n + 1 ≡ suc n = omega arith in ap (λ i. get_or xs n d ∷ drop i xs) e) in
    elim (any_either P (take n xs) (drop n xs) (subst (λ l. Any P l) (sym (take-append-drop n xs)) h)) [
      | inl a ↦ any_left P (take n xs) (drop (suc n) xs) a
      | inr b ↦ elim (any_cases P (get_or xs n d) (drop (suc n) xs) (subst (λ l. Any P l) split b)) [
        | inl it ↦ absurd (not_it it)
        | inr c ↦ any_right P (take n xs) (drop (suc n) xs) c
      ]
    ]

abbrev SlotsDiffer : Day → Day → Type 0
SlotsDiffer d e = d.slot ≢ e.slot

-- ---- a leaf that no change touches
leaf_other : (t : TreeState) (slot : ℕ) (o : Option (List ℕ)) (w s : ℕ) (d : Day) → w ≡ t.width → d.slot ≢ slot → HasLeaf t d → HasLeaf (tree w (set t.leaves slot o) s) d
leaf_other t slot o w s d ew other h =
    let same : get_or (set t.leaves slot o) d.slot None ≡ get_or t.leaves d.slot None = get_or-set_other t.leaves slot d.slot o None other in
    let words : leaf_words (set t.leaves slot o) d.slot ≡ leaf_words t.leaves d.slot = ap (λ x. unwrap_or x []) same in
    record {
      slot = h.slot;
      there = subst (λ x. IsSome x) (sym same) h.there;
      width = ap length words ∙ h.width ∙ sym ew;
      bits = subst (λ ws. LackRefuted d.traces.items ws) (sym words) h.bits;
    }

-- ---- a day is extended
pub slots_extended : CommonLacks → (t u : TreeState) (ds es : List Day) (k : ℕ) (d now : Day) (ts : List NamedTrace) (words : List ℕ) → AreInSlots t ds → k < length ds → ((e : Day) → d ≡ get_or ds k e) → length words ≡ t.width → LackRefuted ts words → IsMetLeaf t d.slot words u → es ≡ set ds k now → now.slot ≡ d.slot → now.traces.items ≡ d.traces.items ++ ts → AreInSlots u es
slots_extended common t u ds es k d now ts words s within at wide lack met is slot_is traces_are =
    let old : HasLeaf t d = subst (λ x. HasLeaf t x) (sym (at d)) (s.kept k d within) in
    let w = leaf_words u.leaves d.slot in
    let v = tree t.width (set t.leaves d.slot (Some w)) t.spare in
    let inside : d.slot < length t.leaves = omega (arith, s.leaves, old.slot) in
    let slots : (i : ℕ) (e : Day) → (get_or (set ds k now) i e).slot ≡ (get_or ds i e).slot = λ i e. elim (cases_eq i k) [
      | inl here ↦ ap (λ j. (get_or (set ds k now) j e).slot) here ∙ ap (λ (x : Day). x.slot) (get_or-set_same ds k now e within) ∙ slot_is ∙ ap (λ (x : Day). x.slot) (at e) ∙ ap (λ j. (get_or ds j e).slot) (sym here)
      | inr there ↦ ap (λ (x : Day). x.slot) (get_or-set_other ds k i now e there)
    ] in
    let new : HasLeaf v now =
    let leaf : leaf_words (set t.leaves d.slot (Some w)) now.slot ≡ w = ap (λ i. leaf_words (set t.leaves d.slot (Some w)) i) slot_is ∙ ap (λ o. unwrap_or o []) (get_or-set_same t.leaves d.slot (Some w) None inside) in
    record {
      slot = subst (λ i. i < 64) (sym slot_is) old.slot;
      there = ap (λ i. is_some (get_or (set t.leaves d.slot (Some w)) i None)) slot_is ∙ ap is_some (get_or-set_same t.leaves d.slot (Some w) None inside);
      width = ap length leaf ∙ met.met.width ∙ old.width;
      bits = subst (λ ws. LackRefuted now.traces.items ws) (sym leaf) (subst (λ l. LackRefuted l w) (sym traces_are)
          (common d.traces.items ts (leaf_words t.leaves d.slot) words w old.bits lack (old.width ∙ sym wide) met.met));
    } in
    let done : AreInSlots v (set ds k now) = record {
      leaves = length-set t.leaves d.slot (Some w) ∙ s.leaves;
      kept = λ i e l. elim (cases_eq i k) [
        | inl here ↦ subst (λ x. HasLeaf v x) (sym (ap (λ j. get_or (set ds k now) j e) here ∙ get_or-set_same ds k now e within)) new
        | inr there ↦ subst (λ x. HasLeaf v x) (sym (get_or-set_other ds k i now e there))
            (leaf_other t d.slot (Some w) t.width t.spare (get_or ds i e) refl (apart_at ds i k e d (at e) there (omega (arith, length-set ds k now)) within s.apart) (s.kept i e (omega (arith, length-set ds k now))))
      ];
      apart = λ i j e l m same. s.apart i j e l (omega (arith, length-set ds k now)) (sym (slots i e) ∙ same ∙ slots j e);
      owned = λ i ws e. elim (cases_eq i d.slot) [
        | inl here ↦ (k, now, omega (arith, length-set ds k now), get_or-set_same ds k now now within, slot_is ∙ sym here)
        | inr there ↦
            let o = s.owned i ws (sym (get_or-set_other t.leaves d.slot i (Some w) None there) ∙ e) in
            let x = get_or (set ds k now) o.0 now in
            let size : o.0 < length (set ds k now) = omega (arith, o.2, length-set ds k now) in
            (o.0, x, size, get_or_default (set ds k now) o.0 x now size, slots o.0 now ∙ ap (λ (y : Day). y.slot) (get_or_default ds o.0 now o.1 o.2 ∙ o.3) ∙ o.4)
      ];
      counted =
          let c = sum_by-set weight t.leaves d.slot (Some w) None inside in
          let one = some_weight (get_or t.leaves d.slot None) old.there in
          omega (arith, c, one, s.counted, length-set ds k now);
    } in
    subst (λ l. AreInSlots u l) (sym is) (subst (λ x. AreInSlots x (set ds k now)) (sym met.others) done)
  where
    apart_at : (ds : List Day) (i k : ℕ) (e d : Day) → d ≡ get_or ds k e → i ≢ k → i < length ds → k < length ds → AllPairs SlotsDiffer ds → (get_or ds i e).slot ≢ d.slot
    apart_at ds i k e d at other li lk p = elim (cases_lt i k) [
      | inl low ↦ λ same. p i k e low lk (same ∙ ap (λ (x : Day). x.slot) at)
      | inr high ↦ λ same. p k i e (omega arith) li (sym (ap (λ (x : Day). x.slot) at) ∙ sym same)
    ]

-- ---- a new day
pub slots_inserted : (t u : TreeState) (ds es : List Day) (k : ℕ) (now : Day) (words : List ℕ) → AreInSlots t ds → k ≤ length ds → now.slot < 64 → IsMissing t.leaves now.slot → length words ≡ t.width → LackRefuted now.traces.items words → u ≡ tree t.width (set t.leaves now.slot (Some words)) (t.spare - 1) → es ≡ insert ds k now → AreInSlots u es
slots_inserted t u ds es k now words s within low gap wide lack is ies =
    let slot = now.slot in
    let v = tree t.width (set t.leaves slot (Some words)) (t.spare - 1) in
    let inside : slot < length t.leaves = omega (arith, s.leaves) in
    let none : get_or t.leaves slot None ≡ None = none_is _ gap in
    let differ : All (λ (e : Day). e.slot ≢ slot) ds = λ i e l same. false≢true (sym (ap is_some none) ∙ ap (λ j. is_some (get_or t.leaves j None)) (sym same) ∙ (s.kept i e l).there) in
    let at : get_or (set t.leaves slot (Some words)) slot None ≡ Some words = get_or-set_same t.leaves slot (Some words) None inside in
    let new : HasLeaf v now =
    let leaf : leaf_words (set t.leaves slot (Some words)) slot ≡ words = ap (λ o. unwrap_or o []) at in
    record { slot = low; there = ap is_some at; width = ap length leaf ∙ wide; bits = subst (λ ws. LackRefuted now.traces.items ws) (sym leaf) lack } in
    let done : AreInSlots v (insert ds k now) = record {
      leaves = length-set t.leaves slot (Some words) ∙ s.leaves;
      kept = all_insert (HasLeaf v) k now ds (λ i e l. leaf_other t slot (Some words) t.width (t.spare - 1) (get_or ds i e) refl (differ i e l) (s.kept i e l)) new;
      apart = pairs_insert SlotsDiffer k now ds s.apart differ (λ i e l same. differ i e l (sym same));
      owned = λ i ws e. elim (cases_eq i slot) [
        | inl here ↦ any_inserted (λ (d : Day). d.slot ≡ i) k now ds (sym here)
        | inr there ↦ any_insert (λ (d : Day). d.slot ≡ i) k now ds (s.owned i ws (sym (get_or-set_other t.leaves slot i (Some words) None there) ∙ e))
      ];
      counted =
          let c = sum_by-set weight t.leaves slot (Some words) None inside in
          let zero_was : weight (get_or t.leaves slot None) ≡ 0 = ap weight none in
          omega (arith, c, zero_was, s.counted, length-insert ds k now within);
    } in
    subst (λ l. AreInSlots u l) (sym ies) (subst (λ x. AreInSlots x (insert ds k now)) (sym is) done)

-- ---- a day is dropped
others_differ : (ds : List Day) (k : ℕ) (d : Day) → k < length ds → ((e : Day) → d ≡ get_or ds k e) → AllPairs SlotsDiffer ds → All (λ (e : Day). e.slot ≢ d.slot) (remove ds k)
others_differ ds k d within at p = λ i e l.
    let size = length-remove ds k within in
    elim (cases_lt i k) [
      | inl low ↦ λ same. p i k e low within (ap (λ (x : Day). x.slot) (sym (get_or-remove_below ds k e i low within)) ∙ same ∙ ap (λ (x : Day). x.slot) (at e))
      | inr high ↦ λ same. p k (i + 1) e (omega arith) (omega (arith, size)) (sym (ap (λ (x : Day). x.slot) (at e)) ∙ sym same ∙ ap (λ (x : Day). x.slot) (get_or-remove_above ds k e i high within))
    ]

pub slots_removed : (t u : TreeState) (ds es : List Day) (k : ℕ) (d : Day) → AreInSlots t ds → k < length ds → ((e : Day) → d ≡ get_or ds k e) → u ≡ tree t.width (set t.leaves d.slot None) (t.spare + 1) → es ≡ remove ds k → AreInSlots u es
slots_removed t u ds es k d s within at is ies =
    let slot = d.slot in
    let old : HasLeaf t d = subst (λ x. HasLeaf t x) (sym (at d)) (s.kept k d within) in
    let inside : slot < length t.leaves = omega (arith, s.leaves, old.slot) in
    let v = tree t.width (set t.leaves slot None) (t.spare + 1) in
    let gone : get_or (set t.leaves slot None) slot None ≡ None = get_or-set_same t.leaves slot None None inside in
    let differ = others_differ ds k d within at s.apart in
    let done : AreInSlots v (remove ds k) = record {
      leaves = length-set t.leaves slot None ∙ s.leaves;
      kept = λ i e l. leaf_other t slot None t.width (t.spare + 1) (get_or (remove ds k) i e) refl (differ i e l) (all_remove (HasLeaf t) k ds s.kept i e l);
      apart = all_pairs_remove SlotsDiffer ds k within s.apart;
      owned = λ i ws e.
          let there : i ≢ slot = (λ same. false≢true (sym (ap is_some gone) ∙ ap (λ j. is_some (get_or (set t.leaves slot None) j None)) (sym same) ∙ ap is_some e)) in
          any_remove (λ (x : Day). x.slot ≡ i) k ds d within (λ same. there (sym same ∙ ap (λ (x : Day). x.slot) (sym (at d)))) (s.owned i ws (sym (get_or-set_other t.leaves slot i None None there) ∙ e));
      counted =
          let c = sum_by-set weight t.leaves slot None None inside in
          let one = some_weight (get_or t.leaves slot None) old.there in
          omega (arith, c, one, s.counted, length-remove ds k within);
    } in
    subst (λ l. AreInSlots u l) (sym ies) (subst (λ x. AreInSlots x (remove ds k)) (sym is) done)
