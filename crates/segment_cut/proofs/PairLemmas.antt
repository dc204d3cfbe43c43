-- The pairs of adjacent keys of one task are the events that make a segment.
use Rattle.std.proofs.Common.{◌≡◌, ◌⊎◌, ℕ, zero, suc, ◌+◌, ◌<◌, ◌≤◌, ℤ, ◌<ℤ◌, Bool, true, false, cond, eqb, List, [], ◌∷◌, ◌++◌, length, get_or, drop, drop-cons, length-drop, append_assoc, append-nil, Contains, arith, refl, sym, ap, ◌∙◌, subst, ⊎_elim, inl, inr}
use Rattle.std.specs.List.{AllPairs}
use Rattle.std.proofs.lemmas.Bool.{cases_lt, false≢true}
use Rattle.std.proofs.lemmas.Bool.Decides.{Decides-eqb}
use Rattle.std.proofs.lemmas.List.{get_or_default}
use Rattle.std.proofs.lemmas.List.Elements.{All-from_get_or, Contains-get_or}
use Rattle.trace_types.specs.declared.event.Event.{Event}
use Rattle.trace_types.specs.Events.{task_at}
use Rattle.clock_offsets.specs.declared.first_events.Field.TheVariants.{Task}
use Rattle.clock_offsets.specs.FirstEvents.{AreFirstEvents}
use Rattle.trace_types.proofs.ComparingLemmas.{time_asym}
use Rattle.segment_cut.specs.AdjustedTimes.{adjusted_at}
use Rattle.segment_cut.specs.Neighbours.{IsEarlierTime, AreNeighbours, IsListedBefore, AreAllNeighbours}
use Rattle.segment_cut.specs.inner.Keys.{Key, no_key, key_at, IsKeyBefore, AreKeys, pairs_from, adjacent_pairs}

-- x is of the keys at p and after it, which are of one task
abbrev pub IsPairAt : List Key → ℕ → ℕ × ℕ → Type 0
IsPairAt keys p x = (suc p < length keys) × ((key_at keys p).0 ≡ (key_at keys (suc p)).0) × (x.0 ≡ (key_at keys p).2) × (x.1 ≡ (key_at keys (suc p)).2)

-- no two adjacent keys from p on and before q are of one task
abbrev pub NoneFrom : List Key → ℕ → ℕ → Type 0
NoneFrom keys p q = (m : ℕ) → p ≤ m → m < q → (key_at keys m).0 ≡ (key_at keys (suc m)).0 → ⊥

-- the pair at an index is of adjacent keys, the first of the first such keys
abbrev IsAt : List Key → List (ℕ × ℕ) → ℕ → Type 0
IsAt keys pairs i = (p : ℕ) × IsPairAt keys p (get_or pairs i (0, 0)) × (i ≡ 0 → NoneFrom keys 0 p)

-- the pairs at two indices are of adjacent keys in that order, the next of the next such keys
abbrev AreAt : List Key → List (ℕ × ℕ) → ℕ → ℕ → Type 0
AreAt keys pairs i j = (p : ℕ) × (q : ℕ) × (p < q) × IsPairAt keys p (get_or pairs i (0, 0)) × IsPairAt keys q (get_or pairs j (0, 0)) × (j ≡ suc i → NoneFrom keys (suc p) q)

-- the index of the pair of the keys at p
abbrev HasPair : List Key → List (ℕ × ℕ) → ℕ → Type 0
HasPair keys pairs p = (i : ℕ) × (i < length pairs) × IsPairAt keys p (get_or pairs i (0, 0))

shift : (a : Key) (keys : List Key) (p : ℕ) (x : ℕ × ℕ) → IsPairAt keys p x → IsPairAt (a ∷ keys) (suc p) x
shift a keys p x (within, task, start, end) = (omega arith, task, start, end)

-- no key before these is of the task of the next one
none_shift : (a : Key) (keys : List Key) (p q : ℕ) → NoneFrom keys p q → NoneFrom (a ∷ keys) (suc p) (suc q)
none_shift a keys p q none zero low high = absurd (omega arith)
none_shift a keys p q none (suc m) low high = none m (omega arith) (omega arith)

none_first : (a b : Key) (rest : List Key) (q : ℕ) → (a.0 ≡ b.0 → ⊥) → NoneFrom (b ∷ rest) 0 q → NoneFrom (a ∷ b ∷ rest) 0 (suc q)
none_first a b rest q apart none zero low high = apart
none_first a b rest q apart none (suc m) low high = none m (omega arith) (omega arith)

-- the pairs of a key and the later ones, where the first two keys are of one task or not
abbrev pairs_by : Bool → Key → Key → List Key → List (ℕ × ℕ)
pairs_by t a b rest = cond t ((a.2, b.2) ∷ []) [] ++ pairs_from b rest

here : (a b : Key) (rest : List Key) → a.0 ≡ b.0 → IsPairAt (a ∷ b ∷ rest) 0 (a.2, b.2)
here a b rest same = (omega arith, same, refl, refl)

at_by : (a b : Key) (rest : List Key) (t : Bool) → eqb a.0 b.0 ≡ t → ((i : ℕ) → i < length (pairs_from b rest) → IsAt (b ∷ rest) (pairs_from b rest) i) → (i : ℕ) → i < length (pairs_by t a b rest) → IsAt (a ∷ b ∷ rest) (pairs_by t a b rest) i
at_by a b rest true e later zero lt = (0, here a b rest ((Decides-eqb a.0 b.0).0 e), λ _ m low high. absurd (omega arith))
at_by a b rest true e later (suc i) lt = let r = later i (omega arith) in (suc r.0, shift a (b ∷ rest) r.0 (get_or (pairs_from b rest) i (0, 0)) r.1, λ z. absurd (omega arith))
at_by a b rest false e later i lt =
    let r = later i lt in
    (suc r.0, shift a (b ∷ rest) r.0 (get_or (pairs_from b rest) i (0, 0)) r.1, λ z. none_first a b rest r.0 (λ same. false≢true (sym e ∙ (Decides-eqb a.0 b.0).1 same)) (r.2 z))

at_of : (a : Key) (rest : List Key) (i : ℕ) → i < length (pairs_from a rest) → IsAt (a ∷ rest) (pairs_from a rest) i
at_of a [] i lt = absurd (omega arith)
at_of a (b ∷ rest) i lt = at_by a b rest (eqb a.0 b.0) refl (at_of b rest) i lt

order_by : (a b : Key) (rest : List Key) (t : Bool) → eqb a.0 b.0 ≡ t → ((i j : ℕ) → i < j → j < length (pairs_from b rest) → AreAt (b ∷ rest) (pairs_from b rest) i j)
    → (i j : ℕ) → i < j → j < length (pairs_by t a b rest) → AreAt (a ∷ b ∷ rest) (pairs_by t a b rest) i j
order_by a b rest true e later i zero lt within = absurd (omega arith)
order_by a b rest true e later zero (suc j) lt within =
    let r = at_of b rest j (omega arith) in
    (0, suc r.0, omega arith, here a b rest ((Decides-eqb a.0 b.0).0 e), shift a (b ∷ rest) r.0 (get_or (pairs_from b rest) j (0, 0)) r.1, λ z. none_shift a (b ∷ rest) 0 r.0 (r.2 (omega arith)))
order_by a b rest true e later (suc i) (suc j) lt within = let r = later i j (omega arith) (omega arith) in next a b rest i j (suc j ≡ suc (suc i)) (λ z. omega arith) r
  where
    next : (a b : Key) (rest : List Key) (i j : ℕ) (Z : Type 0) → (Z → j ≡ suc i) → AreAt (b ∷ rest) (pairs_from b rest) i j
        → (p : ℕ) × (q : ℕ) × (p < q) × IsPairAt (a ∷ b ∷ rest) p (get_or (pairs_from b rest) i (0, 0)) × IsPairAt (a ∷ b ∷ rest) q (get_or (pairs_from b rest) j (0, 0)) × (Z → NoneFrom (a ∷ b ∷ rest) (suc p) q)
    next a b rest i j Z z (p, q, low, at_p, at_q, none) =
        (suc p, suc q, omega arith, shift a (b ∷ rest) p (get_or (pairs_from b rest) i (0, 0)) at_p, shift a (b ∷ rest) q (get_or (pairs_from b rest) j (0, 0)) at_q, λ y. none_shift a (b ∷ rest) (suc p) q (none (z y)))
order_by a b rest false e later i j lt within =
    let r = later i j lt within in
    (suc r.0, suc r.1, (let low : r.0 < r.1 = r.2 in omega arith), shift a (b ∷ rest) r.0 (get_or (pairs_from b rest) i (0, 0)) r.3, shift a (b ∷ rest) r.1 (get_or (pairs_from b rest) j (0, 0)) r.4, λ z. none_shift a (b ∷ rest) (suc r.0) r.1 (r.5 z))

order_of : (a : Key) (rest : List Key) (i j : ℕ) → i < j → j < length (pairs_from a rest) → AreAt (a ∷ rest) (pairs_from a rest) i j
order_of a [] i j lt within = absurd (omega arith)
order_of a (b ∷ rest) i j lt within = order_by a b rest (eqb a.0 b.0) refl (order_of b rest) i j lt within

all_by : (a b : Key) (rest : List Key) (t : Bool) → eqb a.0 b.0 ≡ t → ((p : ℕ) → suc p < length (b ∷ rest) → (key_at (b ∷ rest) p).0 ≡ (key_at (b ∷ rest) (suc p)).0 → HasPair (b ∷ rest) (pairs_from b rest) p)
    → (p : ℕ) → suc p < length (a ∷ b ∷ rest) → (key_at (a ∷ b ∷ rest) p).0 ≡ (key_at (a ∷ b ∷ rest) (suc p)).0 → HasPair (a ∷ b ∷ rest) (pairs_by t a b rest) p
all_by a b rest true e later zero within same = (0, omega arith, here a b rest same)
all_by a b rest true e later (suc p) within same = let r = later p (omega arith) same in (suc r.0, (let low : r.0 < length (pairs_from b rest) = r.1 in omega arith), shift a (b ∷ rest) p (get_or (pairs_from b rest) r.0 (0, 0)) r.2)
all_by a b rest false e later zero within same = absurd (false≢true (sym e ∙ (Decides-eqb a.0 b.0).1 same))
all_by a b rest false e later (suc p) within same = let r = later p (omega arith) same in (r.0, r.1, shift a (b ∷ rest) p (get_or (pairs_from b rest) r.0 (0, 0)) r.2)

all_of : (a : Key) (rest : List Key) (p : ℕ) → suc p < length (a ∷ rest) → (key_at (a ∷ rest) p).0 ≡ (key_at (a ∷ rest) (suc p)).0 → HasPair (a ∷ rest) (pairs_from a rest) p
all_of a [] p within same = absurd (omega arith)
all_of a (b ∷ rest) p within same = all_by a b rest (eqb a.0 b.0) refl (all_of b rest) p within same

few_by : (t : Bool) (x : ℕ × ℕ) (xs : List (ℕ × ℕ)) (n : ℕ) → length xs ≤ n → length (cond t (x ∷ []) [] ++ xs) ≤ suc n
few_by true x xs n le = omega arith
few_by false x xs n le = omega arith

few_of : (a : Key) (rest : List Key) → length (pairs_from a rest) ≤ length rest
few_of a [] = omega arith
few_of a (b ∷ rest) = few_by (eqb a.0 b.0) (a.2, b.2) (pairs_from b rest) (length rest) (few_of b rest)

-- the pairs are those of the adjacent keys of one task, in their order
pub record ArePairs (keys : List Key) (pairs : List (ℕ × ℕ)) : Type 0 where
  pub right : (i : ℕ) → i < length pairs → (p : ℕ) × IsPairAt keys p (get_or pairs i (0, 0))
  pub all : (p : ℕ) → suc p < length keys → (key_at keys p).0 ≡ (key_at keys (suc p)).0 → (i : ℕ) × (i < length pairs) × IsPairAt keys p (get_or pairs i (0, 0))
  pub order : (i j : ℕ) → i < j → j < length pairs → (p : ℕ) × (q : ℕ) × (p < q) × IsPairAt keys p (get_or pairs i (0, 0)) × IsPairAt keys q (get_or pairs j (0, 0)) × (j ≡ suc i → NoneFrom keys (suc p) q)
  pub few : length pairs ≤ length keys

pub adjacent_are : (keys : List Key) → ArePairs keys (adjacent_pairs keys)
adjacent_are [] = record {
  right = λ i lt. absurd (omega arith);
  all = λ p within. absurd (omega arith);
  order = λ i j lt within. absurd (omega arith);
  few = omega arith;
}
adjacent_are (a ∷ rest) = record {
  right = λ i lt. let r = at_of a rest i lt in (r.0, r.1);
  all = all_of a rest;
  order = order_of a rest;
  few = let few : length (pairs_from a rest) ≤ length rest = few_of a rest in omega arith;
}

-- the pairs of the keys from n on begin with the pair at n, where that is one
pub pairs_next : (keys : List Key) (n : ℕ) (pairs : List (ℕ × ℕ)) (t : Bool) → suc n < length keys → eqb (key_at keys n).0 (key_at keys (suc n)).0 ≡ t → pairs ++ adjacent_pairs (drop n keys) ≡ adjacent_pairs keys
    → (pairs ++ cond t (((key_at keys n).2, (key_at keys (suc n)).2) ∷ []) []) ++ adjacent_pairs (drop (suc n) keys) ≡ adjacent_pairs keys
pairs_next keys n pairs t lt is so_far =
    let one : drop n keys ≡ key_at keys n ∷ drop (suc n) keys = drop-cons keys n no_key (omega arith) in
    let two : drop (suc n) keys ≡ key_at keys (suc n) ∷ drop (suc (suc n)) keys = drop-cons keys (suc n) no_key lt in
    append_assoc pairs (cond t (((key_at keys n).2, (key_at keys (suc n)).2) ∷ []) []) (adjacent_pairs (drop (suc n) keys)) ∙ (ap (λ xs. pairs ++ xs) (
    ap (λ ks. cond t (((key_at keys n).2, (key_at keys (suc n)).2) ∷ []) [] ++ adjacent_pairs ks) two
    ∙ (ap (λ b. cond b (((key_at keys n).2, (key_at keys (suc n)).2) ∷ []) [] ++ pairs_from (key_at keys (suc n)) (drop (suc (suc n)) keys)) (sym is)
    ∙ sym (ap adjacent_pairs (one ∙ ap (λ ks. key_at keys n ∷ ks) two)))) ∙ so_far)

-- the pair of the keys at n and m, the next, where they are of one task
pub pairs_same : (keys : List Key) (n m k : ℕ) (pairs : List (ℕ × ℕ)) → suc n ≡ m → m ≡ k → m < length keys → (key_at keys n).0 ≡ (key_at keys m).0 → pairs ++ adjacent_pairs (drop n keys) ≡ adjacent_pairs keys
    → (pairs ++ ((key_at keys n).2, (key_at keys m).2) ∷ []) ++ adjacent_pairs (drop k keys) ≡ adjacent_pairs keys
pairs_same keys n m k pairs e f lt same so_far =
    subst (λ (j : ℕ). (pairs ++ ((key_at keys n).2, (key_at keys m).2) ∷ []) ++ adjacent_pairs (drop j keys) ≡ adjacent_pairs keys) f
    (subst (λ (i : ℕ). (pairs ++ ((key_at keys n).2, (key_at keys i).2) ∷ []) ++ adjacent_pairs (drop i keys) ≡ adjacent_pairs keys) e
    (pairs_next keys n pairs true (omega arith) ((Decides-eqb (key_at keys n).0 (key_at keys (suc n)).0).1 (same ∙ ap (λ i. (key_at keys i).0) (sym e))) so_far))

-- no pair, where they are not
pub pairs_other : (keys : List Key) (n m k : ℕ) (pairs : List (ℕ × ℕ)) → suc n ≡ m → m ≡ k → m < length keys → ((key_at keys n).0 ≡ (key_at keys m).0 → ⊥) → pairs ++ adjacent_pairs (drop n keys) ≡ adjacent_pairs keys → pairs ++ adjacent_pairs (drop k keys) ≡ adjacent_pairs keys
pairs_other keys n m k pairs e f lt differ so_far =
    subst (λ (j : ℕ). pairs ++ adjacent_pairs (drop j keys) ≡ adjacent_pairs keys) (e ∙ f)
    (subst (λ (ps : List (ℕ × ℕ)). ps ++ adjacent_pairs (drop (suc n) keys) ≡ adjacent_pairs keys) (append-nil pairs)
    (pairs_next keys n pairs false (omega arith) (apart (eqb (key_at keys n).0 (key_at keys (suc n)).0) refl) so_far))
  where
    apart : (t : Bool) → eqb (key_at keys n).0 (key_at keys (suc n)).0 ≡ t → eqb (key_at keys n).0 (key_at keys (suc n)).0 ≡ false
    apart true is = absurd (differ ((Decides-eqb (key_at keys n).0 (key_at keys (suc n)).0).0 is ∙ ap (λ i. (key_at keys i).0) e))
    apart false is = is

-- the last key begins no pair
pub pairs_end : (keys : List Key) (n : ℕ) (pairs : List (ℕ × ℕ)) → length keys ≤ suc n → pairs ++ adjacent_pairs (drop n keys) ≡ adjacent_pairs keys → pairs ≡ adjacent_pairs keys
pairs_end keys n pairs le so_far = by (drop n keys) (omega (arith, length-drop n keys)) so_far
  where
    by : (rest : List Key) → length rest ≤ 1 → pairs ++ adjacent_pairs rest ≡ adjacent_pairs keys → pairs ≡ adjacent_pairs keys
    by [] le h = sym (append-nil pairs) ∙ h
    by (a ∷ []) le h = sym (append-nil pairs) ∙ h
    by (a ∷ b ∷ rest) le h = absurd (omega arith)

key_asym : (a b : Key) → IsKeyBefore a b → IsKeyBefore b a → ⊥
key_asym a b (inl x) (inl y) = omega arith
key_asym a b (inl x) (inr y) = let e : b.0 ≡ a.0 = y.0 in omega arith
key_asym a b (inr x) (inl y) = let e : a.0 ≡ b.0 = x.0 in omega arith
key_asym a b (inr x) (inr y) = time_asym a.1 b.1 a.2 b.2 x.1 y.1

key_task_le : (a b : Key) → IsKeyBefore a b → a.0 ≤ b.0
key_task_le a b (inl x) = omega arith
key_task_le a b (inr x) = let e : a.0 ≡ b.0 = x.0 in omega arith

key_times : (a b : Key) → IsKeyBefore a b → a.0 ≡ b.0 → (a.1 <ℤ b.1) ⊎ ((a.1 ≡ b.1) × (a.2 < b.2))
key_times a b (inl x) same = absurd (omega arith)
key_times a b (inr x) same = x.1

-- an order by two times is one by the times that they equal
by_times : (x y u v : ℤ) (i j : ℕ) → x ≡ u → y ≡ v → ((x <ℤ y) ⊎ ((x ≡ y) × (i < j))) → (u <ℤ v) ⊎ ((u ≡ v) × (i < j))
by_times x y u v i j a b h = subst (λ (p : ℤ). (p <ℤ v) ⊎ ((p ≡ v) × (i < j))) a (subst (λ (q : ℤ). (x <ℤ q) ⊎ ((x ≡ q) × (i < j))) b h)

-- a pair is told by its parts
pair_is : (x : ℕ × ℕ) (i j : ℕ) → x.0 ≡ i → x.1 ≡ j → x ≡ (i, j)
pair_is x i j a b = ap (λ (n : ℕ). (n, x.1)) a ∙ ap (λ (n : ℕ). (i, n)) b

module _ (events : List Event) (tasks : List ℕ) (times : List ℤ) (keys : List Key) (firsts : AreFirstEvents Task events tasks) (sorted : AreKeys tasks times keys) where
  tasks_len : length tasks ≡ length events
  tasks_len = firsts.each

  task_number : (i j : ℕ) → i < length events → j < length events → task_at events i ≡ task_at events j → get_or tasks i 0 ≡ get_or tasks j 0
  task_number i j li lj same = firsts.one i j li lj same

  number_task : (i j : ℕ) → i < length events → j < length events → get_or tasks i 0 ≡ get_or tasks j 0 → task_at events i ≡ task_at events j
  number_task i j li lj same = sym (firsts.same i li) ∙ (ap (task_at events) same ∙ firsts.same j lj)

  -- the place of a key is one of the events
  place_in_range : (p : ℕ) → p < length keys → (key_at keys p).2 < length events
  place_in_range p lt = let r : (key_at keys p).2 < length tasks = (sorted.right p lt).2 in let e = tasks_len in omega arith

  -- keys stand in their order
  key_order : (p q : ℕ) → p < length keys → q < length keys → IsKeyBefore (key_at keys p) (key_at keys q) → p < q
  key_order p q lp lq before = ⊎_elim
      (λ (low : p < q). low)
      (λ (high : q ≤ p). ⊎_elim
      (λ (below : q < p). absurd (key_asym (key_at keys p) (key_at keys q) before (sorted.rising q p below lp)))
      (λ (over : p ≤ q). let same : q ≡ p = omega arith in
      let itself : IsKeyBefore (key_at keys p) (key_at keys p) = subst (λ (i : ℕ). IsKeyBefore (key_at keys p) (key_at keys i)) same before in
      absurd (key_asym (key_at keys p) (key_at keys p) itself itself))
      (cases_lt q p))
      (cases_lt p q)

  -- the task of an earlier key is not seen later
  key_tasks : (p q : ℕ) → p ≤ q → q < length keys → (key_at keys p).0 ≤ (key_at keys q).0
  key_tasks p q le within = ⊎_elim
      (λ (low : p < q). key_task_le (key_at keys p) (key_at keys q) (sorted.rising p q low within))
      (λ (high : q ≤ p). let same : p ≡ q = omega arith in let e : (key_at keys p).0 ≡ (key_at keys q).0 = ap (λ i. (key_at keys i).0) same in omega arith)
      (cases_lt p q)

  -- an event is before another of its task where its key is
  before_of_keys : (p q : ℕ) → p < length keys → q < length keys → (key_at keys p).0 ≡ (key_at keys q).0 → IsKeyBefore (key_at keys p) (key_at keys q) → IsEarlierTime times (key_at keys p).2 (key_at keys q).2
  before_of_keys p q lp lq same before =
      by_times (key_at keys p).1 (key_at keys q).1 (adjusted_at times (key_at keys p).2) (adjusted_at times (key_at keys q).2) (key_at keys p).2 (key_at keys q).2
      (sym (sorted.right p lp).1) (sym (sorted.right q lq).1) (key_times (key_at keys p) (key_at keys q) before same)

  keys_of_before : (p q : ℕ) → p < length keys → q < length keys → (key_at keys p).0 ≡ (key_at keys q).0 → IsEarlierTime times (key_at keys p).2 (key_at keys q).2 → IsKeyBefore (key_at keys p) (key_at keys q)
  keys_of_before p q lp lq same before = inr (
    same,
    by_times (adjusted_at times (key_at keys p).2) (adjusted_at times (key_at keys q).2) (key_at keys p).1 (key_at keys q).1 (key_at keys p).2 (key_at keys q).2
        (sorted.right p lp).1 (sorted.right q lq).1 before,
  )

  -- the task of a key's event, by number
  key_number : (p k : ℕ) → p < length keys → (key_at keys p).2 ≡ k → (key_at keys p).0 ≡ get_or tasks k 0
  key_number p k lt is = sym (sorted.right p lt).0 ∙ ap (λ i. get_or tasks i 0) is

  -- the pair at p makes a segment
  pair_right : (p : ℕ) (x : ℕ × ℕ) → IsPairAt keys p x → AreNeighbours events times x.0 x.1
  pair_right p x (within, task, start, end) =
      let lp : p < length keys = omega arith in
      subst (λ (a : ℕ). AreNeighbours events times a x.1) (sym start) (subst (λ (b : ℕ). AreNeighbours events times (key_at keys p).2 b) (sym end) (record {
        first = place_in_range p lp;
        second = place_in_range (suc p) within;
        task = number_task (key_at keys p).2 (key_at keys (suc p)).2 (place_in_range p lp) (place_in_range (suc p) within) ((sorted.right p lp).0 ∙ (task ∙ sym (sorted.right (suc p) within).0));
        before = before_of_keys p (suc p) lp within task (sorted.rising p (suc p) (omega arith) within);
        between = λ k lk same after before. between p k within task lk same after before;
      }))
    where
      between : (p k : ℕ) → suc p < length keys → (key_at keys p).0 ≡ (key_at keys (suc p)).0 → k < length events → task_at events k ≡ task_at events (key_at keys p).2 → IsEarlierTime times (key_at keys p).2 k → IsEarlierTime times k (key_at keys (suc p)).2 → ⊥
      between p k within task lk same after before =
          let lp : p < length keys = omega arith in
          let e : length tasks ≡ length events = tasks_len in
          let q = sorted.all k (omega arith) in
          let number : get_or tasks k 0 ≡ get_or tasks (key_at keys p).2 0 = task_number k (key_at keys p).2 lk (place_in_range p lp) same in
          let here : (key_at keys p).0 ≡ (key_at keys q.0).0 = sym (sorted.right p lp).0 ∙ (sym number ∙ sym (key_number q.0 k q.1 q.2)) in
          let low : p < q.0 = key_order p q.0 lp q.1 (keys_of_before p q.0 lp q.1 here (subst (λ (i : ℕ). IsEarlierTime times (key_at keys p).2 i) (sym q.2) after)) in
          let high : q.0 < suc p = key_order q.0 (suc p) q.1 within (keys_of_before q.0 (suc p) q.1 within (sym here ∙ task) (subst (λ (i : ℕ). IsEarlierTime times i (key_at keys (suc p)).2) (sym q.2) before)) in
          omega arith

  -- what makes a segment stands beside one another
  beside : (p q : ℕ) → p < length keys → q < length keys → AreNeighbours events times (key_at keys p).2 (key_at keys q).2 → (suc p ≡ q) × ((key_at keys p).0 ≡ (key_at keys q).0)
  beside p q lp lq n =
      let number : get_or tasks (key_at keys p).2 0 ≡ get_or tasks (key_at keys q).2 0 = task_number (key_at keys p).2 (key_at keys q).2 n.first n.second n.task in
      let same : (key_at keys p).0 ≡ (key_at keys q).0 = sym (sorted.right p lp).0 ∙ (number ∙ (sorted.right q lq).0) in
      let low : p < q = key_order p q lp lq (keys_of_before p q lp lq same n.before) in
      ⊎_elim
      (λ (next : suc p < q).
      let lr : suc p < length keys = omega arith in
      let a : (key_at keys p).0 ≤ (key_at keys (suc p)).0 = key_tasks p (suc p) (omega arith) lr in
      let b : (key_at keys (suc p)).0 ≤ (key_at keys q).0 = key_tasks (suc p) q (omega arith) lq in
      let pr : (key_at keys p).0 ≡ (key_at keys (suc p)).0 = omega arith in
      let rq : (key_at keys (suc p)).0 ≡ (key_at keys q).0 = omega arith in
      let task : task_at events (key_at keys (suc p)).2 ≡ task_at events (key_at keys p).2 = number_task (key_at keys (suc p)).2 (key_at keys p).2 (place_in_range (suc p) lr) (place_in_range p lp) ((sorted.right (suc p) lr).0 ∙ (sym pr ∙ sym (sorted.right p lp).0)) in
      absurd (n.between (key_at keys (suc p)).2 (place_in_range (suc p) lr) task
      (before_of_keys p (suc p) lp lr pr (sorted.rising p (suc p) (omega arith) lr))
      (before_of_keys (suc p) q lr lq rq (sorted.rising (suc p) q next lq))))
      (λ (end : q ≤ suc p). (omega arith, same))
      (cases_lt (suc p) q)

  pair_all : (pairs : List (ℕ × ℕ)) → ArePairs keys pairs → (i j : ℕ) → AreNeighbours events times i j → Contains pairs (i, j)
  pair_all pairs a i j n =
      let e : length tasks ≡ length events = tasks_len in
      let li : i < length events = n.first in
      let lj : j < length events = n.second in
      let p = sorted.all i (omega arith) in
      let q = sorted.all j (omega arith) in
      let moved : AreNeighbours events times (key_at keys p.0).2 (key_at keys q.0).2 = subst (λ (x : ℕ). AreNeighbours events times x (key_at keys q.0).2) (sym p.2) (subst (λ (y : ℕ). AreNeighbours events times i y) (sym q.2) n) in
      let b = beside p.0 q.0 p.1 q.1 moved in
      let next : suc p.0 ≡ q.0 = b.0 in
      let lq : q.0 < length keys = q.1 in
      let within : suc p.0 < length keys = omega arith in
      let found = a.all p.0 within (b.1 ∙ ap (λ k. (key_at keys k).0) (sym next)) in
      let is : get_or pairs found.0 (0, 0) ≡ (i, j) = pair_is (get_or pairs found.0 (0, 0)) i j (found.2.2 ∙ p.2) (found.2.3 ∙ (ap (λ k. (key_at keys k).2) next ∙ q.2)) in
      subst (λ (x : ℕ × ℕ). Contains pairs x) is (Contains-get_or pairs found.0 (0, 0) found.1)

  -- an earlier key's segment is listed before
  listed : (p q : ℕ) → p < q → q < length keys → IsListedBefore events times (key_at keys p).2 (key_at keys q).2
  listed p q lt lq = by (sorted.rising p q lt lq)
    where
      lp : p < length keys
      lp = omega arith

      by : IsKeyBefore (key_at keys p) (key_at keys q) → IsListedBefore events times (key_at keys p).2 (key_at keys q).2
      by (inl low) =
          let i : ℕ = (key_at keys p).2 in
          let f : ℕ = get_or tasks (key_at keys p).2 0 in
          let fp : get_or tasks (key_at keys p).2 0 ≡ (key_at keys p).0 = (sorted.right p lp).0 in
          let fq : get_or tasks (key_at keys q).2 0 ≡ (key_at keys q).0 = (sorted.right q lq).0 in
          let li : (key_at keys p).2 < length events = place_in_range p lp in
          let lj : (key_at keys q).2 < length events = place_in_range q lq in
          inl (
            get_or tasks (key_at keys p).2 0,
            firsts.within (key_at keys p).2 li,
            firsts.same (key_at keys p).2 li,
            λ k le same. firsts.first k (key_at keys q).2 lj (omega arith) same,
          )
      by (inr both) =
          inr (
            number_task (key_at keys p).2 (key_at keys q).2 (place_in_range p lp) (place_in_range q lq) ((sorted.right p lp).0 ∙ (both.0 ∙ sym (sorted.right q lq).0)),
            before_of_keys p q lp lq both.0 (inr both),
          )

  pair_order : (pairs : List (ℕ × ℕ)) → ArePairs keys pairs → AllPairs (λ x y. IsListedBefore events times x.0 y.0) pairs
  pair_order pairs a i j d lt within =
      let r = a.order i j lt within in
      let di : get_or pairs i d ≡ get_or pairs i (0, 0) = get_or_default pairs i d (0, 0) (omega arith) in
      let dj : get_or pairs j d ≡ get_or pairs j (0, 0) = get_or_default pairs j d (0, 0) within in
      subst (λ (x : ℕ). IsListedBefore events times x (get_or pairs j d).0) (sym (ap (λ (y : ℕ × ℕ). y.0) di ∙ r.3.2))
      (subst (λ (x : ℕ). IsListedBefore events times (key_at keys r.0).2 x) (sym (ap (λ (y : ℕ × ℕ). y.0) dj ∙ r.4.2))
      (listed r.0 r.1 r.2 (let w : suc r.1 < length keys = r.4.0 in omega arith)))

  pub all_neighbours : (pairs : List (ℕ × ℕ)) → ArePairs keys pairs → AreAllNeighbours events times pairs
  all_neighbours pairs a = record {
    right = All-from_get_or (λ x. AreNeighbours events times x.0 x.1) pairs (0, 0) (λ i lt. let r = a.right i lt in pair_right r.0 (get_or pairs i (0, 0)) r.1);
    all = pair_all pairs a;
    order = pair_order pairs a;
  }

  -- of two pairs of one task that are listed one after the other, the first ends where the second starts
  pub pairs_join : (pairs : List (ℕ × ℕ)) → ArePairs keys pairs → (k : ℕ) → k + 1 < length pairs → task_at events (get_or pairs k (0, 0)).0 ≡ task_at events (get_or pairs (k + 1) (0, 0)).0 → (get_or pairs k (0, 0)).1 ≡ (get_or pairs (k + 1) (0, 0)).0
  pairs_join pairs a k within same =
      let r = a.order k (k + 1) (omega arith) within in
      join r.0 r.1 r.2 r.3 r.4 (r.5 (omega arith))
    where
      join : (p q : ℕ) → p < q → IsPairAt keys p (get_or pairs k (0, 0)) → IsPairAt keys q (get_or pairs (k + 1) (0, 0)) → NoneFrom keys (suc p) q → (get_or pairs k (0, 0)).1 ≡ (get_or pairs (k + 1) (0, 0)).0
      join p q lt at_p at_q none = ⊎_elim
          (λ (next : suc p < q).
          let wq : suc q < length keys = at_q.0 in
          let wp : suc p < length keys = at_p.0 in
          let lp : p < length keys = omega arith in
          let lq : q < length keys = omega arith in
          let lr : suc (suc p) < length keys = omega arith in
          let t : task_at events (key_at keys p).2 ≡ task_at events (key_at keys q).2 = ap (task_at events) (sym at_p.2) ∙ (same ∙ ap (task_at events) at_q.2) in
          let over : (key_at keys p).0 ≡ (key_at keys q).0 = sym (sorted.right p lp).0 ∙ (task_number (key_at keys p).2 (key_at keys q).2 (place_in_range p lp) (place_in_range q lq) t ∙ (sorted.right q lq).0) in
          let here : (key_at keys p).0 ≡ (key_at keys (suc p)).0 = at_p.1 in
          let one : (key_at keys (suc p)).0 ≤ (key_at keys (suc (suc p))).0 = key_tasks (suc p) (suc (suc p)) (omega arith) lr in
          let two : (key_at keys (suc (suc p))).0 ≤ (key_at keys q).0 = key_tasks (suc (suc p)) q (omega arith) lq in
          absurd (none (suc p) (omega arith) next (omega arith)))
          (λ (end : q ≤ suc p). let is : suc p ≡ q = omega arith in at_p.3 ∙ (ap (λ i. (key_at keys i).2) is ∙ sym at_q.2))
          (cases_lt (suc p) q)
