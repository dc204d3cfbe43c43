-- Lists of days: one more, one less, the newest.
use Rattle.std.proofs.Common.{◌≡◌, ◌≢◌, ℕ, zero, suc, ◌+◌, ◌<◌, ◌≤◌, inl, inr, Bool, true, false, ◌||◌, ◌==◌, nat_lt, cond, if◌then◌else◌, List, [], ◌∷◌, ◌++◌, length, get_or, set, insert, All, AllPairs, refl, sym, ap, ◌∙◌, subst, arith, length-append, not}
use Rattle.std.proofs.lemmas.Bool.{cases_lt, cases_order, lt-ltb, le-ltb, eq-eqb, ne_eqb, cond-true, cond-false, cond_both}
use Rattle.std.proofs.lemmas.List.Elements.{All-nil, All-cons, All-head, All-tail, All-weaker}
use Rattle.std.specs.List.{prefix_len}
use Rattle.trace_types.specs.declared.named_trace.NamedTrace.{NamedTrace}
use Rattle.std.specs.Prelude.{sum_by}
use Rattle.std.proofs.lemmas.List.Concat.{length-flat_map}
use Rattle.std.proofs.lemmas.List.Filters.{sum_by-filter_both}
use Rattle.day_partitions.specs.Books.{KeptDay, kept_day, all_traces, has_day, AreRising, with_day_traces, days_without}

-- ---- pairs of a list
module _ {X : Type 0} (R : X → X → Type 0) where
  pub pairs_nil : AllPairs R []
  pairs_nil i j d l m = absurd (omega arith)

  pub pairs_cons : (x : X) (xs : List X) → All (R x) xs → AllPairs R xs → AllPairs R (x ∷ xs)
  pairs_cons x xs h p zero zero d l m = absurd (omega arith)
  pairs_cons x xs h p zero (suc j) d l m = h j d (omega arith)
  pairs_cons x xs h p (suc i) zero d l m = absurd (omega arith)
  pairs_cons x xs h p (suc i) (suc j) d l m = p i j d (omega arith) (omega arith)

  pub pairs_head : (x : X) (xs : List X) → AllPairs R (x ∷ xs) → All (R x) xs
  pairs_head x xs p k d l = p 0 (suc k) d (omega arith) (omega arith)

  pub pairs_tail : (x : X) (xs : List X) → AllPairs R (x ∷ xs) → AllPairs R xs
  pairs_tail x xs p i j d l m = p (suc i) (suc j) d (omega arith) (omega arith)

-- ---- where a day stands
abbrev pub Below : KeptDay → KeptDay → Type 0
Below j k = j.day < k.day

-- how many days at the front are below this one
abbrev pub place_of_day : ℕ → List KeptDay → ℕ
place_of_day d ks = prefix_len (λ k. nat_lt k.day d) ks

pub place_next : (d : ℕ) (k : KeptDay) (ks : List KeptDay) → k.day < d → place_of_day d (k ∷ ks) ≡ suc (place_of_day d ks)
place_next d k ks l = cond-true (nat_lt k.day d) (1 + place_of_day d ks) 0 (lt-ltb k.day d l) ∙ omega arith

pub place_here : (d : ℕ) (k : KeptDay) (ks : List KeptDay) → d ≤ k.day → place_of_day d (k ∷ ks) ≡ 0
place_here d k ks l = cond-false (nat_lt k.day d) (1 + place_of_day d ks) 0 (le-ltb k.day d l)

-- how `with_day_traces` goes by cases
pub with_below : (d : ℕ) (ts : List NamedTrace) (k : KeptDay) (ks : List KeptDay) → k.day < d → with_day_traces d ts (k ∷ ks) ≡ k ∷ with_day_traces d ts ks
with_below d ts k ks l = cond-true (nat_lt k.day d) _ _ (lt-ltb k.day d l)

pub with_same : (d : ℕ) (ts : List NamedTrace) (k : KeptDay) (ks : List KeptDay) → k.day ≡ d → with_day_traces d ts (k ∷ ks) ≡ kept_day d (k.traces ++ ts) ∷ ks
with_same d ts k ks e = cond-false (nat_lt k.day d) _ _ (le-ltb k.day d (omega arith)) ∙ cond-true (k.day == d) _ _ (eq-eqb k.day d e)

pub with_above : (d : ℕ) (ts : List NamedTrace) (k : KeptDay) (ks : List KeptDay) → d < k.day → with_day_traces d ts (k ∷ ks) ≡ kept_day d ts ∷ k ∷ ks
with_above d ts k ks l = cond-false (nat_lt k.day d) _ _ (le-ltb k.day d (omega arith)) ∙ cond-false (k.day == d) _ _ (ne_eqb k.day d (λ e. omega arith))

-- the day stands at its place
abbrev pub StandsAt : ℕ → List KeptDay → Type 0
StandsAt d ks = (place_of_day d ks < length ks) × ((e : KeptDay) → (get_or ks (place_of_day d ks) e).day ≡ d)

pub stands_next : (d : ℕ) (k : KeptDay) (ks : List KeptDay) → k.day < d → StandsAt d (k ∷ ks) → StandsAt d ks
stands_next d k ks l h =
    let n = place_next d k ks l in
    (omega (arith, h.0), λ e. ap (λ i. (get_or (k ∷ ks) i e).day) (sym n) ∙ h.1 e)

pub stands_here : (d : ℕ) (k : KeptDay) (ks : List KeptDay) → d ≤ k.day → StandsAt d (k ∷ ks) → k.day ≡ d
stands_here d k ks l h = ap (λ i. (get_or (k ∷ ks) i k).day) (sym (place_here d k ks l)) ∙ h.1 k

-- a day that stands at its place gets more traces
pub with_set : (d : ℕ) (ts : List NamedTrace) (ks : List KeptDay) → StandsAt d ks → (e : KeptDay) → with_day_traces d ts ks ≡ set ks (place_of_day d ks) (kept_day d ((get_or ks (place_of_day d ks) e).traces ++ ts))
with_set d ts [] h e = absurd (omega (arith, h.0))
with_set d ts (k ∷ ks) h e = elim (cases_lt k.day d) [
  | inl low ↦ let n = place_next d k ks low in
      with_below d ts k ks low ∙ ap (λ l. k ∷ l) (with_set d ts ks (stands_next d k ks low h) e)
      ∙ ap (λ i. set (k ∷ ks) i (kept_day d ((get_or (k ∷ ks) i e).traces ++ ts))) (sym n)
  | inr high ↦ let n = place_here d k ks high in
      with_same d ts k ks (stands_here d k ks high h) ∙ ap (λ i. set (k ∷ ks) i (kept_day d ((get_or (k ∷ ks) i e).traces ++ ts))) (sym n)
]

-- the day does not stand at its place
abbrev pub IsAbsent : ℕ → List KeptDay → Type 0
IsAbsent d ks = (e : KeptDay) → place_of_day d ks < length ks → (get_or ks (place_of_day d ks) e).day ≢ d

pub absent_next : (d : ℕ) (k : KeptDay) (ks : List KeptDay) → k.day < d → IsAbsent d (k ∷ ks) → IsAbsent d ks
absent_next d k ks l h =
    let n = place_next d k ks l in
    λ e m same. h e (omega (arith, n)) (ap (λ i. (get_or (k ∷ ks) i e).day) n ∙ same)

pub absent_here : (d : ℕ) (k : KeptDay) (ks : List KeptDay) → d ≤ k.day → IsAbsent d (k ∷ ks) → d < k.day
absent_here d k ks l h =
    let n = place_here d k ks l in
    let other : k.day ≢ d = (λ e. h k (omega (arith, n)) (ap (λ i. (get_or (k ∷ ks) i k).day) n ∙ e)) in
    omega arith

-- a new day is inserted at its place
pub with_insert : (d : ℕ) (ts : List NamedTrace) (ks : List KeptDay) → IsAbsent d ks → with_day_traces d ts ks ≡ insert ks (place_of_day d ks) (kept_day d ts)
with_insert d ts [] h = refl
with_insert d ts (k ∷ ks) h = elim (cases_lt k.day d) [
  | inl low ↦ let n = place_next d k ks low in
      with_below d ts k ks low ∙ ap (λ l. k ∷ l) (with_insert d ts ks (absent_next d k ks low h))
      ∙ ap (λ i. insert (k ∷ ks) i (kept_day d ts)) (sym n)
  | inr high ↦ let n = place_here d k ks high in
      with_above d ts k ks (absent_here d k ks high h) ∙ ap (λ i. insert (k ∷ ks) i (kept_day d ts)) (sym n)
]

pub has_next : (d : ℕ) (k : KeptDay) (ks : List KeptDay) → k.day ≢ d → has_day (k ∷ ks) d ≡ has_day ks d
has_next d k ks other = ap (λ b. b || has_day ks d) (ne_eqb k.day d other)

pub has_here : (d : ℕ) (k : KeptDay) (ks : List KeptDay) → k.day ≡ d → has_day (k ∷ ks) d ≡ true
has_here d k ks e = ap (λ b. b || has_day ks d) (eq-eqb k.day d e)

pub has_standing : (d : ℕ) (ks : List KeptDay) → StandsAt d ks → has_day ks d ≡ true
has_standing d [] h = absurd (omega (arith, h.0))
has_standing d (k ∷ ks) h = elim (cases_lt k.day d) [
  | inl low ↦ has_next d k ks (λ e. omega arith) ∙ has_standing d ks (stands_next d k ks low h)
  | inr high ↦ has_here d k ks (stands_here d k ks high h)
]

-- days that are all above this one do not have it
pub has_above : (d : ℕ) (ks : List KeptDay) → All (λ (k : KeptDay). d < k.day) ks → has_day ks d ≡ false
has_above d [] h = refl
has_above d (k ∷ ks) h =
    let here : d < k.day = All-head (λ (j : KeptDay). d < j.day) k ks h in
    has_next d k ks (λ e. omega arith) ∙ has_above d ks (All-tail (λ (j : KeptDay). d < j.day) k ks h)

pub above_all : (d : ℕ) (k : KeptDay) (ks : List KeptDay) → d ≤ k.day → AreRising (k ∷ ks) → All (λ (j : KeptDay). d < j.day) ks
above_all d k ks l r = All-weaker (Below k) (λ (j : KeptDay). d < j.day) (λ j h. omega arith) ks (pairs_head Below k ks r)

pub has_absent : (d : ℕ) (ks : List KeptDay) → AreRising ks → IsAbsent d ks → has_day ks d ≡ false
has_absent d [] r h = refl
has_absent d (k ∷ ks) r h = elim (cases_lt k.day d) [
  | inl low ↦ has_next d k ks (λ e. omega arith) ∙ has_absent d ks (pairs_tail Below k ks r) (absent_next d k ks low h)
  | inr high ↦ let above = absent_here d k ks high h in
      has_next d k ks (λ e. omega arith) ∙ has_above d ks (above_all d k ks high r)
]

-- ---- what holds of each day
pub all_with : (P : KeptDay → Type 0) (d : ℕ) (ts : List NamedTrace) (ks : List KeptDay) → All P ks → P (kept_day d ts) → ((k : KeptDay) → P k → k.day ≡ d → P (kept_day d (k.traces ++ ts))) → All P (with_day_traces d ts ks)
all_with P d ts [] h new more = All-cons P (kept_day d ts) [] new (All-nil P)
all_with P d ts (k ∷ ks) h new more =
    let here = All-head P k ks h in let rest = All-tail P k ks h in
    elim (cases_order k.day d) [
      | inl same ↦ subst (λ l. All P l) (sym (with_same d ts k ks same)) (All-cons P (kept_day d (k.traces ++ ts)) ks (more k here same) rest)
      | inr (inl low) ↦ subst (λ l. All P l) (sym (with_below d ts k ks low)) (All-cons P k (with_day_traces d ts ks) here (all_with P d ts ks rest new more))
      | inr (inr high) ↦ subst (λ l. All P l) (sym (with_above d ts k ks high)) (All-cons P (kept_day d ts) (k ∷ ks) new h)
    ]

pub rising_with : (d : ℕ) (ts : List NamedTrace) (ks : List KeptDay) → AreRising ks → AreRising (with_day_traces d ts ks)
rising_with d ts [] r = pairs_cons Below (kept_day d ts) [] (All-nil (Below (kept_day d ts))) (pairs_nil Below)
rising_with d ts (k ∷ ks) r =
    let head = pairs_head Below k ks r in let rest = pairs_tail Below k ks r in
    elim (cases_order k.day d) [
      | inl same ↦ let new = kept_day d (k.traces ++ ts) in
          subst (λ l. AreRising l) (sym (with_same d ts k ks same)) (pairs_cons Below new ks (All-weaker (Below k) (Below new) (λ j h. omega arith) ks head) rest)
      | inr (inl low) ↦ subst (λ l. AreRising l) (sym (with_below d ts k ks low)) (pairs_cons Below k (with_day_traces d ts ks) (all_with (Below k) d ts ks head low (λ j h e. low)) (rising_with d ts ks rest))
      | inr (inr high) ↦ let new = kept_day d ts in
          subst (λ l. AreRising l) (sym (with_above d ts k ks high)) (pairs_cons Below new (k ∷ ks) (All-cons (Below new) k ks high (All-weaker (Below k) (Below new) (λ j h. omega arith) ks head)) r)
    ]

-- ---- how many traces
abbrev pub total : List KeptDay → ℕ
total ks = length (all_traces ks)

pub total_cons : (k : KeptDay) (ks : List KeptDay) → total (k ∷ ks) ≡ length k.traces + total ks
total_cons k ks = length-append k.traces (all_traces ks)

pub total_with : (d : ℕ) (ts : List NamedTrace) (ks : List KeptDay) → total (with_day_traces d ts ks) ≡ total ks + length ts
total_with d ts [] = total_cons (kept_day d ts) [] ∙ omega arith
total_with d ts (k ∷ ks) = elim (cases_order k.day d) [
  | inl same ↦ ap total (with_same d ts k ks same) ∙ omega (arith, total_cons (kept_day d (k.traces ++ ts)) ks, total_cons k ks, length-append k.traces ts)
  | inr (inl low) ↦ ap total (with_below d ts k ks low) ∙ omega (arith, total_cons k (with_day_traces d ts ks), total_cons k ks, total_with d ts ks)
  | inr (inr high) ↦ ap total (with_above d ts k ks high) ∙ omega (arith, total_cons (kept_day d ts) (k ∷ ks))
]

-- ---- how many days
pub count_with : (d : ℕ) (ts : List NamedTrace) (ks : List KeptDay) → AreRising ks → length (with_day_traces d ts ks) ≡ (if has_day ks d then length ks else length ks + 1)
count_with d ts [] r = refl
count_with d ts (k ∷ ks) r = elim (cases_order k.day d) [
  | inl same ↦ ap length (with_same d ts k ks same) ∙ sym (cond-true (has_day (k ∷ ks) d) (length (k ∷ ks)) (length (k ∷ ks) + 1) (has_here d k ks same))
  | inr (inl low) ↦ ap length (with_below d ts k ks low) ∙ more (has_day ks d) (length ks) (length (with_day_traces d ts ks)) (count_with d ts ks (pairs_tail Below k ks r)) ∙ ap (λ b. cond b (length (k ∷ ks)) (length (k ∷ ks) + 1)) (sym (has_next d k ks (λ e. omega arith)))
  | inr (inr high) ↦ ap length (with_above d ts k ks high) ∙ (let s : suc (suc (length ks)) ≡ suc (length ks) + 1 = omega arith in s) ∙ sym (cond-false (has_day (k ∷ ks) d) (length (k ∷ ks)) (length (k ∷ ks) + 1) (has_next d k ks (λ e. omega arith) ∙ has_above d ks (above_all d k ks (omega arith) r)))
]
  where
    more : (b : Bool) (n m : ℕ) → m ≡ cond b n (n + 1) → suc m ≡ cond b (suc n) (suc n + 1)
    more true n m e = ap suc e
    more false n m e = omega arith

abbrev pub traces_in : KeptDay → ℕ
traces_in k = length k.traces

pub traces_sum : (ks : List KeptDay) → length (all_traces ks) ≡ sum_by traces_in ks
traces_sum ks = length-flat_map (λ (k : KeptDay). k.traces) ks

pub with_count : (day : ℕ) (ts : List NamedTrace) (ks : List KeptDay) → length (all_traces (with_day_traces day ts ks)) ≡ length (all_traces ks) + length ts
with_count day ts [] = omega (arith, length-append ts [])
with_count day ts (k ∷ ks) =
    let P : List KeptDay → Type 0 = λ l. length (all_traces l) ≡ length (all_traces (k ∷ ks)) + length ts in
    cond_both (nat_lt k.day day) (k ∷ with_day_traces day ts ks) (if k.day == day then kept_day day (k.traces ++ ts) ∷ ks else kept_day day ts ∷ k ∷ ks) P
    (λ _. let h = with_count day ts ks in omega (arith, length-append k.traces (all_traces (with_day_traces day ts ks)), length-append k.traces (all_traces ks)))
    (λ _. cond_both (k.day == day) (kept_day day (k.traces ++ ts) ∷ ks) (kept_day day ts ∷ k ∷ ks) P
    (λ _. omega (arith, length-append (k.traces ++ ts) (all_traces ks), length-append k.traces ts, length-append k.traces (all_traces ks)))
    (λ _. omega (arith, length-append ts (k.traces ++ all_traces ks), length-append k.traces (all_traces ks))))

pub without_count : (day : ℕ) (ks : List KeptDay) → length (all_traces (days_without day ks)) ≤ length (all_traces ks)
without_count day ks =
    let both = sum_by-filter_both (λ (k : KeptDay). not (k.day == day)) (λ (k : KeptDay). not (not (k.day == day))) (λ _. refl) traces_in ks in
    omega (arith, traces_sum (days_without day ks), traces_sum ks, both)
