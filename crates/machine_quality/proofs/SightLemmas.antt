-- Machines in the order of first sight, by their numbers.
use Rattle.std.proofs.Common.{◌≡◌, ◌≢◌, ◌↔◌, ◌⊎◌, inl, inr, ◌||◌, ℕ, ◌+◌, ◌<◌, List, [], ◌∷◌, ◌++◌, Bool, true, false, not, length, get_or, map, set, take, replicate, filter, nat_eq, All, Some, ap, ◌∙◌, sym, subst, refl, true≢false, arith, eq-eqb}
use Rattle.std.specs.Prelude.{if◌then◌else◌, slice_get}
use Rattle.std.specs.Str.{bytes_eq}
use Rattle.std.specs.List.{list_any}
use Rattle.std.proofs.lemmas.Bool.{cases_eq, eqb-true, ne_eqb}
use Rattle.std.proofs.lemmas.List.{get_or-replicate, get_or-set_other, get_or-set_same, length-replicate, length-set, map_push, take_more}
use Rattle.std.proofs.lemmas.List.Elements.{All-head, All-map, All-tail}
use Rattle.std.proofs.lemmas.List.Folds.{list_any-append}
use Rattle.std.proofs.lemmas.Option.{slice_get-get_or}
use Rattle.trace_types.specs.Firsts.{firsts_of}
use Rattle.trace_types.proofs.ComparingLemmas.{text_means, text_own}
use Rattle.trace_types.proofs.ShortLemmas.{firsts_all}
use Rattle.event_table.specs.Numbers.{text_under}
use Rattle.event_table.proofs.FirstLemmas.{firsts-push}
use Rattle.machine_quality.specs.Told.{AreBelow, NamedClock, clocks_under}
use Rattle.machine_quality.specs.MachineTallies.{machines_told}
use Rattle.machine_quality.specs.inner.Numbered.{numbers_of}
use Rattle.machine_quality.specs.declared.numbered_clock.NumberedClock.{NumberedClock}

-- ---- one clock more

-- these machines are the first ones of the numbers, and no other is seen
pub record AreFirstTo (numbers machines : List ℕ) (is_seen : List Bool) : Type 0 where
  pub firsts : machines ≡ firsts_of nat_eq numbers
  pub seen : (m : ℕ) → m < length is_seen → get_or is_seen m false ≡ list_any (nat_eq m) machines

pub first_none : (machines : List ℕ) (is_seen : List Bool) (count : ℕ) → is_seen ≡ replicate count false → machines ≡ [] → AreFirstTo [] machines is_seen
first_none machines is_seen count none empty = record {
  firsts = empty;
  seen = λ m lt. ap (λ (bs : List Bool). get_or bs m false) none ∙ get_or-replicate count m false false (omega (arith, lt, ap length none ∙ length-replicate count false)) ∙ ap (list_any (nat_eq m)) (sym empty);
}

module _ (numbers machines new : List ℕ) (is_seen next : List Bool) (m : ℕ) (h : AreFirstTo numbers machines is_seen) (low : m < length is_seen)
    (pushed : new ≡ (if get_or is_seen m false then machines else machines ++ m ∷ [])) (marked : next ≡ set is_seen m true) where
  now_seen : (b : Bool) → get_or is_seen m false ≡ b → (k : ℕ) → k < length is_seen → get_or next k false ≡ list_any (nat_eq k) (if b then machines else machines ++ m ∷ [])
  now_seen b e k within = ap (λ (bs : List Bool). get_or bs k false) marked ∙ by b e (cases_eq k m)
    where
      here : k ≡ m → get_or (set is_seen m true) k false ≡ true
      here same = ap (λ j. get_or (set is_seen m true) j false) same ∙ get_or-set_same is_seen m true false low

      there : k ≢ m → get_or (set is_seen m true) k false ≡ list_any (nat_eq k) machines
      there other = get_or-set_other is_seen m k true false other ∙ h.seen k within

      or_none : (b c : Bool) → c ≡ false → b ≡ (b || (c || false))
      or_none true c q = refl
      or_none false c q = rw q refl

      or_right : (b c : Bool) → c ≡ true → true ≡ (b || (c || false))
      or_right true c q = refl
      or_right false c q = rw q refl

      by : (b : Bool) → get_or is_seen m false ≡ b → (k ≡ m) ⊎ (k ≢ m) → get_or (set is_seen m true) k false ≡ list_any (nat_eq k) (if b then machines else machines ++ m ∷ [])
      by true e (inl same) = here same ∙ sym e ∙ ap (λ j. get_or is_seen j false) (sym same) ∙ h.seen k within
      by true e (inr other) = there other
      by false e (inl same) = here same ∙ or_right (list_any (nat_eq k) machines) (nat_eq k m) (eq-eqb k m same) ∙ sym (list_any-append (nat_eq k) machines (m ∷ []))
      by false e (inr other) = there other ∙ or_none (list_any (nat_eq k) machines) (nat_eq k m) (ne_eqb k m other) ∙ sym (list_any-append (nat_eq k) machines (m ∷ []))

  pub first_more : AreFirstTo (numbers ++ m ∷ []) new next
  first_more = record {
    firsts =
        pushed ∙ ap (λ b. if b then machines else machines ++ m ∷ []) (h.seen m low) ∙ ap (λ (f : List ℕ). if list_any (nat_eq m) f then f else f ++ m ∷ []) h.firsts
        ∙ sym (firsts-push numbers m);
    seen = λ k within.
        now_seen (get_or is_seen m false) refl k (omega (arith, within, ap length marked ∙ length-set is_seen m true)) ∙ ap (list_any (nat_eq k)) (sym pushed);
  }

pub numbers_more : (told : List NumberedClock) (i : ℕ) (d : NumberedClock) → i < length told → numbers_of (take (i + 1) told) ≡ numbers_of (take i told) ++ (get_or told i d).machine ∷ []
numbers_more told i d lt = ap numbers_of (take_more told i d lt) ∙ map_push (λ (c : NumberedClock). c.machine) (take i told) (get_or told i d)

-- ---- by names

-- two numbers of texts are one exactly where their texts are
abbrev pub AreApart : List (List ℕ) → Type 0
AreApart texts = (i j : ℕ) (x y : List ℕ) → slice_get texts i ≡ Some x → slice_get texts j ≡ Some y → (i ≡ j) ↔ (x ≡ y)

module _ (machines : List (List ℕ)) (apart : AreApart machines) where
  pub same_text : (i j : ℕ) → i < length machines → j < length machines → bytes_eq (text_under machines i) (text_under machines j) ≡ nat_eq i j
  same_text i j li lj = by (nat_eq i j) (bytes_eq (text_under machines i) (text_under machines j)) refl refl
    where
      by : (b d : Bool) → nat_eq i j ≡ b → bytes_eq (text_under machines i) (text_under machines j) ≡ d → bytes_eq (text_under machines i) (text_under machines j) ≡ nat_eq i j
      by true d e f = ap (λ (k : ℕ). bytes_eq (text_under machines i) (text_under machines k)) (sym (eqb-true i j e)) ∙ text_own (text_under machines i) ∙ sym e
      by false false e f = f ∙ sym e
      by false true e f =
          let same : i ≡ j = (apart i j (text_under machines i) (text_under machines j) (slice_get-get_or machines i [] li) (slice_get-get_or machines j [] lj)).1 (text_means (text_under machines i) (text_under machines j) f) in
          absurd (true≢false (sym (eq-eqb i j same) ∙ e))

  others_same : (x : ℕ) (xs : List ℕ) → x < length machines → All (λ k. k < length machines) xs
      → filter (λ y. not (bytes_eq (text_under machines x) y)) (map (text_under machines) xs) ≡ map (text_under machines) (filter (λ y. not (nat_eq x y)) xs)
  others_same x [] lt within = refl
  others_same x (y ∷ ys) lt within =
      by (nat_eq x y) refl (same_text x y lt (All-head (λ k. k < length machines) y ys within)) (others_same x ys lt (All-tail (λ k. k < length machines) y ys within))
    where
      by : (b : Bool) → nat_eq x y ≡ b → bytes_eq (text_under machines x) (text_under machines y) ≡ nat_eq x y
          → filter (λ z. not (bytes_eq (text_under machines x) z)) (map (text_under machines) ys) ≡ map (text_under machines) (filter (λ z. not (nat_eq x z)) ys)
          → filter (λ z. not (bytes_eq (text_under machines x) z)) (map (text_under machines) (y ∷ ys)) ≡ map (text_under machines) (filter (λ z. not (nat_eq x z)) (y ∷ ys))
      by true e f rest = let g = f ∙ e in rw (g, e) rest
      by false e f rest = let g = f ∙ e in rw (g, e) (ap (λ (zs : List (List ℕ)). text_under machines y ∷ zs) rest)

  firsts_same : (xs : List ℕ) → All (λ k. k < length machines) xs → firsts_of bytes_eq (map (text_under machines) xs) ≡ map (text_under machines) (firsts_of nat_eq xs)
  firsts_same [] within = refl
  firsts_same (x ∷ xs) within =
      let rest : All (λ k. k < length machines) xs = All-tail (λ k. k < length machines) x xs within in
      ap (λ (ys : List (List ℕ)). text_under machines x ∷ filter (λ y. not (bytes_eq (text_under machines x) y)) ys) (firsts_same xs rest)
      ∙ ap (λ (ys : List (List ℕ)). text_under machines x ∷ ys) (others_same x (firsts_of nat_eq xs) (All-head (λ k. k < length machines) x xs within) (firsts_all (λ k. k < length machines) nat_eq xs rest))

  names_same : (told : List NumberedClock) → map (λ (n : NamedClock). n.machine) (clocks_under machines told) ≡ map (text_under machines) (numbers_of told)
  names_same [] = refl
  names_same (c ∷ told) = ap (λ (ns : List (List ℕ)). text_under machines c.machine ∷ ns) (names_same told)

  numbers_below : (told : List NumberedClock) → AreBelow (length machines) told → All (λ k. k < length machines) (numbers_of told)
  numbers_below told below = All-map (λ k. k < length machines) (λ (c : NumberedClock). c.machine) told below

  -- the first ones by numbers are those by names
  pub listed : (told : List NumberedClock) (found : List ℕ) → AreBelow (length machines) told → found ≡ firsts_of nat_eq (numbers_of told) → map (text_under machines) found ≡ machines_told (clocks_under machines told)
  listed told found below are =
      ap (map (text_under machines)) are ∙ sym (firsts_same (numbers_of told) (numbers_below told below)) ∙ ap (firsts_of bytes_eq) (sym (names_same told))

  pub listed_below : (told : List NumberedClock) (found : List ℕ) → AreBelow (length machines) told → found ≡ firsts_of nat_eq (numbers_of told) → All (λ k. k < length machines) found
  listed_below told found below are = subst (All (λ k. k < length machines)) (sym are) (firsts_all (λ k. k < length machines) nat_eq (numbers_of told) (numbers_below told below))
