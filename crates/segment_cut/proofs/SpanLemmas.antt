-- The greatest and the least of the times.
use Rattle.std.proofs.Common.{◌≡◌, ℕ, ◌+◌, ◌<◌, ℤ, pos, negsuc, ◌-ℤ◌, ◌≤ℤ◌, List, length, get_or, fold, take, All, Contains, arith, ap, ◌∙◌, sym, subst, ⊎_elim}
use Rattle.std.specs.Int.{int_max, int_min}
use Rattle.std.specs.Prelude.{unsigned_abs}
use Rattle.std.proofs.lemmas.Int.{ints, fold-int_max_bounds, fold-int_max_reached, fold-int_min_bounds, fold-int_min_reached}
use Rattle.std.proofs.lemmas.List.{get_or-map, length-map}
use Rattle.std.proofs.lemmas.List.Sums.{fold_more}
use Rattle.std.proofs.lemmas.List.Elements.{All-contains, Contains-get_or}
use Rattle.segment_cut.specs.AdjustedTimes.{IsInClockRange}
use Rattle.segment_cut.specs.Cutting.{IsSpan}
use Rattle.segment_cut.specs.inner.Keys.{Key, no_key, key_at, key_times}

abbrev pub first_of : List ℤ → ℤ
first_of times = get_or times 0 (pos 0)

greatest_there : (times : List ℤ) (g : ℤ) → 0 < length times → g ≡ fold int_max (first_of times) times → Contains times g
greatest_there times g some is = ⊎_elim
    (λ (first : g ≡ first_of times). subst (λ (x : ℤ). Contains times x) (sym first) (Contains-get_or times 0 (pos 0) some))
    (λ (there : Contains times g). there)
    (fold-int_max_reached (first_of times) times g is)

least_there : (times : List ℤ) (l : ℤ) → 0 < length times → l ≡ fold int_min (first_of times) times → Contains times l
least_there times l some is = ⊎_elim
    (λ (first : l ≡ first_of times). subst (λ (x : ℤ). Contains times x) (sym first) (Contains-get_or times 0 (pos 0) some))
    (λ (there : Contains times l). there)
    (fold-int_min_reached (first_of times) times l is)

-- both are in range, and the least is not greater
pub span_bounds : (times : List ℤ) (g l : ℤ) → 0 < length times → All IsInClockRange times → g ≡ fold int_max (first_of times) times → l ≡ fold int_min (first_of times) times → IsInClockRange g × IsInClockRange l × (l ≤ℤ g)
span_bounds times g l some range is_g is_l = (
  All-contains IsInClockRange times g range (greatest_there times g some is_g),
  All-contains IsInClockRange times l range (least_there times l some is_l),
  All-contains (λ (t : ℤ). l ≤ℤ t) times g (fold-int_min_bounds (first_of times) times l is_l).1 (greatest_there times g some is_g),
)

pub span_is : (times : List ℤ) (g l : ℤ) (n : ℕ) → 0 < length times → g ≡ fold int_max (first_of times) times → l ≡ fold int_min (first_of times) times → pos n ≡ g -ℤ l → IsSpan times n
span_is times g l n some is_g is_l is = record {
  greatest = g;
  least = l;
  some_greatest = greatest_there times g some is_g;
  none_greater = (fold-int_max_bounds (first_of times) times g is_g).1;
  some_least = least_there times l some is_l;
  none_less = (fold-int_min_bounds (first_of times) times l is_l).1;
  span = is;
}

-- a difference that is not negative is its own magnitude
pub abs_is : (z : ℤ) (n : ℕ) → pos 0 ≤ℤ z → n ≡ unsigned_abs z → pos n ≡ z
abs_is (pos k) n h is = ap pos is
abs_is (negsuc k) n h is = absurd (omega (arith, ints))

pub difference_is : (g l : ℤ) (n : ℕ) → l ≤ℤ g → n ≡ unsigned_abs (g -ℤ l) → pos n ≡ g -ℤ l
difference_is g l n le is = abs_is (g -ℤ l) n (omega (arith, ints)) is

-- the time of one key more
pub fold_next : (f : ℤ → ℤ → ℤ) (keys : List Key) (i : ℕ) → i < length keys → fold f (first_of (key_times keys)) (take (i + 1) (key_times keys)) ≡ f (fold f (first_of (key_times keys)) (take i (key_times keys))) (key_at keys i).1
fold_next f keys i lt =
    fold_more f (first_of (key_times keys)) (key_times keys) i (pos 0) (simp length-map lt)
    ∙ ap (λ (t : ℤ). f (fold f (first_of (key_times keys)) (take i (key_times keys))) t) (get_or-map (λ (k : Key). k.1) keys i no_key (pos 0) lt)

pub step_is : (f : ℤ → ℤ → ℤ) (keys : List Key) (i : ℕ) (so_far time r : ℤ) → i < length keys → so_far ≡ fold f (first_of (key_times keys)) (take i (key_times keys)) → time ≡ (key_at keys i).1 → r ≡ f so_far time → r ≡ fold f (first_of (key_times keys)) (take (i + 1) (key_times keys))
step_is f keys i so_far time r lt before here is =
    is ∙ (ap (λ (x : ℤ). f x time) before ∙ (ap (λ (y : ℤ). f (fold f (first_of (key_times keys)) (take i (key_times keys))) y) here ∙ sym (fold_next f keys i lt)))

-- the time of the first key
pub first_is : (keys : List Key) → 0 < length keys → (key_at keys 0).1 ≡ first_of (key_times keys)
first_is keys some = sym (get_or-map (λ (k : Key). k.1) keys 0 no_key (pos 0) some)
