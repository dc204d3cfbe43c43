-- Segments sorted by time: those that are early for one segment come first.
use Rattle.std.proofs.Common.{◌≡◌, ℕ, ℤ, pos, ◌+ℤ◌, ◌≤ℤ◌, int_lt, true, false, List, get_or, Bor, arith}
use Rattle.std.proofs.lemmas.Cmp.{int_cmp_total}
use Rattle.std.proofs.lemmas.Int.{ints}
use Rattle.std.proofs.lemmas.Fn.{always_returns_same}
use Rattle.std.specs.Fn.{Called, ComputesKey}
use denote.Param.Members.{Mut}
use Rattle.std.proofs.lemmas.List.Sorted.{ranks_by, sorted_far}
use Rattle.std.specs.List.{AllPairs}
use Rattle.std.specs.List.Sorted.{IsSortedByKey}
use Rattle.std.specs.Ordering.{int_cmp, is_lt}
use Rattle.refute_tests.specs.inner.Marks.{EarlyFirst, EarlyStays}
use Rattle.refute_tests.specs.inner.Sorting.{EndsFall, EndsRise, StartsFall, StartsRise}
use Rattle.trace_types.specs.declared.named_segment.NamedSegment.{NamedSegment}

not_less : (a b : ℤ) → is_lt (int_cmp b a) ≡ false → a ≤ℤ b
not_less a b h = grind (arith, ints)

-- what a sort by a signed key gives
rise_by : (key : NamedSegment → ℤ) (xs : List NamedSegment) → IsSortedByKey key int_cmp xs → AllPairs (λ (s t : NamedSegment). key s ≤ℤ key t) xs
rise_by key xs up i j d l h = not_less (key (get_or xs i d)) (key (get_or xs j d)) (sorted_far (λ x y. is_lt (int_cmp (key x) (key y))) (ranks_by int_cmp_total key) xs up i j d (omega arith) h)

pub rise_by_key : (key : NamedSegment → ℤ) {F : Type 0} {g : Mut F (Bor NamedSegment × Unit {0}) ℤ} {f : F} (xs : List NamedSegment)
    → ((k : NamedSegment → ℤ) → ComputesKey g k f → IsSortedByKey k int_cmp xs)
    → ((a : Bor NamedSegment × Unit {0}) (r : ℤ) (f' : F) → Called g f a r f' → (r ≡ key a.0.now) × (f' ≡ f)) → AllPairs (λ (s t : NamedSegment). key s ≤ℤ key t) xs
rise_by_key key {g = g} {f = f} xs up h = rise_by key xs (up key (always_returns_same g (λ a r. r ≡ key a.0.now) f h))

sooner : (a b e : ℤ) (grace : ℕ) → a ≤ℤ b → int_lt (b +ℤ pos grace) e ≡ true → int_lt (a +ℤ pos grace) e ≡ true
sooner a b e grace h t = grind (arith, ints)

longer : (a e f : ℤ) (grace : ℕ) → e ≤ℤ f → int_lt (a +ℤ pos grace) e ≡ true → int_lt (a +ℤ pos grace) f ≡ true
longer a e f grace h t = grind (arith, ints)

pub backward_first : (grace : ℕ) (xs : List NamedSegment) → StartsRise xs → EarlyFirst false grace xs
backward_first grace xs rise t i j d l h = sooner (get_or xs i d).start (get_or xs j d).start t.end grace (rise i j d l h)

pub backward_stays : (grace : ℕ) (xs : List NamedSegment) → EndsRise xs → EarlyStays false grace xs
backward_stays grace xs rise s i j d l h = longer s.start (get_or xs i d).end (get_or xs j d).end grace (rise i j d l h)

pub forward_first : (grace : ℕ) (xs : List NamedSegment) → EndsFall xs → EarlyFirst true grace xs
forward_first grace xs fall t i j d l h = longer t.start (get_or xs j d).end (get_or xs i d).end grace (fall i j d l h)

pub forward_stays : (grace : ℕ) (xs : List NamedSegment) → StartsFall xs → EarlyStays true grace xs
forward_stays grace xs fall s i j d l h = sooner (get_or xs j d).start (get_or xs i d).start s.end grace (fall i j d l h)
