-- The bits that the segments of a trace, sorted by name, clear pair by pair.
use Rattle.std.specs.Prelude.{◌≡◌, ℕ, zero, suc, ◌+◌, ◌/◌, ◌<◌, Bool, true, false, ◌&&◌, ◌||◌, ◌==◌}
use Rattle.std.specs.Prelude.{ℤ, pos, ◌+ℤ◌, int_lt, FitsSigned}
use Rattle.std.specs.Prelude.{List, take, slice_get, unwrap_or, AllPairs}
use Rattle.std.specs.Int.{w64, bit_at}
use Rattle.std.specs.List.{list_any}
use Rattle.std.specs.Option.{option_map}
use Rattle.hypothesis_index.specs.Places.{pairs_below, pair_number}
use Rattle.hypothesis_index.specs.declared.relation.Relation.TheVariants.{Before, Exclusive, Apart}
use Rattle.refute_tests.specs.Clearing.{is_at, starts_early}
use Rattle.trace_types.specs.declared.named_segment.NamedSegment.{NamedSegment}
use Rattle.word_rows.specs.declared.entries.Entry.{Entry}
use Rattle.word_rows.specs.Rows.{clears}

-- each name is less than those behind it
abbrev pub NamesRise : List NamedSegment → Type 0
NamesRise segments = AllPairs (λ (s t : NamedSegment). s.name < t.name) segments

-- the bits that two segments refute, the first having the lesser name
abbrev pub hits : ℕ → NamedSegment → NamedSegment → ℕ → ℕ → Bool
hits grace s t i b =
    (((starts_early grace t s && is_at (Before s.name t.name) i b)
    || (starts_early grace s t && is_at (Before t.name s.name) i b))
    || ((starts_early grace t s && starts_early grace s t)
    && is_at (Exclusive s.name t.name) i b)) || is_at (Apart s.name t.name) i b

-- another segment ends after this limit exactly where t starts before that end, by more than the
-- grace
abbrev pub IsEndLimit : ℤ → ℕ → NamedSegment → Type 0
IsEndLimit limit grace t = (end : ℤ) → FitsSigned w64 end
    → int_lt limit end ≡ int_lt (t.start +ℤ pos grace) end

-- another segment starts before this limit exactly where it starts before t ends, by more than the
-- grace
abbrev pub IsStartLimit : ℤ → ℕ → NamedSegment → Type 0
IsStartLimit limit grace t = (start : ℤ) → FitsSigned w64 start
    → int_lt start limit ≡ int_lt (start +ℤ pos grace) t.end

-- the four bits of a pair, from the lowest: the lesser is not before the greater, nor the greater
-- before the lesser, the two are not exclusive, and not apart
abbrev pub kinds_of : Bool → Bool → ℕ
kinds_of true true = 15
kinds_of true false = 9
kinds_of false true = 10
kinds_of false false = 8

-- the word of the pair i < j
abbrev pub word_of : ℕ → ℕ → ℕ
word_of i j = 126 + pair_number i j / 16

-- the word of the first pair of j
abbrev pub row_start : ℕ → ℕ
row_start j = 126 + pairs_below j / 16

-- the row clears this bit of this word, or the mask of the open word has it
abbrev pub clears_with : List Entry → ℕ → ℕ → ℕ → ℕ → Bool
clears_with row word mask i b = clears row i b || ((word == i) && (bit_at mask b == 1))

-- some number below n passes
abbrev pub any_below : ℕ → (ℕ → Bool) → Bool
any_below zero p = false
any_below (suc n) p = any_below n p || p n

-- the bits that the segment at y refutes with those before it
abbrev pub row_hits : ℕ → List NamedSegment → ℕ → ℕ → ℕ → Bool
row_hits grace segments y i b =
    unwrap_or (option_map (λ (t : NamedSegment). list_any (λ s. hits grace s t i b) (take y segments)) (slice_get segments y)) false

-- the bits that the first k segments refute
abbrev pub all_hits : ℕ → List NamedSegment → ℕ → ℕ → ℕ → Bool
all_hits grace segments k i b = any_below k (λ y. row_hits grace segments y i b)
