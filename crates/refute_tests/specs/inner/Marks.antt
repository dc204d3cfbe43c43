-- Marks of names and of pairs of names, four bits each, sixteen to a word.
use Rattle.std.specs.Prelude.{◌≡◌, ℕ, ◌+◌, ◌-◌, ◌*◌, ◌/◌, ◌%◌, Bool, true, false, ◌&&◌, ◌||◌, ◌==◌}
use Rattle.std.specs.Prelude.{nat_lt, nat_le}
use Rattle.std.specs.Prelude.{List, slice_index, AllPairs, bit_and, bit_or, ◌^◌}
use Rattle.std.specs.Int.{bit_at}
use Rattle.std.specs.List.{list_any}
use Rattle.hypothesis_index.specs.Places.{pairs_below}
use Rattle.refute_tests.specs.Clearing.{starts_early}
use Rattle.trace_types.specs.declared.named_segment.NamedSegment.{NamedSegment}

-- the name, or the pair, with this number has this mark
abbrev pub has_mark : List ℕ → ℕ → ℕ → Bool
has_mark words n mark = bit_at (slice_index words (n / 16)) (4 * (n % 16) + mark) == 1

-- some segment has this name
abbrev pub is_named : List NamedSegment → ℕ → Bool
is_named segments n = list_any (λ (s : NamedSegment). n == s.name) segments

-- the pair with this number is one of this name and a lesser one
abbrev pub in_row : ℕ → ℕ → Bool
in_row name pair = nat_le (pairs_below name) pair && nat_lt pair (pairs_below name + name)

-- forward: t starts before s ends, by more than the grace; else s starts so before t ends
abbrev pub early_by : Bool → ℕ → NamedSegment → NamedSegment → Bool
early_by true grace s t = starts_early grace t s
early_by false grace s t = starts_early grace s t

-- some segment of this name is early for t, in this direction
abbrev pub early_name : Bool → ℕ → List NamedSegment → NamedSegment → ℕ → Bool
early_name forward grace segments t n =
    list_any (λ (s : NamedSegment). (n == s.name) && early_by forward grace s t) segments

-- the pair is one of t, and its lesser name has the mark from the start, or, for mark 0, is early
abbrev pub row_marks : Bool → ℕ → List NamedSegment → List ℕ → NamedSegment → ℕ → ℕ → Bool
row_marks forward grace segments marks t pair mark = in_row t.name pair
    && (has_mark marks (pair - pairs_below t.name) mark
    || ((mark == 0) && early_name forward grace segments t (pair - pairs_below t.name)))

-- of the candidates, those that are early for any one segment come first
abbrev pub EarlyFirst : Bool → ℕ → List NamedSegment → Type 0
EarlyFirst forward grace candidates = (t : NamedSegment) → AllPairs (λ (s u : NamedSegment).
    early_by forward grace u t ≡ true → early_by forward grace s t ≡ true) candidates

-- what is early for one of the rows is early for all that follow it
abbrev pub EarlyStays : Bool → ℕ → List NamedSegment → Type 0
EarlyStays forward grace rows = (s : NamedSegment) → AllPairs (λ (t u : NamedSegment).
    early_by forward grace s t ≡ true → early_by forward grace s u ≡ true) rows

-- the forward marks of the pairs of t: 3 where the lesser name is there, 0 where it is early
abbrev pub forward_marks : ℕ → List NamedSegment → NamedSegment → ℕ → ℕ → Bool
forward_marks grace segments t pair mark = in_row t.name pair
    && (((mark == 3) && is_named segments (pair - pairs_below t.name))
    || ((mark == 0) && early_name true grace segments t (pair - pairs_below t.name)))

-- the backward marks of the pairs of t: 0 where the lesser name is early
abbrev pub backward_marks : ℕ → List NamedSegment → NamedSegment → ℕ → ℕ → Bool
backward_marks grace segments t pair mark = in_row t.name pair
    && ((mark == 0) && early_name false grace segments t (pair - pairs_below t.name))

-- the kinds of sixteen pairs, from their forward and their backward marks
abbrev pub kinds_word : ℕ → ℕ → ℕ
kinds_word forward backward =
    bit_or (bit_or forward (backward * 2 ^ 1 % 2 ^ 64)) (bit_and forward backward * 2 ^ 2 % 2 ^ 64)

-- the tables clear this bit of this word
abbrev pub table_clears : List ℕ → List ℕ → ℕ → ℕ → Bool
table_clears forward backward i b = nat_le 126 i
    && (bit_at (kinds_word (slice_index forward (i - 126)) (slice_index backward (i - 126))) b == 1)
