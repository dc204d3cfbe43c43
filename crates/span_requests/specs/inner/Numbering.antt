-- Spans by number: their index among the spans that are counted once.
use Rattle.std.specs.Prelude.{ℕ, ◌≡◌, ◌<◌, List, Option, Some, None, length, map, position, slice_get}
use Rattle.std.specs.Prelude.{slice_index_or}
use Rattle.span_types.specs.declared.span.Span.{Span}
pub use Rattle.span_requests.specs.Callers.{caller_number, caller_numbers}
use Rattle.span_requests.specs.Callers.{is_parent}
use Rattle.span_requests.specs.inner.Ids.{IdPair, pair_eq}
use Rattle.span_requests.specs.SpansOnce.{first_with_id}

-- each span of an input has the number of the first one with its id
pub record AreNumbered (input spans : List Span) (numbers : List ℕ) : Type 0 where
  pub size : length numbers ≡ length input
  pub within : (i : ℕ) → i < length numbers → slice_index_or numbers i 0 < length spans
  pub first : (i : ℕ) (s : Span) → slice_get input i ≡ Some s
      → first_with_id spans s ≡ slice_get spans (slice_index_or numbers i 0)

-- the number of the parent of a span, by the ids of spans
abbrev pub parent_place : List IdPair → List ℕ → Option (List ℕ) → Option ℕ
parent_place pairs trace None = None
parent_place pairs trace (Some parent) = position (pair_eq (trace, parent)) pairs

-- the number of the parent of a span, and those of all spans
abbrev pub parent_number : List Span → Span → Option ℕ
parent_number spans s = position (λ p. is_parent p s) spans

abbrev pub parent_numbers : List Span → List (Option ℕ)
parent_numbers spans = map (parent_number spans) spans
