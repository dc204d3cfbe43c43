-- Where what is said stands in its file.
use Rattle.std.specs.Prelude.{◌≡◌, ℕ, ◌+◌, List, [], ◌∷◌, ◌++◌, length, Result, Ok, Err, ⊤}
use Rattle.span_types.specs.declared.span.Span.{Span}
use Rattle.span_text.specs.declared.placed.Placed.{Placed}
use Rattle.span_text.specs.Outcomes.{◌>>=◌}
use Rattle.span_text.specs.declared.why.Why.{Why}
use Rattle.span_text.specs.declared.placed.Fault.{Fault}
use Rattle.span_text.specs.declared.placed.SpanError.{SpanError}
use Rattle.span_text.specs.declared.placed.SpanError.TheVariants.{Memory, Refused}

-- what is said at a place: a refusal is a fault there
abbrev pub at_place : {X : Type 0} → ℕ → Result X Why → Result X Fault
at_place n (Ok x) = Ok x
at_place n (Err why) = Err (record { place = n; why = why })

-- why a file was not read: out of memory, or its first fault
abbrev pub FailsAt : {Y : Type 0} → SpanError → Result Y Fault → Type 0
FailsAt Memory said = ⊤
FailsAt (Refused fault) said = said ≡ Err fault

-- what a call returned, seen by view, is what is said, unless memory ran out
abbrev pub GivesAt : {X Y : Type 0} → (X → Y) → Result X SpanError → Result Y Fault → Type 0
GivesAt view (Ok x) said = said ≡ Ok (view x)
GivesAt view (Err e) said = FailsAt e said

-- the lists that the items give, one behind the other, where each item is read knowing the number
-- of the next element, or the first fault
abbrev pub gather_from : {A B E : Type 0} → (ℕ → A → Result (List B) E) → ℕ → List A
    → Result (List B) E
gather_from f n [] = Ok []
gather_from f n (x ∷ xs) =
    f n x >>= λ first. gather_from f (n + length first) xs >>= λ others. Ok (first ++ others)

-- a span with its number
abbrev pub numbered_span : ℕ → Result Span Why → Result (List Placed) Fault
numbered_span n said = at_place n said >>= λ s. Ok (record { place = n; span = s } ∷ [])
