-- Ids of spans, wherever their texts lie.
use Rattle.std.specs.Prelude.{ℕ, ◌&&◌, List, Bool, map}
use Rattle.std.specs.Str.{bytes_eq}
use denote.Ref.{Bor}
use Rattle.span_types.specs.declared.span.Span.{Span}
pub use Rattle.span_requests.specs.SpansOnce.{lent_spans}
use Rattle.span_requests.specs.declared.span_id.SpanId.{SpanId}

-- an id of a span: that of its trace, and its own
abbrev pub IdPair : Type 0
IdPair = List ℕ × List ℕ

-- two ids are one
abbrev pub pair_eq : IdPair → IdPair → Bool
pair_eq p q = bytes_eq p.0 q.0 && bytes_eq p.1 q.1

-- the id of a key, and of a span
abbrev pub pair_of_key : SpanId → IdPair
pair_of_key key = (key.trace.now, key.id.now)

abbrev pub pair_of : Span → IdPair
pair_of s = (s.trace, s.id)

-- the ids of keys, and of spans
abbrev pub pairs_of_keys : List SpanId → List IdPair
pairs_of_keys keys = map pair_of_key keys

abbrev pub pairs_of : List Span → List IdPair
pairs_of spans = map pair_of spans

-- the texts of a list of references
abbrev pub lent_texts : List (Bor (List ℕ)) → List (List ℕ)
lent_texts texts = map (λ (t : Bor (List ℕ)). t.now) texts
