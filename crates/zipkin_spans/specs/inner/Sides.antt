-- The sides of calls, and the ids of their spans.
use Rattle.std.specs.Prelude.{◌≡◌, ℕ, List, Bool, String}
use Rattle.std.specs.declared.alloc.Global.{Global}
use Rattle.std.specs.BTreeSet.{BTreeSet, contains_text}
use Rattle.span_types.specs.declared.span_kind.SpanKind.{SpanKind}
use Rattle.span_text.specs.declared.placed.Placed.{Placed}
use Rattle.zipkin_spans.specs.declared.halves.Side.{Side}
use Rattle.zipkin_spans.specs.declared.halves.Side.TheVariants.{Client, Server}
use Rattle.zipkin_spans.specs.Halves.{is_client, is_server, has_half}

-- a kind is of this side
abbrev pub is_side : Side → SpanKind → Bool
is_side Client = is_client
is_side Server = is_server

-- the ids are those of the spans of a side
abbrev pub HasIds : Side → List Placed → BTreeSet (String Global) → Type 0
HasIds side spans ids = (q : List ℕ) → contains_text ids q ≡ has_half (is_side side) spans q

-- the ids are those of the spans of both sides
pub record HaveIds (spans : List Placed) (of_clients of_servers : BTreeSet (String Global))
    : Type 0 where
  pub clients : HasIds Client spans of_clients
  pub servers : HasIds Server spans of_servers
