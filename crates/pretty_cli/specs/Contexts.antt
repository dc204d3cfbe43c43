-- What the rows down to a row tell of it: its view, what it is there, and figures of its header or
-- of its trace.
use Rattle.std.specs.Prelude.{ℕ, ◌+◌, ◌-◌, ◌^◌, List, Option, Some, None, codes, bytes_eq}
use Rattle.std.specs.Prelude.{if◌then◌else◌, max, min}
use Rattle.std.specs.Option.{option_map_or}
use Rattle.pretty_cli.specs.declared.context.Context.{Context}
use Rattle.pretty_cli.specs.declared.context.Kind.{Kind}
use Rattle.pretty_cli.specs.declared.context.Kind.TheVariants as kinds
use Rattle.pretty_cli.specs.declared.context.View.{View}
use Rattle.pretty_cli.specs.declared.context.View.TheVariants as views
use Rattle.pretty_cli.specs.Fields.{field_at, figure_of, number_at}

-- the view whose header begins with this word
abbrev pub header_view : List ℕ → Option View
header_view word =
    if bytes_eq word (codes "report") then Some views.Report
    else if bytes_eq word (codes "paths") then Some views.Paths
    else if bytes_eq word (codes "slack") then Some views.Slack
    else if bytes_eq word (codes "tail") then Some views.Tail
    else if bytes_eq word (codes "whatif") then Some views.WhatIf
    else if bytes_eq word (codes "evidence") then Some views.Evidence
    else None

-- what a row that begins with this word is in a view
abbrev pub kind_of : View → List ℕ → Kind
kind_of views.Report word =
    if bytes_eq word (codes "latency") then kinds.Latency
    else if bytes_eq word (codes "segment") then kinds.Segment else kinds.Other
kind_of views.Paths word =
    if bytes_eq word (codes "path") then kinds.Trace
    else if bytes_eq word (codes "step") then kinds.Step else kinds.Other
kind_of views.Slack word =
    if bytes_eq word (codes "segment") then kinds.Segment
    else if bytes_eq word (codes "trace") then kinds.Trace else kinds.Other
kind_of views.Tail word = if bytes_eq word (codes "segment") then kinds.Segment else kinds.Other
kind_of views.WhatIf word = if bytes_eq word (codes "forecast") then kinds.Forecast else kinds.Other
kind_of views.Evidence word =
    if bytes_eq word (codes "hb") then kinds.Order
    else if bytes_eq word (codes "mx") then kinds.Exclusion
    else if bytes_eq word (codes "pipe") then kinds.Pipe
    else if bytes_eq word (codes "nearly") then kinds.Nearly else kinds.Other
kind_of views.Other word = kinds.Other

-- before the first row
abbrev pub start : Context
start = record {
  view = views.Other;
  kind = kinds.Other;
  section = 0;
  group = 1;
  turn = 0;
  total = 0;
  slow = 0;
  others = 0;
}

-- one more, up to 2^64 - 1
abbrev pub one_more : ℕ → ℕ
one_more count = min (count + 1) (2 ^ 64 - 1)

-- the context of a header
abbrev pub at_header : Context → View → List (List ℕ) → Context
at_header c view fields =
    let slow = figure_of (codes "slow=") (field_at fields 2) in
    record {
      view = view;
      kind = kinds.Header;
      section = one_more c.section;
      group = 1;
      turn = 0;
      total = figure_of (codes "critical=") (field_at fields 2);
      slow = slow;
      others = figure_of (codes "traces=") (field_at fields 1) - slow;
    }

-- the context of a row that begins a trace, with its latency and the length of its critical path
abbrev pub at_trace : Context → List (List ℕ) → Context
at_trace c fields = record c {
  kind = kinds.Trace;
  group = max (2 ^ 64 - 1 - number_at fields 3) 1;
  turn = one_more c.turn;
  total = number_at fields 4;
}

-- the context of a row of this kind, which is no header
abbrev pub at_row : Context → Kind → List (List ℕ) → Context
at_row c kinds.Header fields = record c { kind = kinds.Header }
at_row c kinds.Latency fields = record c { kind = kinds.Latency }
at_row c kinds.Segment fields = record c { kind = kinds.Segment }
at_row c kinds.Trace fields = at_trace c fields
at_row c kinds.Step fields = record c { kind = kinds.Step }
at_row c kinds.Forecast fields = record c { kind = kinds.Forecast }
at_row c kinds.Order fields = record c { kind = kinds.Order }
at_row c kinds.Exclusion fields = record c { kind = kinds.Exclusion }
at_row c kinds.Pipe fields = record c { kind = kinds.Pipe }
at_row c kinds.Nearly fields = record c { kind = kinds.Nearly }
at_row c kinds.Other fields =
    record c { view = views.Other; kind = kinds.Other; section = one_more c.section }

-- the context of a row, from that of the row before it
abbrev pub context_after : Context → List (List ℕ) → Context
context_after c fields = option_map_or (λ view. at_header c view fields)
    (header_view (field_at fields 0)) (at_row c (kind_of c.view (field_at fields 0)) fields)
