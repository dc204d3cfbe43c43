use Rattle.std.proofs.Common.{◌≡◌, List, sym, ◌∙◌}
use Rattle.std.proofs.lemmas.Result.{IfOk-weaker}
use Rattle.span_types.specs.declared.span.Span.{Span}
use Rattle.span_text.specs.declared.placed.Placed.{Placed}
use Rattle.zipkin_spans.specs.Halves.{as_child, span_apart}
use Rattle.zipkin_spans.specs.inner.Sides.{HaveIds}
use Rattle.zipkin_spans.proofs.HalfLemmas.{no_half}
use Rattle.zipkin_spans.proofs.halves.span_apart.Goals as goal

pub returns : goal.returns
returns c =
    IfOk-weaker c.child_apart.result
    (λ (s : Span). (all : List Placed) → HaveIds all c.args.clients.now c.args.servers.now → s ≡ as_child all c.args.span)
    (λ (s : Span). (all : List Placed) → HaveIds all c.args.clients.now c.args.servers.now → s ≡ span_apart all c.args.span)
    (λ s told all h. told all h ∙ no_half all c.args.span (sym c.if-branch.false ∙ c.in_ok-is_server_half.ensures all h.clients)) c.child_apart.ensures
