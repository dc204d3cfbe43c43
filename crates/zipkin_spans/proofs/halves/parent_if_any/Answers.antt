use Rattle.std.proofs.Common.{Some, option_map, sym, ap, ◌∙◌}
use Rattle.zipkin_spans.specs.Halves.{parent_apart}
use Rattle.zipkin_spans.proofs.halves.parent_if_any.Goals as goal

pub returns-in_ok-apart-in-Some : goal.returns-in_ok-apart-in-Some
returns-in_ok-apart-in-Some c = λ all h.
    ap Some (c.in_ok-apart-in-Some.ensures all h) ∙ sym (ap (option_map (parent_apart all c.args.trace.now)) c.in-Some.is)
