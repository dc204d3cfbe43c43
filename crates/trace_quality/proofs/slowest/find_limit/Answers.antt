use Rattle.std.proofs.Common.{◌-◌, ◌/◌, ◌∙◌, ap, sym, ℕ}
use Rattle.std.specs.Prelude.{vec_len}
use Rattle.std.proofs.lemmas.Bool.{eqb-true}
use Rattle.trace_quality.proofs.SlowLemmas.{limit_read, no_spans}
use Rattle.trace_quality.proofs.slowest.find_limit.Goals as goal

pub returns-then-is_empty : goal.returns-then-is_empty
returns-then-is_empty c f some =
    let spans = c.in_ok-spans.spans in
    let none = eqb-true (vec_len spans) 0 (sym c.is_empty.ensures ∙ c.if-is_empty.true) in
    absurd (no_spans c.args.facts.now spans.items c.in_ok-spans.ensures.same (sym spans.ok.0 ∙ none) some)

pub returns : goal.returns
returns c f some =
    let spans = c.in_ok-spans.spans in
    let at = ap (λ (m : ℕ). m - 1 - (c.len-2.result - 1) / 20) c.len.ensures ∙ ap (λ (m : ℕ). vec_len spans - 1 - (m - 1) / 20) c.len-2.ensures in
    limit_read c.args.facts.now spans.items (vec_len spans) (c.len.result - 1 - (c.len-2.result - 1) / 20) c.index.result.now _ c.in_ok-spans.ensures.same c.in_ok-spans.ensures.sorted spans.ok.0 at c.index.ensures f some
