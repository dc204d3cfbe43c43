use Rattle.std.proofs.Common.{◌≡◌, ◌+◌, List, length, take, subst, sym, ap, ◌∙◌, arith}
use Rattle.std.proofs.lemmas.List.{take_at, take_all}
use Rattle.std.proofs.Math.ListN.{drop}
use Rattle.trace_types.specs.declared.trace.Trace.{Trace}
use Rattle.model_checks.specs.declared.refuted.Refuted.{Refuted}
use Rattle.model_checks.specs.inner.Answers.{AreAnswers}
use Rattle.model_checks.proofs.AnswerLemmas.{told_nothing}
use Rattle.model_checks.proofs.refuted.refuted_row.Goals as goal

pub loop-at-init : goal.loop-at-init
loop-at-init c = rw (c.in_ok-row.ensures.items_if_clones_equal (λ y h. h)) (told_nothing c.args.first.now c.args.names.now)

pub add_trace-requires-clause-told : goal.add_trace-requires-clause-told
add_trace-requires-clause-told c = rw c.deref_mut.ensures.value c.loop-at.invariant

pub loop-at-preserved : goal.loop-at-preserved
loop-at-preserved c =
    let new : List Refuted = c.add_trace.new.row in
    let old : List Refuted = c.loop-at.row.items in
    let same : length new ≡ length old = c.add_trace.auto.row ∙ ap length c.deref_mut.ensures.value in
    subst (λ (r : List Refuted). AreAnswers (take (c.loop-at.at + 1) c.args.traces.now) c.args.first.now c.args.names.now r) (sym (take_at new (drop (length new) old) c.loop-at.row.len (omega (arith, c.loop-at.row.ok.0)))) c.add_trace.ensures

pub returns : goal.returns
returns c = subst (λ (l : List Trace). AreAnswers l c.args.first.now c.args.names.now c.loop-at.row.items) (take_all c.loop-at.at c.args.traces.now (omega arith)) c.loop-at.invariant
