use Rattle.std.proofs.Common.{◌<◌, All, arith, subst, sym, take, ◌≡◌}
use Rattle.std.proofs.lemmas.List.{take_all}
use Rattle.std.proofs.lemmas.List.Elements.{All-more}
use Rattle.refute_tests.specs.Clearing.{HaveNamesBelow}
use Rattle.trace_types.specs.declared.named_segment.NamedSegment.{NamedSegment}
use Rattle.trace_types.specs.declared.named_trace.NamedTrace.{NamedTrace}
use Rattle.report_checks.proofs.books.are_below.Goals as goal

pub traces-preserved : goal.traces-preserved
traces-preserved c = All-more (HaveNamesBelow c.args.names) c.args.traces.now c.traces.trace-index c.trace-item.result (omega arith) c.traces.invariant
    (subst (HaveNamesBelow c.args.names) c.trace-item.is (subst (All (λ (s : NamedSegment). s.name < c.args.names)) c.items.ensures (c.have_names_below.ensures.0 c.if-not-have_names_below.false)))

pub returns : goal.returns
returns c = λ _. subst (λ ts. All (HaveNamesBelow c.args.names) ts) (take_all c.traces.trace-index c.args.traces.now (omega arith)) c.traces.invariant
