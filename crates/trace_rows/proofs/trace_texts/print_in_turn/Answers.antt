use Rattle.std.proofs.Common.{◌∷◌, [], List, refl, ◌∙◌, subst, ap, arith}
use Rattle.std.specs.Prelude.{Err}
use Rattle.std.specs.Borrow.{Bor}
use Rattle.std.proofs.lemmas.Result.{err_from_is_err_and}
use Rattle.text_rows.specs.Printing.{print_faults}
use Rattle.text_rows.specs.declared.print_fault.PrintFault.TheVariants.{Memory}
use Rattle.trace_types.specs.declared.named_trace.NamedTrace.{NamedTrace}
use Rattle.trace_rows.specs.inner.ShownTraces.{PrintsShown}
use Rattle.trace_rows.proofs.ChunkLemmas.{each_lent}
use Rattle.trace_rows.proofs.PrintLemmas.{done, shown_none, shown_unbegun, lists_next, lists_all, lists_cut}
use Rattle.trace_rows.proofs.trace_texts.print_in_turn.Goals as goal

pub loop-place-init : goal.loop-place-init
loop-place-init g c = record {
  printed = shown_none g.S.Sink.written g.S.Sink.faults c.args.book.now (g.K.TraceTexts.part c.args.texts.now) _ _ c.parts_follow.ensures.none;
  counted = refl;
}

pub loop-place-preserved : goal.loop-place-preserved
loop-place-preserved g c = record {
  printed = lists_next g.S.Sink.written g.S.Sink.faults c.args.book.now (g.K.TraceTexts.part c.args.texts.now) (λ (t : Bor NamedTrace). t.now ∷ []) c.args.traces.now c.loop-place.place c.index-traces-place.result _ _ _ _ _ _ c.part_calls_follow.ensures.follow c.loop-place-test.true c.index-traces-place.is c.loop-place.invariant.printed c.in_ok-print.ensures.printed;
  counted = c.in_ok-print.ensures.counted ∙ c.loop-place.invariant.counted;
}

pub returns-clause-printed : goal.returns-clause-printed
returns-clause-printed g c =
    subst (λ (ts : List NamedTrace). PrintsShown g.S.Sink.written g.S.Sink.faults done c.args.sink.now c.loop-place.sink c.args.book.now (g.K.TraceTexts.part c.args.texts.now) ts c.args.buffer.now c.loop-place.buffer) (each_lent c.args.traces.now)
    (lists_all g.S.Sink.written g.S.Sink.faults c.args.book.now (g.K.TraceTexts.part c.args.texts.now) (λ (t : Bor NamedTrace). t.now ∷ []) c.args.traces.now c.loop-place.place _ _ _ _ c.loop-place-test.false c.loop-place.invariant.printed)

pub returns-clause-counted : goal.returns-clause-counted
returns-clause-counted g c = c.loop-place.invariant.counted

pub returns-in_err-print-clause-printed : goal.returns-in_err-print-clause-printed
returns-in_err-print-clause-printed g c =
    let p = err_from_is_err_and c.from_residual-in_err-print.result c.from_residual-in_err-print.ensures.1 in
    rw (p.1, p.2) (subst (λ (ts : List NamedTrace). PrintsShown {T = Unit {0}} g.S.Sink.written g.S.Sink.faults (Err c.in_err-print.field-0.0) c.args.sink.now c.print.new.sink c.args.book.now (g.K.TraceTexts.part c.args.texts.now) ts c.args.buffer.now c.print.new.buffer) (each_lent c.args.traces.now)
    (lists_cut g.S.Sink.written g.S.Sink.faults c.args.book.now (g.K.TraceTexts.part c.args.texts.now) (λ (t : Bor NamedTrace). t.now ∷ []) c.args.traces.now c.loop-place.place c.index-traces-place.result _ _ _ _ _ _ _ c.part_calls_follow.ensures.follow c.part_calls_follow.ensures.goes_on c.loop-place-test.true c.index-traces-place.is c.loop-place.invariant.printed c.in_err-print.ensures.printed))

pub returns-in_err-print-clause-counted : goal.returns-in_err-print-clause-counted
returns-in_err-print-clause-counted g c =
    let p = err_from_is_err_and c.from_residual-in_err-print.result c.from_residual-in_err-print.ensures.1 in
    rw (p.1, p.2) (c.in_err-print.ensures.counted ∙ ap (print_faults {T = Unit {0}} (Err c.in_err-print.field-0.0)) c.loop-place.invariant.counted)

pub returns-in_err-computed-clause-printed : goal.returns-in_err-computed-clause-printed
returns-in_err-computed-clause-printed g c =
    let p = err_from_is_err_and c.from_residual.result c.from_residual.ensures.1 in
    rw (p.1, p.2) (subst (λ (ts : List NamedTrace). PrintsShown {T = Unit {0}} g.S.Sink.written g.S.Sink.faults (Err Memory) c.args.sink.now c.loop-place.sink c.args.book.now (g.K.TraceTexts.part c.args.texts.now) ts c.args.buffer.now c.loop-place.buffer) (each_lent c.args.traces.now)
    (lists_cut g.S.Sink.written g.S.Sink.faults c.args.book.now (g.K.TraceTexts.part c.args.texts.now) (λ (t : Bor NamedTrace). t.now ∷ []) c.args.traces.now c.loop-place.place c.index-traces-place.result _ _ _ _ _ _ _ c.part_calls_follow.ensures.follow c.part_calls_follow.ensures.goes_on c.loop-place-test.true c.index-traces-place.is c.loop-place.invariant.printed
    (shown_unbegun g.S.Sink.written g.S.Sink.faults c.args.book.now (g.K.TraceTexts.part c.args.texts.now) c.loop-place.sink (c.index-traces-place.result.now ∷ []) _ c.loop-place.buffer c.parts_follow.ensures.unbegun)))
