use Rattle.std.proofs.Common.{ap, ◌∙◌}
use Rattle.std.specs.Prelude.{Err}
use Rattle.std.proofs.lemmas.Result.{err_from_is_err_and}
use Rattle.text_rows.specs.Printing.{print_faults}
use Rattle.session.specs.SessionStates.{SessionState}
use Rattle.session.proofs.CarryLemmas.{add_carried, add_cut, add_flush_cut, print_counted, print_no_limit}
use Rattle.session.proofs.sessions.Session.add.Goals as goal

pub returns-in_err-print_added-clause-cause : goal.returns-in_err-print_added-clause-cause
returns-in_err-print_added-clause-cause g c =
    let fault = c.in_err-print_added.field-0.0 in
    let p = err_from_is_err_and c.from_residual-in_err-print_added.result c.from_residual-in_err-print_added.ensures.1 in
    rw (p.1, p.2) (λ s shown. add_cut c.args.self.workers c.args.events s c.in_ok-added.added.session c.in_ok-added.added.refused.items c.in_ok-added.added.watched.items (c.in_ok-added.ensures.added s shown) c.new-buffer.result c.new-buffer.ensures c.deref.result.now c.deref.ensures.value c.deref-2.result.now c.deref-2.ensures.value (g.S.Sink.written c.args.out.now) _ fault c.in_err-print_added.ensures.prefix)

pub returns-in_err-print_added-clause-counted : goal.returns-in_err-print_added-clause-counted
returns-in_err-print_added-clause-counted g c =
    let fault = c.in_err-print_added.field-0.0 in
    let p = err_from_is_err_and c.from_residual-in_err-print_added.result c.from_residual-in_err-print_added.ensures.1 in
    rw (p.1, p.2) (c.in_err-print_added.ensures.counted ∙ print_counted SessionState fault _)

pub returns-in_err-print_added-clause-untouched : goal.returns-in_err-print_added-clause-untouched
returns-in_err-print_added-clause-untouched g c =
    let p = err_from_is_err_and c.from_residual-in_err-print_added.result c.from_residual-in_err-print_added.ensures.1 in
    rw (p.1, p.2) (λ limit. absurd (print_no_limit c.in_err-print_added.field-0.0 limit))

pub returns-in_err-flush-clause-cause : goal.returns-in_err-flush-clause-cause
returns-in_err-flush-clause-cause g c =
    let fault = c.in_err-flush.field-0.0 in
    let p = err_from_is_err_and c.from_residual-in_err-flush.result c.from_residual-in_err-flush.ensures.1 in
    rw (p.1, p.2) (λ s shown. add_flush_cut c.args.self.workers c.args.events s c.in_ok-added.added.session c.in_ok-added.added.refused.items c.in_ok-added.added.watched.items (c.in_ok-added.ensures.added s shown) c.new-buffer.result c.new-buffer.ensures c.deref.result.now c.deref.ensures.value c.deref-2.result.now c.deref-2.ensures.value (g.S.Sink.written c.args.out.now) _ c.flush_ends_a_text.ensures.prefix fault (g.S.Sink.written c.print_added.new.sink) c.print_added.new.buffer c.in_ok-print_added.ensures.all c.in_err-flush.ensures.prefix)

pub returns-in_err-flush-clause-counted : goal.returns-in_err-flush-clause-counted
returns-in_err-flush-clause-counted g c =
    let fault = c.in_err-flush.field-0.0 in
    let p = err_from_is_err_and c.from_residual-in_err-flush.result c.from_residual-in_err-flush.ensures.1 in
    rw (p.1, p.2) (c.in_err-flush.ensures.counted ∙ (ap (print_faults {T = Unit {0}} (Err fault)) c.in_ok-print_added.ensures.counted ∙ print_counted SessionState fault _))

pub returns-in_err-flush-clause-untouched : goal.returns-in_err-flush-clause-untouched
returns-in_err-flush-clause-untouched g c =
    let p = err_from_is_err_and c.from_residual-in_err-flush.result c.from_residual-in_err-flush.ensures.1 in
    rw (p.1, p.2) (λ limit. absurd (print_no_limit c.in_err-flush.field-0.0 limit))

pub returns-clause-carried : goal.returns-clause-carried
returns-clause-carried g c = λ s shown. add_carried c.args.self.workers c.args.events s c.in_ok-added.added.session c.in_ok-added.added.refused.items c.in_ok-added.added.watched.items (c.in_ok-added.ensures.added s shown) c.new-buffer.result c.new-buffer.ensures c.deref.result.now c.deref.ensures.value c.deref-2.result.now c.deref-2.ensures.value (g.S.Sink.written c.args.out.now) (g.S.Sink.written c.flush.new.sink) c.flush_ends_a_text.ensures.whole (g.S.Sink.written c.print_added.new.sink) c.print_added.new.buffer c.in_ok-print_added.ensures.all c.in_ok-flush.ensures.all
