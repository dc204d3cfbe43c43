use Rattle.std.proofs.Common.{ap, map, subst}
use Rattle.std.proofs.lemmas.Result.{err_from_is_err_and}
use Rattle.batch_sheets.specs.Named.{cut_trace}
use Rattle.segment_names.specs.Known.{Known}
use Rattle.session.specs.SessionStates.{SessionState}
use Rattle.session.specs.inner.AddFaults.{HasNamesCause}
use Rattle.session.proofs.AddingLemmas.{are_named}
use Rattle.session.proofs.sessions.Session.add_names.Goals as goal

pub returns-in_err-book-clause-cause : goal.returns-in_err-book-clause-cause
returns-in_err-book-clause-cause g c =
    let valid = map cut_trace c.args.valid.items in
    let fault = c.in_err-book.field-0.0 in
    let p = err_from_is_err_and c.from_residual.result c.from_residual.ensures.1 in
    rw (p.1, p.2) (subst (λ (k : Known). HasNamesCause k valid fault) (ap (λ (s : SessionState). s.known) c.self.view_is) c.in_err-book.ensures.cause)

pub returns-clause-added : goal.returns-clause-added
returns-clause-added g c =
    let old = c.self.inside in
    are_named c.args.self (map cut_trace c.args.valid.items) old.workers old.book c.in_ok-book.field-0.book old.given old.watch old.grace c.self.view_is c.name_and_widen.ensures.kept.known c.in_ok-book.ensures.none c.in_ok-book.ensures.added
