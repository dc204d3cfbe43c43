use Rattle.std.proofs.Common.{◌∙◌, All, ap, length, map, subst, sym}
use Rattle.std.proofs.lemmas.Result.{err_from_is_err_and}
use Rattle.batch_sheets.specs.Named.{cut_trace}
use Rattle.book_laws.specs.Shown.{AreShown}
use Rattle.kept_books.specs.KeptBooks.{KeptState, under_catalogue}
use Rattle.refute_tests.specs.Clearing.{HaveNamesBelow}
use Rattle.segment_names.specs.Known.{Known, with_traces}
use Rattle.session_rules.specs.KeptTraces.{kept_with}
use Rattle.session.proofs.AddingLemmas.{names_cause}
use Rattle.session.proofs.KnownLemmas.{names_grow}
use Rattle.session.proofs.adding.name_and_widen.Goals as goal

pub of-requires : goal.of-requires
of-requires g c =
    let parts = c.into_parts-catalogue.ensures in
    let grown = names_grow c.args.book.known (map cut_trace c.args.traces.items) parts.kept.known in
    rw (parts.book, parts.kept.names, c.in_ok-named.ensures.added, parts.catalogue) grown

pub returns-clause-none : goal.returns-clause-none
returns-clause-none g c = rw (sym c.into_parts-catalogue.ensures.catalogue) c.in_ok-named.ensures.none

pub returns-clause-added : goal.returns-clause-added
returns-clause-added g c =
    let parts = c.into_parts-catalogue.ensures in
    let valid = map cut_trace c.args.traces.items in
    c.in_ok-book.ensures.whole
    ∙ (ap (λ (k : Known). under_catalogue k c.into_parts-catalogue.result.1) (c.in_ok-named.ensures.added ∙ ap (λ (k : Known). with_traces k valid) parts.catalogue)
    ∙ ap (under_catalogue (with_traces c.args.book.known valid)) parts.book)

pub returns-clause-shown : goal.returns-clause-shown
returns-clause-shown g c =
    subst (λ (k : Known). AreShown k c.in_ok-named.named.items (map (kept_with c.args.grace) (map cut_trace c.args.traces.items))) (sym (ap (λ (k : KeptState). k.known) c.in_ok-book.ensures.whole)) c.in_ok-named.ensures.shown

pub returns-clause-below : goal.returns-clause-below
returns-clause-below g c =
    subst (λ (k : Known). All (HaveNamesBelow (length k.names)) c.in_ok-named.named.items) (sym (ap (λ (k : KeptState). k.known) c.in_ok-book.ensures.whole)) c.in_ok-named.ensures.below

pub returns-in_err-named-clause-cause : goal.returns-in_err-named-clause-cause
returns-in_err-named-clause-cause g c =
    let p = err_from_is_err_and c.from_residual.result c.from_residual.ensures.1 in
    rw (p.1, p.2) (names_cause c.in_err-named.field-0.0 c.args.book.known (map cut_trace c.args.traces.items) (rw c.into_parts-catalogue.ensures.catalogue at c.in_err-named.ensures.cause))
