use Rattle.std.proofs.Common.{◌≡◌, ◌∙◌, ◌+◌, ◌≤◌, ℕ, refl, sym, ap, arith, if◌then◌else◌, codes, length, []}
use Rattle.std.specs.Prelude.{Err}
use Rattle.std.proofs.lemmas.Bool.{cond-false, cond-true}
use Rattle.std.proofs.lemmas.Result.{err_from_is_err_and}
use Rattle.session_rules.specs.CertificateTexts.{verdict_row}
use Rattle.session_rules.specs.Parts.{Verdict, Verified, count_row}
use Rattle.session_rules.specs.Sessions.{verify_parts}
use Rattle.text_rows.specs.Printing.{print_faults}
use Rattle.certificate_rows.proofs.TextLemmas.{parts_cut, parts_last, parts_more, parts_none}
use Rattle.certificate_rows.proofs.VerdictLemmas.{parts_end, parts_from, parts_next, shown_end, shown_from, shown_next}
use Rattle.certificate_rows.proofs.verdict_printing.print_verdicts.Goals as goal
use Rattle.certificate_rows.proofs.verdict_printing.print_verdicts.Goals.{then-is_shown, else-is_shown}

pub claims-init : goal.claims-init
claims-init g c = record {
  printed = λ kept shown verdicts are. parts_none g.S.Sink.written g.S.Sink.faults (verify_parts c.args.claims.now verdicts) c.args.sink.now c.args.buffer.now c.parts_follow.ensures.none;
  count = λ kept shown verdicts are. omega arith;
  few = omega arith;
  counted = refl;
}

pub claims-preserved : goal.claims-preserved
claims-preserved g c =
    let claim = c.claim-item.result in
    let b = c.shown-is_shown.result in
    let tells = rw (c.catalogue-catalogue.ensures.catalogue, c.day_book-days.ensures.book) at c.shown-is_shown.ensures in
    let claims = c.args.claims.now in
    let i = c.claims.claim-index in
    let more : c.if-is_shown.count ≡ (if b then c.claims.count + 1 else c.claims.count) = elim c.if-is_shown.branch [
      | then-is_shown w ↦ w.count-is ∙ sym (cond-true b (c.claims.count + 1) c.claims.count w.if-is_shown.true)
      | else-is_shown w ↦ w.count-is ∙ sym (cond-false b (c.claims.count + 1) c.claims.count w.if-is_shown.false)
    ] in
    let few : c.if-is_shown.count ≤ i + 1 = (let so_far = c.claims.invariant.few in elim c.if-is_shown.branch [ then-is_shown w ↦ omega arith | else-is_shown w ↦ omega arith ]) in
    record {
      printed = λ kept shown verdicts are.
          let law = c.claims_are_shown.ensures c.args.book.now.known c.args.book.now.book kept claim c.catalogue-catalogue.ensures.kept.known c.catalogue-catalogue.ensures.kept.book shown in
          parts_more g.S.Sink.written g.S.Sink.faults (Verdict b claim.line) (verdict_row b claim.line) (parts_from claims verdicts (i + 1)) (parts_from claims verdicts i) (verify_parts claims verdicts) _ _ _ _ _ _ c.part_calls_follow.ensures.follow c.part_calls_follow.ensures.one
          (parts_next kept claims verdicts are i claim c.claims-test.true c.claim-item.is b ((λ e. law.0 (tells.0 e)), (λ s. tells.1 (law.1 s)))) refl (c.claims.invariant.printed kept shown verdicts are) c.in_ok-print_verdict.ensures;
      count = λ kept shown verdicts are.
          let law = c.claims_are_shown.ensures c.args.book.now.known c.args.book.now.book kept claim c.catalogue-catalogue.ensures.kept.known c.catalogue-catalogue.ensures.kept.book shown in
          shown_next kept claims verdicts are i claim c.claims-test.true c.claim-item.is b ((λ e. law.0 (tells.0 e)), (λ s. tells.1 (law.1 s))) c.claims.count c.if-is_shown.count (c.claims.invariant.count kept shown verdicts are) more;
      few = few;
      counted = c.in_ok-print_verdict.ensures.counted ∙ c.claims.invariant.counted;
    }

pub returns-in_err-print_verdict-clause-printed : goal.returns-in_err-print_verdict-clause-printed
returns-in_err-print_verdict-clause-printed g c = λ kept shown verdicts are.
    let claim = c.claim-item.result in
    let b = c.shown-is_shown.result in
    let tells = rw (c.catalogue-catalogue.ensures.catalogue, c.day_book-days.ensures.book) at c.shown-is_shown.ensures in
    let claims = c.args.claims.now in
    let i = c.claims.claim-index in
    let law = c.claims_are_shown.ensures c.args.book.now.known c.args.book.now.book kept claim c.catalogue-catalogue.ensures.kept.known c.catalogue-catalogue.ensures.kept.book shown in
    let p = err_from_is_err_and c.from_residual.result c.from_residual.ensures.1 in
    rw (p.1, p.2) (parts_cut g.S.Sink.written g.S.Sink.faults (Verdict b claim.line) (verdict_row b claim.line) (parts_from claims verdicts (i + 1)) (parts_from claims verdicts i) (verify_parts claims verdicts) _ _ _ _ _ _ c.part_calls_follow.ensures.follow c.part_calls_follow.ensures.one
    (parts_next kept claims verdicts are i claim c.claims-test.true c.claim-item.is b ((λ e. law.0 (tells.0 e)), (λ s. tells.1 (law.1 s)))) refl (c.claims.invariant.printed kept shown verdicts are) _ c.part_calls_follow.ensures.goes_on c.in_err-print_verdict.ensures)

pub returns-in_err-print_verdict-clause-counted : goal.returns-in_err-print_verdict-clause-counted
returns-in_err-print_verdict-clause-counted g c =
    let p = err_from_is_err_and c.from_residual.result c.from_residual.ensures.1 in
    rw (p.1, p.2) (c.in_err-print_verdict.ensures.counted ∙ ap (print_faults {T = Unit {0}} (Err c.in_err-print_verdict.field-0.0)) c.claims.invariant.counted)

pub returns-clause-printed : goal.returns-clause-printed
returns-clause-printed g c = λ kept shown verdicts are.
    let claims = c.args.claims.now in
    let i = c.claims.claim-index in
    let count = shown_end kept claims verdicts are i c.claims-test.false c.claims.count (c.claims.invariant.count kept shown verdicts are) in
    parts_last g.S.Sink.written g.S.Sink.faults (Verified (shown_from verdicts 0) (length claims)) (count_row (codes "verified") c.claims.count (length claims)) [] (parts_from claims verdicts i) (verify_parts claims verdicts) _ _ _ _ _ _ c.part_calls_follow.ensures.follow c.part_calls_follow.ensures.one
    (parts_end kept claims verdicts are i c.claims-test.false) (ap (λ (n : ℕ). count_row (codes "verified") n (length claims)) count) (c.claims.invariant.printed kept shown verdicts are) refl c.print_verified.result c.print_verified.ensures

pub returns-clause-counted : goal.returns-clause-counted
returns-clause-counted g c = c.print_verified.ensures.counted ∙ ap (print_faults c.print_verified.result) c.claims.invariant.counted
