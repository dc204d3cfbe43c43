use Rattle.std.proofs.Common.{◌≡◌, ◌+◌, ◌≤◌, Bool, List}
use Rattle.std.specs.List.{AllZip}
use Rattle.book_laws.specs.Shown.{AreShown}
use Rattle.kept_books.specs.KeptBooks.{traces_in}
use Rattle.session_rules.specs.KeptTraces.{Kept}
use Rattle.session_rules.specs.Refutations.{IsVerdict}
use Rattle.session_rules.specs.Sessions.{verify_parts}
use Rattle.certificate_rows.proofs.TextLemmas.{PrintsPartsBut}
use Rattle.certificate_rows.proofs.VerdictLemmas.{parts_from, shown_from}
use Rattle.certificate_rows.proofs.verdict_printing.print_verdicts.Given as goal

-- the parts of the claims so far are printed, and those that are shown are counted
abbrev pub invariant-claims : goal.invariant-claims
invariant-claims g l = record {
  printed : (kept : List Kept) → AreShown l.book.known (traces_in l.book) kept → (verdicts : List Bool) → AllZip (IsVerdict kept) l.claims verdicts
      → PrintsPartsBut g.S.Sink.written g.S.Sink.faults (parts_from l.claims verdicts l.claim-index) (verify_parts l.claims verdicts) l.fn.sink l.sink l.fn.buffer l.buffer;
  count : (kept : List Kept) → AreShown l.book.known (traces_in l.book) kept → (verdicts : List Bool) → AllZip (IsVerdict kept) l.claims verdicts
      → l.count + shown_from verdicts l.claim-index ≡ shown_from verdicts 0;
  few : l.count ≤ l.claim-index;
  counted : g.S.Sink.faults l.sink ≡ g.S.Sink.faults l.fn.sink;
}
