use Rattle.std.proofs.Common.{ℕ, List, All, sym, ap, ◌∙◌, subst}
use Rattle.std.specs.Borrow.{Bor}
use Rattle.day_partitions.specs.Books.{BookState}
use Rattle.refute_tests.specs.Clearing.{HaveNamesBelow}
use Rattle.trace_types.specs.declared.named_trace.NamedTrace.{NamedTrace}
use Rattle.evidence_printing.proofs.tables.make_tables.Goals as goal

pub tables_of-requires-clause-below : goal.tables_of-requires-clause-below
tables_of-requires-clause-below g c = λ κs live.
    let same = ap (λ (b : BookState). b.names) c.day_book.ensures.book ∙ (c.day_book.ensures.kept.names ∙ sym c.names-names.ensures.count) in
    subst (λ (n : ℕ). All (λ (t : Bor NamedTrace). HaveNamesBelow n t.now) c.deref.result.now) same
    (subst (λ (l : List (Bor NamedTrace)). All (λ (t : Bor NamedTrace). HaveNamesBelow c.day_book.result.now.names t.now) l) (sym c.deref.ensures.value) c.in_ok-traces.ensures.below)
