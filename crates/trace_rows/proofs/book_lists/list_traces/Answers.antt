use Rattle.std.proofs.Common.{◌≡◌, ◌∙◌, ℕ, All, IfOk, ap, length, map, subst}
use Rattle.std.specs.Borrow.{Bor}
use Rattle.day_partitions.specs.Books.{BookState, all_traces}
use Rattle.kept_books.specs.KeptBooks.{KeptState}
use Rattle.refute_tests.specs.Clearing.{HaveNamesBelow}
use Rattle.trace_types.specs.declared.named_trace.NamedTrace.{NamedTrace}
use Rattle.trace_rows.proofs.book_lists.list_traces.Goals as goal

pub returns-clause-traces : goal.returns-clause-traces
returns-clause-traces c =
    subst (λ (b : BookState). IfOk c.kept_traces.result (λ traces. map (λ (t : Bor NamedTrace). t.now) traces.items ≡ all_traces b.days)) (c.day_book.ensures.book ∙ ap (λ (k : KeptState). k.book) c.book.ensures.book) c.kept_traces.ensures.traces

pub returns-clause-below : goal.returns-clause-below
returns-clause-below c =
    subst (λ (n : ℕ). IfOk c.kept_traces.result (λ traces. All (λ (t : Bor NamedTrace). HaveNamesBelow n t.now) traces.items))
    (ap (λ (b : BookState). b.names) c.day_book.ensures.book ∙ c.day_book.ensures.kept.names ∙ ap (λ (k : KeptState). length k.known.names) c.book.ensures.book) c.kept_traces.ensures.below
