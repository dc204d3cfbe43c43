use Rattle.std.proofs.Common.{◌∙◌, ℕ, ◌<◌, List, length, All, get_or, sym, ap, subst}
use Rattle.std.proofs.lemmas.List.Elements.{Contains-get_or}
use Rattle.counterexamples.specs.FirstRefuters.{AreFirstRefuters}
use Rattle.day_partitions.specs.Books.{BookState}
use Rattle.segment_names.specs.Known.{Known}
use Rattle.session_rules.specs.Sessions.{why_parts}
use Rattle.text_rows.specs.Printing.{PrintsText}
use Rattle.trace_types.specs.Listing.{ListsExactly}
use Rattle.certificate_rows.specs.Orders.{name_number_cmp, task_number_cmp}
use Rattle.certificate_rows.specs.inner.Sources.{HasRefuters}
use Rattle.certificate_rows.specs.inner.Wholes.{certificate_text}
use Rattle.certificate_rows.proofs.TextLemmas.{parts_printed}
use Rattle.certificate_rows.proofs.certificate_printing.print_certificate.Goals as goal

pub print_all-requires-clause-names : goal.print_all-requires-clause-names
print_all-requires-clause-names g c = subst (All (λ (n : ℕ). n < length c.args.book.now.known.names)) (sym c.deref.ensures.value)
    (λ k d lt. subst (λ (x : Known). get_or c.in_ok-names.names.items k d < length x.names) c.catalogue-catalogue.ensures.catalogue ((c.in_ok-names.ensures.listed.exactly (get_or c.in_ok-names.names.items k d)).0 (Contains-get_or c.in_ok-names.names.items k d lt)))

pub print_all-requires-clause-tasks : goal.print_all-requires-clause-tasks
print_all-requires-clause-tasks g c = subst (All (λ (n : ℕ). n < length c.args.book.now.known.tasks)) (sym c.deref-2.ensures.value)
    (λ k d lt. subst (λ (x : Known). get_or c.in_ok-tasks.tasks.items k d < length x.tasks) c.catalogue-catalogue.ensures.catalogue ((c.in_ok-tasks.ensures.listed.exactly (get_or c.in_ok-tasks.tasks.items k d)).0 (Contains-get_or c.in_ok-tasks.tasks.items k d lt)))

pub returns-clause-printed : goal.returns-clause-printed
returns-clause-printed g c = λ kept shown refuted are.
    let known = c.args.book.now.known in
    let b = c.args.book.now.book in
    let keeps = c.catalogue-catalogue.ensures.kept in
    let table = c.in_ok-refuters.refuters in
    let names = c.in_ok-names.names.items in
    let tasks = c.in_ok-tasks.tasks.items in
    let has : HasRefuters known b table = record { kept = record { names = keeps.names; book = keeps.book; known = keeps.known }; first = subst (λ (x : BookState). AreFirstRefuters x.names x.days table) c.day_book.ensures.book c.in_ok-refuters.ensures } in
    let name_list = subst (λ (x : Known). ListsExactly (name_number_cmp x) (λ n. n < length x.names) names) c.catalogue-catalogue.ensures.catalogue c.in_ok-names.ensures.listed in
    let task_list = subst (λ (x : Known). ListsExactly (task_number_cmp x) (λ n. n < length x.tasks) tasks) c.catalogue-catalogue.ensures.catalogue c.in_ok-tasks.ensures.listed in
    let told = c.certificate_is_shown.ensures known b table names tasks kept refuted has name_list task_list shown are in
    let same = ap (λ (ns : List ℕ). certificate_text known b.days table ns c.deref-2.result.now) c.deref.ensures.value ∙ ap (λ (ns : List ℕ). certificate_text known b.days table names ns) c.deref-2.ensures.value in
    parts_printed g.S.Sink.written g.S.Sink.faults c.print_all.result c.args.sink.now c.print_all.new.sink (why_parts kept refuted) (certificate_text known b.days table names tasks) c.args.buffer.now c.print_all.new.buffer told
    (subst (PrintsText g.S.Sink.written g.S.Sink.faults c.print_all.result c.args.sink.now c.print_all.new.sink c.args.buffer.now c.print_all.new.buffer) same c.print_all.ensures)
