use Rattle.std.proofs.Common.{◌≡◌, ℕ, ◌<◌, List, length, All, get_or, sym, ap, ◌∙◌, subst}
use Rattle.std.proofs.lemmas.List.Elements.{Contains-get_or}
use Rattle.certificate_rows.specs.Orders.{name_number_cmp, task_number_cmp}
use Rattle.evidence_text.specs.Naming.{rows_of}
use Rattle.segment_names.specs.Known.{Known}
use Rattle.session_rules.specs.EvidenceTexts.{IsEvidenceText}
use Rattle.text_rows.specs.Printing.{PrintsText}
use Rattle.trace_types.specs.Listing.{ListsExactly}
use Rattle.evidence_printing.specs.inner.Numbered.{AreNumbersOf, AreRowsOf, HasName, HasTask, numbered_text}
use Rattle.evidence_printing.proofs.PartLemmas.{text_is_part}
use Rattle.evidence_printing.proofs.printing.print_tables.Goals as goal

pub kept_names-requires : goal.kept_names-requires
kept_names-requires g c = c.requires.names ∙ ap (λ (k : Known). length k.names) (sym c.catalogue-catalogue.ensures.catalogue)

pub kept_tasks-requires : goal.kept_tasks-requires
kept_tasks-requires g c = c.requires.tasks ∙ ap (λ (k : Known). length k.tasks) (sym c.catalogue-catalogue.ensures.catalogue)

pub find_rows-requires-clause-names : goal.find_rows-requires-clause-names
find_rows-requires-clause-names g c =
    let names = c.in_ok-names.names.items in
    let below = subst (λ (k : Known). ListsExactly (name_number_cmp k) (HasName k c.args.tables.now.meetings) names) c.catalogue-catalogue.ensures.catalogue c.in_ok-names.ensures.listed in
    subst (All (λ (n : ℕ). n < c.args.tables.now.meetings.names)) (sym c.deref.ensures.value)
    (λ k d lt. subst (λ (m : ℕ). get_or names k d < m) (sym c.requires.names) ((below.exactly (get_or names k d)).0 (Contains-get_or names k d lt)).0)

pub find_rows-requires-clause-tasks : goal.find_rows-requires-clause-tasks
find_rows-requires-clause-tasks g c =
    let tasks = c.in_ok-tasks.tasks.items in
    let below = subst (λ (k : Known). ListsExactly (task_number_cmp k) (HasTask k c.args.tables.now.sharings) tasks) c.catalogue-catalogue.ensures.catalogue c.in_ok-tasks.ensures.listed in
    subst (All (λ (n : ℕ). n < c.args.tables.now.sharings.tasks)) (sym c.deref-2.ensures.value)
    (λ k d lt. subst (λ (m : ℕ). get_or tasks k d < m) (sym c.requires.tasks) ((below.exactly (get_or tasks k d)).0 (Contains-get_or tasks k d lt)).0)

pub returns-clause-printed : goal.returns-clause-printed
returns-clause-printed g c = λ kept shown.
    let known = c.args.book.now.known in
    let b = c.args.book.now.book in
    let keeps = c.catalogue-catalogue.ensures.kept in
    let meetings = c.args.tables.now.meetings in
    let sharings = c.args.tables.now.sharings in
    let names = c.in_ok-names.names.items in
    let tasks = c.in_ok-tasks.tasks.items in
    let rows = rows_of c.in_ok-rows.rows in
    let numbers : AreNumbersOf known meetings sharings names tasks = record {
      names_are = subst (λ (k : Known). ListsExactly (name_number_cmp k) (HasName k meetings) names) c.catalogue-catalogue.ensures.catalogue c.in_ok-names.ensures.listed;
      tasks_are = subst (λ (k : Known). ListsExactly (task_number_cmp k) (HasTask k sharings) tasks) c.catalogue-catalogue.ensures.catalogue c.in_ok-tasks.ensures.listed;
    } in
    let are = subst (λ (ns : List ℕ). AreRowsOf c.args.choice meetings sharings ns tasks rows) c.deref.ensures.value
    (subst (λ (ts : List ℕ). AreRowsOf c.args.choice meetings sharings c.deref.result.now ts rows) c.deref-2.ensures.value c.in_ok-rows.ensures) in
    let told = c.evidence_is_shown.ensures known b c.args.choice meetings sharings names tasks rows kept keeps.known keeps.book c.requires numbers are shown in
    let same = ap (λ (ns : List ℕ). numbered_text known b.days ns c.deref-4.result.now rows) c.deref-3.ensures.value ∙ ap (λ (ts : List ℕ). numbered_text known b.days names ts rows) c.deref-4.ensures.value in
    text_is_part g.S.Sink.written g.S.Sink.faults c.print_rows.result c.args.sink.now c.print_rows.new.sink (IsEvidenceText c.args.choice kept) c.args.buffer.now c.print_rows.new.buffer (numbered_text known b.days names tasks rows) told
    (subst (PrintsText g.S.Sink.written g.S.Sink.faults c.print_rows.result c.args.sink.now c.print_rows.new.sink c.args.buffer.now c.print_rows.new.buffer) same c.print_rows.ensures)
