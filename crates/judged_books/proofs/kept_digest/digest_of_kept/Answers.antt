use Rattle.std.proofs.Common.{◌∙◌, [], List, ℕ, Bool, ap, subst}
use Rattle.std.specs.Cmp.Lexicographic.{slice_cmp}
use Rattle.std.specs.List.{enumerate_from}
use Rattle.std.specs.Ordering.{nat_cmp}
use Rattle.book_laws.proofs.GraphLemmas.{all_renamed}
use Rattle.kept_books.specs.KeptBooks.{traces_in}
use Rattle.kept_names.specs.Listings.{ListsMarked}
use Rattle.segment_names.specs.Known.{Known}
use Rattle.session_rules.specs.KeptTraces.{by_kept}
use Rattle.trace_types.specs.NameOrder.{name_cmp}
use Rattle.trace_types.specs.Parts.{by_number}
use Rattle.trace_types.specs.Segments.{SegmentName}
use Rattle.judged_books.specs.inner.KeptRows.{marked_rows, name_mark, task_mark}
use Rattle.judged_books.proofs.KeptDigestLemmas.{kept_table}
use Rattle.judged_books.proofs.kept_digest.digest_of_kept.Goals as goal

pub returns : goal.returns
returns c kept shown =
    let k = c.args.book.now in
    let known = k.known in
    let words = c.words-words.result.now in
    let is = c.names-count.ensures.kept in
    let names_listed : ListsMarked name_cmp known.names c.in_ok-marks.marks.names.items c.in_ok-names.names.items =
    subst (λ (v : Known). ListsMarked name_cmp v.names c.in_ok-marks.marks.names.items c.in_ok-names.names.items) c.catalogue.ensures.catalogue
    (subst (λ (m : List Bool). ListsMarked name_cmp c.catalogue.result.now.names m c.in_ok-names.names.items) c.deref.ensures.value c.in_ok-names.ensures.marked) in
    let tasks_listed : ListsMarked (slice_cmp nat_cmp) known.tasks c.in_ok-marks.marks.tasks.items c.in_ok-tasks.tasks.items =
    subst (λ (v : Known). ListsMarked (slice_cmp nat_cmp) v.tasks c.in_ok-marks.marks.tasks.items c.in_ok-tasks.tasks.items) c.catalogue-2.ensures.catalogue
    (subst (λ (m : List Bool). ListsMarked (slice_cmp nat_cmp) c.catalogue-2.result.now.tasks m c.in_ok-tasks.tasks.items) c.deref-2.ensures.value c.in_ok-tasks.ensures.marked) in
    kept_table
    (record { differ = c.places_differ.ensures; fit = c.places_fit.ensures; follow = c.pairs_follow.ensures; wider = c.below_wider.ensures })
    (record { exclusive = λ a b t. c.relations_are_symmetric.ensures.exclusive by_kept a b t; apart = λ a b t. c.relations_are_symmetric.ensures.apart by_kept a b t; unshared = λ t u s. c.relations_are_symmetric.ensures.unshared by_kept t u s })
    k words kept
    (record { book = is; survivors = c.words-words.ensures.survivors; width = c.words-words.ensures.width })
    shown
    (record { names = c.numbering_is_one_to_one.ensures.matched known.names; tasks = c.numbering_is_one_to_one-2.ensures.matched known.tasks })
    (c.renamed_traces_leave_alike.ensures.relations by_number by_kept (enumerate_from 0 known.names) (enumerate_from 0 known.tasks) (traces_in k) kept
    (c.numbering_is_one_to_one.ensures.one_to_one known.names is.known.names_differ) (c.numbering_is_one_to_one-2.ensures.one_to_one known.tasks is.known.tasks_differ)
    (all_renamed known (traces_in k) kept shown))
    c.in_ok-marks.marks.names.items c.in_ok-marks.marks.tasks.items c.in_ok-names.names.items c.in_ok-tasks.tasks.items
    c.in_ok-marks.ensures.names c.in_ok-marks.ensures.tasks names_listed tasks_listed
    c.from.result c.in_ok-list_days.field-0.items c.in_ok-task_rows.field-0.items c.in_ok-name_rows.field-0.items
    (c.from.ensures ∙ c.trace_count.ensures.count)
    c.in_ok-list_days.ensures.days
    (c.in_ok-task_rows.ensures ∙ ap (λ (l : List (List ℕ × ℕ)). marked_rows (task_mark words) [] l) c.deref-3.ensures.value)
    (c.in_ok-name_rows.ensures ∙ ap (λ (l : List (SegmentName × ℕ)). marked_rows (name_mark words) [] l) c.deref-4.ensures.value)
