use Rattle.std.proofs.Common.{◌≡◌, ◌≢◌, ◌<◌, ◌∷◌, ◌++◌, [], List, ℕ, ap, map, sym, subst, take, ◌∙◌}
use Rattle.std.specs.Prelude.{All}
use Rattle.std.specs.Cmp.Lexicographic.{slice_cmp}
use Rattle.std.specs.Ordering.{nat_cmp}
use Rattle.judged_books.specs.inner.KeptRows.{task_mark}
use Rattle.judged_books.proofs.KeptDigestLemmas.{listed_before}
use Rattle.judged_books.proofs.MarkedLemmas.{one_row}
use Rattle.judged_books.proofs.kept_digest.task_rows.Goals as goal

pub mark_tasks-requires-clause-listed : goal.mark_tasks-requires-clause-listed
mark_tasks-requires-clause-listed c =
    let number : c.index-tasks-k.result.1 ≡ c.item.inside.number = sym (ap (λ (i : List ℕ × ℕ). i.1) c.item.view_is) in
    subst (λ (n : ℕ). All (λ (i : List ℕ × ℕ). (i.1 < 64) × (i.1 ≢ n)) (take c.rows.k c.args.tasks.now)) number
    (listed_before (slice_cmp nat_cmp) 64 c.args.tasks.now c.requires.listed c.rows.k c.index-tasks-k.result c.rows-test.true c.index-tasks-k.is)

pub rows-preserved : goal.rows-preserved
rows-preserved c =
    let items = c.args.tasks.now in
    let item = c.index-tasks-k.result in
    let number : c.item.inside.number ≡ item.1 = ap (λ (i : List ℕ × ℕ). i.1) c.item.view_is in
    let marks : c.in_ok-marks.marks.items ≡ map (λ (i : List ℕ × ℕ). task_mark c.args.words.now i.1 item.1) (take c.rows.k items) =
    c.in_ok-marks.ensures ∙ ap (λ (n : ℕ). map (λ (i : List ℕ × ℕ). task_mark c.args.words.now i.1 n) (take c.rows.k items)) number in
    let text : c.in_ok-task.task ≡ item.0 = c.in_ok-task.ensures ∙ ap (λ (i : List ℕ × ℕ). i.0) c.item.view_is in
    one_row (task_mark c.args.words.now) items c.rows.rows.items c.push.new.self.items c.rows.k item c.rows-test.true c.index-tasks-k.is c.rows.invariant
    (c.in_ok-push.ensures.items ∙ ap (λ (r : List ℕ × List ℕ). c.rows.rows.items ++ r ∷ []) (λ i. (text i, marks i)))
