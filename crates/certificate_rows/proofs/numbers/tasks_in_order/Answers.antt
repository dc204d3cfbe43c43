use Rattle.std.proofs.Common.{◌≡◌, ℕ, ◌<◌, ◌≤◌, ◌∙◌, [], length, map, refl, sym, ap, subst, arith}
use Rattle.std.proofs.lemmas.Result.{IfOk-weaker}
use Rattle.trace_types.specs.Listing.{ListsExactly}
use Rattle.trace_types.proofs.ComparingLemmas.{text_exact, text_total}
use Rattle.certificate_rows.specs.Orders.{task_number_cmp}
use Rattle.certificate_rows.proofs.OrderLemmas.{entries_done, entries_few, entries_push, no_entries, number_in}
use Rattle.certificate_rows.proofs.numbers.tasks_in_order.Goals as goal

pub tasks-init : goal.tasks-init
tasks-init c = no_entries c.args.catalogue.now.tasks c.in_ok-named.named.items c.in_ok-named.ensures.items

pub tasks-preserved : goal.tasks-preserved
tasks-preserved c = rw c.in_ok-push.ensures.items (entries_push c.args.catalogue.now.tasks c.tasks.number c.tasks.named.items (c.task_text.result, c.tasks.number) c.tasks.invariant c.task_text.ensures refl)

pub returns-clause-listed : goal.returns-clause-listed
returns-clause-listed c =
    let texts = c.args.catalogue.now.tasks in
    let count = c.tasks-count.ensures.count in
    let sorted = c.sort_unstable.new.self.items in
    let done = entries_done _ text_total text_exact texts [] c.tasks.number c.tasks.named.items sorted c.tasks-count.ensures.kept.tasks_differ (omega (arith, c.tasks-test.false)) c.tasks.invariant c.sort_unstable.ensures.permutation c.sort_unstable.ensures.sorted in
    IfOk-weaker c.numbers_in.result (λ numbers. numbers.items ≡ map number_in c.deref.result.now) (λ numbers. ListsExactly (task_number_cmp c.args.catalogue.now) (λ n. n < length texts) numbers.items)
    (λ numbers is. subst (ListsExactly (task_number_cmp c.args.catalogue.now) (λ (n : ℕ). n < length texts)) (sym (is ∙ ap (map number_in) c.deref.ensures.value)) done) c.numbers_in.ensures

pub returns-clause-few : goal.returns-clause-few
returns-clause-few c =
    let texts = c.args.catalogue.now.tasks in
    let count = c.tasks-count.ensures.count in
    let most = c.tasks-count.ensures.kept.few_tasks in
    let sorted = c.sort_unstable.new.self.items in
    let few = entries_few _ text_total text_exact texts [] c.tasks.number c.tasks.named.items sorted c.tasks-count.ensures.kept.tasks_differ (omega (arith, c.tasks-test.false)) c.tasks.invariant c.sort_unstable.ensures.permutation c.sort_unstable.ensures.sorted in
    IfOk-weaker c.numbers_in.result (λ numbers. numbers.items ≡ map number_in c.deref.result.now) (λ numbers. length numbers.items ≤ 512)
    (λ numbers is. let same = ap length (is ∙ ap (map number_in) c.deref.ensures.value) in omega arith) c.numbers_in.ensures
