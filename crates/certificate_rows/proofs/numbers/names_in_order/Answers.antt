use Rattle.std.proofs.Common.{◌≡◌, ℕ, ◌<◌, ◌≤◌, ◌∙◌, [], length, map, refl, sym, ap, subst, arith}
use Rattle.std.proofs.lemmas.Result.{IfOk-weaker}
use Rattle.trace_types.specs.Listing.{ListsExactly}
use Rattle.trace_types.proofs.ComparingLemmas.{name_exact}
use Rattle.trace_types.proofs.ListingLemmas.{name_total}
use Rattle.certificate_rows.specs.Orders.{name_number_cmp}
use Rattle.certificate_rows.proofs.OrderLemmas.{entries_done, entries_few, entries_push, no_entries, number_in}
use Rattle.certificate_rows.proofs.numbers.names_in_order.Goals as goal

pub names-init : goal.names-init
names-init c = no_entries c.args.catalogue.now.names c.in_ok-named.named.items c.in_ok-named.ensures.items

pub names-preserved : goal.names-preserved
names-preserved c = rw c.in_ok-push.ensures.items (entries_push c.args.catalogue.now.names c.names.number c.names.named.items (c.text_of.result, c.names.number) c.names.invariant c.text_of.ensures refl)

pub returns-clause-listed : goal.returns-clause-listed
returns-clause-listed c =
    let texts = c.args.catalogue.now.names in
    let count = c.names-count.ensures.count in
    let sorted = c.sort_unstable.new.self.items in
    let done = entries_done _ name_total name_exact texts ([], [], []) c.names.number c.names.named.items sorted c.names-count.ensures.kept.names_differ (omega (arith, c.names-test.false)) c.names.invariant c.sort_unstable.ensures.permutation c.sort_unstable.ensures.sorted in
    IfOk-weaker c.numbers_in.result (λ numbers. numbers.items ≡ map number_in c.deref.result.now) (λ numbers. ListsExactly (name_number_cmp c.args.catalogue.now) (λ n. n < length texts) numbers.items)
    (λ numbers is. subst (ListsExactly (name_number_cmp c.args.catalogue.now) (λ (n : ℕ). n < length texts)) (sym (is ∙ ap (map number_in) c.deref.ensures.value)) done) c.numbers_in.ensures

pub returns-clause-few : goal.returns-clause-few
returns-clause-few c =
    let texts = c.args.catalogue.now.names in
    let count = c.names-count.ensures.count in
    let most = c.names-count.ensures.kept.few_names in
    let sorted = c.sort_unstable.new.self.items in
    let few = entries_few _ name_total name_exact texts ([], [], []) c.names.number c.names.named.items sorted c.names-count.ensures.kept.names_differ (omega (arith, c.names-test.false)) c.names.invariant c.sort_unstable.ensures.permutation c.sort_unstable.ensures.sorted in
    IfOk-weaker c.numbers_in.result (λ numbers. numbers.items ≡ map number_in c.deref.result.now) (λ numbers. length numbers.items ≤ 512)
    (λ numbers is. let same = ap length (is ∙ ap (map number_in) c.deref.ensures.value) in omega arith) c.numbers_in.ensures
