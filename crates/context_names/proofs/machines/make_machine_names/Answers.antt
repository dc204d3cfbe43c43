use Rattle.std.proofs.Common.{◌≡◌, ◌<◌, ◌∙◌, All, Bor, List, ℕ, Vec, Global, ap, length, map, sym, subst}
use Rattle.std.specs.Cmp.Lexicographic.{slice_cmp}
use Rattle.std.specs.Ordering.{nat_cmp}
use Rattle.std.specs.declared.cmp.Ordering.{Ordering}
use Rattle.std.proofs.lemmas.List.{length-map}
use Rattle.std.proofs.lemmas.Result.{IfOk-weaker}
use Rattle.span_names.specs.Names.{base_of, most_of_event}
use Rattle.trace_types.specs.declared.text.Text.{Text}
use Rattle.call_trees.proofs.OrderLemmas.{order-map, order_within}
use Rattle.call_trees.proofs.TableLemmas.{length-table}
use Rattle.context_names.specs.Numbers.{base_numbers, numbered_names}
use Rattle.context_names.specs.inner.Keys.{lent_bases}
use Rattle.context_names.proofs.ValueLemmas.{length-scattered}
use Rattle.context_names.proofs.machines.make_machine_names.Goals as goal

-- the order of references
abbrev lent_cmp : Bor (List ℕ) → Bor (List ℕ) → Ordering
lent_cmp a b = slice_cmp nat_cmp a.now b.now

bases_size : (machines : List (Bor (List ℕ))) (bases : List (List ℕ)) → bases ≡ map (base_of most_of_event) (lent_bases machines) → length bases ≡ length machines
bases_size machines bases h = ap length h ∙ length-map (lent_bases machines) (base_of most_of_event) ∙ length-map machines (λ (t : Bor (List ℕ)). t.now)

pub number_bases-requires : goal.number_bases-requires
number_bases-requires c =
    let machines = c.args.machines.now in
    let size : length machines ≡ length c.deref-2.result.now = sym (bases_size machines c.deref-2.result.now (c.deref-2.ensures.value ∙ c.in_ok-bases.ensures)) in
    subst (λ (ns : List ℕ). All (λ x. x < length c.deref-2.result.now) ns) (sym c.deref.ensures.value) (order_within lent_cmp machines c.in_ok-order.order.items (length c.deref-2.result.now) (sym size) c.in_ok-order.ensures)

pub make_names-requires : goal.make_names-requires
make_names-requires c =
    ap length (c.deref-4.ensures.value ∙ c.in_ok-numbers.ensures) ∙ length-scattered (length c.deref-2.result.now) c.deref.result.now _ ∙ ap length (c.deref-2.ensures.value ∙ sym c.deref-3.ensures.value)

pub returns-clause-names : goal.returns-clause-names
returns-clause-names c =
    let machines = c.args.machines.now in
    let order = c.in_ok-order.order.items in
    let bases = map (base_of most_of_event) (lent_bases machines) in
    IfOk-weaker c.make_names.result _ _ (λ (v : Vec Text Global) (h : v.items ≡ numbered_names c.deref-3.result.now c.deref-4.result.now). record {
      order = order;
      ordered = order-map (λ (t : Bor (List ℕ)). t.now) (slice_cmp nat_cmp) machines order c.in_ok-order.ensures;
      numbered =
          h ∙ ap (λ (bs : List (List ℕ)). numbered_names bs c.deref-4.result.now) (c.deref-3.ensures.value ∙ c.in_ok-bases.ensures)
          ∙ ap (numbered_names bases) (c.deref-4.ensures.value ∙ c.in_ok-numbers.ensures ∙ ap (λ (bs : List (List ℕ)). base_numbers bs c.deref.result.now) (c.deref-2.ensures.value ∙ c.in_ok-bases.ensures)
          ∙ ap (base_numbers bases) c.deref.ensures.value);
    }) c.make_names.ensures

pub returns-clause-size : goal.returns-clause-size
returns-clause-size c = IfOk-weaker c.make_names.result _ _ (λ (v : Vec Text Global) (h : v.items ≡ numbered_names c.deref-3.result.now c.deref-4.result.now).
    ap length h ∙ length-table _ (length c.deref-3.result.now) ∙ bases_size c.args.machines.now c.deref-3.result.now (c.deref-3.ensures.value ∙ c.in_ok-bases.ensures)) c.make_names.ensures
