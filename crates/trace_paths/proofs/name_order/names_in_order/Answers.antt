use Rattle.std.proofs.Common.{◌≡◌, ℕ, ◌+◌, ◌++◌, ◌∷◌, [], List, length, map, take, slice_get, Some, true, false, arith, refl, sym, ap, ◌∙◌}
use Rattle.std.proofs.lemmas.Bool.{true≢false}
use Rattle.std.proofs.lemmas.List.{map_more, take_all}
use Rattle.std.proofs.lemmas.Option.{slice_get-get_or, get_or_from_slice_get}
use Rattle.trace_paths.proofs.OrderLemmas.{AreEntries, Entry, entries_done, entries_push, entries_skip, no_entries, number_in}
use Rattle.trace_paths.proofs.name_order.names_in_order.Goals as goal
use Rattle.trace_paths.proofs.name_order.names_in_order.Goals.{then-marked-number+in_ok-push, else-marked-number}

pub names-init : goal.names-init
names-init c = no_entries c.args.catalogue.now.names c.args.marked.now c.in_ok-named.named.items c.in_ok-named.ensures.items

pub names-preserved : goal.names-preserved
names-preserved c =
    let known = c.args.catalogue.now.names in
    let marked = c.args.marked.now in
    let n = c.names.number in
    let inside = c.names-number-end.ensures.count in
    let size = c.requires in
    elim c.if-marked-number.branch [
      | then-marked-number+in_ok-push w ↦
          let mark : slice_get marked n ≡ Some true = slice_get-get_or marked n false (omega arith) ∙ ap Some w.if-marked-number.true in
          rw (w.named-is, w.in_ok-push.ensures.items) (entries_push known marked n c.names.named.items (w.text_of.result, n) c.names.invariant (w.text_of.ensures, mark) refl)
      | else-marked-number w ↦
          rw w.named-is (entries_skip known marked n c.names.named.items c.names.invariant (λ mark. true≢false (sym (get_or_from_slice_get marked n true false mark) ∙ w.if-marked-number.false)))
    ]

pub named-init : goal.named-init
named-init c = c.in_ok-numbers.ensures.items

pub named-preserved : goal.named-preserved
named-preserved c =
    let items = c.deref-entry-items.result.now in
    let i = c.named.entry-index in
    let x : Entry = c.entry-item.result in
    c.in_ok-push-2.ensures.items ∙ (ap (λ (l : List ℕ). l ++ number_in x ∷ []) c.named.invariant
    ∙ (ap (λ (e : Entry). map number_in (take i items) ++ number_in e ∷ []) c.entry-item.is ∙ sym (map_more number_in items i x c.named-test.true)))

pub returns : goal.returns
returns c =
    let known = c.args.catalogue.now.names in
    let marked = c.args.marked.now in
    let inside = c.names-number-end.ensures.count in
    let size = c.requires in
    let sorted = c.sort_unstable.new.self.items in
    entries_done known marked c.names.number c.names.named.items sorted c.named.numbers.items c.names-number-end.ensures.kept.names_differ (omega (arith, c.names-test.false)) c.names.invariant
    c.sort_unstable.ensures.permutation c.sort_unstable.ensures.sorted
    (c.named.invariant ∙ (ap (map number_in) (take_all c.named.entry-index c.deref-entry-items.result.now c.named-test.false) ∙ ap (map number_in) c.deref-entry-items.ensures.value))
