use Rattle.std.proofs.Common.{◌≡◌, ◌∙◌, ◌<◌, All, List, Option, ℕ, ap, length, sym, subst, None}
use Rattle.std.specs.Prelude.{is_none, slice_index_or}
use Rattle.std.proofs.lemmas.List.{length-map}
use Rattle.std.proofs.lemmas.List.Elements.{All-filter}
use Rattle.call_trees.specs.Below.{below_all}
use Rattle.call_trees.specs.Orders.{AreInOrder}
use Rattle.call_trees.specs.Walks.{IsShallow, walk_through}
use Rattle.call_trees.proofs.GroupLemmas.{groups_length}
use Rattle.call_trees.proofs.OrderLemmas.{order-map, order_within}
use Rattle.span_requests.specs.CallerNumbers.{AreCallers, HaveLastCallers}
use Rattle.span_calls.proofs.ShallowLemmas.{all_shallow}
use Rattle.call_contexts.specs.ContextOrder.{all_above, first_of, title_cmp}
use Rattle.call_contexts.specs.Contexts.{Frame, frame_of, frames_of}
use Rattle.call_contexts.specs.inner.TitleKeys.{title_of_key, titles_of_keys}
use Rattle.call_contexts.specs.declared.title_key.TitleKey.{TitleKey}
use Rattle.call_contexts.proofs.OrderLemmas.{are_callers, key_cmp, last_callers, titled_size}
use Rattle.call_contexts.proofs.order.order_contexts.Goals as goal

pub group_below-requires-clause-within : goal.group_below-requires-clause-within
group_below-requires-clause-within c =
    let size = titled_size (frames_of c.args.contexts.now) c.deref-2.result.now c.in_ok-keys.keys.items c.deref.result.now (c.deref-2.ensures.value ∙ c.in_ok-above.ensures) c.deref.ensures.value c.in_ok-keys.ensures in
    subst (All (λ j. j < length c.deref-2.result.now)) (sym c.deref-3.ensures.value) (order_within key_cmp c.deref.result.now c.in_ok-titled.titled.items (length c.deref-2.result.now) size c.in_ok-titled.ensures)

pub group_below-requires-clause-above : goal.group_below-requires-clause-above
group_below-requires-clause-above c = subst AreCallers (sym (c.deref-2.ensures.value ∙ c.in_ok-above.ensures)) (are_callers (frames_of c.args.contexts.now) c.requires)

pub find_first-requires : goal.find_first-requires
find_first-requires c =
    let size = titled_size (frames_of c.args.contexts.now) c.deref-4.result.now c.in_ok-keys.keys.items c.deref.result.now (c.deref-4.ensures.value ∙ c.in_ok-above.ensures) c.deref.ensures.value c.in_ok-keys.ensures in
    subst (All (λ j. j < length c.deref-4.result.now)) (sym c.deref-5.ensures.value) (order_within key_cmp c.deref.result.now c.in_ok-titled.titled.items (length c.deref-4.result.now) size c.in_ok-titled.ensures)

pub walk-requires : goal.walk-requires
walk-requires c =
    let above = c.deref-2.result.now in
    let titled = c.deref-3.result.now in
    let size = titled_size (frames_of c.args.contexts.now) above c.in_ok-keys.keys.items c.deref.result.now (c.deref-2.ensures.value ∙ c.in_ok-above.ensures) c.deref.ensures.value c.in_ok-keys.ensures in
    let within : All (λ j. j < length above) titled = subst (All (λ j. j < length above)) (sym c.deref-3.ensures.value) (order_within key_cmp c.deref.result.now c.in_ok-titled.titled.items (length above) size c.in_ok-titled.ensures) in
    let last : HaveLastCallers above = subst HaveLastCallers (sym (c.deref-2.ensures.value ∙ c.in_ok-above.ensures)) (last_callers (frames_of c.args.contexts.now) c.requires) in
    let also : All (λ j. j < length above) c.deref-5.result.now = subst (All (λ j. j < length above)) (c.deref-3.ensures.value ∙ sym c.deref-5.ensures.value) within in
    let roots : All (λ j. j < length above) c.deref-7.result.now = subst (All (λ j. j < length above)) (sym (c.deref-7.ensures.value ∙ c.in_ok-first.ensures)) (All-filter (λ i. is_none (slice_index_or c.deref-4.result.now i None)) (λ j. j < length above) c.deref-5.result.now also) in
    subst (λ (ls : List (List ℕ)). All (IsShallow ls (length ls)) c.deref-7.result.now) (sym (c.deref-6.ensures.value ∙ c.in_ok-below.ensures)) (all_shallow above titled last within c.deref-7.result.now roots)

pub returns-clause-ordered : goal.returns-clause-ordered
returns-clause-ordered c =
    let frames = frames_of c.args.contexts.now in
    let titled = c.in_ok-titled.titled.items in
    let above2 = c.deref-2.ensures.value ∙ c.in_ok-above.ensures in
    let above4 = c.deref-4.ensures.value ∙ c.in_ok-above.ensures in
    let below = c.in_ok-below.ensures ∙ ap (λ (xs : List (Option ℕ)). below_all xs c.deref-3.result.now) above2 ∙ ap (below_all (all_above frames)) c.deref-3.ensures.value in
    let first = c.in_ok-first.ensures ∙ ap (λ (xs : List (Option ℕ)). first_of xs c.deref-5.result.now) above4 ∙ ap (first_of (all_above frames)) c.deref-5.ensures.value in
    record {
      titled = titled;
      rise = subst (λ ts. AreInOrder title_cmp ts titled) (ap (λ (ks : List TitleKey). titles_of_keys ks) c.deref.ensures.value ∙ c.in_ok-keys.ensures) (order-map title_of_key title_cmp c.deref.result.now titled c.in_ok-titled.ensures);
      lists = below;
      walk = c.in_ok-order.ensures.walk ∙ ap (λ (ls : List (List ℕ)). walk_through ls c.deref-7.result.now) (c.deref-6.ensures.value ∙ below) ∙ ap (walk_through (below_all (all_above frames) titled)) (c.deref-7.ensures.value ∙ first);
    }

pub returns-clause-within : goal.returns-clause-within
returns-clause-within c =
    let size : length c.deref-6.result.now ≡ length c.args.contexts.now = ap length (c.deref-6.ensures.value ∙ c.in_ok-below.ensures) ∙ groups_length c.deref-2.result.now c.deref-3.result.now
    ∙ ap length (c.deref-2.ensures.value ∙ c.in_ok-above.ensures) ∙ length-map (frames_of c.args.contexts.now) (λ (f : Frame). f.above) ∙ length-map c.args.contexts.now frame_of in
    subst (λ m. All (λ n. n < m) c.in_ok-order.order.items) size c.in_ok-order.ensures.within
