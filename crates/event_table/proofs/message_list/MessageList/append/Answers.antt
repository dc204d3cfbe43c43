use Rattle.std.proofs.Common.{◌≡◌, ◌+◌, ◌++◌, List, ℕ, length, map, sym, ap, subst, ◌∙◌, length-append}
use Rattle.event_table.specs.inner.Cuts.{AreStops, cut_at}
use Rattle.event_table.proofs.MessageLemmas.{cuts_append, stops_append}
use Rattle.event_table.proofs.message_list.MessageList.append.Goals as goal

-- the bytes and the ends of both
bytes_now : (c : goal.After-drop-later-inside-in-Ok) → c.append_parts.new.bytes.items ≡ c.self.inside.bytes.items ++ c.later.inside.bytes.items
bytes_now c = c.in-Ok.ensures.bytes ∙ ap (λ (xs : List ℕ). c.self.inside.bytes.items ++ xs) c.deref.ensures.value

ends_now : (c : goal.After-drop-later-inside-in-Ok) → c.append_parts.new.ends.items ≡ c.self.inside.ends.items ++ map (λ end. length c.self.inside.bytes.items + end) c.later.inside.ends.items
ends_now c =
    c.in-Ok.ensures.ends
    ∙ ap (λ (xs : List ℕ). c.self.inside.ends.items ++ map (λ end. length c.self.inside.bytes.items + end) xs) c.deref-2.ensures.value

pub invariant_of-self-in-Ok : goal.invariant_of-self-in-Ok
invariant_of-self-in-Ok c =
    let bytes = c.self.inside.bytes.items in
    let more = c.later.inside.bytes.items in
    let ends = c.self.inside.ends.items ++ map (λ end. length bytes + end) c.later.inside.ends.items in
    let long : length c.append_parts.new.bytes.items ≡ length bytes + length more = ap (λ (xs : List ℕ). length xs) (bytes_now c) ∙ length-append bytes more in
    subst (λ (xs : List ℕ). AreStops 0 xs (length c.append_parts.new.bytes.items)) (sym (ends_now c))
    (subst (λ (n : ℕ). AreStops 0 ends n) (sym long) (stops_append 0 c.self.inside.ends.items (length bytes) c.later.inside.ends.items (length more) c.self.invariant c.later.invariant))

pub returns-in-Ok-clause-messages : goal.returns-in-Ok-clause-messages
returns-in-Ok-clause-messages c =
    let bytes = c.self.inside.bytes.items in
    let more = c.later.inside.bytes.items in
    let ends = c.self.inside.ends.items ++ map (λ end. length bytes + end) c.later.inside.ends.items in
    ap (λ (xs : List ℕ). cut_at 0 xs c.append_parts.new.bytes.items) (ends_now c) ∙ ap (λ (xs : List ℕ). cut_at 0 ends xs) (bytes_now c)
    ∙ cuts_append bytes more 0 c.self.inside.ends.items c.later.inside.ends.items c.self.invariant
    ∙ (λ k. c.self.view_is k ++ c.later.view_is k)
