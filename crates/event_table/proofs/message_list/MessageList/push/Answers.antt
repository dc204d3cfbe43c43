use Rattle.std.proofs.Common.{◌≡◌, ◌∷◌, [], ◌++◌, List, ℕ, length, sym, ap, subst, ◌∙◌, arith}
use Rattle.event_table.specs.inner.Cuts.{AreStops, cut_at}
use Rattle.event_table.proofs.CutLemmas.{cut_length}
use Rattle.event_table.proofs.MessageLemmas.{cuts_push, stops_push}
use Rattle.event_table.proofs.message_list.MessageList.push.Goals as goal

pub overflow_cast-place : goal.overflow_cast-place
overflow_cast-place c =
    let count = cut_length 0 c.self.inside.ends.items c.self.inside.bytes.items in
    let seen = ap (λ (ms : List (List ℕ)). length ms) c.self.view_is in
    let fits = c.self.inside.ends.ok in
    let told = c.len-place.ensures in
    let few = c.requires in
    omega arith

pub returns-in-Ok-clause-place : goal.returns-in-Ok-clause-place
returns-in-Ok-clause-place c =
    let count = cut_length 0 c.self.inside.ends.items c.self.inside.bytes.items in
    let seen = ap (λ (ms : List (List ℕ)). length ms) c.self.view_is in
    let fits = c.self.inside.ends.ok in
    let told = c.len-place.ensures in
    omega arith

pub invariant_of-self-in-Ok : goal.invariant_of-self-in-Ok
invariant_of-self-in-Ok c =
    let bytes = c.self.inside.bytes.items in
    let ends = c.self.inside.ends.items in
    let message = c.args.message.now in
    let bytes_is : c.extend_from_slice.new.self.items ≡ bytes ++ message = c.in_ok-extend_from_slice.ensures.items ∙ ap (λ (m : List ℕ). bytes ++ m) c.as_bytes.ensures.value in
    let long : length c.extend_from_slice.new.self.items ≡ length (bytes ++ message) = ap (λ (xs : List ℕ). length xs) bytes_is in
    let fits = c.extend_from_slice.new.self.ok in
    let told = c.len.ensures in
    let count : c.len.result ≡ length (bytes ++ message) = omega arith in
    let ends_is : c.push.new.self.items ≡ ends ++ length (bytes ++ message) ∷ [] = c.in-Ok.ensures.items ∙ ap (λ (n : ℕ). ends ++ n ∷ []) count in
    subst (λ (xs : List ℕ). AreStops 0 xs (length c.extend_from_slice.new.self.items)) (sym ends_is)
    (subst (λ (n : ℕ). AreStops 0 (ends ++ length (bytes ++ message) ∷ []) n) (sym long) (stops_push bytes message ends c.self.invariant))

pub returns-in-Ok-clause-messages : goal.returns-in-Ok-clause-messages
returns-in-Ok-clause-messages c =
    let bytes = c.self.inside.bytes.items in
    let ends = c.self.inside.ends.items in
    let message = c.args.message.now in
    let bytes_is : c.extend_from_slice.new.self.items ≡ bytes ++ message = c.in_ok-extend_from_slice.ensures.items ∙ ap (λ (m : List ℕ). bytes ++ m) c.as_bytes.ensures.value in
    let long : length c.extend_from_slice.new.self.items ≡ length (bytes ++ message) = ap (λ (xs : List ℕ). length xs) bytes_is in
    let fits = c.extend_from_slice.new.self.ok in
    let told = c.len.ensures in
    let count : c.len.result ≡ length (bytes ++ message) = omega arith in
    let ends_is : c.push.new.self.items ≡ ends ++ length (bytes ++ message) ∷ [] = c.in-Ok.ensures.items ∙ ap (λ (n : ℕ). ends ++ n ∷ []) count in
    ap (λ (xs : List ℕ). cut_at 0 xs c.extend_from_slice.new.self.items) ends_is
    ∙ ap (λ (xs : List ℕ). cut_at 0 (ends ++ length (bytes ++ message) ∷ []) xs) bytes_is
    ∙ cuts_push bytes message ends c.self.invariant
    ∙ ap (λ (ms : List (List ℕ)). ms ++ message ∷ []) c.self.view_is
