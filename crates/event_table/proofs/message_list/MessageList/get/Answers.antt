use Rattle.std.proofs.Common.{◌≡◌, ◌<◌, ◌∷◌, List, ℕ, length, get_or, slice_get, slice_range, Some, sym, ap, ◌∙◌, arith}
use Rattle.event_table.proofs.CutLemmas.{cut_length, cut_there}
use Rattle.event_table.proofs.message_list.MessageList.get.Goals as goal

pub message_at-requires-clause-within : goal.message_at-requires-clause-within
message_at-requires-clause-within c =
    let count = cut_length 0 c.self.inside.ends.items c.self.inside.bytes.items in
    let seen = ap (λ (ms : List (List ℕ)). length ms) c.self.view_is in
    let same : length c.deref-2.result.now ≡ length c.self.inside.ends.items = ap (λ (xs : List ℕ). length xs) c.deref-2.ensures.value in
    let lt = c.requires in
    omega arith

pub returns : goal.returns
returns c =
    let ends = c.self.inside.ends.items in
    let bytes = c.self.inside.bytes.items in
    let place = c.args.place in
    let count = cut_length 0 ends bytes in
    let seen = ap (λ (ms : List (List ℕ)). length ms) c.self.view_is in
    let lt = c.requires in
    let below : place < length ends = omega arith in
    let lent : c.message_at.result.now ≡ slice_range bytes (get_or (0 ∷ ends) place 0) (get_or ends place 0) =
    c.message_at.ensures ∙ ap (λ (xs : List ℕ). slice_range xs (get_or (0 ∷ c.deref-2.result.now) place 0) (get_or c.deref-2.result.now place 0)) c.deref.ensures.value
    ∙ ap (λ (xs : List ℕ). slice_range bytes (get_or (0 ∷ xs) place 0) (get_or xs place 0)) c.deref-2.ensures.value in
    ap (λ (ms : List (List ℕ)). slice_get ms place) (sym c.self.view_is) ∙ cut_there 0 ends bytes place below ∙ ap (λ (m : List ℕ). Some m) (sym lent)
