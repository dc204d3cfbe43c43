use Rattle.std.proofs.Common.{◌≡◌, ◌∙◌, ◌++◌, ◌∷◌, [], List, Bool, true, false, ap, refl, sym, if◌then◌else◌}
use Rattle.std.specs.List.{list_any}
use Rattle.std.proofs.lemmas.List.{map-append}
use Rattle.span_requests.specs.declared.span_id.SpanId.{SpanId}
use Rattle.span_requests.specs.inner.Ids.{pair_eq, pair_of_key, pairs_of_keys}
use Rattle.span_requests.proofs.ListLemmas.{any-map, place-map}
use Rattle.span_requests.proofs.ids.number_id.Goals as goal

mapped : (b : Bool) (keys : List SpanId) (key : SpanId) → pairs_of_keys (if b then keys else keys ++ key ∷ []) ≡ (if b then pairs_of_keys keys else pairs_of_keys keys ++ pair_of_key key ∷ [])
mapped true keys key = refl
mapped false keys key = map-append pair_of_key keys (key ∷ [])

pub returns-clause-ids : goal.returns-clause-ids
returns-clause-ids c =
    let keys = c.args.ids.now.keys in
    let p = pair_eq (pair_of_key c.args.id) in
    ap pairs_of_keys c.in_ok-number.ensures.keys ∙ mapped (list_any (λ k. p (pair_of_key k)) keys) keys c.args.id
    ∙ ap (λ b. if b then pairs_of_keys keys else pairs_of_keys keys ++ pair_of_key c.args.id ∷ []) (sym (any-map pair_of_key p keys))

pub returns-clause-number : goal.returns-clause-number
returns-clause-number c = c.in_ok-number.ensures.index ∙ sym (place-map pair_of_key (pair_eq (pair_of_key c.args.id)) c.args.ids.now.keys)
