use Rattle.std.proofs.Common.{◌≡◌, ◌∙◌, ◌++◌, ◌∷◌, [], List, Bool, true, false, ap, refl, sym, if◌then◌else◌}
use Rattle.std.specs.List.{list_any}
use Rattle.std.proofs.lemmas.List.{map-append}
use Rattle.call_contexts.specs.declared.context.Context.{Context}
use Rattle.call_contexts.specs.Contexts.{frame_eq, frame_of, frames_of}
use Rattle.call_contexts.proofs.ListLemmas.{any-map, place-map}
use Rattle.call_contexts.proofs.contexts.number_context.Goals as goal

mapped : (b : Bool) (keys : List Context) (key : Context) → frames_of (if b then keys else keys ++ key ∷ []) ≡ (if b then frames_of keys else frames_of keys ++ frame_of key ∷ [])
mapped true keys key = refl
mapped false keys key = map-append frame_of keys (key ∷ [])

pub returns-clause-seen : goal.returns-clause-seen
returns-clause-seen c =
    let keys = c.args.seen.now.keys in
    let p = frame_eq (frame_of c.args.context) in
    ap frames_of c.in_ok-number.ensures.keys ∙ mapped (list_any (λ k. p (frame_of k)) keys) keys c.args.context
    ∙ ap (λ b. if b then frames_of keys else frames_of keys ++ frame_of c.args.context ∷ []) (sym (any-map frame_of p keys))

pub returns-clause-number : goal.returns-clause-number
returns-clause-number c = c.in_ok-number.ensures.index ∙ sym (place-map frame_of (frame_eq (frame_of c.args.context)) c.args.seen.now.keys)
