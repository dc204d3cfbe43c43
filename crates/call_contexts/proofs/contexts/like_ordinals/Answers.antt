use Rattle.std.proofs.Common.{◌≡◌, ◌∙◌, List, ℕ, Vec, Global, ap}
use Rattle.std.proofs.lemmas.Result.{IfOk-weaker}
use Rattle.call_trees.specs.Ordinals.{ordinals_of}
use Rattle.call_trees.proofs.TableLemmas.{mapped_all}
use Rattle.call_contexts.specs.Contexts.{like_eq, like_of}
use Rattle.call_contexts.specs.declared.like_key.LikeKey.{LikeKey}
use Rattle.call_contexts.specs.inner.LikeKeys.{like_of_key, likes_of_keys}
use Rattle.call_contexts.proofs.LikeLemmas.{likes_are}
use Rattle.call_contexts.proofs.contexts.like_ordinals.Goals as goal

pub returns : goal.returns
returns c = IfOk-weaker c.find_ordinals.result _ _ (λ (v : Vec ℕ Global) (h : v.items ≡ ordinals_of (λ (k l : LikeKey). like_eq (like_of_key k) (like_of_key l)) c.deref.result.now).
    likes_are c.deref.result.now c.args.calls.now v.items
    (ap (λ (ks : List LikeKey). likes_of_keys ks) c.deref.ensures.value ∙ mapped_all like_of like_of_key c.args.calls.now c.loop-call.keys.items c.loop-call.call-index c.loop-call-test.false c.loop-call.invariant) h) c.find_ordinals.ensures
