use Rattle.std.proofs.Common.{◌∙◌, List, ℕ, ap, length, subst}
use Rattle.std.proofs.lemmas.Result.{IfOk-weaker}
use Rattle.call_contexts.specs.Contexts.{frames_of}
use Rattle.call_contexts.specs.inner.Numbering.{AreSoFar}
use Rattle.call_contexts.specs.declared.contexts.Contexts.{Contexts}
use Rattle.call_contexts.proofs.FrameLemmas.{so_far_all}
use Rattle.call_contexts.proofs.LikeLemmas.{length-ordinals_among}
use Rattle.call_contexts.proofs.contexts.find_contexts.Goals as goal

pub number_contexts-requires-clause-same : goal.number_contexts-requires-clause-same
number_contexts-requires-clause-same c = ap length (c.deref.ensures.value ∙ c.in_ok-ordinals.ensures) ∙ length-ordinals_among c.args.calls.now

pub returns : goal.returns
returns c = IfOk-weaker c.number_contexts.result _ _ (λ (v : Contexts) (h : AreSoFar c.args.calls.now c.deref.result.now (length c.args.calls.now) v.numbers.items (frames_of v.contexts.items)).
    so_far_all c.args.calls.now v.numbers.items (frames_of v.contexts.items)
    (subst (λ (os : List ℕ). AreSoFar c.args.calls.now os (length c.args.calls.now) v.numbers.items (frames_of v.contexts.items)) (c.deref.ensures.value ∙ c.in_ok-ordinals.ensures) h)) c.number_contexts.ensures
