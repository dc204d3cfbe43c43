use Rattle.std.proofs.Common.{◌∙◌, sym}
use Rattle.std.proofs.lemmas.Simd.{map-map}
use Rattle.call_contexts.specs.Contexts.{frame_of}
use Rattle.call_contexts.specs.declared.context.Context.{Context}
use Rattle.context_names.specs.Bases.{base_within}
use Rattle.context_names.proofs.ValueLemmas.{map_done}
use Rattle.context_names.proofs.bases.make_bases.Goals as goal

pub returns : goal.returns
returns c =
    map_done (λ (x : Context). base_within c.args.most (frame_of x)) c.args.contexts.now c.loop-context.bases.items c.loop-context.context-index c.loop-context-test.false c.loop-context.invariant
    ∙ sym (map-map (base_within c.args.most) frame_of c.args.contexts.now)
