use Rattle.std.proofs.Common.{◌≡◌, ◌<◌, ◌≤◌, List, [], ◌∷◌, ◌++◌, length, sym, ◌∙◌, subst, arith}
use Rattle.std.proofs.lemmas.List.{length-append}
use Rattle.trace_types.specs.declared.trace.Trace.{Trace}
use Rattle.trace_types.specs.Parts.{by_text, segments_of}
use Rattle.model_checks.proofs.plain_model_tests.model_of.Goals as goal

three : (x y z : Trace) → length x.segments ≤ 2 → length y.segments ≤ 2 → length z.segments ≤ 2 → length (segments_of by_text (x ∷ y ∷ z ∷ [])) < 4294967296
three x y z a b c = omega (arith, length-append x.segments (y.segments ++ (z.segments ++ [])), length-append y.segments (z.segments ++ []), length-append z.segments [])

pub plain_model-requires : goal.plain_model-requires
plain_model-requires c =
    let same : c.deref.result.now ≡ c.args.first ∷ c.args.second ∷ c.args.third ∷ [] = c.deref.ensures.value ∙ c.in_ok-traces.ensures.items in
    subst (λ (l : List Trace). length (segments_of by_text l) < 4294967296) (sym same) (three c.args.first c.args.second c.args.third c.requires.first c.requires.second c.requires.third)
