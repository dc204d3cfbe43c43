use Rattle.std.proofs.Common.{◌≡◌, ◌≤◌, length, subst}
use Rattle.hypothesis_index.specs.Places.{width_of}
use Rattle.model_meet.specs.ModelStates.{ModelState}
use Rattle.trace_types.specs.Parts.{by_number}
use Rattle.model_meet.proofs.TellingLemmas.{exclusions_told}
use Rattle.model_meet.proofs.model.Model.tells_exclusions.Goals as goal

pub returns : goal.returns
returns c =
    let few = subst (λ (m : ModelState). m.names ≤ 512) c.self.view_is c.self.invariant.0 in
    let wide = subst (λ (m : ModelState). length m.words ≡ width_of m.names) c.self.view_is c.self.invariant.1 in
    exclusions_told c.args.self.now c.words_tell.ensures few wide (c.relations_are_symmetric.ensures.exclusive by_number)
