use Rattle.std.proofs.Common.{◌≡◌, ◌≤◌, length, ap, subst, arith}
use Rattle.hypothesis_index.specs.Places.{width_of}
use Rattle.hypothesis_index.specs.declared.bit_place.BitPlace.{BitPlace}
use Rattle.model_meet.specs.ModelStates.{ModelState}
use Rattle.model_meet.proofs.model.Model.bit.Goals as goal

pub place-place-requires : goal.place-place-requires
place-place-requires c = c.requires.relation (subst (λ (m : ModelState). m.names ≤ 512) c.self.view_is c.self.invariant.0)

pub bounds-words-place : goal.bounds-words-place
bounds-words-place c =
    let few = subst (λ (m : ModelState). m.names ≤ 512) c.self.view_is c.self.invariant.0 in
    let wide = subst (λ (m : ModelState). length m.words ≡ width_of m.names) c.self.view_is c.self.invariant.1 in
    let words = ap (λ (m : ModelState). length m.words) c.self.view_is in
    let f = c.places_fit.ensures c.args.self.now.names c.args.relation few (c.requires.relation few) c.requires.names in
    let e = ap (λ (p : BitPlace). p.word) c.place-place.ensures in
    omega (arith, f.0, e, wide, words)

pub returns-clause-told : goal.returns-clause-told
returns-clause-told c = λ traces s.
    let few = subst (λ (m : ModelState). m.names ≤ 512) c.self.view_is c.self.invariant.0 in
    let wide = subst (λ (m : ModelState). length m.words ≡ width_of m.names) c.self.view_is c.self.invariant.1 in
    c.words_tell.ensures traces c.args.self.now.words c.args.self.now.names few wide s c.args.relation (c.requires.relation few) c.requires.names
