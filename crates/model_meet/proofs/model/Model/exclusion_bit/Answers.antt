use Rattle.std.proofs.Common.{◌≡◌, ◌≤◌, ◌<◌, length, ap, subst, arith}
use Rattle.hypothesis_index.specs.Places.{width_of}
use Rattle.hypothesis_index.specs.declared.bit_place.BitPlace.{BitPlace}
use Rattle.hypothesis_index.specs.declared.relation.Relation.TheVariants.{Exclusive}
use Rattle.model_meet.specs.ModelStates.{ModelState}
use Rattle.model_meet.proofs.model.Model.exclusion_bit.Goals as goal

pub exclusion_place-place-requires : goal.exclusion_place-place-requires
exclusion_place-place-requires c =
    let few = subst (λ (m : ModelState). m.names ≤ 512) c.self.view_is c.self.invariant.0 in
    (c.requires.rises, omega (arith, few, c.requires.names))

pub bounds-words-place : goal.bounds-words-place
bounds-words-place c =
    let few = subst (λ (m : ModelState). m.names ≤ 512) c.self.view_is c.self.invariant.0 in
    let wide = subst (λ (m : ModelState). length m.words ≡ width_of m.names) c.self.view_is c.self.invariant.1 in
    let words = ap (λ (m : ModelState). length m.words) c.self.view_is in
    let relation : (c.args.low < c.args.high) × (c.args.high < 512) = (c.requires.rises, omega (arith, few, c.requires.names)) in
    let f = c.places_fit.ensures c.args.self.now.names (Exclusive c.args.low c.args.high) few relation c.requires.names in
    let e = ap (λ (p : BitPlace). p.word) c.exclusion_place-place.ensures in
    omega (arith, f.0, e, wide, words)

pub returns-clause-told : goal.returns-clause-told
returns-clause-told c = λ traces s.
    let few = subst (λ (m : ModelState). m.names ≤ 512) c.self.view_is c.self.invariant.0 in
    let wide = subst (λ (m : ModelState). length m.words ≡ width_of m.names) c.self.view_is c.self.invariant.1 in
    c.words_tell.ensures traces c.args.self.now.words c.args.self.now.names few wide s (Exclusive c.args.low c.args.high) (c.requires.rises, omega (arith, few, c.requires.names)) c.requires.names
