use Rattle.std.proofs.Common.{◌≡◌, ℕ, length, ap, ◌∙◌, subst, arith}
use Rattle.weighted_dag.proofs.BitLemmas.{IsUnitedBelow, Has-unite}
use Rattle.weighted_dag.proofs.bit_set.BitSet.unite.Goals as goal

pub returns-clause-has : goal.returns-clause-has
returns-clause-has c =
    let old = c.self.inside.words.items in
    let more = c.args.words.now in
    let new = c.words.self-inside.words.items in
    let room : length old ≡ length more = ap length c.self.view_is ∙ c.requires in
    let index : c.words.index ≡ length more = omega arith in
    let so : IsUnitedBelow (length more) old more new = subst (λ (n : ℕ). IsUnitedBelow n old more new) index c.words.invariant in
    rw (← c.self.view_is) (Has-unite old more new room so)
