use Rattle.std.proofs.Common.{ℕ, ◌/◌, ◌<◌, List, length, subst, sym}
use Rattle.std.proofs.lemmas.List.{get_or_read}
use Rattle.weighted_dag.proofs.BitLemmas.{Has-insert}
use Rattle.weighted_dag.proofs.bit_set.BitSet.insert.Goals as goal

pub returns-clause-has : goal.returns-clause-has
returns-clause-has c =
    let words = c.self.inside.words.items in
    let n = c.args.number in
    let inside : n / 64 < length words = subst (λ (ws : List ℕ). n / 64 < length ws) (sym c.self.view_is) c.requires in
    rw (← c.self.view_is) (Has-insert words n c.index_mut.result.now inside (get_or_read words (n / 64) c.index_mut.result.now inside c.index_mut.ensures.value 0))
