use Rattle.std.proofs.Common.{sym, refl, ap, ◌∙◌}
use Rattle.hypothesis_index.specs.Places.{pairs_below}
use Rattle.hypothesis_index.proofs.PairLemmas.{pairs_below-zero}
use Rattle.hypothesis_index.proofs.pairs.count_pairs.Goals as goal

pub returns-then-numbers-eq0 : goal.returns-then-numbers-eq0
returns-then-numbers-eq0 c = sym (ap pairs_below c.if-numbers-eq0.true ∙ pairs_below-zero)

pub returns-else-numbers-eq0 : goal.returns-else-numbers-eq0
unfolding pairs_below
returns-else-numbers-eq0 c = refl
