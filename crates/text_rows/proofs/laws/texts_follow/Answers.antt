use Rattle.text_rows.proofs.PrintLemmas.{prints_nothing, prints_more, prefix_after, prefix_longer}
use Rattle.text_rows.proofs.laws.texts_follow.Goals as goal

pub returns-clause-nothing : goal.returns-clause-nothing
returns-clause-nothing c = prints_nothing

pub returns-clause-prints : goal.returns-clause-prints
returns-clause-prints c = prints_more

pub returns-clause-prefix : goal.returns-clause-prefix
returns-clause-prefix c = prefix_after

pub returns-clause-goes_on : goal.returns-clause-goes_on
returns-clause-goes_on c = prefix_longer
