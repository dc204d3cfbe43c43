use Rattle.line_clean.proofs.LawLemmas.{printed_again, printed_lines, printed_said}
use Rattle.line_clean.proofs.laws.what_is_printed_is_good.Goals as goal

pub returns-clause-lines : goal.returns-clause-lines
returns-clause-lines c = printed_lines

pub returns-clause-said : goal.returns-clause-said
returns-clause-said c = printed_said

pub returns-clause-again : goal.returns-clause-again
returns-clause-again c = printed_again
