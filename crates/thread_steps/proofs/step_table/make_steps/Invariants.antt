use Rattle.thread_steps.specs.Parts.{grouping_of}
use Rattle.thread_steps.proofs.TableLemmas.{AreMade}
use Rattle.thread_steps.proofs.step_table.make_steps.Given as goal

abbrev pub invariant-calls : goal.invariant-calls
invariant-calls l = AreMade l.calls l.below (grouping_of l.forking) l.group_numbers l.call l.steps.items l.firsts.items
