use Rattle.event_lines.proofs.GoodLineLemmas.{numbers_rise, all_timely, all_limited, no_more_lines}
use Rattle.event_lines.proofs.laws.lines_of_an_input_are_good.Goals as goal

pub returns-clause-rising : goal.returns-clause-rising
returns-clause-rising c = numbers_rise

pub returns-clause-timely : goal.returns-clause-timely
returns-clause-timely c = all_timely

pub returns-clause-limited : goal.returns-clause-limited
returns-clause-limited c = all_limited

pub returns-clause-few : goal.returns-clause-few
returns-clause-few c = no_more_lines
