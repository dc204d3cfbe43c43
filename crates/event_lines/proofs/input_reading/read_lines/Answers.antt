use Rattle.event_lines.proofs.GoodLineLemmas.{numbers_rise, all_timely, all_limited, no_more_lines}
use Rattle.event_lines.proofs.input_reading.read_lines.Goals as goal

pub returns-clause-rising : goal.returns-clause-rising
returns-clause-rising g c = numbers_rise c.args.bytes.now c.in_ok-read_shared.field-0.lines c.in_ok-read_shared.ensures.0

pub returns-clause-timely : goal.returns-clause-timely
returns-clause-timely g c = all_timely c.args.bytes.now c.in_ok-read_shared.field-0.lines c.in_ok-read_shared.ensures.0

pub returns-clause-limited : goal.returns-clause-limited
returns-clause-limited g c = all_limited c.args.bytes.now c.in_ok-read_shared.field-0.lines c.in_ok-read_shared.ensures.0

pub returns-clause-few : goal.returns-clause-few
returns-clause-few g c = no_more_lines c.args.bytes.now c.in_ok-read_shared.field-0.lines c.in_ok-read_shared.ensures.0
