use Rattle.session.proofs.RunLemmas.{no_job, one_job}
use Rattle.session.proofs.job_list.take_run.Goals as goal

pub returns-in_ok-take_command : goal.returns-in_ok-take_command
returns-in_ok-take_command c = λ rest.
    rw c.in-Some.is (one_job c.args.jobs.now.items c.args.batch.now c.args.run.events c.push_part.new.self rest c.in_ok-push_part.ensures.ok
    c.in-Some.control.line c.in-Some.control.command c.take_command.new.jobs.items c.take_command.new.batch c.in_ok-take_command.ensures.job c.in_ok-take_command.ensures.left)

pub returns-in_default : goal.returns-in_default
returns-in_default c = λ rest. rw c.in_default.is (no_job c.args.jobs.now.items c.args.batch.now c.args.run.events c.push_part.new.self rest c.in_ok-push_part.ensures.ok)
