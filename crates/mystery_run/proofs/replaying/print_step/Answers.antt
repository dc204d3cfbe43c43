use Rattle.mystery_run.proofs.ReplayLemmas.{fault_printed}
use Rattle.mystery_run.proofs.replaying.print_step.Goals as goal

pub returns-in-Err-clause-prints : goal.returns-in-Err-clause-prints
returns-in-Err-clause-prints g c =
    fault_printed c.texts_follow.ensures.goes_on g.S.Sink.written g.S.Sink.faults c.print_fault.result c.args.out.now c.print_fault.new.out c.args.buffer.now c.print_fault.new.buffer c.args.machine.now c.args.event.now c.in-Err.fault c.in-Err.ensures.fault c.print_fault.ensures.memory c.print_fault.ensures.prints
