use Rattle.span_requests.proofs.TraceLemmas.{put_is}
use Rattle.context_names.proofs.machines.put_machine.Goals as goal

pub returns : goal.returns
returns c = put_is c.args.machines.now.keys c.insert.new.self.keys c.args.machine c.in_ok-insert.ensures.keys
