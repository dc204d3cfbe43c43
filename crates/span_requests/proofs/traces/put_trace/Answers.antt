use Rattle.span_requests.proofs.TraceLemmas.{put_is}
use Rattle.span_requests.proofs.traces.put_trace.Goals as goal

pub returns : goal.returns
returns c = put_is c.args.traces.now.keys c.insert.new.self.keys c.args.trace c.in_ok-insert.ensures.keys
