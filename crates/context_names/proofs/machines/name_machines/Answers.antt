use Rattle.span_requests.specs.SpansOnce.{lent_spans}
use Rattle.context_names.specs.inner.Keys.{lent_bases}
use Rattle.context_names.proofs.MachineLemmas.{all_there}
use Rattle.context_names.proofs.machines.name_machines.Goals as goal

pub returns-clause-known : goal.returns-clause-known
returns-clause-known c = all_there (lent_spans c.args.spans.now) (lent_bases c.in_ok-machines.machines.keys) c.in_ok-machines.ensures
