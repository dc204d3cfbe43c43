use Rattle.certificate_laws.proofs.KeptLemmas.{kept_few, kept_printable}
use Rattle.certificate_laws.proofs.laws.kept_traces_are_printable.Goals as goal

pub returns : goal.returns
returns c = record { printable = kept_printable; few = kept_few }
