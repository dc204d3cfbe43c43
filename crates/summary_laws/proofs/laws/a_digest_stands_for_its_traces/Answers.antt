use Rattle.summary_laws.proofs.StandingLemmas.{merged_stands, stands}
use Rattle.summary_laws.proofs.laws.a_digest_stands_for_its_traces.Goals as goal

pub returns : goal.returns
returns c = record { alone = stands; merged = merged_stands }
