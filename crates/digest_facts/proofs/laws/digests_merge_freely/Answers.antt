use Rattle.digest_facts.proofs.MergeLemmas.{merges_freely}
use Rattle.digest_facts.proofs.laws.digests_merge_freely.Goals as goal

pub returns : goal.returns
returns g c = merges_freely
