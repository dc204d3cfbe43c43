use Rattle.std.proofs.Common.{◌∙◌, ap, List}
use Rattle.clock_offsets.specs.declared.number_entry.NumberEntry.{NumberEntry}
use Rattle.clock_offsets.specs.NumberPlaces.{place_in}
use Rattle.clock_offsets.specs.inner.NumberChains.{newest_first}
use Rattle.clock_offsets.proofs.NumberChainLemmas.{place_added}
use Rattle.clock_offsets.proofs.number_places.find_or_add_in_few.Goals as goal

pub returns-clause-place : goal.returns-clause-place
returns-clause-place c = ap (λ (es : List NumberEntry). place_in (newest_first es) c.args.group c.args.number) c.in_ok-push.ensures.items ∙ place_added c.args.entries.now.items _
