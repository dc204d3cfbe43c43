use Rattle.kept_names.proofs.ListingLemmas.{Collects}
use Rattle.kept_names.proofs.listing.list_tasks.Given as goal

abbrev pub invariant-loop-number : goal.invariant-loop-number
invariant-loop-number l = Collects l.catalogue.tasks l.marks l.number l.items.items
