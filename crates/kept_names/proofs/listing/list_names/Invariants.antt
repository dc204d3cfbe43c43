use Rattle.kept_names.proofs.ListingLemmas.{Collects}
use Rattle.kept_names.proofs.listing.list_names.Given as goal

abbrev pub invariant-loop-number : goal.invariant-loop-number
invariant-loop-number l = Collects l.catalogue.names l.marks l.number l.items.items
