use Rattle.std.proofs.Common.{ℕ, List}
use Rattle.trace_types.specs.Segments.{SegmentName}
use Rattle.digest_facts.specs.Digests.{Digest}
use Rattle.digest_merging.specs.Merges.{IsTableOf}
use Rattle.judged_books.proofs.GivenLemmas.{HasListed}
use Rattle.judged_books.proofs.given_names.list_given.Given as goal

-- the names of the rows so far, and their tasks
abbrev pub invariant-rows : goal.invariant-rows
invariant-rows l = (given : Digest SegmentName (List ℕ)) → IsTableOf given l.table → HasListed given l.row-index l.catalogue
