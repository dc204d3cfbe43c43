use Rattle.std.proofs.Common.{◌≡◌, None}
use Rattle.std.specs.Prelude.{slice_index}
use Rattle.call_trees.specs.Tables.{table_of}
use Rattle.span_names.specs.Names.{numbered}
use Rattle.context_names.specs.Numbers.{base_at}
use Rattle.context_names.proofs.numbers.make_names.Given as goal

-- the names so far
abbrev pub invariant-loop-at : goal.invariant-loop-at
invariant-loop-at l = l.names.items ≡ table_of (λ x. numbered (base_at l.bases x) (slice_index l.numbers x) None) l.at
