use Rattle.std.proofs.Common.{◌≡◌, []}
use Rattle.std.specs.Prelude.{replicate}
use Rattle.trace_paths.proofs.TableLemmas.{shown}
use Rattle.trace_paths.proofs.duration_table.DurationTable.new.Given as goal

abbrev pub invariant-names : goal.invariant-names
invariant-names l = shown l.lists.items ≡ replicate l._number []
