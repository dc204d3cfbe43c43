use Rattle.std.proofs.Common.{◌≡◌, ◌++◌, map, take}
use Rattle.digest_merging.proofs.task_merging.copy_rest.Given as goal

-- the tasks so far
abbrev pub invariant-rows : goal.invariant-rows
invariant-rows l = l.tasks.items ≡ l.fn.tasks.items ++ map (λ r. r.0) (take l.row-index l.rows)
