use Rattle.std.proofs.Common.{◌≡◌, ◌++◌, map, take}
use Rattle.digest_merging.proofs.name_merging.copy_rest.Given as goal

-- the names so far
abbrev pub invariant-rows : goal.invariant-rows
invariant-rows l = l.names.items ≡ l.fn.names.items ++ map (λ r. r.0) (take l.row-index l.rows)
