use Rattle.std.proofs.Common.{◌≡◌, ◌++◌, map, take}
use Rattle.digest_merging.proofs.limits.add_names.Given as goal

-- those of the rows so far stand behind what was there
abbrev pub invariant-rows : goal.invariant-rows
invariant-rows l = map (λ r. r.now) l.names.items ≡ map (λ r. r.now) l.fn.names.items ++ map (λ r. r.0) (take l.row-index l.rows)
