use Rattle.std.proofs.Common.{◌≡◌, ◌++◌, take}
use Rattle.std.specs.List.{flat_map}
use Rattle.head_picture.specs.Heads.{column_text}
use Rattle.head_picture.proofs.columns.push_ranks.Given as goal

-- the columns so far were appended
abbrev pub invariant-buckets : goal.invariant-buckets
invariant-buckets l = l.bytes.items ≡ l.fn.bytes.items ++ flat_map (column_text l.count l.most) (take l.bucket-index l.buckets)
