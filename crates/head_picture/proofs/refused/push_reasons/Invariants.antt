use Rattle.std.proofs.Common.{◌≡◌, ◌++◌, take}
use Rattle.std.specs.List.{flat_map}
use Rattle.head_picture.specs.Refusals.{reason_text}
use Rattle.head_picture.proofs.refused.push_reasons.Given as goal

-- the reasons so far were appended
abbrev pub invariant-reasons : goal.invariant-reasons
invariant-reasons l = l.bytes.items ≡ l.fn.bytes.items ++ flat_map (reason_text l.rows) (take l.reason-index l.reasons)
