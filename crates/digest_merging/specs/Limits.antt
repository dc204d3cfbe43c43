-- When a digest is too large: more names or tasks than the words of a book have bits for, or more
-- traces than are counted.
use Rattle.std.specs.Prelude.{◌-◌, ◌^◌, length, nat_lt, if◌then◌else◌, Option, Some, None}
use Rattle.digest_facts.specs.Digests.{Digest}
use Rattle.digest_merging.specs.declared.digest_limit.DigestLimit.{DigestLimit}
use Rattle.digest_merging.specs.declared.digest_limit.DigestLimit.TheVariants.{Names, Tasks, Traces}

-- the limit that a digest passes: 512 names, 64 tasks, 2^64 - 1 traces, the first of these; and how
-- many names or tasks it has
abbrev pub limit_passed : {N T : Type 0} → Digest N T → Option DigestLimit
limit_passed s =
    if nat_lt 512 (length s.names) then Some (Names (length s.names)) else (
    if nat_lt 64 (length s.tasks) then Some (Tasks (length s.tasks)) else (
    if nat_lt (2 ^ 64 - 1) s.traces then Some Traces else None))
