use Rattle.std.proofs.Common.{take}
use Rattle.std.specs.List.{Contains}
use Rattle.view_rows.proofs.gathering.is_listed.Given as goal

abbrev pub invariant-numbers : goal.invariant-numbers
invariant-numbers l = Contains (take l.number-index l.numbers) l.wanted → ⊥
