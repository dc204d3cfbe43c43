use Rattle.std.proofs.Common.{◌≡◌, ◌++◌, map, take}
use Rattle.name_quality.specs.Names.{numbers_of}
use Rattle.name_quality.proofs.names.push_names.Given as goal

-- those of the segments so far stand behind the others
abbrev pub invariant-segments : goal.invariant-segments
invariant-segments l = l.names.items ≡ l.initial.names.items ++ map numbers_of (take l.index l.segments)
