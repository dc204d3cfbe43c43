use Rattle.std.proofs.Common.{◌≡◌, drop}
use Rattle.mystery_io.specs.NamedBytes.{file_named}
use Rattle.mystery_io.proofs.named_files.find_index.Given as goal

-- no file before has the name
abbrev pub invariant-loop-i : goal.invariant-loop-i
invariant-loop-i l = file_named (drop l.i l.files) l.name ≡ file_named l.files l.name
