-- What the objects hold and tell: the files that were made, with what was written to them.
use Rattle.std.specs.Prelude.{ℕ, List, map}
use Rattle.mystery_io.specs.RealObjects.{sink_taken}
use Rattle.output_files.specs.declared.mem_outputs.MemOutput.{MemOutput}
use Rattle.output_files.specs.declared.mem_outputs.MemOutputs.{MemOutputs}
use Rattle.output_files.specs.declared.real_outputs.NamedSink.{NamedSink}
use Rattle.output_files.specs.declared.real_outputs.RealOutputs.{RealOutputs}
use Rattle.output_files.specs.Written.{WrittenFile}

-- a file in memory as one that was written
abbrev pub mem_file : MemOutput → WrittenFile
mem_file file = record { name = file.name; bytes = file.bytes.items }

-- the files in memory that were made
abbrev pub mem_written : MemOutputs → List WrittenFile
mem_written outputs = map mem_file outputs.files.items

-- how many of their calls failed
abbrev pub mem_faults : MemOutputs → ℕ
mem_faults outputs = outputs.faults

-- a real file as one that was written, which it tells in proofs alone
abbrev pub real_file : {W : Type 0} → NamedSink W → WrittenFile
real_file file = record { name = file.name.value; bytes = sink_taken file.sink }

-- the real files that were made
abbrev pub real_written : {R F D : Type 0} → RealOutputs R F D → List WrittenFile
real_written outputs = map real_file outputs.files.items

-- how many of their calls failed
abbrev pub real_faults : {R F D : Type 0} → RealOutputs R F D → ℕ
real_faults outputs = outputs.faults
