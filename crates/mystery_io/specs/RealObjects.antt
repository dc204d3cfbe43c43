-- What the real objects hold and tell: the writer of a sink and what it took, the open file and what
-- the calls gave.
use Rattle.std.specs.Prelude.{ℕ, List, [], Option, Some, None}
use Rattle.mystery_io.specs.Histories.{readings_of}
use Rattle.mystery_io.specs.Readings.{Reading}
use Rattle.mystery_io.specs.Taken.{bytes_of}
use Rattle.mystery_io.specs.declared.real_files.RealFiles.{RealFiles}
use Rattle.mystery_io.specs.declared.real_sink.RealSink.{RealSink}

-- the writer that a sink sends to
abbrev pub writer_of : {W : Type 0} → RealSink W → W
writer_of sink = sink.writer

-- all bytes that its writes took, which it tells in proofs alone
abbrev pub sink_taken : {W : Type 0} → RealSink W → List ℕ
sink_taken sink = bytes_of sink.taken

-- how many of its writes failed
abbrev pub sink_faults : {W : Type 0} → RealSink W → ℕ
sink_faults sink = sink.faults

-- what its calls gave, which it tells in proofs alone
abbrev pub files_given : {R F D : Type 0} → RealFiles R F D → List Reading
files_given files = readings_of files.history

-- the file that is open
abbrev pub open_file : {R F D : Type 0} → RealFiles R F D → Option F
open_file files = files.file

-- how many calls of `open` were made
abbrev pub open_calls : {R F D : Type 0} → RealFiles R F D → ℕ
open_calls files = files.opens

-- how many calls failed
abbrev pub file_faults : {R F D : Type 0} → RealFiles R F D → ℕ
file_faults files = files.faults

-- the bytes that reads will give, where std tells them; none where no file is open
abbrev pub bytes_ahead : {F : Type 0} → (F → Option (List ℕ)) → Option F → Option (List ℕ)
bytes_ahead remaining None = Some []
bytes_ahead remaining (Some file) = remaining file
