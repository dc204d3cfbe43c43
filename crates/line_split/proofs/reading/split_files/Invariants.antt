use Rattle.std.proofs.Common.{◌≡◌, ◌<◌, ◌++◌, List, length, map, take}
use Rattle.mystery_io.specs.Readings.{AreEnded, Reading}
use Rattle.line_split.specs.Lines.{all_lines}
use Rattle.line_split.specs.inner.Calls.{call_of_line}
use Rattle.line_split.specs.inner.Steps.{Fits, Splits, all_split}
use Rattle.line_split.proofs.reading.split_files.Given as goal

-- the files so far were read and split
abbrev pub invariant-files : goal.invariant-files
invariant-files g l =
    let F = g.F.Files in
    let P = g.P.OutputFiles in
    let call = call_of_line l.call in
    record {
      index : l.file ≡ l.name-index;
      room : 0 < length l.buffer.items;
      fits : Fits call (P.written l.outputs) l.pending;
      counted : P.faults l.outputs ≡ P.faults l.fn.outputs;
      tallied : F.faults l.files ≡ F.faults l.fn.files;
      readings : List Reading;
      given : F.given l.files ≡ F.given l.fn.files ++ readings;
      size : length readings ≡ l.name-index;
      named : map (λ (r : Reading). r.name) readings ≡ take l.name-index call.files;
      ended : AreEnded readings;
      split : Splits call (all_lines readings) all_split P.written P.faults l.fn.outputs l.outputs l.fn.pending l.pending;
    }
