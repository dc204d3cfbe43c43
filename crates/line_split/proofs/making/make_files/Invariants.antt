use Rattle.std.proofs.Common.{◌≡◌, []}
use Rattle.line_split.specs.Parts.{part_file}
use Rattle.line_split.specs.inner.Calls.{call_of_line}
use Rattle.line_split.specs.inner.Pending.{TellsFiles}
use Rattle.line_split.proofs.making.make_files.Given as goal

-- the files so far were made
abbrev pub invariant-files : goal.invariant-files
invariant-files g l =
    let P = g.P.OutputFiles in
    record {
      told : TellsFiles l.index (P.written l.fn.files) (part_file (call_of_line l.call) []) (P.written l.files) l.pending;
      faults : P.faults l.files ≡ P.faults l.fn.files;
    }
