use Rattle.std.proofs.Common.{◌≡◌, ◌<◌, ◌≤◌, length, take}
use Rattle.mystery_io.specs.Counts.{CountsCalls}
use Rattle.mystery_io.specs.Input.{input_limit}
use Rattle.line_clean.specs.inner.Steps.{FilesCleaned}
use Rattle.line_clean.proofs.reading.clean_files.Given as goal

-- the files so far were cleaned
abbrev pub invariant-files : goal.invariant-files
invariant-files g l =
    let F = g.F.Files in
    let S = g.S.Sink in
    record {
      index : l.index ≡ l.name-index;
      room : 0 < length l.buffer.items;
      short : length l.buffer.items ≤ input_limit;
      opens : CountsCalls l.name-index (F.opens l.fn.files) (F.opens l.files);
      counted : S.faults l.out ≡ S.faults l.fn.out;
      tallied : F.faults l.files ≡ F.faults l.fn.files;
      cleaned : FilesCleaned (take l.name-index l.names) (S.written l.fn.out) (S.written l.out) (F.given l.fn.files) (F.given l.files);
    }
