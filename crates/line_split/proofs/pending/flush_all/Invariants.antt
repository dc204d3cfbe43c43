use Rattle.std.proofs.Common.{◌≡◌, ◌<◌, [], ℕ, List}
use Rattle.output_files.specs.Written.{WrittenFile}
use Rattle.line_split.specs.inner.Pending.{IsOver, TellsFiles, buffer_at, buffer_count}
use Rattle.line_split.proofs.pending.flush_all.Given as goal

-- the first buffers are empty
abbrev pub invariant-buffers : goal.invariant-buffers
invariant-buffers g l =
    let P = g.P.OutputFiles in
    record {
      over : IsOver (P.written l.files) l.pending;
      many : buffer_count l.pending ≡ buffer_count l.fn.pending;
      counted : P.faults l.files ≡ P.faults l.fn.files;
      told : (count : ℕ) (before : List WrittenFile) (all : ℕ → WrittenFile) → TellsFiles count before all (P.written l.fn.files) l.fn.pending → TellsFiles count before all (P.written l.files) l.pending;
      empty : (j : ℕ) → j < l.index → buffer_at l.pending j ≡ [];
    }
