use Rattle.std.proofs.Common.{◌≡◌, ◌<◌, ◌↔◌, ℕ, length, take}
use Rattle.hypothesis_index.specs.Places.{width_of}
use Rattle.refute_tests.specs.Survivors.{IsRefutedPlace}
use Rattle.word_rows.specs.Words.{bit_of}
use Rattle.pipeline_tests.proofs.sheets.survivors.Given as goal

abbrev pub invariant-loop-trace : goal.invariant-loop-trace
invariant-loop-trace l = record {
  long : length l.words ≡ width_of l.names;
  bits : (i b : ℕ) → i < length l.words → b < 64 → (bit_of l.words i b ≡ 0) ↔ IsRefutedPlace (take l.trace-index l.traces) i b;
}
