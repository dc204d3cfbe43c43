use Rattle.std.proofs.Common.{◌≡◌, ◌++◌, ◌∷◌, [], ℕ, List, true, false}
use Rattle.event_lines.specs.Cut.{input_lines}
use Rattle.mystery_io.specs.Readings.{Reading}
use Rattle.mystery_io.proofs.ReadGivenLemmas.{reading}
use Rattle.line_split.specs.declared.pending.Pending.{Pending}
use Rattle.line_split.specs.inner.Calls.{call_of_line}
use Rattle.line_split.specs.inner.Steps.{Carried, Fits}
use Rattle.line_split.proofs.reading.read_pieces.Given as goal

-- what was read so far was split, up to the line that has not ended
abbrev pub invariant-pieces : goal.invariant-pieces
invariant-pieces g l =
    let F = g.F.Files in
    let P = g.P.OutputFiles in
    let call = call_of_line l.call in
    record {
      opened : F.is_open l.files ≡ true;
      one : input_lines l.carry.rest.items ≡ l.carry.rest.items ∷ [];
      fits : Fits call (P.written l.outputs) l.pending;
      counted : P.faults l.outputs ≡ P.faults l.fn.outputs;
      tallied : F.faults l.files ≡ F.faults l.fn.files;
      bytes : List ℕ;
      given : (first : List Reading) (name : List ℕ) → F.given l.fn.files ≡ first ++ reading name [] false ∷ [] → F.given l.files ≡ first ++ reading name bytes false ∷ [];
      carried : (start : g.row.P.Denot) (before : Pending) → Carried call l.file [] P.written P.faults start l.fn.outputs before l.fn.pending l.fn.carry.rest.items l.fn.carry.number
          → Carried call l.file bytes P.written P.faults start l.outputs before l.pending l.carry.rest.items l.carry.number;
    }
