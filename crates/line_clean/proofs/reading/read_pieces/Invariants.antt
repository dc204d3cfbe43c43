use Rattle.std.proofs.Common.{◌≡◌, ◌++◌, ◌∷◌, [], ℕ, List, Option, true, false}
use Rattle.mystery_io.specs.Readings.{Reading}
use Rattle.mystery_io.proofs.ReadGivenLemmas.{reading}
use Rattle.line_clean.specs.inner.Carrying.{IsCarry}
use Rattle.line_clean.specs.inner.Steps.{Carries}
use Rattle.line_clean.proofs.reading.read_pieces.Given as goal

-- what is printed of what was read so far was written, but for the line that has not ended
abbrev pub invariant-pieces : goal.invariant-pieces
invariant-pieces g l =
    let F = g.F.Files in
    let S = g.S.Sink in
    record {
      opened : F.is_open l.files ≡ true;
      carry : IsCarry l.carry;
      opens : F.opens l.files ≡ F.opens l.fn.files;
      counted : S.faults l.out ≡ S.faults l.fn.out;
      tallied : F.faults l.files ≡ F.faults l.fn.files;
      bytes : List ℕ;
      given : (first : List Reading) (name : List ℕ) → F.given l.fn.files ≡ first ++ reading name [] false ∷ [] → F.given l.files ≡ first ++ reading name bytes false ∷ [];
      carries : (start : Option (List ℕ)) → Carries start (S.written l.fn.out) [] l.fn.carry → Carries start (S.written l.out) bytes l.carry;
    }
