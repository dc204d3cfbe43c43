use Rattle.std.proofs.Common.{◌≡◌, ◌+◌, ◌≤◌, length, option_copied}
use Rattle.certificates.specs.Certificates.{claims_of_lines}
use Rattle.step_core.specs.LinesLeft.{lines_left, room_left}
use Rattle.certificates.proofs.ClaimLemmas.{after_claims}
use Rattle.certificates.proofs.reading.read_claims.Given as goal

-- the claims so far and those of the lines that are left are those of all lines
abbrev pub invariant-lines : goal.invariant-lines
invariant-lines l = record {
  told : after_claims l.claims.items (claims_of_lines (lines_left l.number (option_copied l.left))) ≡ claims_of_lines (lines_left l.initial.number (option_copied l.initial.left));
  room : l.number + room_left (option_copied l.left) ≤ l.initial.number + room_left (option_copied l.initial.left);
  few : length l.claims.items + l.initial.number ≤ l.number;
}

abbrev pub decreases-lines : goal.decreases-lines
decreases-lines l = room_left (option_copied l.left)
