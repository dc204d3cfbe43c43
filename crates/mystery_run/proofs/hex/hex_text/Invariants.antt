use Rattle.std.proofs.Common.{◌≡◌, length}
use Rattle.mystery_run.proofs.HexLemmas.{first_digits}
use Rattle.mystery_run.proofs.hex.hex_text.Given as goal

-- the digits so far
abbrev pub invariant-loop-place : goal.invariant-loop-place
invariant-loop-place l = record {
  digits : l.text.bytes ≡ first_digits l.word l.place;
  count : length l.text.bytes ≡ l.place;
}
