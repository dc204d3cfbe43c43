-- The first line of bytes.
use Rattle.std.proofs.Common.{◌≡◌, ℕ, ◌+◌, ◌-◌, List, length, take, drop, true, false, Some, None, arith, ap, refl}
use Rattle.std.specs.Prelude.{nat_lt}
use Rattle.std.specs.List.{position_or_len}
use Rattle.std.proofs.lemmas.Bool.{le-ltb, lt-ltb}
use Rattle.std.proofs.lemmas.List.{take_rest}
use Rattle.std.proofs.lemmas.List.Sums.{position_or_len_is}
use Rattle.memchr.specs.Find.{IsFirstByte}
use Rattle.trace_types.proofs.TruthLemmas.{false_from_not}
use Rattle.event_lines.specs.Cut.{is_line_feed}
use Rattle.digest_reading.specs.Readings.{first_line}

-- the first line ends before the first line feed
pub ended : (bytes : List ℕ) (i : ℕ) → IsFirstByte is_line_feed bytes (Some i) → Some (take i bytes, take (length bytes - (i + 1)) (drop (i + 1) bytes)) ≡ first_line bytes
ended bytes i h =
    let e : position_or_len is_line_feed bytes ≡ i = position_or_len_is is_line_feed bytes i 0 (omega (arith, h.0.high)) (λ k lt. false_from_not _ (h.0.before k (omega arith) lt)) (λ lt. h.1) in
    let lt : nat_lt i (length bytes) ≡ true = lt-ltb i (length bytes) (omega (arith, h.0.high)) in
    rw (e, lt) (ap (λ (rest : List ℕ). Some (take i bytes, rest)) (take_rest bytes (i + 1)))

-- without a line feed no line is ended
pub unended : (bytes : List ℕ) → IsFirstByte is_line_feed bytes None → None ≡ first_line bytes
unended bytes h =
    let e : position_or_len is_line_feed bytes ≡ length bytes = position_or_len_is is_line_feed bytes (length bytes) 0 (omega arith) (λ k lt. false_from_not _ (h k (omega arith) lt)) (λ lt. absurd (omega arith)) in
    let lt : nat_lt (length bytes) (length bytes) ≡ false = le-ltb (length bytes) (length bytes) (omega arith) in
    rw (e, lt) refl
