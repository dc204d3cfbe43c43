-- How long lines, traces and inputs are.
use Rattle.std.proofs.Common.{◌≡◌, ℕ, zero, suc, ◌+◌, ◌*◌, ◌^◌, ◌≤◌, ◌<◌, List, [], ◌∷◌, ◌++◌, length, codes, decimal, arith, ap, ◌∙◌, lit≤, max, subst, sym}
use Rattle.std.proofs.lemmas.Fmt.{length-decimal-le}
use Rattle.std.proofs.lemmas.List.{length-append}
use Rattle.std.specs.List.{flat_map, range_with_len}
use Rattle.drill_input.specs.Draws.{draw}
use Rattle.drill_input.specs.DrillInput.{Line, drill_input, line_of, lines_of, trace_start, text_member, lines_of_trace}
use Rattle.drill_input.specs.InputLaws.{InputIsShort}
use Rattle.drill_input.proofs.LineLemmas.{line_of_pieces}

-- the texts and the time of a line are short
record IsShort (line : Line) : Type 0 where
  texts : length line.machine + length line.task + length line.event + length (flat_map (λ m. 44 ∷ m) line.message) ≤ 40
  time : line.time < 10 ^ 19

abbrev AreShort : List Line → Type 0
AreShort [] = Unit {0}
AreShort (line ∷ lines) = IsShort line × AreShort lines

-- ten pieces together
length_pieces : (p1 p2 p3 p4 p5 p6 p7 p8 p9 p10 : List ℕ) → length (p1 ++ (p2 ++ (p3 ++ (p4 ++ (p5 ++ (p6 ++ (p7 ++ (p8 ++ (p9 ++ p10)))))))))
    ≡ length p1 + (length p2 + (length p3 + (length p4 + (length p5 + (length p6 + (length p7 + (length p8 + (length p9 + length p10))))))))
length_pieces p1 p2 p3 p4 p5 p6 p7 p8 p9 p10 = simp length-append

-- five pieces together
length_five : (p1 p2 p3 p4 p5 : List ℕ) → length ((((p1 ++ p2) ++ p3) ++ p4) ++ p5) ≡ length p1 + length p2 + length p3 + length p4 + length p5
length_five p1 p2 p3 p4 p5 = simp length-append

-- a member and the comma before it
length_member : (name value : List ℕ) → length (44 ∷ text_member name value) ≡ 2 + length name + 3 + length value + 1
length_member name value = length_five (codes ",\"") name (codes "\":\"") value (codes "\"")

-- numbers of bytes that are together at most 300
bytes_few : (whole index machine task event time message machines tasks events : ℕ)
    → whole ≡ 13 + (index + (1 + (machines + (tasks + (events + (8 + (time + (message + 2))))))))
    → machines ≡ 2 + 7 + 3 + machine + 1 → tasks ≡ 2 + 4 + 3 + task + 1 → events ≡ 2 + 5 + 3 + event + 1
    → index ≤ 5 → machine + task + event + message ≤ 40 → time ≤ 19 → whole ≤ 300
bytes_few whole index machine task event time message machines tasks events e1 e2 e3 e4 h1 h2 h3 = omega arith

-- a line is short
line_short : (k : ℕ) (line : Line) → k < 20000 → IsShort line → length (line_of k line) ≤ 300
line_short k line lt short =
    let index : length (decimal k) ≤ 5 = length-decimal-le 5 k (omega arith) (omega arith) (omega arith) in
    let time : length (decimal line.time) ≤ 19 = length-decimal-le 19 line.time (omega arith) short.time (omega (arith, short.time)) in
    bytes_few (length (line_of k line)) (length (decimal k)) (length line.machine) (length line.task) (length line.event) (length (decimal line.time))
    (length (flat_map (λ m. 44 ∷ m) line.message)) _ _ _
    (ap length (line_of_pieces k line) ∙ length_pieces (codes "{\"request\":\"r") (decimal k) (codes "\"")
    (44 ∷ text_member (codes "machine") line.machine) (44 ∷ text_member (codes "task") line.task) (44 ∷ text_member (codes "event") line.event)
    (codes ",\"time\":") (decimal line.time) (flat_map (λ m. 44 ∷ m) line.message) (codes "}\n"))
    (length_member (codes "machine") line.machine) (length_member (codes "task") line.task) (length_member (codes "event") line.event)
    index short.texts time

-- the texts of short lines
lines_short : (k : ℕ) (lines : List Line) → k < 20000 → AreShort lines → length (flat_map (line_of k) lines) ≤ 300 * length lines
lines_short k [] lt short = lit≤ tt
lines_short k (line ∷ lines) lt short =
    let first : length (line_of k line) ≤ 300 = line_short k line lt short.0 in
    let others : length (flat_map (line_of k) lines) ≤ 300 * length lines = lines_short k lines lt short.1 in
    rw (length-append (line_of k line) (flat_map (line_of k) lines)) (omega arith)

-- a draw is below 1000
draw_small : (number index : ℕ) → draw number index < 1000
draw_small number index = omega arith

-- the lines of a trace are short
all_short : (b d1 d2 d3 d4 d5 : ℕ) → b < 10 ^ 16 → d1 < 1000 → d2 < 1000 → d3 < 1000 → d4 < 1000 → d5 < 1000 → AreShort (lines_of b d1 d2 d3 d4 d5)
unfolding lines_of
all_short b d1 d2 d3 d4 d5 h h1 h2 h3 h4 h5 =
    let greater : max d3 d4 < 1000 = omega arith in (
      record { texts = lit≤ tt; time = omega arith },
      (
        record { texts = lit≤ tt; time = omega arith },
        (
          record { texts = lit≤ tt; time = omega arith },
          (
            record { texts = lit≤ tt; time = omega arith },
            (
              record { texts = lit≤ tt; time = omega arith },
              (
                record { texts = lit≤ tt; time = omega arith },
                (
                  record { texts = lit≤ tt; time = omega arith },
                  (
                    record { texts = lit≤ tt; time = omega arith },
                    (
                      record { texts = lit≤ tt; time = omega arith },
                      (
                        record { texts = lit≤ tt; time = omega arith },
                        (record { texts = lit≤ tt; time = omega arith }, tt),
                      ),
                    ),
                  ),
                ),
              ),
            ),
          ),
        ),
      ),
    )

-- a trace is short
draws_short : (k d1 d2 d3 d4 d5 : ℕ) → k < 20000 → d1 < 1000 → d2 < 1000 → d3 < 1000 → d4 < 1000 → d5 < 1000
    → length (flat_map (line_of k) (lines_of (trace_start k) d1 d2 d3 d4 d5)) ≤ 3300
unfolding lines_of
draws_short k d1 d2 d3 d4 d5 lt h1 h2 h3 h4 h5 =
    lines_short k (lines_of (trace_start k) d1 d2 d3 d4 d5) lt (all_short (trace_start k) d1 d2 d3 d4 d5 (omega arith) h1 h2 h3 h4 h5)

trace_short : (number k : ℕ) → k < 20000 → length (lines_of_trace number k) ≤ 3300
trace_short number k lt =
    draws_short k _ _ _ _ _ lt (draw_small number _) (draw_small number _) (draw_small number _) (draw_small number _) (draw_small number _)

-- texts of numbers from a on that are each short
texts_short : (f : ℕ → List ℕ) (a n bound : ℕ) → ((k : ℕ) → k < bound → length (f k) ≤ 3300) → a + n ≤ bound → length (flat_map f (range_with_len a n)) ≤ 3300 * n
texts_short f a zero bound each le = lit≤ tt
texts_short f a (suc n) bound each le =
    let first : length (f a) ≤ 3300 = each a (omega arith) in
    let others : length (flat_map f (range_with_len (a + 1) n)) ≤ 3300 * n = texts_short f (a + 1) n bound each (omega arith) in
    rw (length-append (f a) (flat_map f (range_with_len (a + 1) n))) (omega arith)

-- an input is short
pub input_short : InputIsShort
input_short number traces le =
    let short : length (drill_input number traces) ≤ 3300 * traces =
    texts_short (lines_of_trace number) 0 traces 20000 (trace_short number) (omega arith) in
    omega arith

pub short_input : (number traces : ℕ) (bytes : List ℕ) → traces ≤ 20000 → bytes ≡ drill_input number traces → length bytes ≤ 67108864
short_input number traces bytes le e = subst (λ t. length t ≤ 67108864) (sym e) (input_short number traces le)
