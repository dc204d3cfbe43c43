-- The lines of a drill are good, and say the events of its traces.
use Rattle.std.proofs.Common.{◌≡◌, ℕ, zero, suc, ◌+◌, ◌*◌, ◌≤◌, ◌<◌, List, [], ◌∷◌, ◌++◌, Result, Ok, Err, codes, length, decimal, map, max, refl, sym, ap, ◌∙◌, arith, append_assoc, append-nil, length-append}
use Rattle.std.specs.Prelude.{All, Contains}
use Rattle.std.specs.List.{flat_map, range_with_len}
use Rattle.std.specs.Result.{result_map_both}
use Rattle.std.proofs.lemmas.List.Elements.{All-append, All-cons, All-nil}
use Rattle.std.proofs.lemmas.List.{map-append}
use Rattle.drill_input.specs.Draws.{draw}
use Rattle.drill_input.specs.DrillInput as input
use Rattle.drill_input.specs.DrillInput.{drill_input, line_of, lines_of, lines_of_trace, trace_start}
use Rattle.event_lines.specs.Cut.{input_lines}
use Rattle.event_lines.specs.InputLines.{LineFault, all_or_first_error, both_said, lines_said, lines_said_from}
use Rattle.event_lines.specs.declared.line.Line.{Line}
use Rattle.event_lines.specs.declared.line.Line.TheVariants.{Event}
use Rattle.trace_types.specs.declared.event.Event as events
use Rattle.drill_laws.proofs.LineLemmas.{Kind, none, send, recv, IsPlainKind, body_of, body_printable, body_said, event_at, line_is, message_of}
use Rattle.drill_laws.proofs.TextLemmas.{IsPlain, one_line, request_plain}

-- the task and the name of each event of a trace of a drill
abbrev pub event_pairs : List (List ℕ × List ℕ)
event_pairs =
    (codes "client", codes "start") ∷ (codes "client", codes "sent") ∷ (codes "web", codes "got") ∷ (codes "web", codes "built")
    ∷ (codes "db", codes "begin@page") ∷ (codes "db", codes "end") ∷ (codes "ads", codes "begin@page") ∷ (codes "ads", codes "end")
    ∷ (codes "web", codes "replied") ∷ (codes "render", codes "shown@page") ∷ (codes "render", codes "done") ∷ []

-- an event of a drill, which is of one of 20 days
pub record IsDrillEvent (e : events.Event) : Type 0 where
  pub pair : Contains event_pairs (e.task, e.event)
  pub from : 19800 * 86400000000000 ≤ e.time
  pub until : e.time < 19820 * 86400000000000

-- ---- lines of a trace

-- a line that is read, and says such an event
record IsReadable (line : input.Line) : Type 0 where
  kind : Kind
  message : line.message ≡ message_of kind
  named : IsPlainKind kind
  machine : IsPlain line.machine
  task : IsPlain line.task
  event : IsPlain line.event
  pair : Contains event_pairs (line.task, line.event)
  from : 19800 * 86400000000 ≤ line.time
  until : line.time < 19820 * 86400000000

abbrev AreReadable : List input.Line → Type 0
AreReadable [] = Unit {0}
AreReadable (line ∷ lines) = IsReadable line × AreReadable lines

trace_readable : (b d1 d2 d3 d4 d5 : ℕ) → 19800 * 86400000000 ≤ b → b + 10000 < 19820 * 86400000000 → d1 < 1000 → d2 < 1000 → d3 < 1000 → d4 < 1000 → d5 < 1000 → AreReadable (lines_of b d1 d2 d3 d4 d5)
unfolding lines_of
trace_readable b d1 d2 d3 d4 d5 low high h1 h2 h3 h4 h5 =
    let greater : max d3 d4 < 1000 = omega arith in
    let c : IsPlain (codes "c") = record { plain = refl; good = refl } in
    let w : IsPlain (codes "w") = record { plain = refl; good = refl } in
    let client : IsPlain (codes "client") = record { plain = refl; good = refl } in
    let web : IsPlain (codes "web") = record { plain = refl; good = refl } in
    let db : IsPlain (codes "db") = record { plain = refl; good = refl } in
    let ads : IsPlain (codes "ads") = record { plain = refl; good = refl } in
    let render : IsPlain (codes "render") = record { plain = refl; good = refl } in
    let q : IsPlain (codes "q") = record { plain = refl; good = refl } in
    let p : IsPlain (codes "p") = record { plain = refl; good = refl } in
    let begin : IsPlain (codes "begin@page") = record { plain = refl; good = refl } in
    let end : IsPlain (codes "end") = record { plain = refl; good = refl } in (
      record { kind = none; message = refl; named = tt; machine = c; task = client; event = record { plain = refl; good = refl }; pair = (0, omega arith, refl); from = omega arith; until = omega arith },
      (
        record { kind = send (codes "q"); message = refl; named = q; machine = c; task = client; event = record { plain = refl; good = refl }; pair = (1, omega arith, refl); from = omega arith; until = omega arith },
        (
          record { kind = recv (codes "q"); message = refl; named = q; machine = w; task = web; event = record { plain = refl; good = refl }; pair = (2, omega arith, refl); from = omega arith; until = omega arith },
          (
            record { kind = none; message = refl; named = tt; machine = w; task = web; event = record { plain = refl; good = refl }; pair = (3, omega arith, refl); from = omega arith; until = omega arith },
            (
              record { kind = none; message = refl; named = tt; machine = w; task = db; event = begin; pair = (4, omega arith, refl); from = omega arith; until = omega arith },
              (
                record { kind = none; message = refl; named = tt; machine = w; task = db; event = end; pair = (5, omega arith, refl); from = omega arith; until = omega arith },
                (
                  record { kind = none; message = refl; named = tt; machine = w; task = ads; event = begin; pair = (6, omega arith, refl); from = omega arith; until = omega arith },
                  (
                    record { kind = none; message = refl; named = tt; machine = w; task = ads; event = end; pair = (7, omega arith, refl); from = omega arith; until = omega arith },
                    (
                      record { kind = send (codes "p"); message = refl; named = p; machine = w; task = web; event = record { plain = refl; good = refl }; pair = (8, omega arith, refl); from = omega arith; until = omega arith },
                      (
                        record { kind = recv (codes "p"); message = refl; named = p; machine = c; task = render; event = record { plain = refl; good = refl }; pair = (9, omega arith, refl); from = omega arith; until = omega arith },
                        (record { kind = none; message = refl; named = tt; machine = c; task = render; event = record { plain = refl; good = refl }; pair = (10, omega arith, refl); from = omega arith; until = omega arith }, tt),
                      ),
                    ),
                  ),
                ),
              ),
            ),
          ),
        ),
      ),
    )

-- ---- bytes that say events

-- the bytes are so many whole lines from number n on, and say these events of a drill, at most so many
record Says (n : ℕ) (text : List ℕ) (most : ℕ) : Type 0 where
  count : ℕ
  events : List events.Event
  good : All IsDrillEvent events
  few : length events ≤ most
  said : (more : List ℕ) → lines_said_from n (input_lines (text ++ more)) ≡ both_said (Ok (map Event events)) (lines_said_from (n + count) (input_lines more))

joined : (xs ys : List Line) (r : Result (List Line) LineFault) → both_said (Ok xs) (both_said (Ok ys) r) ≡ both_said (Ok (xs ++ ys)) r
joined xs ys (Ok zs) = ap Ok (sym (append_assoc xs ys zs))
joined xs ys (Err e) = refl

with_none : (r : Result (List Line) LineFault) → r ≡ both_said (Ok []) r
with_none (Ok xs) = refl
with_none (Err e) = refl

says_none : (n : ℕ) → Says n [] 0
says_none n = record {
  count = 0;
  events = [];
  good = All-nil IsDrillEvent;
  few = omega arith;
  said = λ more. let same : n ≡ n + 0 = omega arith in with_none (lines_said_from n (input_lines more)) ∙ ap (λ m. both_said (Ok []) (lines_said_from m (input_lines more))) same;
}

says_both : (n : ℕ) (a b : List ℕ) (p q : ℕ) (h : Says n a p) → Says (n + h.count) b q → Says n (a ++ b) (p + q)
says_both n a b p q h k = record {
  count = h.count + k.count;
  events = h.events ++ k.events;
  good = All-append IsDrillEvent h.events k.events h.good k.good;
  few = omega (arith, h.few, k.few, length-append h.events k.events);
  said = λ more.
      let same : n + h.count + k.count ≡ n + (h.count + k.count) = omega arith in
      ap (λ t. lines_said_from n (input_lines t)) (append_assoc a b more) ∙ h.said (b ++ more) ∙ ap (both_said (Ok (map Event h.events))) (k.said more)
      ∙ joined (map Event h.events) (map Event k.events) (lines_said_from (n + h.count + k.count) (input_lines more))
      ∙ ap (λ xs. both_said (Ok xs) (lines_said_from (n + h.count + k.count) (input_lines more))) (sym (map-append Event h.events k.events))
      ∙ ap (λ m. both_said (Ok (map Event (h.events ++ k.events))) (lines_said_from m (input_lines more))) same;
}

-- and so at most more
says_more : (n : ℕ) (text : List ℕ) (p q : ℕ) → p ≤ q → Says n text p → Says n text q
says_more n text p q le h = record { count = h.count; events = h.events; good = h.good; few = omega (arith, h.few); said = h.said }

module _ (pieces : (n : ℕ) (front back : List ℕ)
    → lines_said_from n (input_lines (front ++ 10 ∷ back)) ≡ both_said (lines_said_from n (input_lines front)) (lines_said_from (n + length (input_lines front)) (input_lines back))) where
  says_line : (n k : ℕ) → k < 20000 → (line : input.Line) → IsReadable line → Says n (line_of k line) 1
  says_line n k few line h =
      let r : List ℕ = 114 ∷ decimal k in
      let body : List ℕ = body_of r line.machine line.task line.event line.time h.kind in
      let event : events.Event = event_at n r line.machine line.task line.event line.time h.kind in
      let early : line.time ≤ 4102444800000000 = omega (arith, h.until) in
      let request = request_plain k few in
      let whole : line_of k line ≡ body ++ 10 ∷ [] =
      ap (λ ms. line_of k (record { machine = line.machine; task = line.task; event = line.event; time = line.time; message = ms })) h.message ∙ line_is k line.machine line.task line.event line.time h.kind in
      let alone = one_line body (body_printable r line.machine line.task line.event line.time request h.machine h.task h.event early h.kind h.named) in
      let one : lines_said_from n (body ∷ []) ≡ Ok (Event event ∷ []) =
      ap (λ said. all_or_first_error (result_map_both (λ (good : Line). good) (λ why. record { line = n; why = why }) said ∷ []))
      (body_said r line.machine line.task line.event line.time request h.machine h.task h.event early n h.kind h.named) in
      record {
        count = 1;
        events = event ∷ [];
        good = All-cons IsDrillEvent event [] (record { pair = h.pair; from = omega (arith, h.from); until = omega (arith, h.until) }) (All-nil IsDrillEvent);
        few = omega arith;
        said = λ more.
            ap (λ t. lines_said_from n (input_lines (t ++ more))) whole ∙ ap (λ t. lines_said_from n (input_lines t)) (append_assoc body (10 ∷ []) more)
            ∙ pieces n body more
            ∙ ap (λ (lines : List (List ℕ)). both_said (lines_said_from n lines) (lines_said_from (n + length lines) (input_lines more))) alone
            ∙ ap (λ said. both_said said (lines_said_from (n + 1) (input_lines more))) one;
      }

  says_lines : (n k : ℕ) → k < 20000 → (lines : List input.Line) → AreReadable lines → Says n (flat_map (line_of k) lines) (length lines)
  says_lines n k few [] h = says_none n
  says_lines n k few (line ∷ lines) h =
      let first = says_line n k few line h.0 in
      says_more n (flat_map (line_of k) (line ∷ lines)) (1 + length lines) (length (line ∷ lines)) (omega arith)
      (says_both n (line_of k line) (flat_map (line_of k) lines) 1 (length lines) first (says_lines (n + first.count) k few lines h.1))

  draw_small : (number index : ℕ) → draw number index < 1000
  draw_small number index = omega arith

  eleven : (b d1 d2 d3 d4 d5 : ℕ) → length (lines_of b d1 d2 d3 d4 d5) ≡ 11
  unfolding lines_of
  eleven b d1 d2 d3 d4 d5 = refl

  says_trace : (n number k : ℕ) → k < 20000 → Says n (lines_of_trace number k) 11
  says_trace n number k few =
      let all : List input.Line = lines_of (trace_start k) (draw number (5 * k)) (draw number (5 * k + 1)) (draw number (5 * k + 2)) (draw number (5 * k + 3)) (draw number (5 * k + 4)) in
      let size : length all ≡ 11 = eleven (trace_start k) _ _ _ _ _ in
      says_more n (lines_of_trace number k) (length all) 11 (omega (arith, size)) (says_lines n k few (lines_of (trace_start k) (draw number (5 * k)) (draw number (5 * k + 1)) (draw number (5 * k + 2)) (draw number (5 * k + 3)) (draw number (5 * k + 4)))
      (trace_readable (trace_start k) _ _ _ _ _ (omega arith) (omega arith) (draw_small number _) (draw_small number _) (draw_small number _) (draw_small number _) (draw_small number _)))

  says_traces : (n number a count : ℕ) → a + count ≤ 20000 → Says n (flat_map (lines_of_trace number) (range_with_len a count)) (11 * count)
  says_traces n number a zero few = says_none n
  says_traces n number a (suc count) few =
      let first = says_trace n number a (omega arith) in
      says_more n (flat_map (lines_of_trace number) (range_with_len a (suc count))) (11 + 11 * count) (11 * suc count) (omega arith)
      (says_both n (lines_of_trace number a) (flat_map (lines_of_trace number) (range_with_len (a + 1) count)) 11 (11 * count) first (says_traces (n + first.count) number (a + 1) count (omega arith)))

  -- the lines of a drill are all event lines, good and few
  pub input_said : (number traces : ℕ) → traces ≤ 20000 → (events : List events.Event) × All IsDrillEvent events × (lines_said (drill_input number traces) ≡ Ok (map Event events)) × (length events ≤ 220000)
  input_said number traces few =
      let h = says_traces 1 number 0 traces (omega arith) in
      (h.events, h.good, ap (λ t. lines_said_from 1 (input_lines t)) (sym (append-nil (drill_input number traces))) ∙ h.said [] ∙ ap Ok (append-nil (map Event h.events)), omega (arith, h.few))
