-- Good lines are read again, and lines without waits are good.
use Rattle.std.proofs.Common.{◌≡◌, ℕ, ◌+◌, ◌^◌, ◌<◌, ◌≤◌, List, [], ◌∷◌, ◌++◌, false, length, get_or, map, Ok, refl, ap, ◌∙◌, arith, append_assoc, ◌==◌, ◌||◌, ◌&&◌}
use Rattle.std.specs.Prelude.{All}
use Rattle.std.specs.List.{list_any}
use Rattle.std.specs.Result.{result_map_both}
use Rattle.std.proofs.lemmas.List.{length-map}
use Rattle.std.proofs.lemmas.List.Elements.{All-cons, All-from_get_or, All-get_or, All-head, All-map, All-nil, All-tail}
use Rattle.std.proofs.lemmas.List.Splits.{slice_split_none}
use Rattle.std.proofs.lemmas.List.Sums.{count_by-le-length}
use Rattle.std.proofs.lemmas.Bool.{or_parts}
use Rattle.event_lines.specs.Cut.{input_lines, is_line_feed}
use Rattle.event_lines.specs.InputLines.{all_or_first_error, both_said, lines_said_from}
use Rattle.event_lines.specs.LineResults.{line_result}
use Rattle.event_lines.specs.declared.command.Command.TheVariants.{Add, Drop, Keep, Watch, Grace, Model, Paths, Slack, Report, Graph, Summarize}
use Rattle.event_lines.specs.declared.line.Line.{Line}
use Rattle.event_lines.specs.declared.line.Line.TheVariants.{Control, Event}
use Rattle.event_lines.specs.declared.why.Why.{Why}
use Rattle.event_rewrite.specs.TaskLines.{batch_after, task_event, task_events, task_events_from}
use Rattle.event_rewrite.specs.WithoutWaits.{with_tasks_from, without_waits}
use Rattle.event_rewrite.proofs.WalkLemmas.{count_within, tasks_count}
use Rattle.event_text.specs.LineTexts.{line_text, lines_text, place_text}
use Rattle.task_pieces.specs.PieceNames.{piece_name}
use Rattle.task_pieces.specs.Pieces.{ends_wait, piece_of}
use Rattle.task_pieces.specs.TaskEvents.{TaskEvent, is_before}
use Rattle.task_pieces.specs.TaskNames.{names_of, tasks_of}
use Rattle.import_laws.proofs.WaitLaws.{few_firsts}
use Rattle.reading_laws.specs.Readings.{IsGoodEvent, IsGoodLine, IsGoodText, numbered_from, with_number}
use Rattle.reading_laws.proofs.LineLemmas.{command_body, command_is, command_part, command_said, event_body, event_is, event_part, event_said}
use Rattle.reading_laws.proofs.NameLemmas.{name_good}
use Rattle.reading_laws.proofs.TextLemmas.{IsPart}

-- ---- one line

abbrev body_of : Line → List ℕ
body_of (Event e) = event_body e
body_of (Control line command) = command_body command

body_is : (line : Line) → line_text line ≡ body_of line ++ 10 ∷ []
body_is (Event e) = event_is e
body_is (Control line command) = command_is command

body_part : (line : Line) → IsGoodLine line → IsPart (body_of line)
body_part (Event e) h = event_part e h
body_part (Control line command) h = command_part command h

body_said : (n : ℕ) (line : Line) → IsGoodLine line → line_result n (body_of line) ≡ Ok (with_number n line)
body_said n (Event e) h = event_said n e h
body_said n (Control line command) h = command_said n command h

no_feed : (text : List ℕ) → list_any is_line_feed text ≡ false → All (λ x. is_line_feed x ≡ false) text
no_feed [] h = All-nil (λ x. is_line_feed x ≡ false)
no_feed (x ∷ text) h = let p = or_parts (is_line_feed x) (list_any is_line_feed text) h in All-cons (λ y. is_line_feed y ≡ false) x text p.0 (no_feed text p.1)

one_line : (text : List ℕ) → IsPart text → input_lines text ≡ text ∷ []
one_line text h = slice_split_none is_line_feed text (no_feed text h.one)

-- a line that begins with a brace is not blank
one_said : (n : ℕ) (line : Line) → IsGoodLine line → lines_said_from n (body_of line ∷ []) ≡ Ok (with_number n line ∷ [])
unfolding place_text
one_said n (Event e) h = ap (λ said. all_or_first_error (result_map_both (λ (good : Line). good) (λ (why : Why). record { line = n; why = why }) said ∷ [])) (body_said n (Event e) h)
one_said n (Control line Add) h = ap (λ said. all_or_first_error (result_map_both (λ (good : Line). good) (λ (why : Why). record { line = n; why = why }) said ∷ [])) (command_said n Add h)
one_said n (Control line (Drop day)) h = ap (λ said. all_or_first_error (result_map_both (λ (good : Line). good) (λ (why : Why). record { line = n; why = why }) said ∷ [])) (command_said n (Drop day) h)
one_said n (Control line (Keep days)) h = ap (λ said. all_or_first_error (result_map_both (λ (good : Line). good) (λ (why : Why). record { line = n; why = why }) said ∷ [])) (command_said n (Keep days) h)
one_said n (Control line (Watch every)) h = ap (λ said. all_or_first_error (result_map_both (λ (good : Line). good) (λ (why : Why). record { line = n; why = why }) said ∷ [])) (command_said n (Watch every) h)
one_said n (Control line (Grace micros)) h = ap (λ said. all_or_first_error (result_map_both (λ (good : Line). good) (λ (why : Why). record { line = n; why = why }) said ∷ [])) (command_said n (Grace micros) h)
one_said n (Control line Model) h = ap (λ said. all_or_first_error (result_map_both (λ (good : Line). good) (λ (why : Why). record { line = n; why = why }) said ∷ [])) (command_said n Model h)
one_said n (Control line Paths) h = ap (λ said. all_or_first_error (result_map_both (λ (good : Line). good) (λ (why : Why). record { line = n; why = why }) said ∷ [])) (command_said n Paths h)
one_said n (Control line Slack) h = ap (λ said. all_or_first_error (result_map_both (λ (good : Line). good) (λ (why : Why). record { line = n; why = why }) said ∷ [])) (command_said n Slack h)
one_said n (Control line Report) h = ap (λ said. all_or_first_error (result_map_both (λ (good : Line). good) (λ (why : Why). record { line = n; why = why }) said ∷ [])) (command_said n Report h)
one_said n (Control line Graph) h = ap (λ said. all_or_first_error (result_map_both (λ (good : Line). good) (λ (why : Why). record { line = n; why = why }) said ∷ [])) (command_said n Graph h)
one_said n (Control line Summarize) h = ap (λ said. all_or_first_error (result_map_both (λ (good : Line). good) (λ (why : Why). record { line = n; why = why }) said ∷ [])) (command_said n Summarize h)

module _ (pieces : (n : ℕ) (front back : List ℕ)
    → lines_said_from n (input_lines (front ++ 10 ∷ back)) ≡ both_said (lines_said_from n (input_lines front)) (lines_said_from (n + length (input_lines front)) (input_lines back))) where
  pub read_again : (n : ℕ) (lines : List Line) → All IsGoodLine lines → lines_said_from n (input_lines (lines_text lines)) ≡ Ok (numbered_from n lines)
  read_again n [] h = refl
  read_again n (line ∷ lines) h =
      let good = All-head IsGoodLine line lines h in
      let body = body_of line in
      let rest = lines_text lines in
      let alone = one_line body (body_part line good) in
      ap (λ t. lines_said_from n (input_lines (t ++ rest))) (body_is line) ∙ ap (λ t. lines_said_from n (input_lines t)) (append_assoc body (10 ∷ []) rest)
      ∙ pieces n body rest
      ∙ ap (λ (ls : List (List ℕ)). both_said (lines_said_from n ls) (lines_said_from (n + length ls) (input_lines rest))) alone
      ∙ ap (λ said. both_said said (lines_said_from (n + 1) (input_lines rest))) (one_said n line good)
      ∙ ap (both_said (Ok (with_number n line ∷ []))) (read_again (n + 1) lines (All-tail IsGoodLine line lines h))

-- ---- lines under other names

tasks_good : (b k : ℕ) (lines : List Line) → All IsGoodLine lines → All (λ (e : TaskEvent). IsGoodText e.task) (task_events_from b k lines)
tasks_good b k [] h = All-nil (λ (e : TaskEvent). IsGoodText e.task)
tasks_good b k (Control line command ∷ lines) h = tasks_good (batch_after b command) k lines (All-tail IsGoodLine (Control line command) lines h)
tasks_good b k (Event e ∷ lines) h =
    All-cons (λ (x : TaskEvent). IsGoodText x.task) (task_event b k e) (task_events_from b (k + 1) lines) (All-head IsGoodLine (Event e) lines h).task (tasks_good b (k + 1) lines (All-tail IsGoodLine (Event e) lines h))

names_good : (lines : List Line) → length lines < 2 ^ 31 → All IsGoodLine lines → All IsGoodText (names_of (task_events lines))
names_good lines few h =
    let es = task_events lines in
    let small : length es < 2 ^ 31 = omega (arith, few, tasks_count 0 0 lines, count_within lines) in
    let tasks : length (tasks_of es) < 2 ^ 31 = omega (arith, small, few_firsts (map (λ (e : TaskEvent). e.task) es), length-map es (λ (e : TaskEvent). e.task)) in
    let d : TaskEvent = record { batch = 0; request = []; task = []; time = 0; index = 0; sends = false; receives = false } in
    All-map IsGoodText (λ (e : TaskEvent). piece_name (tasks_of es) e.task (piece_of es e)) es
    (All-from_get_or (λ (e : TaskEvent). IsGoodText (piece_name (tasks_of es) e.task (piece_of es e))) es d
    (λ i lt. name_good (tasks_of es) tasks (get_or es i d).task (All-get_or (λ (e : TaskEvent). IsGoodText e.task) es i d lt (tasks_good 0 0 lines h)) (piece_of es (get_or es i d))
    (omega (arith, small, count_by-le-length (λ c. ends_wait es c && (c.index == (get_or es i d).index || is_before c (get_or es i d))) es))))

renamed_good : (b k : ℕ) (names : List (List ℕ)) (lines : List Line) → All IsGoodText names → k + length (task_events_from b k lines) ≤ length names → All IsGoodLine lines → All IsGoodLine (with_tasks_from names k lines)
renamed_good b k names [] good fits h = All-nil IsGoodLine
renamed_good b k names (Control line command ∷ lines) good fits h =
    All-cons IsGoodLine (Control line command) (with_tasks_from names k lines) (All-head IsGoodLine (Control line command) lines h)
    (renamed_good (batch_after b command) k names lines good fits (All-tail IsGoodLine (Control line command) lines h))
renamed_good b k names (Event e ∷ lines) good fits h =
    let one : IsGoodEvent e = All-head IsGoodLine (Event e) lines h in
    All-cons IsGoodLine (Event (record e { task = get_or names k [] })) (with_tasks_from names (k + 1) lines)
    (record { request = one.request; machine = one.machine; task = All-get_or IsGoodText names k [] (omega (arith, fits)) good; event = one.event; send = one.send; recv = one.recv; timely = one.timely })
    (renamed_good b (k + 1) names lines good (omega (arith, fits)) (All-tail IsGoodLine (Event e) lines h))

pub without_good : (lines : List Line) → length lines < 2 ^ 31 → All IsGoodLine lines → All IsGoodLine (without_waits lines)
without_good lines few h =
    renamed_good 0 0 (names_of (task_events lines)) lines (names_good lines few h)
    (omega (arith, length-map (task_events lines) (λ (e : TaskEvent). piece_name (tasks_of (task_events lines)) e.task (piece_of (task_events lines) e)))) h
