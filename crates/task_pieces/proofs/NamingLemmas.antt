-- The names of events, from the numbers of their tasks and their pieces.
use Rattle.std.proofs.Common.{◌≡◌, ℕ, ◌+◌, ◌-◌, ◌<◌, ◌≤◌, List, [], All, Some, length, get_or, slice_get, sym, ap, ◌∙◌, arith}
use Rattle.std.proofs.lemmas.List.{ext_get_or, get_or-map, length-map}
use Rattle.std.proofs.lemmas.List.Elements.{All-from_get_or}
use Rattle.std.proofs.lemmas.List.FromFn.{get_or-map-range_with_len, length-map-range_with_len}
use Rattle.std.proofs.lemmas.Option.{get_or_from_slice_get, slice_get-get_or, slice_get_within}
use Rattle.task_pieces.specs.TaskEvents.{TaskEvent}
use Rattle.task_pieces.specs.Pieces.{piece_of, pieces_of}
use Rattle.task_pieces.specs.PieceNames.{piece_name}
use Rattle.task_pieces.specs.TaskKeys.{event_of_key, events_of_keys}
use Rattle.task_pieces.specs.TaskNames.{names_of, tasks_of}
use Rattle.task_pieces.specs.declared.task_key.TaskKey.{TaskKey}
use Rattle.task_pieces.specs.inner.Naming.{AreAllNames, AreGreatest, AreNumbers, AreThere, names_under}
use Rattle.task_pieces.proofs.PlacingLemmas.{few_pieces, no_key}

no_event : TaskEvent
no_event = event_of_key no_key

-- each piece is from 1 to one more than there are events
piece_at : (events : List TaskEvent) (i : ℕ) → i < length events → get_or (pieces_of events) i 0 ≡ piece_of events (get_or events i no_event)
piece_at events i lt = get_or-map (piece_of events) events i no_event 0 lt

pub few_of : (events : List TaskEvent) (pieces : List ℕ) → pieces ≡ pieces_of events → All (λ piece. piece ≤ length events + 1) pieces
few_of events pieces is = All-from_get_or (λ piece. piece ≤ length events + 1) pieces 0 (λ i lt.
    let within : i < length events = omega (arith, lt, ap length is, length-map events (piece_of events)) in
    omega (arith, ap (λ (ps : List ℕ). get_or ps i 0) is, piece_at events i within, few_pieces events (get_or events i no_event)))

pub numbers_below : (tasks : List (List ℕ)) (keys : List TaskKey) (numbers : List ℕ) (count : ℕ) → length tasks ≡ count → AreNumbers tasks keys numbers → All (λ number. number < count) numbers
numbers_below tasks keys numbers count long h = All-from_get_or (λ number. number < count) numbers 0 (λ i lt.
    omega (arith, long, slice_get_within tasks (get_or numbers i 0) (get_or keys i no_key).task.now (h.told i no_key (omega (arith, lt, h.size)))))

module _ (keys : List TaskKey) (tasks : List (List ℕ)) (numbers pieces most : List ℕ) (names : List (List (List ℕ))) (are_tasks : tasks ≡ tasks_of (events_of_keys keys)) (numbered : AreNumbers tasks keys numbers)
    (are_pieces : pieces ≡ pieces_of (events_of_keys keys)) (greatest : AreGreatest numbers pieces (length tasks) most) (named : AreAllNames tasks most (length most) names) where
  events : List TaskEvent
  events = events_of_keys keys

  each_event : length (events_of_keys keys) ≡ length keys
  each_event = length-map keys event_of_key

  each_piece : length pieces ≡ length keys
  each_piece = ap length are_pieces ∙ length-map (events_of_keys keys) (piece_of (events_of_keys keys)) ∙ each_event

  number_within : (i : ℕ) → i < length numbers → get_or numbers i 0 < length tasks
  number_within i lt = slice_get_within tasks (get_or numbers i 0) (get_or keys i no_key).task.now (numbered.told i no_key (omega (arith, lt, numbered.size)))

  piece_is : (i : ℕ) → i < length numbers → get_or pieces i 0 ≡ piece_of (events_of_keys keys) (get_or (events_of_keys keys) i no_event)
  piece_is i lt = ap (λ (ps : List ℕ). get_or ps i 0) are_pieces ∙ piece_at (events_of_keys keys) i (omega (arith, lt, numbered.size, each_event))

  piece_within : (i : ℕ) → i < length numbers → get_or pieces i 0 ≤ length (get_or names (get_or numbers i 0) [])
  piece_within i lt = omega (arith, greatest.covers i lt, (named.named (get_or numbers i 0) (omega (arith, number_within i lt, greatest.size))).size)

  pub are_there : AreThere names numbers pieces
  are_there = record {
    size = omega (arith, each_piece, numbered.size);
    number = λ i lt. omega (arith, number_within i lt, greatest.size, named.size);
    some = λ i lt. omega (arith, piece_is i lt);
    piece = λ i lt. omega (arith, piece_is i lt, piece_within i lt);
  }

  name_is : (i : ℕ) → i < length numbers → get_or (names_under names numbers pieces) i [] ≡ get_or (names_of (events_of_keys keys)) i []
  name_is i lt =
      let within : i < length keys = omega (arith, lt, numbered.size) in
      let low : i < length (events_of_keys keys) = omega (arith, within, each_event) in
      let key : TaskKey = get_or keys i no_key in
      let event = get_or (events_of_keys keys) i no_event in
      let number = get_or numbers i 0 in
      let piece = get_or pieces i 0 in
      let task : get_or tasks number [] ≡ key.task.now = get_or_from_slice_get tasks number key.task.now [] (numbered.told i no_key within) in
      let its : event.task ≡ key.task.now = ap (λ (e : TaskEvent). e.task) (get_or-map event_of_key keys i no_key no_event within) in
      let one = (named.named number (omega (arith, number_within i lt, greatest.size))).named piece (omega (arith, piece_is i lt)) (piece_within i lt) in
      get_or-map-range_with_len (λ j. get_or (get_or names (get_or numbers j 0) []) (get_or pieces j 0 - 1) []) 0 (length numbers) i i [] lt (omega arith)
      ∙ one ∙ ap (λ (t : List ℕ). piece_name tasks t piece) (task ∙ sym its) ∙ ap (λ (ts : List (List ℕ)). piece_name ts event.task piece) are_tasks
      ∙ ap (piece_name (tasks_of (events_of_keys keys)) event.task) (piece_is i lt)
      ∙ sym (get_or-map (λ (e : TaskEvent). piece_name (tasks_of (events_of_keys keys)) e.task (piece_of (events_of_keys keys) e)) (events_of_keys keys) i no_event [] low)

  pub names_are_those : names_under names numbers pieces ≡ names_of (events_of_keys keys)
  names_are_those =
      let under = length-map-range_with_len (λ j. get_or (get_or names (get_or numbers j 0) []) (get_or pieces j 0 - 1) []) 0 (length numbers) in
      let of = length-map (events_of_keys keys) (λ (e : TaskEvent). piece_name (tasks_of (events_of_keys keys)) e.task (piece_of (events_of_keys keys) e)) in
      ext_get_or [] (names_under names numbers pieces) (names_of (events_of_keys keys)) (omega (arith, under, of, each_event, numbered.size)) (λ i lt. name_is i (omega (arith, lt, under)))

-- the name at an index
pub name_under : (names : List (List (List ℕ))) (numbers pieces : List ℕ) (i : ℕ) (name : List ℕ) → i < length (names_under names numbers pieces) → name ≡ get_or (get_or names (get_or numbers i 0) []) (get_or pieces i 0 - 1) []
    → slice_get (names_under names numbers pieces) i ≡ Some name
name_under names numbers pieces i name lt is =
    let f : ℕ → List ℕ = λ j. get_or (get_or names (get_or numbers j 0) []) (get_or pieces j 0 - 1) [] in
    let low : i < length numbers = omega (arith, lt, length-map-range_with_len f 0 (length numbers)) in
    slice_get-get_or (names_under names numbers pieces) i [] lt ∙ ap (λ (n : List ℕ). Some n) (get_or-map-range_with_len f 0 (length numbers) i i [] low (omega arith) ∙ sym is)

pub index_within : (names : List (List (List ℕ))) (numbers pieces : List ℕ) (i : ℕ) → i < length (names_under names numbers pieces) → i < length numbers
index_within names numbers pieces i lt = omega (arith, lt, length-map-range_with_len (λ j. get_or (get_or names (get_or numbers j 0) []) (get_or pieces j 0 - 1) []) 0 (length numbers))
