use Rattle.std.proofs.Common.{◌≡◌, ◌∙◌, List, ap, arith, length}
use Rattle.std.proofs.lemmas.List.{length-map}
use Rattle.event_lines.specs.LineParts.{lines_of_runs}
use Rattle.task_pieces.specs.PieceNames.{piece_name}
use Rattle.task_pieces.specs.Pieces.{piece_of}
use Rattle.task_pieces.specs.TaskEvents.{TaskEvent}
use Rattle.task_pieces.specs.TaskKeys.{event_of_key, events_of_keys}
use Rattle.task_pieces.specs.TaskNames.{names_of, tasks_of}
use Rattle.event_rewrite.proofs.WalkLemmas.{count_within, few_keys, keys_indexed}
use Rattle.event_rewrite.proofs.rewriting.rewrite.Goals as goal

names_count : (events : List TaskEvent) → length (names_of events) ≡ length events
names_count events = length-map events (λ (e : TaskEvent). piece_name (tasks_of events) e.task (piece_of events e))

pub new-requires-clause-indexed : goal.new-requires-clause-indexed
new-requires-clause-indexed c = keys_indexed c.in_ok-keys_of.field-0.items (lines_of_runs c.args.runs.now) c.in_ok-keys_of.ensures.events

pub new-requires-clause-few : goal.new-requires-clause-few
new-requires-clause-few c =
    omega (arith, few_keys c.in_ok-keys_of.field-0.items (lines_of_runs c.args.runs.now) c.in_ok-keys_of.ensures.events, count_within (lines_of_runs c.args.runs.now), c.requires)

pub print_runs-requires : goal.print_runs-requires
print_runs-requires c =
    let keys = c.in_ok-keys_of.field-0.items in
    let names = ap length c.in_ok-names.ensures ∙ names_count (events_of_keys keys) ∙ length-map keys event_of_key in
    let count = few_keys keys (lines_of_runs c.args.runs.now) c.in_ok-keys_of.ensures.events in
    record {
      within = omega (arith, names, count);
      few = omega (arith, names, count, count_within (lines_of_runs c.args.runs.now), c.requires);
    }
