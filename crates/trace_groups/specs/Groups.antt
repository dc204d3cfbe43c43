-- Traces that begin alike, and those of them that lack what nearly all of them have.
use Rattle.std.specs.Prelude.{ℕ, ◌*◌, ◌&&◌, List, Bool, count_by, nat_le, not}
use Rattle.std.specs.List.{list_any}
use Rattle.std.specs.Str.{bytes_eq}
use Rattle.trace_types.specs.declared.event.Event.{Event}
use Rattle.trace_types.specs.Batch.{PlainTrace}
use Rattle.trace_types.specs.Events.{event_name_at, task_at}
use Rattle.trace_quality.specs.Measures.{one_if}
use Rattle.trace_quality.specs.Waits.{is_named}

-- the first events of the two traces have one task and one name
abbrev pub begin_alike : PlainTrace → PlainTrace → Bool
begin_alike t u = bytes_eq (task_at t.events 0) (task_at u.events 0)
    && bytes_eq (event_name_at t.events 0) (event_name_at u.events 0)

-- the trace has an event of this task and this name
abbrev pub has_event : (task name : List ℕ) → PlainTrace → Bool
has_event task name t = list_any (is_named task name) t.events

-- how many of the traces begin like this one
abbrev pub group_size : List PlainTrace → PlainTrace → ℕ
group_size traces t = count_by (begin_alike t) traces

-- nine of ten of these have an event of the task and the name of this event
abbrev pub is_usual : List PlainTrace → PlainTrace → Event → Bool
is_usual traces t e = nat_le (9 * group_size traces t)
    (10 * count_by (λ u. begin_alike t u && has_event e.task e.event u) traces)

-- there are at least ten of them
abbrev pub is_grouped : List PlainTrace → PlainTrace → Bool
is_grouped traces t = nat_le 10 (group_size traces t)

-- the trace lacks an event that nine of ten of them have
abbrev pub lacks_usual : List PlainTrace → PlainTrace → Bool
lacks_usual traces t = list_any (λ u. begin_alike t u
    && list_any (λ e. is_usual traces t e && not (has_event e.task e.event t)) u.events) traces

-- one for each trace in a group, and one for each of them that is cut short
abbrev pub counts_grouped : List PlainTrace → PlainTrace → ℕ
counts_grouped traces t = one_if (is_grouped traces t)

abbrev pub counts_cut : List PlainTrace → PlainTrace → ℕ
counts_cut traces t = one_if (is_grouped traces t && lacks_usual traces t)
