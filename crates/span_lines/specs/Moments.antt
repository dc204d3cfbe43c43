-- Where and when the steps of threads are logged, and which messages they send and receive.
use Rattle.std.specs.Prelude.{ℕ, ◌==◌, ◌++◌, List, Option, Some, None, codes}
use Rattle.std.specs.Prelude.{if◌then◌else◌, nat_lt, slice_index_or}
use Rattle.span_types.specs.declared.span.Span.{Span}
use Rattle.context_forks.specs.Partners.{end_of, start_of}
use Rattle.span_calls.specs.declared.call.Call.{Call}
use Rattle.thread_steps.specs.declared.step.Step.{Step}
use Rattle.thread_steps.specs.declared.step.Step.TheVariants.{Starts, Ends, Forks, Joins}
use Rattle.span_lines.specs.Mappings.{Mapping}
use Rattle.span_lines.specs.Messages.{call_span, caller_of_call}

-- a machine, a time by its clock in nanoseconds, and what is sent and received there
pub record Moment : Type 0 where
  pub machine : List ℕ
  pub time : ℕ
  pub send : Option (List ℕ)
  pub recv : Option (List ℕ)

-- a time on the machine of a span, without messages
abbrev pub moment_on : Span → ℕ → Moment
moment_on s time = record { machine = s.machine; time = time; send = None; recv = None }

-- the number, if it is the one that is said
abbrev pub if_said : Option ℕ → ℕ → Option ℕ
if_said None i = None
if_said (Some j) i = if j == i then Some i else None

-- a time that a caller sees at a call: the call's own, or the caller's start or end where it lies
-- outside of these
abbrev pub moment_within : (caller call : Span) → (seen own : ℕ) → Moment
moment_within c s seen own =
    if nat_lt seen c.start then moment_on c c.start
    else (if nat_lt c.end seen then moment_on c c.end else moment_on s own)

-- the call, if its caller names it among these of each call
abbrev pub said_by : List (Option ℕ) → Option ℕ → ℕ → Option ℕ
said_by far None i = None
said_by far (Some c) i = if_said (slice_index_or far c None) i

module _ (calls : List Call) where
  -- the same at a call with this caller, if it has one
  abbrev pub seen_moment : Option ℕ → ℕ → (seen own : ℕ) → Moment
  seen_moment None i seen own = moment_on (call_span calls i) own
  seen_moment (Some c) i seen own =
      moment_within (call_span calls c) (call_span calls i) seen own

  -- the message to a call, or from it: its id with a sign for the way
  abbrev pub message_with : List ℕ → Option ℕ → Option (List ℕ)
  message_with sign None = None
  message_with sign (Some i) = Some ((call_span calls i).id ++ sign)

module _ (m : Mapping) where
  -- what a call sends and receives at its start, and at its end
  abbrev pub sent_at_start : ℕ → Option (List ℕ)
  sent_at_start i = message_with m.calls (codes ">") (slice_index_or m.first_far i None)

  abbrev pub received_at_start : ℕ → Option (List ℕ)
  received_at_start i =
      message_with m.calls (codes ">") (said_by m.first_far (caller_of_call m.calls i) i)

  abbrev pub sent_at_end : ℕ → Option (List ℕ)
  sent_at_end i =
      message_with m.calls (codes "<") (said_by m.last_far (caller_of_call m.calls i) i)

  abbrev pub received_at_end : ℕ → Option (List ℕ)
  received_at_end i = message_with m.calls (codes "<") (slice_index_or m.last_far i None)

  -- the moment of a step
  abbrev pub moment_of : Step → Moment
  moment_of (Starts i) = record {
    machine = (call_span m.calls i).machine;
    time = (call_span m.calls i).start;
    send = sent_at_start i;
    recv = received_at_start i;
  }
  moment_of (Ends i) = record {
    machine = (call_span m.calls i).machine;
    time = (call_span m.calls i).end;
    send = sent_at_end i;
    recv = received_at_end i;
  }
  moment_of (Forks i) = seen_moment m.calls (caller_of_call m.calls i) i
      (start_of m.calls i) (call_span m.calls i).start
  moment_of (Joins i piece) = seen_moment m.calls (caller_of_call m.calls i) i
      (end_of m.calls i) (call_span m.calls i).end
