-- Each line of spans as readers give them is good.
use Rattle.std.proofs.Common.{◌≡◌, inl, inr, ℕ, ◌+◌, ◌^◌, ◌<◌, ◌≤◌, List, [], ◌∷◌, ◌++◌, Bool, true, false, codes, length, map, filter, nat_lt, Option, Some, None, get_or, refl, sym, ap, subst, ◌∙◌, arith}
use Rattle.std.specs.List.{All, list_any, range_with_len}
use Rattle.std.specs.Str.{bytes_eq}
use Rattle.trace_types.specs.Times.{latest_time}
use Rattle.trace_types.specs.declared.event.Event.{Event}
use Rattle.span_types.specs.declared.span.Span.{Span}
use Rattle.span_requests.specs.Callers.{caller_numbers}
use Rattle.span_requests.specs.Faults.{HaveEntries}
use Rattle.span_requests.specs.SpansOnce.{spans_once}
use Rattle.span_calls.proofs.CallLemmas.{before_from}
use Rattle.span_calls.specs.Calls.{AreBefore}
use Rattle.span_calls.specs.Seen.{no_span, span_at}
use Rattle.span_calls.specs.declared.call.Call.{Call}
use Rattle.call_laws.specs.CallLaws.{AreAskedFor, AreCallsOf}
use Rattle.context_forks.specs.Forks.{callers_of}
use Rattle.context_forks.specs.Partners.{end_of, start_of}
use Rattle.context_names.proofs.MachineLemmas.{all_there}
use Rattle.context_names.specs.Tasks.{task_name}
use Rattle.name_laws.specs.GoodNames.{EventsAreGood, IsLineText, IsShortPiece, MachinesAreGood, TasksAreGood}
use Rattle.span_names.specs.declared.piece.Piece.{Piece}
use Rattle.thread_steps.proofs.TableLemmas.{caller_before}
use Rattle.thread_steps.specs.Parts.{Grouping}
use Rattle.thread_steps.specs.Steps.{call_of}
use Rattle.thread_steps.specs.declared.step.Step.{Step}
use Rattle.thread_steps.specs.declared.step.Step.TheVariants.{Starts, Ends, Forks, Joins}
use Rattle.span_lines.specs.Lines.{event_of, line_of, thread_lines}
use Rattle.span_lines.specs.Mappings.{Mapping, begins_thread, context_of, name_of}
use Rattle.span_lines.specs.Messages.{call_span, caller_of_call}
use Rattle.span_lines.specs.Moments.{Moment, message_with, moment_of, said_by, seen_moment}
use Rattle.span_lines.specs.Requests.{begins_request, name_of_request, request_calls, request_lines, request_size, request_starts}
use Rattle.span_lines.specs.SpanLines.{AreRequestLines, group_numbers, mapping_of}
use Rattle.span_laws.specs.GoodLines.{IsGiven, IsGood, IsLineMessage, LinesAreGood}
use Rattle.span_laws.proofs.ApartLemmas.{In, in_filter, in_flat, in_map, in_range, at_in}
use Rattle.span_laws.proofs.BoundLemmas.{Told, calls_told}
use Rattle.span_laws.proofs.FarLemmas.{first_far_is, last_far_is, place}
use Rattle.span_laws.proofs.FewLemmas.{AreShort, short_of}
use Rattle.span_laws.proofs.GoodLemmas.{head_low, machine_good, short_piece}
use Rattle.span_laws.proofs.HeadLemmas as head
use Rattle.span_laws.proofs.MessageLemmas.{picked, said_is}
use Rattle.span_laws.proofs.RangeLemmas.{closed}
use Rattle.thread_steps.specs.ThreadLaws.{AreClosed}
use Rattle.span_laws.proofs.SizeLemmas.{Begin, IsSmall, thread_small}
use Rattle.span_laws.proofs.SoundLemmas.{AllLaws, a_call, none_is}
use Rattle.span_laws.proofs.StampLemmas.{Stamp, lines_are, stamped}
use Rattle.span_laws.proofs.TextLemmas.{message_good, request_good}
use Rattle.span_laws.proofs.TraceLemmas as trace

-- what the crate of names proves
pub record NameLaws : Type 0 where
  pub events : EventsAreGood
  pub tasks : TasksAreGood
  pub machines : MachinesAreGood

told_in : (P : ℕ → Type 0) (piece : Option Piece) (steps : List Step) → Told P steps → (z : Stamp) → In (stamped piece steps) z → P (call_of z.1)
told_in P piece [] t z h = absurd h
told_in P piece (Starts i ∷ later) t z (inl e) = subst (λ (y : Stamp). P (call_of y.1)) e t.0
told_in P piece (Starts i ∷ later) t z (inr h) = told_in P piece later t.1 z h
told_in P piece (Ends i ∷ later) t z (inl e) = subst (λ (y : Stamp). P (call_of y.1)) e t.0
told_in P piece (Ends i ∷ later) t z (inr h) = told_in P piece later t.1 z h
told_in P piece (Forks i ∷ later) t z (inl e) = subst (λ (y : Stamp). P (call_of y.1)) e t.0
told_in P piece (Forks i ∷ later) t z (inr h) = told_in P piece later t.1 z h
told_in P piece (Joins i q ∷ later) t z (inl e) = subst (λ (y : Stamp). P (call_of y.1)) e t.0
told_in P piece (Joins i q ∷ later) t z (inr h) = told_in P (Some q) later t.1 z h

short_stamps : (n g : ℕ) → n < 10 ^ 7 → g < 10 ^ 7 → (piece : Option Piece) (steps : List Step) → IsShortPiece piece → Begin (IsSmall n g) steps → (a : Stamp) → In (stamped piece steps) a → IsShortPiece a.0
short_stamps n g x y piece [] s b a h = absurd h
short_stamps n g x y piece (Starts i ∷ later) s b a (inl e) = subst (λ (z : Stamp). IsShortPiece z.0) e s
short_stamps n g x y piece (Starts i ∷ later) s b a (inr h) = short_stamps n g x y piece later s b a h
short_stamps n g x y piece (Ends i ∷ later) s b a (inl e) = subst (λ (z : Stamp). IsShortPiece z.0) e s
short_stamps n g x y piece (Ends i ∷ later) s b a (inr h) = short_stamps n g x y piece later s b a h
short_stamps n g x y piece (Forks i ∷ later) s b a (inl e) = subst (λ (z : Stamp). IsShortPiece z.0) e s
short_stamps n g x y piece (Forks i ∷ later) s b a (inr h) = short_stamps n g x y piece later s b a h
short_stamps n g x y piece (Joins i q ∷ later) s b a (inl e) = subst (λ (z : Stamp). IsShortPiece z.0) e (short_piece n g q x y b.0)
short_stamps n g x y piece (Joins i q ∷ later) s b a (inr h) = short_stamps n g x y (Some q) later (short_piece n g q x y b.0) b.1 a h

-- a moment of calls: its machine is that of one, its time is in range, and its messages are good
record IsSeen (calls : List Call) (mo : Moment) : Type 0 where
  pub call : ℕ
  pub there : call < length calls
  pub machine : mo.machine ≡ (call_span calls call).machine
  pub timely : mo.time ≤ latest_time
  pub send : IsLineMessage mo.send
  pub recv : IsLineMessage mo.recv

module _ (laws : AllLaws) (names : NameLaws) (input : List Span) (grace : ℕ) (asked : Option (List ℕ)) (requests : List (List Event)) (entries_there : HaveEntries input)
    (given : All IsGiven (spans_once input))
    (a : AreRequestLines (spans_once input) grace asked requests) (short : AreShort (spans_once input) grace asked requests a) where
  abbrev spans : List Span
  spans = spans_once input

  h : AreCallsOf spans (caller_numbers spans) asked a.entries a.calls
  h = laws.calls input asked a.entries a.calls entries_there a.within a.begin a.called

  once : AreAskedFor spans (caller_numbers spans) asked h.are.numbers
  once = laws.once spans (caller_numbers spans) asked a.entries a.calls h

  before : AreBefore a.calls
  before = before_from (caller_numbers spans) a.called.numbers (length a.called.numbers) a.calls a.called.are.called

  abbrev m : Mapping
  m = mapping_of a.calls a.placing a.threading a.machines

  abbrev entries : List Span
  entries = map (span_at spans) a.entries

  abbrev name : ℕ → List ℕ
  name i = name_of_request entries (call_span m.calls i)

  abbrev steps_of : ℕ → List Step
  steps_of g = get_or m.steps g []

  abbrev ctx : ℕ → ℕ
  ctx i = get_or a.placing.numbers i 0

  given_call : (i : ℕ) → i < length a.calls → IsGiven (call_span a.calls i)
  given_call i lt = subst IsGiven (sym (trace.span_is input asked a.entries a.calls h once i lt)) (given (get_or h.are.numbers i 0) no_span (trace.number_within input asked a.entries a.calls h once i lt))

  machine_known : (i : ℕ) → i < length a.calls → list_any (bytes_eq (call_span a.calls i).machine) a.machines.machines ≡ true
  machine_known i l = ap (λ (s : Span). list_any (bytes_eq s.machine) a.machines.machines) (trace.span_is input asked a.entries a.calls h once i l)
      ∙ all_there spans a.machines.machines a.known (get_or h.are.numbers i 0) no_span (trace.number_within input asked a.entries a.calls h once i l)

  few_machines : length a.machines.machines < 2 ^ 64
  few_machines = let s = short.machines in omega (arith, s)

  machine_text : (i : ℕ) → i < length a.calls → IsLineText (name_of a.machines (call_span a.calls i).machine)
  machine_text i lt =
      let q = place a.machines a.named few_machines laws.machines (call_span a.calls i).machine (machine_known i lt) in
      subst IsLineText (sym q.3) (machine_good names.machines spans a.machines a.known a.named given short.machines q.0 q.1)

  message : (o : Option ℕ) (sign : ℕ) → 33 ≤ sign → sign ≤ 126 → ((k : ℕ) → o ≡ Some k → k < length a.calls) → IsLineMessage (message_with a.calls (sign ∷ []) o)
  message None sign low high f = tt
  message (Some k) sign low high f = message_good (call_span a.calls k) (given_call k (f k refl)) sign low high

  starts_timely : (i : ℕ) → i < length a.calls → (call_span a.calls i).start ≤ latest_time
  starts_timely i lt = let g = given_call i lt in let x = g.ordered in let y = g.timely in omega (arith, x, y)

  seen_within : (c i own : ℕ) → c < length a.calls → i < length a.calls → own ≤ latest_time → (x y : Bool) → IsSeen a.calls (picked (call_span a.calls c) (call_span a.calls i) own x y)
  seen_within c i own cl il t true y = record { call = c; there = cl; machine = refl; timely = starts_timely c cl; send = tt; recv = tt }
  seen_within c i own cl il t false true = record { call = c; there = cl; machine = refl; timely = (given_call c cl).timely; send = tt; recv = tt }
  seen_within c i own cl il t false false = record { call = i; there = il; machine = refl; timely = t; send = tt; recv = tt }

  seen_at : (o : Option ℕ) (i seen own : ℕ) → caller_of_call a.calls i ≡ o → i < length a.calls → own ≤ latest_time → IsSeen a.calls (seen_moment a.calls o i seen own)
  seen_at None i seen own e il t = record { call = i; there = il; machine = refl; timely = t; send = tt; recv = tt }
  seen_at (Some c) i seen own e il t = let l = caller_before a.calls before c i e in
      seen_within c i own (omega (arith, l, il)) il t (nat_lt seen (call_span a.calls c).start) (nat_lt (call_span a.calls c).end seen)

  moment_seen : (s : Step) → call_of s < length a.calls → IsSeen a.calls (moment_of m s)
  moment_seen (Starts i) lt = record {
    call = i;
    there = lt;
    machine = refl;
    timely = starts_timely i lt;
    send = message (get_or m.first_far i None) 62 (omega arith) (omega arith) (λ k e. (first_far_is a.calls i k lt e).there);
    recv = message (said_by m.first_far (caller_of_call a.calls i) i) 62 (omega arith) (omega arith) (λ k e. let u = said_is m.first_far (caller_of_call a.calls i) i k e in let q = u.3 in omega (arith, q, lt));
  }
  moment_seen (Ends i) lt = record {
    call = i;
    there = lt;
    machine = refl;
    timely = (given_call i lt).timely;
    send = message (said_by m.last_far (caller_of_call a.calls i) i) 60 (omega arith) (omega arith) (λ k e. let u = said_is m.last_far (caller_of_call a.calls i) i k e in let q = u.3 in omega (arith, q, lt));
    recv = message (get_or m.last_far i None) 60 (omega arith) (omega arith) (λ k e. (last_far_is a.calls i k lt e).there);
  }
  moment_seen (Forks i) lt = seen_at (caller_of_call a.calls i) i (start_of a.calls i) (call_span a.calls i).start refl lt (starts_timely i lt)
  moment_seen (Joins i q) lt = seen_at (caller_of_call a.calls i) i (end_of a.calls i) (call_span a.calls i).end refl lt (given_call i lt).timely

  -- ---- events and tasks

  ctx_within : (i : ℕ) → i < length a.calls → ctx i < length a.placing.contexts
  ctx_within i lt = head.ctx_within grace a.calls before (a_call a.calls i lt) a.placing a.placed a.threading a.threaded a.machines i lt

  label_good : (x k : ℕ) → x < length a.placing.contexts → k < 4 → IsLineText (get_or m.labels x [] ++ get_or (codes " start" ∷ codes " end" ∷ codes " forks" ∷ codes " joined" ∷ []) k [])
  label_good x k lt l = names.events a.placing.contexts a.placing.order a.placing.below a.threading.threads a.placed.before a.ordered short.texts short.contexts x lt k [] l

  head_within : (i : ℕ) → i < length a.calls → get_or m.heads (get_or m.groups (ctx i) 0) 0 < length a.placing.contexts
  head_within i lt = let c = ctx_within i lt in head_low a.placing.contexts a.placing.order a.placing.below a.threading.threads a.threading.forked a.threading.groups a.ordered (omega (arith, c)) (get_or a.threading.groups (ctx i) 0)

  event_good : (s : Step) → call_of s < length a.calls → IsLineText (event_of m s)
  event_good (Starts i) lt = label_good (ctx i) 0 (ctx_within i lt) (omega arith)
  event_good (Ends i) lt = label_good (ctx i) 1 (ctx_within i lt) (omega arith)
  event_good (Forks i) lt = label_good (get_or m.heads (get_or m.groups (ctx i) 0) 0) 2 (head_within i lt) (omega arith)
  event_good (Joins i q) lt = label_good (get_or m.heads (get_or m.groups (ctx i) 0) 0) 3 (head_within i lt) (omega arith)

  task_good : (g : ℕ) → g < length a.calls → (piece : Option Piece) → IsShortPiece piece → IsLineText (task_name m.tasks (ctx g) piece)
  task_good g lt piece s = names.tasks a.placing.contexts a.placing.order a.placing.below a.threading.threads a.placed.before a.ordered short.texts short.contexts (ctx g) (ctx_within g lt) piece s

  -- ---- lines

  line_good : (r g : ℕ) → r < length a.calls → g < length a.calls → (z : Stamp) → In (stamped None (steps_of g)) z → IsGood (line_of m (name r) (task_name m.tasks (ctx g) z.0) z.1)
  line_good r g rl gl z i =
      let grouping : Grouping = record { numbers = a.placing.numbers; forked = a.threading.forked; groups = a.threading.groups } in
      let e = head.steps_are grace a.calls before (a_call a.calls g gl) a.placing a.placed a.threading a.threaded a.machines g gl in
      let lt : call_of z.1 < length a.calls = told_in (λ k. k < length a.calls) None (steps_of g) (subst (λ (s : List Step). Told (λ k. k < length a.calls) s) (sym e) (calls_told a.calls grouping (group_numbers a.placing a.threading) before g gl)) z i in
      let small = laws.numbers a.placing.contexts a.placing.order a.placing.below a.threading.threads a.threading.forked a.threading.groups a.placed.before a.ordered in
      let sp = short_stamps (length a.placing.contexts) (length a.calls) short.contexts short.calls None (steps_of g) tt
      (subst (Begin (IsSmall (length a.placing.contexts) (length a.calls))) (sym e) (thread_small (length a.placing.contexts) a.calls grouping (group_numbers a.placing a.threading) small g)) z i in
      let seen = moment_seen z.1 lt in
      record {
        request = request_good entries (call_span a.calls r) (given_call r rl);
        machine = subst (λ (t : List ℕ). IsLineText (name_of a.machines t)) (sym seen.machine) (machine_text seen.call seen.there);
        task = task_good g gl z.0 sp;
        event = event_good z.1 lt;
        send = seen.send;
        recv = seen.recv;
        timely = seen.timely;
      }

  request_lines_good : (r : ℕ) → r < length a.calls → r + request_size a.calls r ≤ length a.calls → (e : Event) → In (request_lines m (name r) r) e → IsGood e
  request_lines_good r lt bound e i =
      let p = in_flat (thread_lines m (name r)) (filter (begins_thread m) (request_calls a.calls r)) e i in
      let w = (in_range r (request_size a.calls r) p.0 (in_filter (begins_thread m) (request_calls a.calls r) p.0 p.1).0).1 in
      let q = in_map (λ (z : Stamp). line_of m (name r) (task_name m.tasks (context_of m p.0) z.0) z.1) (stamped None (steps_of p.0)) e (subst (λ (ls : List Event). In ls e) (lines_are m (name r) (context_of m p.0) None (steps_of p.0)) p.2) in
      subst IsGood q.2 (line_good r p.0 lt (omega (arith, w, bound)) q.0 q.1)

  abbrev bound_of : (r : ℕ) → r < length a.calls → get_or (callers_of a.calls) r None ≡ None → AreClosed a.calls r (request_size a.calls r)
  bound_of r lt first = closed a.calls before (a_call a.calls r lt) (laws.together spans (caller_numbers spans) asked a.entries a.calls h) r lt first

  one_good : (lines : List Event) → In requests lines → All IsGood lines
  one_good lines i =
      let p = in_map (λ k. request_lines m (name k) k) (request_starts m.calls) lines (subst (λ (xs : List (List Event)). In xs lines) a.lines i) in
      let q = in_filter (begins_request m.calls) (range_with_len 0 (length m.calls)) p.0 p.1 in
      let l = (in_range 0 (length m.calls) p.0 q.0).1 in
      let lt : p.0 < length a.calls = omega (arith, l) in
      subst (All IsGood) p.2 (λ k d w. request_lines_good p.0 lt (bound_of p.0 lt (none_is (get_or (callers_of a.calls) p.0 None) q.1)).bound (get_or (request_lines m (name p.0) p.0) k d) (at_in (request_lines m (name p.0) p.0) k d w))

  all_good : All (All IsGood) requests
  all_good = λ k d l. one_good (get_or requests k d) (at_in requests k d l)

pub lines_good : AllLaws → NameLaws → LinesAreGood
lines_good laws names = λ input grace asked requests there given small a. all_good laws names input grace asked requests there given a (short_of laws.calls laws.once input grace asked requests there given a small)
