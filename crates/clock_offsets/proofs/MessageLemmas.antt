-- The messages that events receive, event by event, and their delays.
use Rattle.std.proofs.Common.{◌≡◌, ℕ, ◌+◌, ◌<◌, ◌≤◌, ℤ, pos, ◌-ℤ◌, Some, None, List, [], ◌∷◌, length, get_or, arith, sym, subst, ap, ◌∙◌, ⊎_elim, inl, inr, ◌⊎◌}
use Rattle.clock_offsets.specs.inner.MessagePlaces.{MessagePlace, message_place_in}
use Rattle.std.proofs.lemmas.Bool.{cases_lt}
use Rattle.std.proofs.lemmas.List.{get_or-map, get_or_default}
use Rattle.trace_types.specs.declared.event.Event.{Event}
use Rattle.clock_offsets.specs.declared.message.Message.{Message}
use Rattle.trace_types.specs.Events.{machine_at, time_at, sends_of}
use Rattle.event_table.specs.Gathered.{receipt_at}
use Rattle.clock_offsets.specs.Messages.{IsMessage}
use Rattle.clock_offsets.specs.inner.Links.{AreNumbers, IsNumber}
use Rattle.clock_offsets.specs.inner.Places.{AreIndices}
use Rattle.clock_offsets.specs.inner.Delays.{HasDelay, IsEventAt, HasNoSender, IsReceived}

-- one event stands at one place
pub one_at : (events : List Event) (k n : ℕ) (r e : Event) → k ≡ n → IsEventAt events k r → IsEventAt events n e → r ≡ e
one_at events k n r e same (lk, is_r) (ln, is_e) = sym is_r ∙ (ap (λ i. get_or events i r) same ∙ (get_or_default events n r e ln ∙ is_e))

-- the machine of an event, by its place
pub machine_of_at : (events : List Event) (k : ℕ) (e : Event) → IsEventAt events k e → machine_at events k ≡ e.machine
machine_of_at events k e (l, is) = get_or-map (λ (x : Event). x.machine) events k e [] l ∙ ap (λ (x : Event). x.machine) is

-- an event's machine, by its number
machine_of_number : (events : List Event) (numbers : List ℕ) (k : ℕ) (e : Event) (v : ℕ) → AreNumbers events numbers → IsEventAt events k e → v ≡ get_or numbers k 0 → machine_at events v ≡ e.machine
machine_of_number events numbers k e v n here is = ap (machine_at events) is ∙ (n.same k here.0 ∙ machine_of_at events k e here)

-- the number of an event is a machine's
pub is_number : (events : List Event) (numbers : List ℕ) (k v : ℕ) → AreNumbers events numbers → k < length events → v ≡ get_or numbers k 0 → IsNumber numbers v
is_number events numbers k v n lt is =
    let u : ℕ = get_or numbers k 0 in
    let within : get_or numbers k 0 < length events = n.within k lt in
    let each : length numbers ≡ length events = n.each in
    subst (λ (w : ℕ). IsNumber numbers w) (sym is) (omega arith, n.one u k within lt (n.same k lt))

-- a machine's number is that of each of its events
number_is : (events : List Event) (numbers : List ℕ) (k v : ℕ) (e : Event) → AreNumbers events numbers → IsNumber numbers v → IsEventAt events k e → e.machine ≡ machine_at events v → get_or numbers k 0 ≡ v
number_is events numbers k v e n num here same =
    let each : length numbers ≡ length events = n.each in
    let below : v < length numbers = num.0 in
    n.one k v here.0 (omega arith) (machine_of_at events k e here ∙ same) ∙ num.1

-- the same at one of the first n events
abbrev pub HasDelayTo : List Event → List ℕ → ℕ → ℕ → ℕ → ℤ → Type 0
HasDelayTo events numbers n v w d = (h : HasDelay events numbers v w d) × (h.2.receives.0 < n)

pub delay_more : (events : List Event) (numbers : List ℕ) (n v w : ℕ) (d : ℤ) → HasDelayTo events numbers n v w d → HasDelayTo events numbers (n + 1) v w d
delay_more events numbers n v w d (h, lt) = (h, omega arith)

-- the event at n received a message
pub now_of : (events : List Event) (numbers : List ℕ) (n : ℕ) (e : Event) (x : Message) → AreNumbers events numbers → IsEventAt events n e → IsReceived events numbers n e x → HasDelayTo events numbers (n + 1) x.from x.to x.delay
now_of events numbers n e x a here g = (
  (
    is_number events numbers g.place x.from a g.sends.0 g.from,
    is_number events numbers n x.to a here.0 g.to,
    record {
      sender = g.sender;
      receiver = e;
      sends = (g.place, g.sends.0, g.sends.1);
      receives = (n, here.0, here.1);
      message = g.message;
      from = sym (machine_of_number events numbers g.place g.sender x.from a g.sends g.from);
      to = sym (machine_of_number events numbers n e x.to a here g.to);
      delay = g.delay;
    },
  ),
  omega arith,
)

-- a delay that was received at one of the first n + 1 events
pub delay_cases : (events : List Event) (numbers : List ℕ) (n v w : ℕ) (d : ℤ) (e : Event) (P : Type 0) → AreNumbers events numbers → IsEventAt events n e → (HasDelayTo events numbers n v w d → P)
    → ((s : Event) (j : ℕ) → IsEventAt events j s → IsMessage s e → s.machine ≡ machine_at events v → e.machine ≡ machine_at events w → d ≡ pos e.time -ℤ pos s.time → P) → HasDelayTo events numbers (n + 1) v w d → P
delay_cases events numbers n v w d e P a here before now (h, lt) = ⊎_elim
    (λ (below : h.2.receives.0 < n). before (h, below))
    (λ (above : n ≤ h.2.receives.0).
    let same : h.2.receives.0 ≡ n = omega arith in
    let r : h.2.receiver ≡ e = one_at events h.2.receives.0 n h.2.receiver e same (h.2.receives.1, h.2.receives.2) here in
    now h.2.sender h.2.sends.0 (h.2.sends.1, h.2.sends.2) (subst (λ (x : Event). IsMessage h.2.sender x) r h.2.message) h.2.from
    (ap (λ (x : Event). x.machine) (sym r) ∙ h.2.to) (h.2.delay ∙ ap (λ (x : Event). pos x.time -ℤ pos h.2.sender.time) r))
    (cases_lt h.2.receives.0 n)

-- where the event at n receives nothing, there are no more delays
pub delay_skip : (events : List Event) (numbers : List ℕ) (n v w : ℕ) (d : ℤ) (e : Event) → AreNumbers events numbers → IsEventAt events n e → HasNoSender events e → HasDelayTo events numbers (n + 1) v w d → HasDelayTo events numbers n v w d
delay_skip events numbers n v w d e a here none = delay_cases events numbers n v w d e (HasDelayTo events numbers n v w d) a here (λ h. h) (λ s j at_s m from to is. absurd (none j s at_s m))

-- where it receives a message, there is that one's delay more
pub delay_push : (events : List Event) (numbers : List ℕ) (n v w : ℕ) (d : ℤ) (e : Event) (x : Message) → AreNumbers events numbers → IsEventAt events n e → IsReceived events numbers n e x → IsNumber numbers v → IsNumber numbers w
    → HasDelayTo events numbers (n + 1) v w d → HasDelayTo events numbers n v w d ⊎ ((x.from ≡ v) × (x.to ≡ w) × (x.delay ≡ d))
delay_push events numbers n v w d e x a here g num_v num_w = delay_cases events numbers n v w d e (HasDelayTo events numbers n v w d ⊎ ((x.from ≡ v) × (x.to ≡ w) × (x.delay ≡ d))) a here (λ h. inl h)
    (λ s j at_s m from to is.
    let place : j ≡ g.place = g.only j s at_s m in
    let sender : s ≡ g.sender = one_at events j g.place s g.sender place at_s g.sends in
    inr (
      g.from ∙ (ap (λ i. get_or numbers i 0) (sym place) ∙ number_is events numbers j v s a num_v at_s from),
      g.to ∙ number_is events numbers n w e a num_w here to,
      g.delay ∙ (ap (λ (y : Event). pos e.time -ℤ pos y.time) (sym sender) ∙ sym is),
    ))

-- what stands at an index
event_is : (events : List Event) (k : ℕ) (d : Event) → k < length events → get_or events k (get_or events k d) ≡ get_or events k d
event_is events k d lt = sym (get_or_default events k d (get_or events k d) lt)

-- an event stands at each index
pub event_there : (events : List Event) (k : ℕ) → k < length events → (e : Event) × IsEventAt events k e
event_there [] k lt = absurd (omega arith)
event_there (x ∷ events) k lt = (get_or (x ∷ events) k x, (lt, event_is (x ∷ events) k x lt))

-- what an event receives
pub received_at : (events : List Event) (k : ℕ) (r : Event) → IsEventAt events k r → receipt_at events k ≡ r.recv
received_at events k r (l, is) = get_or-map (λ (x : Event). x.recv) events k r None l ∙ ap (λ (x : Event). x.recv) is

-- its time
pub time_is_at : (events : List Event) (k : ℕ) (e : Event) → IsEventAt events k e → time_at events k ≡ e.time
time_is_at events k e (l, is) = get_or-map (λ (x : Event). x.time) events k e 0 l ∙ ap (λ (x : Event). x.time) is

-- the table has the index of a message's sender
pub message_found : (events : List Event) (senders : List MessagePlace) (text : List ℕ) (k : ℕ) (s r : Event) → AreIndices (sends_of events) (length events) senders → r.recv ≡ Some text → IsEventAt events k s → IsMessage s r → message_place_in senders text ≡ Some k
message_found events senders text k s r a receives (l, is) (t, sends, received, apart) =
    let same : Some t ≡ Some text = sym received ∙ receives in
    a.all text k l (get_or-map (λ (x : Event). x.send) events k s None l ∙ (ap (λ (x : Event). x.send) is ∙ (sends ∙ same)))

-- what is not received has no sender
pub none_received : (events : List Event) (at : ℕ) (r : Event) → IsEventAt events at r → receipt_at events at ≡ None → HasNoSender events r
none_received events at r here none k s at_s m = let is : r.recv ≡ None = sym (received_at events at r here) ∙ none in let some : r.recv ≡ Some m.0 = m.2 in cc

-- nor has what the table does not know
pub none_known : (events : List Event) (senders : List MessagePlace) (text : List ℕ) (at : ℕ) (r : Event) → AreIndices (sends_of events) (length events) senders → IsEventAt events at r → receipt_at events at ≡ Some text → message_place_in senders text ≡ None → HasNoSender events r
none_known events senders text at r a here receives none k s at_s m =
    let found : message_place_in senders text ≡ Some k = message_found events senders text k s r a (sym (received_at events at r here) ∙ receives) at_s m in
    cc

-- nor has what its own machine sends
pub none_other : (events : List Event) (numbers : List ℕ) (senders : List MessagePlace) (text : List ℕ) (place at : ℕ) (r : Event) → AreNumbers events numbers → AreIndices (sends_of events) (length events) senders → IsEventAt events at r → receipt_at events at ≡ Some text
    → message_place_in senders text ≡ Some place → get_or numbers place 0 ≡ get_or numbers at 0 → HasNoSender events r
none_other events numbers senders text place at r n a here receives found same k s at_s m =
    let again : message_place_in senders text ≡ Some k = message_found events senders text k s r a (sym (received_at events at r here) ∙ receives) at_s m in
    let place_is : k ≡ place = cc in
    let numbers_are : get_or numbers k 0 ≡ get_or numbers at 0 = ap (λ i. get_or numbers i 0) place_is ∙ same in
    m.3 (sym (machine_of_at events k s at_s) ∙ (sym (n.same k at_s.0) ∙ (ap (machine_at events) numbers_are ∙ (n.same at here.0 ∙ machine_of_at events at r here))))

-- what another machine sends is received
pub received_from : (events : List Event) (numbers : List ℕ) (senders : List MessagePlace) (text : List ℕ) (place at : ℕ) (r : Event) (x : Message) → AreNumbers events numbers → AreIndices (sends_of events) (length events) senders → IsEventAt events at r → receipt_at events at ≡ Some text
    → message_place_in senders text ≡ Some place → (get_or numbers place 0 ≡ get_or numbers at 0 → ⊥) → x.from ≡ get_or numbers place 0 → x.to ≡ get_or numbers at 0 → x.delay ≡ pos (time_at events at) -ℤ pos (time_at events place) → IsReceived events numbers at r x
received_from events numbers senders text place at r x n a here receives found other from to delay = record {
  place = place;
  sender = s;
  sends = at_s;
  message = (text, sym (get_or-map (λ (e : Event). e.send) events place s None sent.0 ∙ ap (λ (e : Event). e.send) at_s.1) ∙ sent.1, received, apart);
  from = from;
  to = to;
  delay = delay ∙ (ap (λ t. pos t -ℤ pos (time_at events place)) (time_is_at events at r here) ∙ ap (λ t. pos r.time -ℤ pos t) (time_is_at events place s at_s));
  only = λ j e at_e m. let again : message_place_in senders text ≡ Some j = message_found events senders text j e r a received at_e m in cc;
}
  where
    sent : (place < length events) × (get_or (sends_of events) place None ≡ Some text)
    sent = a.right text place found

    s : Event
    s = get_or events place r

    at_s : IsEventAt events place s
    at_s = (sent.0, event_is events place r sent.0)

    received : r.recv ≡ Some text
    received = sym (received_at events at r here) ∙ receives

    apart : s.machine ≡ r.machine → ⊥
    apart same = other (n.one place at sent.0 here.0 (machine_of_at events place s at_s ∙ (same ∙ sym (machine_of_at events at r here))))
