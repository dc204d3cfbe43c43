-- Events under the numbers of the whole tables.
use Rattle.std.proofs.Common.{◌≡◌, ℕ, zero, suc, inl, inr, ◌+◌, ◌<◌, ◌≤◌, ◌==◌, List, [], ◌∷◌, ◌++◌, length, get_or, map, slice_get, Option, Some, Bool, true, false, All, refl, sym, ap, ◌∙◌, subst, append-nil, append_assoc, length-append, arith}
use Rattle.std.proofs.lemmas.Bool.{eq-eqb, ne_eqb}
use Rattle.std.proofs.lemmas.List.{get_or-append-add, length-map, map-append}
use Rattle.std.proofs.lemmas.List.Concat.{flat_map-append}
use Rattle.std.proofs.lemmas.List.Elements.{All-append, All-map, All-weaker}
use Rattle.std.proofs.lemmas.Option.{slice_get_within, get_or_from_slice_get}
use Rattle.trace_types.specs.declared.event.Event.{Event}
use Rattle.event_table.specs.declared.event_numbers.EventNumbers.{EventNumbers}
use Rattle.event_table.specs.declared.numbered_part.NumberedPart.{NumberedPart}
use Rattle.event_table.specs.declared.numbered_part.TextNumbers.{TextNumbers}
use Rattle.event_table.specs.Gathered.{events_of_tables}
use Rattle.event_table.specs.Numbers.{event_under, events_under, message_under, no_message, text_under}
use Rattle.event_table.specs.inner.Tables.{AreWithin, IsPlace}
use Rattle.event_table.specs.Texts.{MessageLists, TextLists}
use Rattle.event_table.specs.inner.Growth.{AreFewMessages, AreFewTexts, MessagesGrowBy, TextsGrowBy}
use Rattle.event_table.specs.inner.PartNumbers.{AreOfPart, IsPlaceAfter}
use Rattle.event_table.specs.inner.Renumbering.{AreAllNumbersOf, AreNumbersOf, part_events, place_after, renumbered_by, whole_events}
use Rattle.event_table.proofs.TableLemmas.{all_numbers_later, events_later}
use Rattle.event_table.proofs.TextLemmas.{grown_length}

-- a number for each text
pub as_many : (whole texts : List (List ℕ)) (numbers : List ℕ) → AreNumbersOf whole texts numbers → length numbers ≡ length texts
as_many whole texts numbers same = sym (length-map numbers (slice_get whole)) ∙ ap (λ (xs : List (Option (List ℕ))). length xs) same ∙ length-map texts Some

-- the number of a text in the whole table
module _ (whole : List (List ℕ)) where
  number_of : (texts : List (List ℕ)) (numbers : List ℕ) → AreNumbersOf whole texts numbers → (n : ℕ) → n < length texts → slice_get whole (get_or numbers n 0) ≡ Some (get_or texts n [])
  number_of [] numbers same n lt = absurd (omega arith)
  number_of (t ∷ ts) [] same n lt = absurd (cc same)
  number_of (t ∷ ts) (m ∷ ms) same zero lt = cc same
  number_of (t ∷ ts) (m ∷ ms) same (suc n) lt = let others : map (slice_get whole) ms ≡ map Some ts = cc same in number_of ts ms others n (omega arith)

  module _ (texts : List (List ℕ)) (numbers : List ℕ) (same : AreNumbersOf whole texts numbers) where
    there : (n : ℕ) → n < length texts → get_or numbers n 0 < length whole
    there n lt = slice_get_within whole (get_or numbers n 0) (get_or texts n []) (number_of texts numbers same n lt)

    text_there : (n : ℕ) → n < length texts → text_under whole (get_or numbers n 0) ≡ text_under texts n
    text_there n lt = get_or_from_slice_get whole (get_or numbers n 0) (get_or texts n []) [] (number_of texts numbers same n lt)

-- the place of a message after earlier ones
module _ (old later new : List (List ℕ)) (grown : new ≡ old ++ later) (earlier : ℕ) (count : earlier ≡ length old) (few : length new ≤ no_message) where
  long : length new ≡ length old + length later
  long = ap (λ (ms : List (List ℕ)). length ms) grown ∙ length-append old later

  later_place : (place : ℕ) → IsPlace (length later) place → IsPlaceAfter earlier place
  later_place place within some = let l = long in elim within as (λ _. earlier + place < no_message) [ inl none ↦ absurd (some none) | inr lt ↦ omega (arith, lt, l) ]

  place_there : (place : ℕ) → IsPlace (length later) place → IsPlace (length new) (place_after earlier place)
  place_there place within = let l = long in by (place == no_message) refl
    where
      by : (b : Bool) → (place == no_message) ≡ b → IsPlace (length new) (place_after earlier place)
      by true e = rw e (inl refl)
      by false e = let l = long in
          rw e (elim within as (λ _. IsPlace (length new) (earlier + place)) [ inl none ↦ absurd (cc (eq-eqb place no_message none, e)) | inr lt ↦ inr (omega (arith, lt, l)) ])

  message_there : (place : ℕ) → IsPlace (length later) place → message_under new (place_after earlier place) ≡ message_under later place
  message_there place within = by (place == no_message) refl
    where
      there : place < length later → message_under new (earlier + place) ≡ Some (text_under later place)
      there lt =
          let l = long in
          let other : (earlier + place == no_message) ≡ false = ne_eqb (earlier + place) no_message (λ h. absurd (omega (arith, h, lt, l))) in
          let read : text_under new (earlier + place) ≡ text_under later place = ap (λ (ms : List (List ℕ)). text_under ms (earlier + place)) grown ∙ ap (λ (n : ℕ). text_under (old ++ later) (n + place)) count ∙ get_or-append-add old later place [] in
          rw other (ap Some read)

      by : (b : Bool) → (place == no_message) ≡ b → message_under new (place_after earlier place) ≡ message_under later place
      by true e = rw e refl
      by false e = rw e (elim within as (λ _. message_under new (earlier + place) ≡ Some (text_under later place)) [ inl none ↦ absurd (cc (eq-eqb place no_message none, e)) | inr lt ↦ there lt ])

-- a part's events in the whole tables and lists
module _ (texts whole : TextLists) (own before after : MessageLists) (numbers : TextNumbers) (sends receipts : ℕ) (same : AreAllNumbersOf whole texts numbers)
    (sent : after.sends ≡ before.sends ++ own.sends) (received : after.receipts ≡ before.receipts ++ own.receipts) (sends_is : sends ≡ length before.sends) (receipts_is : receipts ≡ length before.receipts)
    (few_sends : length after.sends ≤ no_message) (few_receipts : length after.receipts ≤ no_message) where
  event_own : (event : EventNumbers) → AreWithin texts own event → AreOfPart (length numbers.requests.items) (length numbers.machines.items) (length numbers.tasks.items) (length numbers.names.items) sends receipts event
  event_own event w =
      let r = as_many whole.requests texts.requests numbers.requests.items same.requests in
      let m = as_many whole.machines texts.machines numbers.machines.items same.machines in
      let t = as_many whole.tasks texts.tasks numbers.tasks.items same.tasks in
      let n = as_many whole.names texts.names numbers.names.items same.names in
      let wr = w.request in
      let wm = w.machine in
      let wt = w.task in
      let wn = w.event in record {
        request = omega arith;
        machine = omega arith;
        task = omega arith;
        event = omega arith;
        send = later_place before.sends own.sends after.sends sent sends sends_is few_sends event.send w.send;
        recv = later_place before.receipts own.receipts after.receipts received receipts receipts_is few_receipts event.recv w.recv;
      }

  pub events_own : (events : List EventNumbers) → All (AreWithin texts own) events
      → All (AreOfPart (length numbers.requests.items) (length numbers.machines.items) (length numbers.tasks.items) (length numbers.names.items) sends receipts) events
  events_own events w = All-weaker (AreWithin texts own) (AreOfPart (length numbers.requests.items) (length numbers.machines.items) (length numbers.tasks.items) (length numbers.names.items) sends receipts) event_own events w

  event_there : (event : EventNumbers) → AreWithin texts own event → AreWithin whole after (renumbered_by numbers sends receipts event)
  event_there event w = record {
    request = there whole.requests texts.requests numbers.requests.items same.requests event.request w.request;
    machine = there whole.machines texts.machines numbers.machines.items same.machines event.machine w.machine;
    task = there whole.tasks texts.tasks numbers.tasks.items same.tasks event.task w.task;
    event = there whole.names texts.names numbers.names.items same.names event.event w.event;
    send = place_there before.sends own.sends after.sends sent sends sends_is few_sends event.send w.send;
    recv = place_there before.receipts own.receipts after.receipts received receipts receipts_is few_receipts event.recv w.recv;
  }

  event_same : (event : EventNumbers) → AreWithin texts own event → event_under whole after (renumbered_by numbers sends receipts event) ≡ event_under texts own event
  event_same event w =
      let r = text_there whole.requests texts.requests numbers.requests.items same.requests event.request w.request in
      let m = text_there whole.machines texts.machines numbers.machines.items same.machines event.machine w.machine in
      let t = text_there whole.tasks texts.tasks numbers.tasks.items same.tasks event.task w.task in
      let n = text_there whole.names texts.names numbers.names.items same.names event.event w.event in
      let s = message_there before.sends own.sends after.sends sent sends sends_is few_sends event.send w.send in
      let v = message_there before.receipts own.receipts after.receipts received receipts receipts_is few_receipts event.recv w.recv in
      λ k. record { line = event.line; request = r k; machine = m k; task = t k; event = n k; time = event.time; send = s k; recv = v k }

  pub events_there : (events : List EventNumbers) → All (AreWithin texts own) events → All (AreWithin whole after) (map (renumbered_by numbers sends receipts) events)
  events_there events w =
      All-map (AreWithin whole after) (renumbered_by numbers sends receipts) events
      (All-weaker (AreWithin texts own) (λ (e : EventNumbers). AreWithin whole after (renumbered_by numbers sends receipts e)) event_there events w)

  pub events_same : (events : List EventNumbers) → All (AreWithin texts own) events → events_under whole after (map (renumbered_by numbers sends receipts) events) ≡ events_under texts own events
  events_same [] w = refl
  events_same (event ∷ events) w =
      let first = event_same event (w 0 event (omega arith)) in
      let rest = events_same events (λ k d lt. w (suc k) d (omega (arith, lt))) in
      λ k. first k ∷ rest k

-- the messages of a part after those before it
module _ (own before after : MessageLists) (count most : ℕ) (sent : after.sends ≡ before.sends ++ own.sends) (received : after.receipts ≡ before.receipts ++ own.receipts)
    (few : AreFewMessages most own) (few_before : AreFewMessages count before) where
  pub messages_grown : MessagesGrowBy most before after
  messages_grown = record { sends = (own.sends, sent, few.sends); receipts = (own.receipts, received, few.receipts) }

  pub sends_fit : count + most ≤ no_message → length after.sends ≤ no_message
  sends_fit room =
      let long : length after.sends ≡ length before.sends + length own.sends = ap (λ (ms : List (List ℕ)). length ms) sent ∙ length-append before.sends own.sends in
      let a = few.sends in
      let b = few_before.sends in
      omega arith

  pub receipts_fit : count + most ≤ no_message → length after.receipts ≤ no_message
  receipts_fit room =
      let long : length after.receipts ≡ length before.receipts + length own.receipts = ap (λ (ms : List (List ℕ)). length ms) received ∙ length-append before.receipts own.receipts in
      let a = few.receipts in
      let b = few_before.receipts in
      omega arith

-- one part more
module _ (old new : TextLists) (before after : MessageLists) (parts more : List NumberedPart) (part : NumberedPart) (table : List Event) (left rest : List (List Event)) (all : List Event)
    (grown : TextsGrowBy (length table) old new) (sent : MessagesGrowBy (length table) before after) (within : All (AreWithin old before) (whole_events parts))
    (so_far : events_under old before (whole_events parts) ++ events_of_tables left ≡ all) (next : left ≡ table ∷ rest) (push : more ≡ parts ++ part ∷ [])
    (own : All (AreWithin new after) (part_events part)) (same : events_under new after (part_events part) ≡ table) where
  both : whole_events more ≡ whole_events parts ++ part_events part
  both = ap whole_events push ∙ flat_map-append part_events parts (part ∷ []) ∙ ap (λ (es : List EventNumbers). whole_events parts ++ es) (append-nil (part_events part))

  pub parts_more : events_under new after (whole_events more) ++ events_of_tables rest ≡ all
  parts_more =
      let was = events_under old before (whole_events parts) in
      let seen : events_under new after (whole_events more) ≡ was ++ table = ap (events_under new after) both ∙ map-append (event_under new after) (whole_events parts) (part_events part)
      ∙ (λ k. events_later (length table) old new before after grown sent (whole_events parts) within k ++ same k) in
      ap (λ (es : List Event). es ++ events_of_tables rest) seen ∙ append_assoc was table (events_of_tables rest)
      ∙ ap (λ (tables : List (List Event)). was ++ events_of_tables tables) (sym next) ∙ so_far

  pub parts_within : All (AreWithin new after) (whole_events more)
  parts_within = subst (All (AreWithin new after)) (sym both) (All-append (AreWithin new after) (whole_events parts) (part_events part) (all_numbers_later (length table) old new before after grown sent (whole_events parts) within) own)

  pub parts_count : length (whole_events more) ≡ length (whole_events parts) + length table
  parts_count =
      let b : length (whole_events more) ≡ length (whole_events parts) + length (part_events part) = ap (λ (es : List EventNumbers). length es) both ∙ length-append (whole_events parts) (part_events part) in
      let s : length (part_events part) ≡ length table = sym (length-map (part_events part) (event_under new after)) ∙ ap (λ (es : List Event). length es) same in
      omega arith

  pub texts_few : AreFewTexts (length (whole_events parts)) old → AreFewTexts (length (whole_events more)) new
  texts_few few =
      let count = parts_count in
      let r = grown_length (length table) old.requests new.requests grown.requests in
      let m = grown_length (length table) old.machines new.machines grown.machines in
      let t = grown_length (length table) old.tasks new.tasks grown.tasks in
      let n = grown_length (length table) old.names new.names grown.names in
      let fr = few.requests in
      let fm = few.machines in
      let ft = few.tasks in
      let fn = few.names in record { requests = omega arith; machines = omega arith; tasks = omega arith; names = omega arith }

  pub messages_few : AreFewMessages (length (whole_events parts)) before → AreFewMessages (length (whole_events more)) after
  messages_few few =
      let count = parts_count in
      let s = grown_length (length table) before.sends after.sends sent.sends in
      let r = grown_length (length table) before.receipts after.receipts sent.receipts in
      let fs = few.sends in
      let fr = few.receipts in record { sends = omega arith; receipts = omega arith }

-- the events that are left are not more than all
pub room_for : (texts : TextLists) (messages : MessageLists) (parts : List NumberedPart) (table : List Event) (left rest : List (List Event)) (all : List Event)
    → events_under texts messages (whole_events parts) ++ events_of_tables left ≡ all → left ≡ table ∷ rest → length (whole_events parts) + length table ≤ length all
room_for texts messages parts table left rest all so_far next =
    let whole : length (events_under texts messages (whole_events parts)) + length (events_of_tables left) ≡ length all = sym (length-append (events_under texts messages (whole_events parts)) (events_of_tables left)) ∙ ap (λ (es : List Event). length es) so_far in
    let count : length (events_under texts messages (whole_events parts)) ≡ length (whole_events parts) = length-map (whole_events parts) (event_under texts messages) in
    let some : length (events_of_tables left) ≡ length table + length (events_of_tables rest) = ap (λ (tables : List (List Event)). length (events_of_tables tables)) next ∙ length-append table (events_of_tables rest) in
    omega arith
