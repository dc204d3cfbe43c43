-- What is read of an event by its numbers.
use Rattle.std.proofs.Common.{◌≡◌, ℕ, ◌<◌, List, [], length, get_or, map, slice_get, Some, None, refl, sym, ap, ◌∙◌, subst, All, arith}
use Rattle.std.proofs.lemmas.List.{get_or-map, length-map}
use Rattle.std.proofs.lemmas.Option.{get_or_from_slice_get, slice_get-get_or, slice_get-map, slice_get_within}
use Rattle.std.specs.Option.{option_map}
use Rattle.trace_types.specs.declared.event.Event.{Event}
use Rattle.trace_types.specs.Events.{machine_at, event_name_at, task_at}
use Rattle.event_table.specs.declared.event_numbers.EventNumbers.{EventNumbers}
use Rattle.event_table.specs.Gathered.{NumberedTrace, receipt_at, send_at, trace_under}
use Rattle.event_table.specs.Numbers.{event_under, message_under, text_under}
use Rattle.event_table.specs.inner.Tables.{AreWithin}
use Rattle.event_table.specs.Texts.{MessageLists, TextLists}

module _ (texts : TextLists) (messages : MessageLists) (events : List EventNumbers) (now : NumberedTrace) (view : record { texts = texts; trace = trace_under texts messages events } ≡ now) where
  -- an index of an event
  pub index_within : (at : ℕ) → at < length now.trace.events → at < length events
  index_within at lt =
      let long = length-map events (event_under texts messages) in
      let seen : length (map (event_under texts messages) events) ≡ length now.trace.events = ap (λ (n : NumberedTrace). length n.trace.events) view in
      omega arith

  pub same_texts : texts ≡ now.texts
  same_texts = ap (λ (n : NumberedTrace). n.texts) view

  module _ (at : ℕ) (numbers : EventNumbers) (there : slice_get events at ≡ Some numbers) where
    event_there : slice_get now.trace.events at ≡ Some (event_under texts messages numbers)
    event_there =
        subst (λ (n : NumberedTrace). slice_get n.trace.events at ≡ Some (event_under texts messages numbers)) view
        (slice_get-map (event_under texts messages) events at ∙ ap (option_map (event_under texts messages)) there)

    -- what the events have at an index
    pub read_at : {X : Type 0} (f : Event → X) (d : X) → get_or (map f now.trace.events) at d ≡ f (event_under texts messages numbers)
    read_at f d =
        get_or-map f now.trace.events at (event_under texts messages numbers) d (slice_get_within now.trace.events at (event_under texts messages numbers) event_there)
        ∙ ap f (get_or_from_slice_get now.trace.events at (event_under texts messages numbers) (event_under texts messages numbers) event_there)

    module _ (within : All (AreWithin texts messages) events) where
      pub within_at : AreWithin texts messages numbers
      within_at = subst (AreWithin texts messages) (get_or_from_slice_get events at numbers numbers there) (within at numbers (slice_get_within events at numbers there))

      -- the number of a text that the event has
      text_at : (kind : TextLists → List (List ℕ)) (number : ℕ) (f : Event → List ℕ) → number < length (kind texts) → f (event_under texts messages numbers) ≡ text_under (kind texts) number
          → slice_get (kind now.texts) number ≡ Some (get_or (map f now.trace.events) at [])
      text_at kind number f below same =
          subst (λ (ts : TextLists). slice_get (kind ts) number ≡ Some (get_or (map f now.trace.events) at [])) same_texts
          (slice_get-get_or (kind texts) number [] below ∙ ap Some (sym (read_at f [] ∙ same)))

      pub machine_there : slice_get now.texts.machines numbers.machine ≡ Some (machine_at now.trace.events at)
      machine_there = text_at (λ (ts : TextLists). ts.machines) numbers.machine (λ (e : Event). e.machine) within_at.machine refl

      pub task_there : slice_get now.texts.tasks numbers.task ≡ Some (task_at now.trace.events at)
      task_there = text_at (λ (ts : TextLists). ts.tasks) numbers.task (λ (e : Event). e.task) within_at.task refl

      pub name_there : slice_get now.texts.names numbers.event ≡ Some (event_name_at now.trace.events at)
      name_there = text_at (λ (ts : TextLists). ts.names) numbers.event (λ (e : Event). e.event) within_at.event refl

    -- its messages
    pub send_there : message_under messages.sends numbers.send ≡ send_at now.trace.events at
    send_there = sym (read_at (λ (e : Event). e.send) None)

    pub receipt_there : message_under messages.receipts numbers.recv ≡ receipt_at now.trace.events at
    receipt_there = sym (read_at (λ (e : Event). e.recv) None)
