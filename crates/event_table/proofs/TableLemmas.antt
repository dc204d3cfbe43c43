-- Events stay what they are as their texts and messages grow.
use Rattle.std.proofs.Common.{◌≡◌, ℕ, suc, inl, inr, ◌+◌, ◌<◌, ◌≤◌, ◌==◌, List, [], ◌∷◌, ◌++◌, length, get_or, Some, Bool, true, false, refl, sym, ap, ◌∙◌, subst, All, length-append, arith}
use Rattle.std.proofs.lemmas.Bool.{eq-eqb}
use Rattle.std.proofs.lemmas.List.{get_or_append_left, length_push, map-append}
use Rattle.std.proofs.lemmas.List.Elements.{All-push, All-weaker}
use Rattle.trace_types.specs.declared.event.Event.{Event}
use Rattle.event_table.specs.declared.event_numbers.EventNumbers.{EventNumbers}
use Rattle.event_table.specs.Numbers.{event_under, events_under, message_under, no_message, text_under}
use Rattle.event_table.specs.inner.Tables.{AreWithin, IsPlace, IsTable}
use Rattle.event_table.specs.Texts.{MessageLists, TextLists}
use Rattle.event_table.specs.inner.Growth.{GrowsBy, MessagesGrowBy, TextsGrowBy}
use Rattle.event_table.proofs.TextLemmas.{grown_length}

module _ (most : ℕ) (old new : List (List ℕ)) (grown : GrowsBy most old new) where
  longer : length old ≤ length new
  longer = let e : length new ≡ length old + length grown.0 = ap (λ (xs : List (List ℕ)). length xs) grown.1 ∙ length-append old grown.0 in omega arith

  -- the number of a text stays one, and its own
  pub within_later : (number : ℕ) → number < length old → number < length new
  within_later number lt = let l = longer in omega arith

  pub text_later : (number : ℕ) → number < length old → text_under new number ≡ text_under old number
  text_later number lt = ap (λ (xs : List (List ℕ)). get_or xs number []) grown.1 ∙ get_or_append_left old grown.0 [] number lt

  -- so does the place of a message
  pub place_later : (place : ℕ) → IsPlace (length old) place → IsPlace (length new) place
  place_later place within = let l = longer in
      elim within as (λ _. IsPlace (length new) place) [ inl none ↦ inl none | inr some ↦ inr (omega arith) ]

  pub message_later : (place : ℕ) → IsPlace (length old) place → message_under new place ≡ message_under old place
  message_later place within = by (place == no_message) refl
    where
      by : (b : Bool) → (place == no_message) ≡ b → message_under new place ≡ message_under old place
      by true e = rw e refl
      by false e = rw e (elim within as (λ _. Some (text_under new place) ≡ Some (text_under old place)) [ inl none ↦ absurd (cc (eq-eqb place no_message none, e)) | inr some ↦ ap Some (text_later place some) ])

module _ (most : ℕ) (old new : TextLists) (before after : MessageLists) (grown : TextsGrowBy most old new) (more : MessagesGrowBy most before after) where
  pub numbers_later : (n : EventNumbers) → AreWithin old before n → AreWithin new after n
  numbers_later n w = record {
    request = within_later most old.requests new.requests grown.requests n.request w.request;
    machine = within_later most old.machines new.machines grown.machines n.machine w.machine;
    task = within_later most old.tasks new.tasks grown.tasks n.task w.task;
    event = within_later most old.names new.names grown.names n.event w.event;
    send = place_later most before.sends after.sends more.sends n.send w.send;
    recv = place_later most before.receipts after.receipts more.receipts n.recv w.recv;
  }

  pub event_later : (n : EventNumbers) → AreWithin old before n → event_under new after n ≡ event_under old before n
  event_later n w =
      let r = text_later most old.requests new.requests grown.requests n.request w.request in
      let m = text_later most old.machines new.machines grown.machines n.machine w.machine in
      let t = text_later most old.tasks new.tasks grown.tasks n.task w.task in
      let e = text_later most old.names new.names grown.names n.event w.event in
      let s = message_later most before.sends after.sends more.sends n.send w.send in
      let v = message_later most before.receipts after.receipts more.receipts n.recv w.recv in
      λ k. record { line = n.line; request = r k; machine = m k; task = t k; event = e k; time = n.time; send = s k; recv = v k }

  pub events_later : (ns : List EventNumbers) → All (AreWithin old before) ns → events_under new after ns ≡ events_under old before ns
  events_later [] w = refl
  events_later (n ∷ ns) w =
      let first = event_later n (w 0 n (omega arith)) in
      let rest = events_later ns (λ k d lt. w (suc k) d (omega (arith, lt))) in
      λ k. first k ∷ rest k

  pub all_numbers_later : (ns : List EventNumbers) → All (AreWithin old before) ns → All (AreWithin new after) ns
  all_numbers_later ns w = All-weaker (AreWithin old before) (AreWithin new after) numbers_later ns w

module _ (old new : TextLists) (before after : MessageLists) (grown : TextsGrowBy 1 old new) (sent : MessagesGrowBy 1 before after)
    (events more : List EventNumbers) (table : IsTable old before events) (n : EventNumbers) (push : more ≡ events ++ n ∷ []) where
  room : (a b : List (List ℕ)) → GrowsBy 1 a b → length a ≤ length events → length b ≤ length more
  room a b g few =
      let long = grown_length 1 a b g in
      let count : length more ≡ length events + 1 = ap (λ (xs : List EventNumbers). length xs) push ∙ length_push events n in
      omega arith

  -- a table with one event more
  pub one_more : AreWithin new after n → IsTable new after more
  one_more within = record {
    within = subst (All (AreWithin new after)) (sym push) (All-push (AreWithin new after) events n (all_numbers_later 1 old new before after grown sent events table.within) within);
    few = record {
      requests = room old.requests new.requests grown.requests table.few.requests;
      machines = room old.machines new.machines grown.machines table.few.machines;
      tasks = room old.tasks new.tasks grown.tasks table.few.tasks;
      names = room old.names new.names grown.names table.few.names;
    };
    few_messages = record {
      sends = room before.sends after.sends sent.sends table.few_messages.sends;
      receipts = room before.receipts after.receipts sent.receipts table.few_messages.receipts;
    };
  }

  pub one_more_seen : (event : Event) → event_under new after n ≡ event → events_under new after more ≡ events_under old before events ++ event ∷ []
  one_more_seen event same =
      ap (events_under new after) push ∙ map-append (event_under new after) events (n ∷ [])
      ∙ (λ k. events_later 1 old new before after grown sent events table.within k ++ same k ∷ [])
