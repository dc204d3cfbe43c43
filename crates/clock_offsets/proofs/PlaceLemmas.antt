-- A map from texts to places, filled event by event.
use Rattle.std.proofs.Common.{◌≡◌, ℕ, ◌+◌, ◌<◌, ◌≤◌, Bool, true, false, cond, Option, Some, None, is_some, List, length, get_or, arith, refl, sym, subst, ap, ◌∙◌, ⊎_elim}
use Rattle.clock_offsets.specs.inner.MessagePlaces.{MessagePlace, message_place_in, message_places_with}
use Rattle.std.specs.Str.{bytes_eq}
use Rattle.std.proofs.lemmas.Bool.{cases_lt}
use Rattle.std.proofs.lemmas.List.{length-map}
use Rattle.std.proofs.lemmas.Slice.Eq.{bytes_eq-Decides}
use Rattle.trace_types.specs.declared.event.Event.{Event}
use Rattle.trace_types.specs.Events.{sends_of}
use Rattle.clock_offsets.specs.declared.clock_fault.ClockFault.{ClockFault}
use Rattle.clock_offsets.specs.declared.places.End.{End}
use Rattle.clock_offsets.specs.declared.places.End.TheVariants.{Sending, Receipt}
use Rattle.clock_offsets.specs.Faults.{IsClockFault}
use Rattle.clock_offsets.specs.inner.Places.{messages_at, AreIndices, IsRepeatAt}
use Rattle.clock_offsets.proofs.AddedLemmas.{added_seen, added_new}
use Rattle.trace_types.specs.Repeats.{IsRepeated, IsFirstRepeat, AreDistinct}

-- each event has a message or none
pub length-messages_at : (end : End) (events : List Event) → length (messages_at end events) ≡ length events
length-messages_at Sending events = length-map events (λ (e : Event). e.send)
length-messages_at Receipt events = length-map events (λ (e : Event). e.recv)

-- one key more, where the event has none
pub places_skip : (keys : List (Option (List ℕ))) (n : ℕ) (m : List MessagePlace) → AreIndices keys n m → get_or keys n None ≡ None → AreIndices keys (n + 1) m
places_skip keys n m a none = record {
  right = λ text p h. let r = a.right text p h in let lt : p < n = r.0 in (omega arith, r.1);
  all = λ text p lt h. ⊎_elim
      (λ (below : p < n). a.all text p below h)
      (λ (above : n ≤ p). let same : p ≡ n = omega arith in let k : get_or keys p None ≡ get_or keys n None = ap (λ i. get_or keys i None) same in cc)
      (cases_lt p n);
}

-- one key more, where the map got its place
pub places_put : (keys : List (Option (List ℕ))) (n : ℕ) (t : List ℕ) (m w : List MessagePlace) → AreIndices keys n m → get_or keys n None ≡ Some t → message_place_in m t ≡ None
    → ((q : List ℕ) → message_place_in w q ≡ cond (bytes_eq t q) (Some n) (message_place_in m q)) → AreIndices keys (n + 1) w
places_put keys n t m w a key absent put = record {
  right = λ text p h. right text p (bytes_eq t text) refl (sym (put text) ∙ h);
  all = λ text p lt h. ⊎_elim
      (λ (below : p < n). put text ∙ other text p (a.all text p below h) (bytes_eq t text) refl)
      (λ (above : n ≤ p).
      let same : p ≡ n = omega arith in
      let k : get_or keys p None ≡ get_or keys n None = ap (λ i. get_or keys i None) same in
      let e : t ≡ text = cc in
      put text ∙ (ap (λ b. cond b (Some n) (message_place_in m text)) ((bytes_eq-Decides t text).1 e) ∙ ap Some (sym same)))
      (cases_lt p n);
}
  where
    right : (text : List ℕ) (p : ℕ) (b : Bool) → bytes_eq t text ≡ b → cond b (Some n) (message_place_in m text) ≡ Some p → (p < n + 1) × (get_or keys p None ≡ Some text)
    right text p true e h =
        let same : n ≡ p = cc in
        let t_is : t ≡ text = (bytes_eq-Decides t text).0 e in
        let k : get_or keys p None ≡ get_or keys n None = ap (λ i. get_or keys i None) (sym same) in
        (omega arith, cc)
    right text p false e h = let r = a.right text p h in let lt : p < n = r.0 in (omega arith, r.1)

    other : (text : List ℕ) (p : ℕ) → message_place_in m text ≡ Some p → (b : Bool) → bytes_eq t text ≡ b → cond b (Some n) (message_place_in m text) ≡ Some p
    other text p h true e =
        let t_is : t ≡ text = (bytes_eq-Decides t text).0 e in
        let k : message_place_in m t ≡ message_place_in m text = ap (message_place_in m) t_is in
        cc
    other text p h false e = h

-- one key more, where the table has its index after it was added
pub places_added : (keys : List (Option (List ℕ))) (n : ℕ) (t : List ℕ) (m w : List MessagePlace) (p : ℕ) → AreIndices keys n m → get_or keys n None ≡ Some t → w ≡ message_places_with m t n → message_place_in w t ≡ Some p → p ≡ n → AreIndices keys (n + 1) w
places_added keys n t m w p a key added now same = at (message_place_in m t) refl
  where
    at : (o : Option ℕ) → message_place_in m t ≡ o → AreIndices keys (n + 1) w
    at None e = places_put keys n t m w a key e (added_new m w t n added e)
    at (Some j) e =
        let kept : message_place_in w t ≡ Some j = ap (λ ps. message_place_in ps t) (added_seen m w t n j added e) ∙ e in
        let old : j ≡ p = cc in
        let below : j < n = (a.right t j e).0 in
        absurd (omega arith)

-- a key that the map has already is the first that stands at an earlier place too
pub first_repeat : (keys : List (Option (List ℕ))) (n : ℕ) (t : List ℕ) (m : List MessagePlace) → AreIndices keys n m → n < length keys → get_or keys n None ≡ Some t → is_some (message_place_in m t) ≡ true → IsFirstRepeat keys n
first_repeat keys n t m a l key there = (
  at (message_place_in m t) refl there,
  λ j lt (i, k, before, within, ki, kj).
      let pi : message_place_in m k ≡ Some i = a.all k i (omega arith) ki in
      let pj : message_place_in m k ≡ Some j = a.all k j lt kj in
      let same : i ≡ j = cc in
      absurd (omega arith),
)
  where
    at : (o : Option ℕ) → message_place_in m t ≡ o → is_some o ≡ true → IsRepeated keys n
    at None e h = cc
    at (Some j) e h = let r = a.right t j e in (j, t, r.0, l, r.1, key)

-- where the map has the place of each key, the keys differ
pub places_distinct : (keys : List (Option (List ℕ))) (m : List MessagePlace) → AreIndices keys (length keys) m → AreDistinct keys
places_distinct keys m a = λ k (j, key, before, within, kj, kk).
    let pj : message_place_in m key ≡ Some j = a.all key j (omega arith) kj in
    let pk : message_place_in m key ≡ Some k = a.all key k within kk in
    let same : j ≡ k = cc in
    absurd (omega arith)

-- what is not there is None
pub none_from_is_some : {X : Type 0} (o : Option X) → is_some o ≡ false → o ≡ None
none_from_is_some None h = refl
none_from_is_some (Some x) h = cc

-- the messages at an end differ where the map has the index of each
pub messages_distinct : (end : End) (events : List Event) (m : List MessagePlace) → AreIndices (messages_at end events) (length events) m → AreDistinct (messages_at end events)
messages_distinct end events m a = places_distinct (messages_at end events) m (subst (λ (n : ℕ). AreIndices (messages_at end events) n m) (sym (length-messages_at end events)) a)

-- a send that is repeated is the fault of the events
pub send_repeats : (events : List Event) (fault : ClockFault) → IsRepeatAt events Sending fault → IsClockFault events fault
send_repeats events fault (line, is, first) = subst (λ (f : ClockFault). IsClockFault events f) (sym is) first

-- and so is a receipt, where each message is sent once
pub receipt_repeats : (events : List Event) (fault : ClockFault) → AreDistinct (sends_of events) → IsRepeatAt events Receipt fault → IsClockFault events fault
receipt_repeats events fault once (line, is, first) = subst (λ (f : ClockFault). IsClockFault events f) (sym is) (once, first)
