-- The event at an index of a part, under the numbers of the whole table.
use Rattle.std.proofs.Common.{◌≡◌, ℕ, zero, suc, ◌+◌, ◌<◌, List, [], ◌∷◌, ◌++◌, length, get_or, take, drop, All, sym, ap, ◌∙◌, subst, append_assoc, append-nil, length-append, arith}
use Rattle.std.proofs.lemmas.List.{length-map, get_or-map, take_more, drop_more, take-append-drop, get_or_append_left, get_or-append-add}
use Rattle.std.proofs.lemmas.List.Concat.{flat_map-append}
use Rattle.event_table.specs.declared.event_numbers.EventNumbers.{EventNumbers}
use Rattle.event_table.specs.declared.numbered_part.NumberedPart.{NumberedPart}
use Rattle.event_table.specs.inner.Renumbering.{IsOwn, part_events, renumbered, whole_events}

-- what stands past the end of a list of events
abbrev pub nothing : EventNumbers
nothing = record { time = 0; line = 0; request = 0; machine = 0; task = 0; event = 0; send = 0; recv = 0 }

module _ (part : NumberedPart) (items : List EventNumbers) (same : items ≡ part.events.items) (i : ℕ) (lt : i < length items) where
  within_events : i < length part.events.items
  within_events = subst (λ (es : List EventNumbers). i < length es) same lt

  pub within_part : i < length (part_events part)
  within_part = let l : length (part_events part) ≡ length part.events.items = length-map part.events.items (renumbered part) in let w = within_events in omega arith

  pub event_at : get_or (part_events part) i nothing ≡ renumbered part (get_or items i nothing)
  event_at = get_or-map (renumbered part) part.events.items i nothing nothing within_events ∙ ap (λ (es : List EventNumbers). renumbered part (get_or es i nothing)) (sym same)

  pub own_at : IsOwn part (get_or items i nothing)
  own_at = subst (λ (es : List EventNumbers). IsOwn part (get_or es i nothing)) (sym same) (part.own i nothing within_events)

  pub request_at : (key : ℕ) → key ≡ get_or part.numbers.requests.items (get_or items i nothing).request 0 → (get_or (part_events part) i nothing).request ≡ key
  request_at key read = ap (λ (e : EventNumbers). e.request) event_at ∙ sym read

  -- the events of the part up to the next one
  pub next_events : (done : List EventNumbers) → done ++ take (i + 1) (part_events part) ≡ (done ++ take i (part_events part)) ++ get_or (part_events part) i nothing ∷ []
  next_events done = ap (λ (es : List EventNumbers). done ++ es) (take_more (part_events part) i nothing within_part) ∙ sym (append_assoc done (take i (part_events part)) (get_or (part_events part) i nothing ∷ []))

  -- the next one, and those after it
  pub later_events : (done later : List EventNumbers) → done ++ (part_events part ++ later) ≡ (done ++ take i (part_events part)) ++ get_or (part_events part) i nothing ∷ (drop (i + 1) (part_events part) ++ later)
  later_events done later =
      let events = part_events part in
      let cut : events ≡ take i events ++ get_or events i nothing ∷ drop (i + 1) events = sym (take-append-drop i events) ∙ ap (λ (es : List EventNumbers). take i events ++ es) (drop_more events i nothing within_part) in
      ap (λ (es : List EventNumbers). done ++ (es ++ later)) cut ∙ ap (λ (es : List EventNumbers). done ++ es) (append_assoc (take i events) (get_or events i nothing ∷ drop (i + 1) events) later)
      ∙ sym (append_assoc done (take i events) (get_or events i nothing ∷ (drop (i + 1) events ++ later)))

-- the events of the parts up to the next one
pub next_part : (parts : List NumberedPart) (i : ℕ) (d : NumberedPart) → i < length parts → whole_events (take (i + 1) parts) ≡ whole_events (take i parts) ++ part_events (get_or parts i d)
next_part parts i d lt =
    ap whole_events (take_more parts i d lt) ∙ flat_map-append part_events (take i parts) (get_or parts i d ∷ []) ∙ ap (λ (es : List EventNumbers). whole_events (take i parts) ++ es) (append-nil (part_events (get_or parts i d)))

-- what holds of the events of all parts holds of those of each
pub each_part : (P : EventNumbers → Type 0) (parts : List NumberedPart) (i : ℕ) (d : NumberedPart) → i < length parts → All P (whole_events parts) → All P (part_events (get_or parts i d))
each_part P [] i d lt all = absurd (omega (arith, lt))
each_part P (part ∷ parts) i d lt all = by (each_part P parts) i lt
  where
    first : All P (part_events part)
    first k e l = subst P (sameleft k e l) (all k e (let long : length (part_events part ++ whole_events parts) ≡ length (part_events part) + length (whole_events parts) = length-append (part_events part) (whole_events parts) in omega (arith, l)))
      where
        sameleft : (k : ℕ) (e : EventNumbers) → k < length (part_events part) → get_or (part_events part ++ whole_events parts) k e ≡ get_or (part_events part) k e
        sameleft k e l = get_or_append_left (part_events part) (whole_events parts) e k l

    rest : All P (whole_events parts)
    rest k e l =
        let long : length (part_events part ++ whole_events parts) ≡ length (part_events part) + length (whole_events parts) = length-append (part_events part) (whole_events parts) in
        subst P (get_or-append-add (part_events part) (whole_events parts) k e) (all (length (part_events part) + k) e (omega (arith, l)))

    by : ((i : ℕ) (d : NumberedPart) → i < length parts → All P (whole_events parts) → All P (part_events (get_or parts i d)))
        → (i : ℕ) → i < length (part ∷ parts) → All P (part_events (get_or (part ∷ parts) i d))
    by others zero l = first
    by others (suc i) l = others i d (omega (arith, l)) rest
