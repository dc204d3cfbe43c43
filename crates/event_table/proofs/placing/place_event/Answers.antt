use Rattle.std.proofs.Common.{◌+◌, ◌++◌, ◌∷◌, [], ◌<◌, ℕ, length, get_or, set, sym, ap, subst}
use Rattle.event_table.specs.declared.event_numbers.EventNumbers.{EventNumbers}
use Rattle.event_table.specs.inner.Placing.{IsPlacing}
use Rattle.event_table.specs.inner.Renumbering.{renumbered}
use Rattle.event_table.proofs.FillLemmas.{place_below, placed_elsewhere, placed_here, placing_next, placing_past, request_below}
use Rattle.event_table.proofs.placing.place_event.Goals as goal

pub bounds-next-request : goal.bounds-next-request
bounds-next-request c =
    let p = c.requires.placing in
    let event = renumbered c.args.part.now c.args.event.now in
    subst (λ (r : ℕ). r < length c.args.next.now) (sym c.request-request.ensures) (request_below p.0 p.1 p.2 event p.3 c.args.next.now c.args.events.now p.4 p.5)

pub bounds-events-place : goal.bounds-events-place
bounds-events-place c =
    let p = c.requires.placing in
    let event = renumbered c.args.part.now c.args.event.now in
    let next = c.args.next.now in
    let events = c.args.events.now in
    let here = placed_here p.0 p.1 p.2 event p.3 next events p.4 p.5 (get_or next c.request-request.result 0) (ap (λ (r : ℕ). get_or next r 0) c.request-request.ensures) c.if-place.true in
    subst (λ (r : ℕ). get_or next r 0 < length events) (sym c.request-request.ensures) (place_below p.0 p.1 p.2 event p.3 next events p.4 p.5 here)

pub bounds-next-request-then-place : goal.bounds-next-request-then-place
bounds-next-request-then-place c =
    let p = c.requires.placing in
    let event = renumbered c.args.part.now c.args.event.now in
    subst (λ (r : ℕ). r < length c.args.next.now) (sym c.request-request.ensures) (request_below p.0 p.1 p.2 event p.3 c.args.next.now c.args.events.now p.4 p.5)

pub returns-then-place : goal.returns-then-place
returns-then-place c = record {
  placing = λ done all later requests all_is p.
      let event = renumbered c.args.part.now c.args.event.now in
      let next = c.args.next.now in
      let events = c.args.events.now in
      let here = placed_here done all later event requests next events all_is p (get_or next c.request-request.result 0) (ap (λ (r : ℕ). get_or next r 0) c.request-request.ensures) c.if-place.true in
      subst (λ (r : ℕ). IsPlacing (done ++ event ∷ []) all requests (set next r (get_or next r 0 + 1)) (set events (get_or next r 0) c.renumber.result)) (sym c.request-request.ensures)
      (subst (λ (e : EventNumbers). IsPlacing (done ++ event ∷ []) all requests (set next event.request (get_or next event.request 0 + 1)) (set events (get_or next event.request 0) e)) (sym c.renumber.ensures)
      (placing_next done all later event requests next events all_is p here));
}

pub returns-else-place : goal.returns-else-place
returns-else-place c = record {
  placing = λ done all later requests all_is p.
      let event = renumbered c.args.part.now c.args.event.now in
      let next = c.args.next.now in
      let events = c.args.events.now in
      let none = placed_elsewhere done all later event requests next events all_is p (get_or next c.request-request.result 0) (ap (λ (r : ℕ). get_or next r 0) c.request-request.ensures) c.if-place.false in
      placing_past done all later event requests next events all_is p none;
}
