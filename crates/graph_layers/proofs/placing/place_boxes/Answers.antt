use Rattle.std.proofs.Common.{◌≡◌, ◌∙◌, ℕ, ap, length, subst, arith}
use Rattle.graph_layers.specs.inner.Seats.{AreSeats, seat_of}
use Rattle.graph_layers.proofs.SeatLemmas.{low_more, low_none, seats_more, seats_none}
use Rattle.graph_layers.proofs.placing.place_boxes.Goals as goal

pub boxes-init : goal.boxes-init
boxes-init c = record {
  seats = seats_none c.args.layers.now c.args.keys.now c.in_ok-places.places.items c.in_ok-places.ensures.items;
  low = low_none c.in_ok-places.places.items c.in_ok-places.ensures.items;
}

pub boxes-preserved : goal.boxes-preserved
boxes-preserved c = record {
  seats = seats_more c.args.layers.now c.args.keys.now c.boxes.number c.boxes.places.items c.push.new.self.items c.seat_of.result c.boxes.invariant.seats
      (c.seat_of.ensures.seat ∙ ap (λ (w : ℕ). seat_of c.args.layers.now c.args.keys.now w c.boxes.number) c.widest_of-widest.ensures.value) c.in_ok-push.ensures.items;
  low = low_more c.boxes.places.items c.push.new.self.items c.seat_of.result c.boxes.invariant.low c.seat_of.ensures.low c.in_ok-push.ensures.items;
}

pub returns-clause-seats : goal.returns-clause-seats
returns-clause-seats c =
    let last : c.boxes.number ≡ length c.args.layers.now = omega (arith, c.boxes-test.false, c.boxes.auto.number-end) in
    subst (λ (k : ℕ). AreSeats c.args.layers.now c.args.keys.now k c.boxes.places.items) last c.boxes.invariant.seats

pub returns-clause-low : goal.returns-clause-low
returns-clause-low c = c.boxes.invariant.low
