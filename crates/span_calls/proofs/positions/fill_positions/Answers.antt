use Rattle.std.proofs.Common.{◌≡◌, ◌<◌, ℕ, None, ap, arith, get_or, length, refl, ◌∙◌}
use Rattle.std.proofs.lemmas.List.Elements.{All-get_or}
use Rattle.call_trees.specs.Tables.{table_of}
use Rattle.span_calls.specs.Calls.{position_at}
use Rattle.span_calls.proofs.PlaceLemmas.{no_places, place_at, places_more, positions_more, some_within}
use Rattle.span_calls.proofs.positions.fill_positions.Goals as goal

pub loop-at-init : goal.loop-at-init
loop-at-init c =
    let none = no_places c.args.places.now (length c.args.callers.now) c.requires.places in
    record {
      size = none.0;
      places = none.1;
      positions = c.in_ok-positions.ensures.items;
    }

pub bounds-callers-number : goal.bounds-callers-number
bounds-callers-number c = All-get_or (λ n. n < length c.args.callers.now) c.args.numbers.now c.loop-at.at 0 c.loop-at-test.true c.requires.within

pub place_of-requires : goal.place_of-requires
place_of-requires c =
    let n : ℕ = get_or c.args.numbers.now c.loop-at.at 0 in
    some_within (get_or c.args.callers.now n None) (length c.loop-at.places) (λ k e. omega (arith, c.requires.callers n k e, c.loop-at.invariant.size))

pub note_place-requires : goal.note_place-requires
note_place-requires c =
    omega (arith, All-get_or (λ n. n < length c.args.callers.now) c.args.numbers.now c.loop-at.at 0 c.loop-at-test.true c.requires.within, c.loop-at.invariant.size)

pub loop-at-preserved : goal.loop-at-preserved
loop-at-preserved c =
    let numbers = c.args.numbers.now in
    let callers = c.args.callers.now in
    let i = c.loop-at.at in
    let n : ℕ = get_or numbers i 0 in
    let low : n < length c.loop-at.places = omega (arith, All-get_or (λ m. m < length callers) numbers i 0 c.loop-at-test.true c.requires.within, c.loop-at.invariant.size) in
    let more = places_more numbers c.loop-at.places i n c.loop-at-test.true refl low c.loop-at.invariant.places c.note_place.new.places c.note_place.ensures in
    record {
      size = more.0 ∙ c.loop-at.invariant.size;
      places = more.1;
      positions = positions_more (position_at callers numbers) c.loop-at.positions.items c.push.new.self.items c.place_of.result i c.loop-at.invariant.positions
          (place_at numbers callers c.loop-at.places i n c.place_of.result refl c.requires.callers c.loop-at.invariant.size c.loop-at.invariant.places c.place_of.ensures) c.in_ok-push.ensures.items;
    }

pub returns : goal.returns
returns c = c.loop-at.invariant.positions ∙ ap (table_of (position_at c.args.callers.now c.args.numbers.now)) (let e : c.loop-at.at ≡ length c.args.numbers.now = omega arith in e)
