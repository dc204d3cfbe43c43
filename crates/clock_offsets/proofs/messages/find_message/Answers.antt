use Rattle.std.proofs.Common.{◌≡◌, ◌<◌, refl, length, Some, sym, ap, ◌∙◌, arith, rules}
use Rattle.std.specs.Prelude.{FitsSigned}
use Rattle.std.proofs.lemmas.Int.{to_z-of_z}
use mir.Syntax.{w64}
use Rattle.std.specs.Option.{option_copied}
use Rattle.event_table.specs.Gathered.{receipt_at}
use Rattle.clock_offsets.proofs.MessageLemmas.{none_received, none_known, none_other, received_from}
use Rattle.clock_offsets.proofs.messages.find_message.Goals as goal

pub returns-in_err-message : goal.returns-in_err-message
returns-in_err-message c = rw c.from_residual.ensures (λ r here. none_received c.args.trace.now.trace.events c.args.at r here (sym c.recv.ensures ∙ ap option_copied c.in_err-message.was))

pub returns-in_err-place : goal.returns-in_err-place
returns-in_err-place c =
    let receives : receipt_at c.args.trace.now.trace.events c.args.at ≡ Some c.in_ok-message.message.now = sym c.recv.ensures ∙ ap option_copied c.in_ok-message.was in
    rw c.from_residual-in_err-place.ensures (λ r here. none_known c.args.trace.now.trace.events c.args.senders.now c.in_ok-message.message.now c.args.at r c.requires.placed here receives (sym c.find.ensures ∙ c.in_err-place.was))

pub offset_bounds-numbers-place : goal.offset_bounds-numbers-place
offset_bounds-numbers-place c =
    let place = c.requires.placed.right c.in_ok-message.message.now c.in_ok-place.place (sym c.find.ensures ∙ c.in_ok-place.was) in
    let below : c.in_ok-place.place < length c.args.numbers.now = omega (arith, place.0, c.requires.numbered.each) in
    search rules

pub bounds-numbers-place : goal.bounds-numbers-place
bounds-numbers-place c =
    let place = c.requires.placed.right c.in_ok-message.message.now c.in_ok-place.place (sym c.find.ensures ∙ c.in_ok-place.was) in
    omega (arith, place.0, c.requires.numbered.each)

pub returns-then-numbers-place : goal.returns-then-numbers-place
returns-then-numbers-place c = λ r here.
    let receives : receipt_at c.args.trace.now.trace.events c.args.at ≡ Some c.in_ok-message.message.now = sym c.recv.ensures ∙ ap option_copied c.in_ok-message.was in
    none_other c.args.trace.now.trace.events c.args.numbers.now c.args.senders.now c.in_ok-message.message.now c.in_ok-place.place c.args.at r c.requires.numbered c.requires.placed here receives (sym c.find.ensures ∙ c.in_ok-place.was) c.if-numbers-place.true

pub offset_bounds-numbers-place-2 : goal.offset_bounds-numbers-place-2
offset_bounds-numbers-place-2 c =
    let place = c.requires.placed.right c.in_ok-message.message.now c.in_ok-place.place (sym c.find.ensures ∙ c.in_ok-place.was) in
    let below : c.in_ok-place.place < length c.args.numbers.now = omega (arith, place.0, c.requires.numbered.each) in
    search rules

pub bounds-numbers-place-2 : goal.bounds-numbers-place-2
bounds-numbers-place-2 c =
    let place = c.requires.placed.right c.in_ok-message.message.now c.in_ok-place.place (sym c.find.ensures ∙ c.in_ok-place.was) in
    omega (arith, place.0, c.requires.numbered.each)

pub find_delay-requires-clause-from : goal.find_delay-requires-clause-from
find_delay-requires-clause-from c = (c.requires.placed.right c.in_ok-message.message.now c.in_ok-place.place (sym c.find.ensures ∙ c.in_ok-place.was)).0

pub returns : goal.returns
returns c = λ r here.
    let fits : FitsSigned w64 c.find_delay.result = search rules in
    let receives : receipt_at c.args.trace.now.trace.events c.args.at ≡ Some c.in_ok-message.message.now = sym c.recv.ensures ∙ ap option_copied c.in_ok-message.was in
    received_from c.args.trace.now.trace.events c.args.numbers.now c.args.senders.now c.in_ok-message.message.now c.in_ok-place.place c.args.at r _ c.requires.numbered c.requires.placed here receives (sym c.find.ensures ∙ c.in_ok-place.was) c.if-numbers-place.false refl refl (to_z-of_z w64 c.find_delay.result fits ∙ c.find_delay.ensures)
