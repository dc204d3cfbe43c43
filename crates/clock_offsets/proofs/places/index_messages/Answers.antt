use Rattle.std.proofs.Common.{◌≡◌, ◌<◌, ℕ, true, length, subst, Some, None, get_or, ap, sym, ◌∙◌, arith}
use Rattle.std.specs.Option.{option_copied, is_some}
use Rattle.clock_offsets.specs.inner.MessagePlaces.{message_place_in}
use Rattle.clock_offsets.specs.inner.Places.{messages_at, AreIndices}
use Rattle.clock_offsets.proofs.PlaceLemmas.{length-messages_at, places_skip, places_added, first_repeat}
use Rattle.clock_offsets.proofs.AddedLemmas.{added_other}
use Rattle.clock_offsets.proofs.places.index_messages.Goals as goal

pub loop-at-preserved-in_default : goal.loop-at-preserved-in_default
loop-at-preserved-in_default c = places_skip (messages_at c.args.end c.args.trace.now.trace.events) c.loop-at.at c.loop-at.places c.loop-at.invariant (sym c.read_message.ensures ∙ ap option_copied c.in_default.is)

pub returns-then-first-at-clause-err : goal.returns-then-first-at-clause-err
returns-then-first-at-clause-err c =
    let key : get_or (messages_at c.args.end c.args.trace.now.trace.events) c.loop-at.at None ≡ Some c.in-Some.message.now = sym c.read_message.ensures ∙ ap option_copied c.in-Some.is in
    let within : c.loop-at.at < length (messages_at c.args.end c.args.trace.now.trace.events) = omega (arith, length-messages_at c.args.end c.args.trace.now.trace.events) in
    let there : is_some (message_place_in c.loop-at.places c.in-Some.message.now) ≡ true = added_other c.loop-at.places c.find_or_add.new.self c.in-Some.message.now c.loop-at.at c.in_ok-first.first c.in_ok-first.ensures.added c.in_ok-first.ensures.place c.if-first-at.true in
    λ _. (
      c.line.result,
      c.repeat.ensures,
      (
        c.loop-at.at,
        first_repeat (messages_at c.args.end c.args.trace.now.trace.events) c.loop-at.at c.in-Some.message.now c.loop-at.places c.loop-at.invariant within key there,
        c.line.ensures,
      ),
    )

pub loop-at-preserved : goal.loop-at-preserved
loop-at-preserved c =
    let key : get_or (messages_at c.args.end c.args.trace.now.trace.events) c.loop-at.at None ≡ Some c.in-Some.message.now = sym c.read_message.ensures ∙ ap option_copied c.in-Some.is in
    places_added (messages_at c.args.end c.args.trace.now.trace.events) c.loop-at.at c.in-Some.message.now c.loop-at.places c.find_or_add.new.self c.in_ok-first.first c.loop-at.invariant key c.in_ok-first.ensures.added c.in_ok-first.ensures.place c.if-first-at.false

pub returns-clause-ok : goal.returns-clause-ok
returns-clause-ok c =
    let all : c.loop-at.at ≡ length c.args.trace.now.trace.events = omega arith in
    subst (λ (n : ℕ). AreIndices (messages_at c.args.end c.args.trace.now.trace.events) n c.loop-at.places) all c.loop-at.invariant
