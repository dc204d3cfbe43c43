use Rattle.std.proofs.Common.{◌∙◌, ◌<◌, ◌+◌, Bool, refl, ℕ, Option, get_or, length, subst, sym}
use Rattle.std.specs.Prelude.{Some}
use Rattle.std.proofs.lemmas.List.Elements.{All-get_or}
use Rattle.span_calls.specs.Seen.{are_apart}
use Rattle.span_lines.specs.Messages.{call_span}
use Rattle.span_lines.specs.declared.messages.FarCalls.{FarCalls}
use Rattle.span_lines.proofs.FarLemmas.{AreFarTo, far_more, far_same}
use Rattle.span_lines.proofs.messages.find_apart.Goals as goal
use Rattle.span_lines.proofs.messages.find_apart.Goals.{then-are_apart, else-are_apart}

pub loop-call-preserved : goal.loop-call-preserved
loop-call-preserved c =
    let calls = c.args.calls.now in
    let below = c.args.below.now in
    let p : ℕ → Bool = λ j. are_apart (call_span calls c.args.caller) (call_span calls j) in
    let at = c.loop-call.call-index in
    let j = get_or below at 0 in
    let low : j < length calls = All-get_or (λ k. k < length calls) below at 0 c.loop-call-test.true c.requires.within in
    elim c.if-are_apart.branch [
      | then-are_apart w ↦ let last : Option ℕ = Some w.later_of.result in
          subst (λ (f : FarCalls). AreFarTo calls p below (at + 1) f) (sym w.far-is) (far_more calls p below at j c.loop-call-test.true refl c.loop-call.far (record { first = w.first_with.result; last = last }) low
          (sym c.are_apart.ensures ∙ w.if-are_apart.true) w.first_with.ensures.first (w.first_with.ensures.within (length calls) c.loop-call.invariant.first_in low)
          w.later_of.ensures.later w.later_of.ensures.within c.loop-call.invariant)
      | else-are_apart w ↦ subst (λ (f : FarCalls). AreFarTo calls p below (at + 1) f) (sym w.far-is) (far_same calls p below at j c.loop-call-test.true refl c.loop-call.far (sym c.are_apart.ensures ∙ w.if-are_apart.false) c.loop-call.invariant)
    ]
