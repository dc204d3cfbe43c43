use Rattle.std.proofs.Common.{◌≡◌, ℕ, ℤ, pos, List, length, map, take, get_or, sym, ap, ◌∙◌, subst, arith, refl}
use Rattle.std.proofs.lemmas.List.{take_all, take_more, map_push, length-map, get_or-map}
use Rattle.std.proofs.lemmas.Grind.{common_steps}
use Rattle.trace_types.specs.Events.{machine_at}
use Rattle.clock_offsets.specs.Offsets.{IsOffset}
use Rattle.clock_offsets.proofs.MessageLemmas.{is_number}
use Rattle.clock_offsets.proofs.trace_offsets.spread_to_events.Goals as goal

pub returns : goal.returns
returns c =
    let numbers : length c.args.numbers.now ≡ length c.args.trace.now.trace.events = c.requires.numbered.each in
    let all : take c.loop-number.number-index c.args.numbers.now ≡ c.args.numbers.now = take_all c.loop-number.number-index c.args.numbers.now (omega arith) in
    let items : c.loop-number.each.items ≡ map (λ v. get_or c.args.offsets.now v (pos 0)) c.args.numbers.now = c.loop-number.invariant ∙ ap (map (λ v. get_or c.args.offsets.now v (pos 0))) all in
    record {
      each = ap length items ∙ (length-map c.args.numbers.now (λ v. get_or c.args.offsets.now v (pos 0)) ∙ numbers);
      value = λ k lt.
          let at : get_or c.loop-number.each.items k (pos 0) ≡ get_or c.args.offsets.now (get_or c.args.numbers.now k 0) (pos 0) = ap (λ os. get_or os k (pos 0)) items ∙ get_or-map (λ v. get_or c.args.offsets.now v (pos 0)) c.args.numbers.now k 0 (pos 0) (omega arith) in
          let value = c.requires.offset.value (get_or c.args.numbers.now k 0) (is_number c.args.trace.now.trace.events c.args.numbers.now k (get_or c.args.numbers.now k 0) c.requires.numbered lt refl) in
          subst (λ (o : ℤ). IsOffset c.args.trace.now.trace.events (machine_at c.args.trace.now.trace.events k) o) (sym at)
          (subst (λ (m : List ℕ). IsOffset c.args.trace.now.trace.events m (get_or c.args.offsets.now (get_or c.args.numbers.now k 0) (pos 0))) (c.requires.numbered.same k lt) value);
    }

pub loop-number-preserved : goal.loop-number-preserved
loop-number-preserved c = grind (arith, common_steps, take_more, map_push, c.in_ok-push.ensures.items, c.loop-number.invariant)
