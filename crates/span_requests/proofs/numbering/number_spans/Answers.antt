use Rattle.std.proofs.Common.{◌∙◌, ◌+◌, ◌++◌, ◌∷◌, [], Bor, length, take, ap, arith, subst, sym}
use Rattle.std.proofs.lemmas.List.{length-map}
use Rattle.span_types.specs.declared.span.Span.{Span}
use Rattle.span_requests.specs.SpansOnce.{spans_once}
use Rattle.span_requests.specs.inner.Ids.{lent_spans, pair_of_key, pairs_of, pairs_of_keys}
use Rattle.span_requests.specs.inner.Numbering.{AreNumbered}
use Rattle.span_requests.proofs.NumberingLemmas.{ids_pushed, next_once, number_few, number_is, numbered_more, shorter, spans_pushed}
use Rattle.span_requests.proofs.numbering.number_spans.Goals as goal

pub overflow_cast-number : goal.overflow_cast-number
overflow_cast-number c =
    let once = spans_once (take c.loop-span.span-index c.args.input.now) in
    let number = number_is once (pairs_of_keys c.loop-span.ids.keys) (pair_of_key c.of.result) c.span-item.result c.in_ok-number.number c.loop-span.invariant.ids c.of.ensures c.in_ok-number.ensures.number in
    let few = number_few once c.span-item.result c.in_ok-number.number number in
    let size = length-map c.loop-span.spans.items (λ (s : Bor Span). s.now) in
    omega (arith, few, size, ap length c.loop-span.invariant.spans, c.loop-span.invariant.few, c.loop-span-test.true, c.requires.few)

pub loop-span-preserved : goal.loop-span-preserved
loop-span-preserved c =
    let input = c.args.input.now in
    let i = c.loop-span.span-index in
    let s : Span = c.span-item.result in
    let once = spans_once (take i input) in
    let at = c.loop-span.invariant in
    let lent = lent_spans c.loop-span.spans.items in
    let size = length-map c.loop-span.spans.items (λ (s : Bor Span). s.now) in
    let more = next_once input i s c.loop-span-test.true c.span-item.is in
    let number = number_is once (pairs_of_keys c.loop-span.ids.keys) (pair_of_key c.of.result) s c.in_ok-number.number at.ids c.of.ensures c.in_ok-number.ensures.number in
    let spans = spans_pushed once lent (lent_spans c.push_first.new.spans.items) s c.in_ok-number.number (length c.loop-span.spans.items) at.spans (sym size) number c.in_ok-push_first.ensures in
    let ids = ids_pushed once (pairs_of_keys c.loop-span.ids.keys) (pairs_of_keys c.number_id.new.ids.keys) (pair_of_key c.of.result) s at.ids c.of.ensures c.in_ok-number.ensures.ids in
    let new_size = length-map c.push_first.new.spans.items (λ (s : Bor Span). s.now) in
    record {
      spans = spans ∙ sym more;
      ids = ids ∙ ap pairs_of (sym more);
      numbers = subst (AreNumbered (take (i + 1) input) (spans_once (take (i + 1) input))) (sym (c.in_ok-push.ensures.items ∙ ap (λ n. c.loop-span.numbers.items ++ n ∷ []) number))
          (numbered_more input i s c.loop-span-test.true c.span-item.is c.loop-span.numbers.items at.numbers);
      few = omega (arith, new_size, ap length spans, shorter once s, ap length at.spans, size, at.few);
    }
