use Rattle.std.proofs.Common.{arith, ap, ◌∙◌, ◌<◌, length, sym}
use Rattle.std.specs.Prelude.{not}
use Rattle.span_types.specs.declared.span.Span.{Span}
use Rattle.span_requests.specs.SpansOnce.{repeats_id}
use Rattle.span_requests.proofs.CallerLemmas.{none_more, position_at, position_nowhere, repeat_is}
use Rattle.span_requests.proofs.repeats.find_repeat.Goals as goal

pub returns-then-not-have_one_content : goal.returns-then-not-have_one_content
returns-then-not-have_one_content c =
    let input = c.args.input.now in
    let i = c.loop-index.index in
    let s : Span = c.index-input-index.result in
    let lt : i < length input = omega arith in
    let own = repeat_is input c.args.spans.now c.args.numbers.now i s c.index-spans-numbers.result c.requires.once c.requires.numbered lt c.index-input-index.is c.index-spans-numbers.is in
    sym (position_at (repeats_id input) input i s lt c.index-input-index.is (own ∙ ap not (sym c.have_one_content.ensures ∙ c.if-not-have_one_content.true)) c.loop-index.invariant)

pub loop-index-preserved : goal.loop-index-preserved
loop-index-preserved c =
    let input = c.args.input.now in
    let i = c.loop-index.index in
    let s : Span = c.index-input-index.result in
    let lt : i < length input = omega arith in
    let own = repeat_is input c.args.spans.now c.args.numbers.now i s c.index-spans-numbers.result c.requires.once c.requires.numbered lt c.index-input-index.is c.index-spans-numbers.is in
    none_more (repeats_id input) input i s lt c.index-input-index.is (own ∙ ap not (sym c.have_one_content.ensures ∙ c.if-not-have_one_content.false)) c.loop-index.invariant

pub returns : goal.returns
returns c = sym (position_nowhere (repeats_id c.args.input.now) c.args.input.now c.loop-index.index (omega arith) c.loop-index.invariant)
