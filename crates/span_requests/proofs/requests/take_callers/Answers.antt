use Rattle.std.proofs.Common.{◌≡◌, ◌∙◌, List, ℕ, Option, ap, arith, length, sym}
use Rattle.std.specs.Prelude.{position}
use Rattle.std.proofs.lemmas.List.{length-map}
use Rattle.span_types.specs.declared.span.Span.{Span}
use Rattle.span_requests.specs.Callers.{caller_number, caller_numbers}
use Rattle.span_requests.specs.SpansOnce.{have_one_id, lent_spans, spans_once}
use Rattle.span_requests.specs.inner.Circles.{leads_to_circle}
use Rattle.span_requests.proofs.CallerLemmas.{lent_size}
use Rattle.span_requests.proofs.EntryLemmas.{firsts_few}
use Rattle.span_requests.proofs.RequestLemmas.{circle_alike, numbers_within, within_callers}
use Rattle.span_requests.proofs.requests.take_callers.Goals as goal

pub find_parents-requires-clause-few : goal.find_parents-requires-clause-few
find_parents-requires-clause-few c = omega (arith, lent_size c.args.spans.now, ap length c.requires.spans, firsts_few have_one_id c.args.input.now, c.requires.few)

callers_are : (callers : List (Option ℕ)) (lent spans : List Span) → lent ≡ spans → callers ≡ caller_numbers lent → callers ≡ caller_numbers spans
callers_are callers lent spans e h = h ∙ ap (λ (xs : List Span). caller_numbers xs) e

pub find_circle-requires-clause-callers : goal.find_circle-requires-clause-callers
find_circle-requires-clause-callers c =
    within_callers (spans_once c.args.input.now) c.deref-3.result.now (c.deref-3.ensures.value ∙ callers_are c.in_ok-callers.callers.items (lent_spans c.args.spans.now) (spans_once c.args.input.now) c.requires.spans c.in_ok-callers.ensures)

pub find_circle-requires-clause-within : goal.find_circle-requires-clause-within
find_circle-requires-clause-within c =
    let callers = c.deref-3.ensures.value ∙ callers_are c.in_ok-callers.callers.items (lent_spans c.args.spans.now) (spans_once c.args.input.now) c.requires.spans c.in_ok-callers.ensures in
    numbers_within (spans_once c.args.input.now) c.args.input.now c.args.numbers.now (length c.deref-3.result.now) c.requires.numbers (ap length callers ∙ length-map (spans_once c.args.input.now) (caller_number (spans_once c.args.input.now)))

pub returns-in-Some-clause-fault : goal.returns-in-Some-clause-fault
returns-in-Some-clause-fault c =
    let callers = c.deref-3.ensures.value ∙ callers_are c.in_ok-callers.callers.items (lent_spans c.args.spans.now) (spans_once c.args.input.now) c.requires.spans c.in_ok-callers.ensures in
    (c.requires.own, sym (circle_alike c.args.input.now c.args.numbers.now c.requires.numbers c.requires.own) ∙ ap (λ (cs : List (Option ℕ)). position (leads_to_circle cs) c.args.numbers.now) (sym callers) ∙ sym c.in_ok-span.ensures ∙ c.in-Some.is)

pub returns-clause-ends : goal.returns-clause-ends
returns-clause-ends c =
    let callers = c.deref-3.ensures.value ∙ callers_are c.in_ok-callers.callers.items (lent_spans c.args.spans.now) (spans_once c.args.input.now) c.requires.spans c.in_ok-callers.ensures in
    sym (circle_alike c.args.input.now c.args.numbers.now c.requires.numbers c.requires.own) ∙ ap (λ (cs : List (Option ℕ)). position (leads_to_circle cs) c.args.numbers.now) (sym callers) ∙ sym c.in_ok-span.ensures ∙ c.in-None.is
