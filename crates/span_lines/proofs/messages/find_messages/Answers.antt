use Rattle.std.proofs.Common.{◌∙◌, ◌<◌, ℕ, List, Option, All, [], ap, arith, length, subst, sym, slice_get}
use Rattle.std.specs.Prelude.{IfSome}
use Rattle.std.proofs.lemmas.List.{get_or_default}
use Rattle.std.proofs.lemmas.List.Elements.{All-push}
use Rattle.context_forks.specs.Partners.{last_to_end}
use Rattle.context_names.proofs.ValueLemmas.{table_next}
use Rattle.thread_steps.proofs.TableLemmas.{below_behind, below_length}
use Rattle.span_lines.specs.Messages.{far_among, first_far, last_far}
use Rattle.span_lines.proofs.messages.find_messages.Goals as goal

pub bounds-below-at : goal.bounds-below-at
bounds-below-at c = omega (arith, below_length c.args.calls.now c.args.below.now c.requires.below)

pub find_far-far-requires-clause-within : goal.find_far-far-requires-clause-within
find_far-far-requires-clause-within c =
    let calls = c.args.calls.now in
    let below = c.args.below.now in
    let at = c.loop-at.at in
    let lt : at < length below = omega (arith, below_length calls below c.requires.below) in
    let own = c.items.ensures ∙ c.index-below-at.is ∙ get_or_default below at c.index-below-at.result [] lt in
    subst (All (λ j. j < length calls)) (sym own) (λ k d less. (below_behind calls below c.requires.before c.requires.below at c.loop-at-test.true k d less).1)

pub loop-at-preserved : goal.loop-at-preserved
loop-at-preserved c =
    let calls = c.args.calls.now in
    let below = c.args.below.now in
    let at = c.loop-at.at in
    let inv = c.loop-at.invariant in
    let P : Option ℕ → Type 0 = λ o. IfSome o (λ j. j < length calls) in
    let lt : at < length below = omega (arith, below_length calls below c.requires.below) in
    let own = c.items.ensures ∙ c.index-below-at.is ∙ get_or_default below at c.index-below-at.result [] lt in
    let far = c.find_far-far in
    record {
      first = table_next (first_far calls below) c.loop-at.first_far.items c.push.new.self.items far.result.first at inv.first (far.ensures.far.first ∙ ap (λ (xs : List ℕ). slice_get (far_among calls at xs) 0) own) c.in_ok-push.ensures.items;
      last = table_next (last_far calls below) c.loop-at.last_far.items c.push-in-loop-at.new.self.items far.result.last at inv.last (far.ensures.far.last ∙ ap (λ (xs : List ℕ). last_to_end calls (far_among calls at xs)) own) c.in_ok-push-2.ensures.items;
      first_among = subst (All P) (sym c.in_ok-push.ensures.items) (All-push P c.loop-at.first_far.items far.result.first inv.first_among far.ensures.first);
      last_among = subst (All P) (sym c.in_ok-push-2.ensures.items) (All-push P c.loop-at.last_far.items far.result.last inv.last_among far.ensures.last);
    }
