use Rattle.std.proofs.Common.{◌≡◌, ◌∙◌, ◌<◌, All, List, Option, ℕ, ap, arith, get_or, length, sym, subst}
use Rattle.call_trees.proofs.TableLemmas.{get_or-table, length-table}
use Rattle.span_requests.specs.SpansOnce.{lent_spans}
use Rattle.span_calls.specs.Calls.{position_at}
use Rattle.span_calls.proofs.CallLemmas.{calls_all, calls_more, calls_none, keys_size, number_low}
use Rattle.span_calls.proofs.calls.make_calls.Goals as goal

pub find_positions-requires-clause-within : goal.find_positions-requires-clause-within
find_positions-requires-clause-within c = subst (λ m. All (λ n. n < m) c.args.numbers.now) (sym c.requires.same) c.requires.within

pub loop-at-init : goal.loop-at-init
loop-at-init c = calls_none (lent_spans c.args.spans.now) c.args.callers.now c.args.numbers.now c.in_ok-calls.calls.items c.in_ok-calls.ensures.items

pub index-requires : goal.index-requires
index-requires c = omega (arith, ap length c.in_ok-positions.ensures, length-table (position_at c.args.callers.now c.args.numbers.now) (length c.args.numbers.now), c.loop-at-test.true, c.in_ok-positions.positions.ok.0)

pub bounds-keys-number : goal.bounds-keys-number
bounds-keys-number c =
    omega (arith, keys_size c.args.spans.now c.args.callers.now c.args.keys.now c.args.numbers.now c.requires.keys c.requires.within, number_low c.args.spans.now c.args.callers.now c.args.keys.now c.args.numbers.now c.requires.keys c.requires.within c.loop-at.at c.loop-at-test.true)

pub bounds-keys-number-in-loop-at : goal.bounds-keys-number-in-loop-at
bounds-keys-number-in-loop-at c =
    omega (arith, keys_size c.args.spans.now c.args.callers.now c.args.keys.now c.args.numbers.now c.requires.keys c.requires.within, number_low c.args.spans.now c.args.callers.now c.args.keys.now c.args.numbers.now c.requires.keys c.requires.within c.loop-at.at c.loop-at-test.true)

pub loop-at-preserved : goal.loop-at-preserved
loop-at-preserved c =
    let xs = c.args.spans.now in
    let callers = c.args.callers.now in
    let keys = c.args.keys.now in
    let numbers = c.args.numbers.now in
    let at = c.loop-at.at in
    let p = c.index.result.now in
    let own : p ≡ position_at callers numbers at =
    c.index.ensures ∙ ap (λ (ps : List (Option ℕ)). get_or ps at p) c.in_ok-positions.ensures ∙ get_or-table (position_at callers numbers) (length numbers) at p c.loop-at-test.true in
    calls_more xs callers keys numbers c.requires.keys c.requires.within at c.loop-at.calls.items c.push.new.self.items c.index-spans-number.result p _ c.loop-at-test.true c.index-spans-number.is own c.in_ok-push.ensures.items c.loop-at.invariant

pub returns : goal.returns
returns c = calls_all (lent_spans c.args.spans.now) c.args.callers.now c.args.numbers.now c.loop-at.at c.loop-at.calls.items (omega arith) c.loop-at.invariant
