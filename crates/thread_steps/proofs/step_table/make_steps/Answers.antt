use Rattle.std.proofs.Common.{◌≡◌, ◌∙◌, ◌<◌, ◌++◌, ◌∷◌, [], ℕ, List, All, ap, arith, get_or, length, subst, sym}
use Rattle.std.proofs.lemmas.List.{get_or_default}
use Rattle.std.proofs.lemmas.List.Elements.{All-weaker}
use Rattle.thread_steps.specs.Parts.{grouping_of}
use Rattle.thread_steps.specs.Steps.{own_steps}
use Rattle.thread_steps.specs.declared.step.Step.TheVariants.{Ends}
use Rattle.thread_steps.proofs.TableLemmas.{AreMade, are_rows, below_behind, below_length, made_more, table_count, table_threads}
use Rattle.thread_steps.proofs.step_table.make_steps.Goals as goal

pub bounds-below-call : goal.bounds-below-call
bounds-below-call c = omega (arith, c.calls-test.true, below_length c.args.calls.now c.args.below.now c.requires.below)

pub push_row-requires-clause-within : goal.push_row-requires-clause-within
push_row-requires-clause-within c =
    let calls = c.args.calls.now in
    let below = c.args.below.now in
    let there : c.calls.call < length below = omega (arith, c.calls-test.true, below_length calls below c.requires.below) in
    let same : c.items.result.now ≡ get_or below c.calls.call [] = c.items.ensures ∙ c.index-below-call.is ∙ get_or_default below c.calls.call c.index-below-call.result [] there in
    subst (All (λ j. j < length calls)) (sym same)
    (All-weaker (λ j. (c.calls.call < j) × (j < length calls)) (λ j. j < length calls) (λ j both. both.1) (get_or below c.calls.call []) (below_behind calls below c.requires.before c.requires.below c.calls.call c.calls-test.true))

pub calls-preserved : goal.calls-preserved
calls-preserved c =
    let calls = c.args.calls.now in
    let below = c.args.below.now in
    let grouping = grouping_of c.args.forking in
    let numbers = c.args.group_numbers.now in
    let there : c.calls.call < length below = omega (arith, c.calls-test.true, below_length calls below c.requires.below) in
    let same : c.items.result.now ≡ get_or below c.calls.call [] = c.items.ensures ∙ c.index-below-call.is ∙ get_or_default below c.calls.call c.index-below-call.result [] there in
    let start : c.len.result ≡ length c.calls.steps.items = omega (arith, c.len.ensures, c.calls.steps.ok) in
    made_more calls below grouping numbers c.requires.before c.requires.below c.calls.call c.calls.steps.items c.push_row.new.steps.items c.calls.firsts.items c.push.new.self.items c.len.result c.calls-test.true
    start
    c.in_ok-push.ensures.items
    (c.in_ok-push_row.ensures ∙ ap (λ (is : List ℕ). c.calls.steps.items ++ own_steps calls grouping numbers is ++ Ends c.calls.call ∷ []) same)
    c.calls.invariant

pub invariant_of-result : goal.invariant_of-result
invariant_of-result c =
    let calls = c.args.calls.now in
    let all : c.calls.call ≡ length calls = omega (arith, c.calls-test.false, c.calls.auto.call-end) in
    are_rows calls c.args.below.now (grouping_of c.args.forking) c.args.group_numbers.now c.requires.before c.requires.below c.calls.steps.items c.calls.firsts.items
    (subst (λ n. AreMade calls c.args.below.now (grouping_of c.args.forking) c.args.group_numbers.now n c.calls.steps.items c.calls.firsts.items) all c.calls.invariant)

pub returns-clause-count : goal.returns-clause-count
returns-clause-count c =
    let calls = c.args.calls.now in
    let all : c.calls.call ≡ length calls = omega (arith, c.calls-test.false, c.calls.auto.call-end) in
    table_count calls c.args.below.now (grouping_of c.args.forking) c.args.group_numbers.now c.requires.before c.requires.below c.calls.steps.items c.calls.firsts.items
    (subst (λ n. AreMade calls c.args.below.now (grouping_of c.args.forking) c.args.group_numbers.now n c.calls.steps.items c.calls.firsts.items) all c.calls.invariant)

pub returns-clause-threads : goal.returns-clause-threads
returns-clause-threads c =
    let calls = c.args.calls.now in
    let all : c.calls.call ≡ length calls = omega (arith, c.calls-test.false, c.calls.auto.call-end) in
    table_threads calls c.args.below.now (grouping_of c.args.forking) c.args.group_numbers.now c.requires.before c.requires.below c.calls.steps.items c.calls.firsts.items
    (subst (λ n. AreMade calls c.args.below.now (grouping_of c.args.forking) c.args.group_numbers.now n c.calls.steps.items c.calls.firsts.items) all c.calls.invariant)
