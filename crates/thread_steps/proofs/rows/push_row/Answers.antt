use Rattle.std.proofs.Common.{◌≡◌, ◌∙◌, ◌<◌, ◌++◌, ◌∷◌, [], List, ap, arith, length, map, subst, sym}
use Rattle.std.proofs.lemmas.List.Elements.{All-get_or, All-weaker}
use Rattle.thread_steps.specs.Parts.{grouping_of}
use Rattle.thread_steps.specs.declared.parts.Part.{Part}
use Rattle.thread_steps.specs.declared.step.Step.{Step}
use Rattle.thread_steps.specs.declared.step.Step.TheVariants.{Ends}
use Rattle.thread_steps.specs.inner.Gaps.{gaps_over, group_of_part}
use Rattle.thread_steps.proofs.CutLemmas.{firsts_within}
use Rattle.thread_steps.proofs.RowLemmas.{gap_there, own_same, steps_with, with_all, with_more}
use Rattle.thread_steps.proofs.rows.push_row.Goals as goal

pub gaps_of_parts-requires-clause-within : goal.gaps_of_parts-requires-clause-within
gaps_of_parts-requires-clause-within c =
    firsts_within c.args.calls.now (grouping_of c.args.forking) (λ j. j < length c.args.forking.numbers.now) c.args.below.now c.deref.result.now (c.deref.ensures.value ∙ c.in_ok-parts.ensures)
    (All-weaker (λ j. j < length c.args.calls.now) (λ j. j < length c.args.forking.numbers.now) (λ j lt. omega (arith, lt, c.requires.numbers)) c.args.below.now c.requires.within)

pub index-requires-in-parts : goal.index-requires-in-parts
index-requires-in-parts c =
    let told : c.in_ok-gaps.gaps.items ≡ gaps_over [] (map (group_of_part (grouping_of c.args.forking)) c.in_ok-parts.parts.items) = c.in_ok-gaps.ensures ∙ ap (λ (ps : List Part). gaps_over [] (map (group_of_part (grouping_of c.args.forking)) ps)) c.deref.ensures.value in
    let lt : c.parts.at < length c.in_ok-parts.parts.items = omega (arith, c.parts-test.true, c.len-at-end.ensures, c.in_ok-parts.parts.ok) in
    omega (arith, gap_there (grouping_of c.args.forking) c.in_ok-parts.parts.items c.in_ok-gaps.gaps.items c.parts.at told lt, c.in_ok-gaps.gaps.ok)

pub push_part-requires-clause-within : goal.push_part-requires-clause-within
push_part-requires-clause-within c =
    let parts = c.in_ok-parts.parts.items in
    let lt : c.parts.at < length parts = omega (arith, c.parts-test.true, c.len-at-end.ensures, c.in_ok-parts.parts.ok) in
    subst (λ (p : Part). p.first < length c.args.forking.numbers.now) (sym c.index.ensures)
    (All-get_or (λ (p : Part). p.first < length c.args.forking.numbers.now) parts c.parts.at c.index.result.now lt
    (firsts_within c.args.calls.now (grouping_of c.args.forking) (λ j. j < length c.args.forking.numbers.now) c.args.below.now parts c.in_ok-parts.ensures
    (All-weaker (λ j. j < length c.args.calls.now) (λ j. j < length c.args.forking.numbers.now) (λ j less. omega (arith, less, c.requires.numbers)) c.args.below.now c.requires.within)))

pub parts-preserved : goal.parts-preserved
parts-preserved c =
    let grouping = grouping_of c.args.forking in
    let parts = c.in_ok-parts.parts.items in
    let gaps = c.in_ok-gaps.gaps.items in
    let told : gaps ≡ gaps_over [] (map (group_of_part grouping) parts) = c.in_ok-gaps.ensures ∙ ap (λ (ps : List Part). gaps_over [] (map (group_of_part grouping) ps)) c.deref.ensures.value in
    let lt : c.parts.at < length parts = omega (arith, c.parts-test.true, c.len-at-end.ensures, c.in_ok-parts.parts.ok) in
    with_more grouping c.args.group_numbers.now parts gaps (c.args.steps.now.items ++ steps_with grouping c.args.group_numbers.now parts gaps) c.parts.at c.parts.steps.items c.push_part.new.steps.items c.index.result.now c.index-in-parts.result.now lt (gap_there grouping parts gaps c.parts.at told lt) c.index.ensures c.index-in-parts.ensures c.in_ok-push_part.ensures c.parts.invariant

pub returns : goal.returns
returns c =
    let grouping = grouping_of c.args.forking in
    let parts = c.in_ok-parts.parts.items in
    let gaps = c.in_ok-gaps.gaps.items in
    let told : gaps ≡ gaps_over [] (map (group_of_part grouping) parts) = c.in_ok-gaps.ensures ∙ ap (λ (ps : List Part). gaps_over [] (map (group_of_part grouping) ps)) c.deref.ensures.value in
    c.in_ok-push.ensures.items
    ∙ ap (λ (ss : List Step). ss ++ Ends c.args.call ∷ [])
    (with_all grouping c.args.group_numbers.now parts gaps (c.args.steps.now.items ++ steps_with grouping c.args.group_numbers.now parts gaps) c.parts.at c.parts.steps.items (omega (arith, c.parts-test.false, c.len-at-end.ensures, c.in_ok-parts.parts.ok)) c.parts.invariant
    ∙ ap (λ (ss : List Step). c.args.steps.now.items ++ ss) (own_same grouping c.args.group_numbers.now c.args.calls.now c.args.below.now parts gaps c.in_ok-parts.ensures told))
