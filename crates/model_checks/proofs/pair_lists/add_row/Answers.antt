use Rattle.trace_types.specs.Parts.{by_text}
use Rattle.std.proofs.Common.{◌≡◌, length, get_or, subst, sym}
use Rattle.std.proofs.lemmas.List.{get_or_read}
use Rattle.model_checks.specs.declared.refuted.Refuted.{Refuted}
use Rattle.trace_types.specs.Segments.{SegmentName}
use Rattle.model_checks.specs.inner.Answers.{IsAnswer}
use Rattle.model_checks.proofs.RefuterLemmas.{nothing}
use Rattle.std.proofs.Common.{arith}
use Rattle.trace_types.specs.NameOrder.{name_cmp}
use Rattle.trace_types.specs.Relations.{HappensBefore, ExcludesUnordered}
use Rattle.model_checks.proofs.DecisionLemmas.{second_named}
use Rattle.model_checks.proofs.PairLemmas.{row_more, row_done}
use Rattle.model_checks.proofs.pair_lists.add_row.Goals as goal

pub loop-place-preserved : goal.loop-place-preserved
loop-place-preserved c =
    let second : SegmentName = c.index-names-place.result in
    let same : length c.in_ok-row.row.items ≡ length c.args.names.now = c.in_ok-row.ensures.each in
    let read : c.index.result.now ≡ get_or c.in_ok-row.row.items c.loop-place.place nothing = get_or_read c.in_ok-row.row.items c.loop-place.place c.index.result.now (omega arith) c.index.ensures nothing in
    let told : IsAnswer c.args.traces.now c.args.first.now second c.index.result.now =
    subst (λ (r : Refuted). IsAnswer c.args.traces.now c.args.first.now second r) (sym read)
    (subst (λ (n : SegmentName). IsAnswer c.args.traces.now c.args.first.now n (get_or c.in_ok-row.row.items c.loop-place.place nothing)) (sym c.index-names-place.is) (c.in_ok-row.ensures.answers c.loop-place.place second nothing c.loop-place-test.true)) in
    record {
      before = row_more (HappensBefore by_text c.args.traces.now) c.args.names.now c.requires.rising c.args.first.now c.loop-place.place c.index-names-place.result (omega arith) c.index-names-place.is
          c.args.lists.now.before.items c.loop-place.lists.before.items c.push_where.new.pairs.items c.standing_of-standing.result.happens_before (c.standing_of-standing.ensures.before c.args.traces.now told) c.in_ok-push_where.ensures c.loop-place.invariant.before;
      exclusive = row_more (ExcludesUnordered by_text name_cmp c.args.traces.now) c.args.names.now c.requires.rising c.args.first.now c.loop-place.place c.index-names-place.result (omega arith) c.index-names-place.is
          c.args.lists.now.exclusive.items c.loop-place.lists.exclusive.items c.push_where-in-loop-place.new.pairs.items c.standing_of-standing.result.excludes_unordered (c.standing_of-standing.ensures.exclusive c.args.traces.now told) c.in_ok-push_where-2.ensures c.loop-place.invariant.exclusive;
    }

pub returns-clause-before : goal.returns-clause-before
returns-clause-before c = row_done (HappensBefore by_text c.args.traces.now) c.args.names.now c.requires.rising (λ a b h. (c.requires.exactly b).1 (second_named c.args.traces.now a b h.together))
    c.args.first.now c.loop-place.place c.loop-place-test.false c.args.lists.now.before.items c.loop-place.lists.before.items c.loop-place.invariant.before

pub returns-clause-exclusive : goal.returns-clause-exclusive
returns-clause-exclusive c = row_done (ExcludesUnordered by_text name_cmp c.args.traces.now) c.args.names.now c.requires.rising (λ a b h. (c.requires.exactly b).1 (second_named c.args.traces.now a b h.together))
    c.args.first.now c.loop-place.place c.loop-place-test.false c.args.lists.now.exclusive.items c.loop-place.lists.exclusive.items c.loop-place.invariant.exclusive
