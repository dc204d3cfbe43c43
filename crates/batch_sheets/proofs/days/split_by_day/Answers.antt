use Rattle.std.proofs.Common.{◌≡◌, ◌∷◌, ◌++◌, [], ◌∙◌, List, Contains, length, map, ap, sym, subst, refl, append_assoc, append-nil, get_or, arith}
use Rattle.std.specs.Vec.Iter.{into_iter_items}
use Rattle.std.specs.Ordering.{nat_cmp}
use Rattle.trace_types.specs.Listing.{ListsExactly}
use Rattle.trace_types.specs.declared.named_trace.NamedTrace.{NamedTrace}
use Rattle.batch_sheets.specs.Splitting.{AreSplitSoFar, named_day}
use Rattle.batch_sheets.proofs.DayLemmas.{all_of_day, days_differ, days_rise, in_middle, one_item, split_done}
use Rattle.batch_sheets.proofs.days.split_by_day.Goals as goal

nothing_left : {X : Type 0} (xs : List X) → length xs ≡ 0 → xs ≡ []
nothing_left [] h = refl
nothing_left (x ∷ xs) h = absurd (omega arith)

pub put_trace-requires-clause-rising : goal.put_trace-requires-clause-rising
put_trace-requires-clause-rising c = days_rise c.args.days.now c.loop-trace.split.items c.requires.rising c.loop-trace.invariant.split.each_day

pub put_trace-requires-clause-listed : goal.put_trace-requires-clause-listed
put_trace-requires-clause-listed c =
    let at = c.loop-trace in
    let trace = c.in-Some.trace in
    let steps : into_iter_items at.trace-iterator ≡ trace ∷ into_iter_items c.next.new.self = c.in-Some.ensures.steps.0 in
    let all : at.yielded ++ (trace ∷ into_iter_items c.next.new.self) ≡ c.args.named.items = rw (← steps) at.invariant.so_far ∙ c.into_iter-trace-iterator.ensures.into_iter_gives.0 in
    let there : Contains (map named_day c.args.named.items) trace.day = subst (λ (l : List NamedTrace). Contains (map named_day l) trace.day) all (in_middle at.yielded (into_iter_items c.next.new.self) trace) in
    subst (λ l. Contains l trace.day) (sym at.invariant.split.each_day) ((c.requires.exactly trace.day).1 there)

pub loop-trace-preserved : goal.loop-trace-preserved
loop-trace-preserved c =
    let at = c.loop-trace in
    let trace = c.in-Some.trace in
    let steps : into_iter_items at.trace-iterator ≡ trace ∷ into_iter_items c.next.new.self = c.in-Some.ensures.steps.0 in record {
      so_far = append_assoc at.yielded (trace ∷ []) _ ∙ rw (← steps) at.invariant.so_far;
      left =
          let was = at.invariant.left in
          let gone = c.in-Some.ensures.steps.1 in
          let short = ap length steps in
          omega arith;
      split = c.in_ok-put_trace.ensures c.args.days.now at.yielded (days_differ c.args.days.now c.requires.rising) at.invariant.split;
    }

pub returns : goal.returns
returns c =
    let at = c.loop-trace in
    let none = c.in-None.ensures.steps in
    let empty : into_iter_items at.trace-iterator ≡ [] = nothing_left _ (sym at.invariant.left ∙ none.0) in
    let all : at.yielded ≡ c.args.named.items = sym (append-nil at.yielded) ∙ rw empty at at.invariant.so_far ∙ c.into_iter-trace-iterator.ensures.into_iter_gives.0 in
    split_done c.args.days.now c.args.named.items at.yielded at.split.items c.requires all at.invariant.split

pub keep_one_day-requires : goal.keep_one_day-requires
keep_one_day-requires c =
    all_of_day (get_or c.args.days.now 0 0) c.args.named.items
    (subst (ListsExactly nat_cmp (Contains (map named_day c.args.named.items))) (one_item c.args.days.now c.if-days-eq1.true) c.requires)

pub returns-then-days-eq1 : goal.returns-then-days-eq1
returns-then-days-eq1 c =
    let days = c.args.days.now in
    let named = c.args.named.items in
    let split = c.in_ok-split.split.items in
    split_done days named named split c.requires refl
    (subst (λ l. AreSplitSoFar l named split) (sym (one_item days c.if-days-eq1.true)) c.in_ok-split.ensures)
