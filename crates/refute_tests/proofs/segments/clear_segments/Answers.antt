use Rattle.std.proofs.Common.{◌<◌, ◌||◌, length, List, All, ◌∙◌, ap, sym, subst}
use Rattle.std.proofs.lemmas.List.Sorted.{All-permutation}
use Rattle.refute_tests.proofs.ExactLemmas.{exact}
use Rattle.refute_tests.specs.inner.Hits.{NamesRise, all_hits}
use Rattle.trace_types.specs.declared.named_segment.NamedSegment.{NamedSegment}
use Rattle.word_rows.specs.Rows.{clears}
use Rattle.refute_tests.proofs.segments.clear_segments.Goals as goal

pub clear_rows-requires-clause-rising : goal.clear_rows-requires-clause-rising
clear_rows-requires-clause-rising c = subst NamesRise (sym c.as_slice.ensures.value) c.in_ok-sort_by_name.ensures.rising

pub returns-clause-cleared : goal.returns-clause-cleared
returns-clause-cleared c =
    let sorted : List NamedSegment = c.sort_by_name.new.room.items in
    exact c.args.trace.now sorted c.in_ok-sort_by_name.ensures.same c.in_ok-sort_by_name.ensures.rising c.args.maker.now c.clear_rows.new.maker
    (λ i b. c.in_ok-clear_rows.ensures.cleared i b ∙ ap (λ (l : List NamedSegment). clears c.args.maker.now i b || all_hits c.args.trace.now.grace l (length l) i b) c.as_slice.ensures.value)

pub returns-clause-fits : goal.returns-clause-fits
returns-clause-fits c = λ n h. c.in_ok-clear_rows.ensures.fits n (subst (λ (l : List NamedSegment). All (λ (s : NamedSegment). s.name < n) l) (sym c.as_slice.ensures.value)
    (All-permutation (λ (s : NamedSegment). s.name < n) c.args.trace.now.segments c.sort_by_name.new.room.items c.in_ok-sort_by_name.ensures.same h))
