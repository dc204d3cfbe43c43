use Rattle.std.proofs.Common.{◌≡◌, ◌+◌, ◌<◌, ℕ, true, ◌||◌, length, List, get_or, All, ◌∙◌, ap, sym, subst, arith}
use Rattle.std.proofs.lemmas.List.{get_or_default}
use Rattle.std.specs.List.{list_any}
use Rattle.hypothesis_index.specs.Places.{width_of}
use Rattle.word_rows.proofs.ViewLemmas.{or_false}
use Rattle.refute_tests.proofs.NameLemmas.{rise_take, less_take}
use Rattle.refute_tests.proofs.StepLemmas.{more_rows, next_row}
use Rattle.refute_tests.specs.inner.Hits.{NamesRise, hits, row_start, all_hits}
use Rattle.trace_types.specs.declared.named_segment.NamedSegment.{NamedSegment}
use Rattle.word_rows.specs.Rows.{below, clears}
use Rattle.refute_tests.proofs.segments.clear_by_pairs.Goals as goal

pub loop-index-init : goal.loop-index-init
loop-index-init c = record {
  cleared = λ i b. sym (or_false (clears c.args.maker.now i b));
  next = λ d h. c.below_wider.ensures 126 (row_start (get_or c.args.segments.now 0 d).name + 1) c.args.maker.now (omega arith) c.requires.tasks_alone;
  fits = λ n h. c.below_wider.ensures 126 (width_of n) c.args.maker.now (omega arith) c.requires.tasks_alone;
}

pub clear_below-requires-clause-rising : goal.clear_below-requires-clause-rising
clear_below-requires-clause-rising c = subst NamesRise (sym c.split_at.ensures.front) (rise_take c.loop-index.index c.args.segments.now c.requires.rising (omega arith))

pub clear_below-requires-clause-less : goal.clear_below-requires-clause-less
clear_below-requires-clause-less c = let t : NamedSegment = c.index-segments-index.result in
    subst (λ (l : List NamedSegment). All (λ (s : NamedSegment). s.name < t.name) l) (sym c.split_at.ensures.front) (less_take c.loop-index.index c.args.segments.now t c.requires.rising c.loop-index-test.true c.index-segments-index.is)

pub clear_below-requires-clause-no_later : goal.clear_below-requires-clause-no_later
clear_below-requires-clause-no_later c = let t : NamedSegment = c.index-segments-index.result in
    subst (λ (u : NamedSegment). below (row_start u.name + 1) c.loop-index.maker ≡ true) (sym c.index-segments-index.is) (c.loop-index.invariant.next t c.loop-index-test.true)

pub loop-index-preserved : goal.loop-index-preserved
loop-index-preserved c =
    let v = c.loop-index.invariant in
    let e = c.in_ok-clear_below.ensures in
    let t : NamedSegment = c.index-segments-index.result in
    let k = c.loop-index.index in
    let segments : List NamedSegment = c.args.segments.now in
    record {
      cleared = λ i b. more_rows c.args.grace segments k t i b (clears c.clear_below.new.maker i b) (clears c.loop-index.maker i b) (clears c.args.maker.now i b) c.loop-index-test.true c.index-segments-index.is
          (e.cleared i b ∙ ap (λ (l : List NamedSegment). clears c.loop-index.maker i b || list_any (λ s. hits c.args.grace s t i b) l) c.split_at.ensures.front) (v.cleared i b);
      next = λ d h. next_row c.below_wider.ensures c.pairs_follow.ensures c.clear_below.new.maker t.name (get_or segments (k + 1) d).name
          (let same : get_or segments k d ≡ t = get_or_default segments k d t c.loop-index-test.true ∙ sym c.index-segments-index.is in
          subst (λ (u : NamedSegment). u.name < (get_or segments (k + 1) d).name) same (c.requires.rising k (k + 1) d (omega arith) h)) e.no_later;
      fits = λ n h. e.fits n (subst (λ (u : NamedSegment). u.name < n) (sym c.index-segments-index.is) (h k t c.loop-index-test.true)) (v.fits n h);
    }

pub returns-clause-cleared : goal.returns-clause-cleared
returns-clause-cleared c = λ i b. let end : c.loop-index.index ≡ length c.args.segments.now = omega arith in
    c.loop-index.invariant.cleared i b ∙ ap (λ (n : ℕ). clears c.args.maker.now i b || all_hits c.args.grace c.args.segments.now n i b) end
