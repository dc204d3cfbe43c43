use Rattle.std.proofs.Common.{◌≡◌, ℕ, ◌≤◌, ◌||◌, ◌-◌, ◌+◌, ◌*◌, Bool, length, All, List, IsPermutation, sym, subst, ap, ◌∙◌, arith}
use Rattle.std.proofs.lemmas.List.Sorted.{IsPermutation-trans}
use Rattle.hypothesis_index.specs.Places.{pairs_below, width_of}
use Rattle.refute_tests.proofs.ClearedLemmas.{few, room, words_clear}
use Rattle.trace_types.specs.declared.named_segment.NamedSegment.{NamedSegment}
use Rattle.refute_tests.specs.inner.Marks.{table_clears}
use Rattle.word_rows.specs.Rows.{clears}
use Rattle.word_rows.specs.Words.{AreWords}
use Rattle.refute_tests.proofs.words.clear_by_words.Goals as goal

pub backward_table-requires-clause-room : goal.backward_table-requires-clause-room
backward_table-requires-clause-room c =
    let segments : List NamedSegment = c.args.segments.now in
    let perm : IsPermutation segments c.as_slice-2.result.now = subst (λ (l : List NamedSegment). IsPermutation segments l) (sym c.as_slice-2.ensures.value) c.in_ok-ends.ensures.same in
    let r = room c.pairs_follow.ensures segments c.as_slice-2.result.now c.in-Some.last.now c.requires.rising perm c.in-Some.ensures.value in
    subst (λ (w : ℕ). All (λ (t : NamedSegment). pairs_below t.name + t.name ≤ 16 * (w - 126)) c.as_slice-2.result.now) (sym c.width.ensures) r

pub forward_table-requires-clause-room : goal.forward_table-requires-clause-room
forward_table-requires-clause-room c =
    let segments : List NamedSegment = c.args.segments.now in
    let perm : IsPermutation segments c.as_slice-4.result.now = subst (λ (l : List NamedSegment). IsPermutation segments l) (sym c.as_slice-4.ensures.value) (IsPermutation-trans segments _ _ c.in_ok-starts.ensures.same c.turn_starts-starts.ensures.same) in
    let r = room c.pairs_follow.ensures segments c.as_slice-4.result.now c.in-Some.last.now c.requires.rising perm c.in-Some.ensures.value in
    subst (λ (w : ℕ). All (λ (t : NamedSegment). pairs_below t.name + t.name ≤ 16 * (w - 126)) c.as_slice-4.result.now) (sym c.width.ensures) r

pub clear_tables-requires-clause-few : goal.clear_tables-requires-clause-few
clear_tables-requires-clause-few c =
    let f = few c.pairs_follow.ensures (c.in-Some.last.now.name + 1) (let top = c.in-Some.last.now.name_below in omega arith) in
    let l = c.in_ok-forward.ensures.len in
    let v = ap length c.as_slice-5.ensures.value in
    let w : c.width.result - 126 ≡ width_of (c.in-Some.last.now.name + 1) - 126 = ap (λ (n : ℕ). n - 126) c.width.ensures in
    subst (λ (n : ℕ). n ≤ 8176) (sym (v ∙ l ∙ w)) f

pub returns-clause-cleared : goal.returns-clause-cleared
returns-clause-cleared c =
    let segments : List NamedSegment = c.args.segments.now in
    let starts : IsPermutation segments c.as_slice.result.now = subst (λ (l : List NamedSegment). IsPermutation segments l) (sym c.as_slice.ensures.value) c.in_ok-starts.ensures.same in
    let ends : IsPermutation segments c.as_slice-2.result.now = subst (λ (l : List NamedSegment). IsPermutation segments l) (sym c.as_slice-2.ensures.value) c.in_ok-ends.ensures.same in
    let starts_down : IsPermutation segments c.as_slice-4.result.now = subst (λ (l : List NamedSegment). IsPermutation segments l) (sym c.as_slice-4.ensures.value) (IsPermutation-trans segments _ _ c.in_ok-starts.ensures.same c.turn_starts-starts.ensures.same) in
    let ends_down : IsPermutation segments c.as_slice-3.result.now = subst (λ (l : List NamedSegment). IsPermutation segments l) (sym c.as_slice-3.ensures.value) (IsPermutation-trans segments _ _ c.in_ok-ends.ensures.same c.turn_ends-ends.ensures.same) in
    let clear = words_clear c.pairs_follow.ensures c.args.grace segments c.as_slice.result.now c.as_slice-2.result.now c.as_slice-4.result.now c.as_slice-3.result.now
    c.in_ok-forward.forward.items c.in_ok-backward.backward.items c.requires.rising starts ends starts_down ends_down (subst AreWords c.as_slice-5.ensures.value c.clear_tables.ensures.bound) c.in_ok-forward.ensures.marked c.in_ok-backward.ensures.marked in
    λ i b. c.in_ok-clear_tables.ensures.cleared i b ∙ ap (λ (x : Bool). clears c.args.maker.now i b || x)
    ((λ j. table_clears (c.as_slice-5.ensures.value j) (c.as_slice-6.ensures.value j) i b) ∙ clear i b)
