use Rattle.std.proofs.Common.{◌≡◌, ◌∙◌, ℕ, Bool, List, ap, length, subst, rules, arith}
use Rattle.std.specs.Cmp.Lexicographic.{slice_cmp}
use Rattle.std.specs.Ordering.{nat_cmp}
use Rattle.kept_books.specs.KeptBooks.{KeptState}
use Rattle.model_meet.specs.ModelStates.{ModelState}
use Rattle.kept_names.specs.Listings.{ListsMarked}
use Rattle.view_rows.specs.inner.Listings.{IsExclusion, IsOrder, IsPipe}
use Rattle.segment_names.specs.Known.{Known}
use Rattle.trace_types.specs.Listing.{ListsExactly}
use Rattle.trace_types.specs.NameOrder.{name_cmp, pair_cmp}
use Rattle.trace_types.specs.Segments.{SegmentName}
use Rattle.view_rows.proofs.found_model.find_model.Goals as goal

pub overflow_cast-result : goal.overflow_cast-result
overflow_cast-result c = omega (arith, c.in_ok-names.ensures.few, c.len.ensures)

pub overflow_cast-result-2 : goal.overflow_cast-result-2
overflow_cast-result-2 c = omega (arith, c.in_ok-tasks.ensures.few, c.len-2.ensures)

pub returns : goal.returns
returns c =
    let j = c.args.judged.now in
    let words : c.new-model.result.words ≡ j.words = ap (λ (m : ModelState). m.words) c.new-model.ensures ∙ c.words.ensures.words in
    let cat : c.catalogue-catalogue.result.now ≡ j.book.known = c.catalogue-catalogue.ensures.catalogue ∙ ap (λ (k : KeptState). k.known) c.book-book.ensures.book in
    let name_count : c.len.result ≡ length c.in_ok-names.names.items = search rules in
    let task_count : c.len-2.result ≡ length c.in_ok-tasks.tasks.items = search rules in
    record {
      traces = c.count_both.ensures;
      days = c.count_days.ensures;
      names = record {
        marks = c.in_ok-marks.marks.names.items;
        items = c.in_ok-names.names.items;
        marked = c.in_ok-marks.ensures.names;
        listed = subst (λ (k : Known). ListsMarked name_cmp k.names c.in_ok-marks.marks.names.items c.in_ok-names.names.items) cat
            (subst (λ (m : List Bool). ListsMarked name_cmp c.catalogue-catalogue.result.now.names m c.in_ok-names.names.items) c.deref.ensures.value c.in_ok-names.ensures.marked);
        count = name_count;
        hb = subst (λ (ws : List ℕ). ListsExactly (pair_cmp name_cmp) (λ (p : SegmentName × SegmentName). IsOrder c.in_ok-names.names.items ws p.0 p.1) c.in_ok-pairs.pairs.before.items) words
            (subst (λ (l : List (SegmentName × ℕ)). ListsExactly (pair_cmp name_cmp) (λ (p : SegmentName × SegmentName). IsOrder l c.new-model.result.words p.0 p.1) c.in_ok-pairs.pairs.before.items) c.deref-3.ensures.value c.in_ok-pairs.ensures.before);
        mx = subst (λ (ws : List ℕ). ListsExactly (pair_cmp name_cmp) (λ (p : SegmentName × SegmentName). IsExclusion c.in_ok-names.names.items ws p.0 p.1) c.in_ok-pairs.pairs.exclusive.items) words
            (subst (λ (l : List (SegmentName × ℕ)). ListsExactly (pair_cmp name_cmp) (λ (p : SegmentName × SegmentName). IsExclusion l c.new-model.result.words p.0 p.1) c.in_ok-pairs.pairs.exclusive.items) c.deref-3.ensures.value c.in_ok-pairs.ensures.exclusive);
      };
      tasks = record {
        marks = c.in_ok-marks.marks.tasks.items;
        items = c.in_ok-tasks.tasks.items;
        marked = c.in_ok-marks.ensures.tasks;
        listed = subst (λ (k : Known). ListsMarked (slice_cmp nat_cmp) k.tasks c.in_ok-marks.marks.tasks.items c.in_ok-tasks.tasks.items) cat
            (subst (λ (m : List Bool). ListsMarked (slice_cmp nat_cmp) c.catalogue-catalogue.result.now.tasks m c.in_ok-tasks.tasks.items) c.deref-2.ensures.value c.in_ok-tasks.ensures.marked);
        count = task_count;
        pipe = subst (λ (ws : List ℕ). ListsExactly (pair_cmp (slice_cmp nat_cmp)) (λ (p : List ℕ × List ℕ). IsPipe c.in_ok-tasks.tasks.items ws p.0 p.1) c.in_ok-pipe.pipe.items) words
            (subst (λ (l : List (List ℕ × ℕ)). ListsExactly (pair_cmp (slice_cmp nat_cmp)) (λ (p : List ℕ × List ℕ). IsPipe l c.new-model.result.words p.0 p.1) c.in_ok-pipe.pipe.items) c.deref-4.ensures.value c.in_ok-pipe.ensures);
      };
    }
