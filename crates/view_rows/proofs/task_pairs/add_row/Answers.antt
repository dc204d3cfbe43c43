use Rattle.std.proofs.Common.{◌≡◌, ◌↔◌, ℕ, true, subst, sym}
use Rattle.std.specs.Cmp.Lexicographic.{slice_cmp}
use Rattle.std.specs.Ordering.{nat_cmp}
use Rattle.model_meet.specs.RelationBits.{HasPipe}
use Rattle.trace_types.proofs.ComparingLemmas.{text_total}
use Rattle.view_rows.specs.inner.Listings.{IsPipe}
use Rattle.kept_names.proofs.ListingLemmas.{holds_second, told_of_texts}
use Rattle.view_rows.proofs.ModelRowLemmas.{row_end, row_start, row_step}
use Rattle.view_rows.proofs.task_pairs.add_row.Goals as goal

pub loop-place-init : goal.loop-place-init
loop-place-init c = λ first e. row_start (slice_cmp nat_cmp) text_total c.args.tasks.now c.requires.listed.rising (IsPipe c.args.tasks.now c.args.model.now.words) first.0 c.args.pairs.now.items

pub loop-place-preserved : goal.loop-place-preserved
loop-place-preserved c = λ first e.
    let a = c.index-tasks-at.result in
    let b = c.index-tasks-place.result in
    let ea : c.number-from.result ≡ a.1 = c.number-from.ensures in
    let eb : c.number-to.result ≡ b.1 = c.number-to.ensures in
    let told = subst (λ (k : ℕ). (c.is_pipe-wanted.result ≡ true) ↔ HasPipe c.args.model.now.words a.1 k) eb (subst (λ (k : ℕ). (c.is_pipe-wanted.result ≡ true) ↔ HasPipe c.args.model.now.words k c.number-to.result) ea c.is_pipe-wanted.ensures) in
    row_step (slice_cmp nat_cmp) text_total c.args.tasks.now c.requires.listed.rising (IsPipe c.args.tasks.now c.args.model.now.words) c.args.at c.loop-place.place a b c.requires.within c.index-tasks-at.is c.loop-place-test.true c.index-tasks-place.is
    c.args.pairs.now.items c.loop-place.pairs.items c.push_where.new.pairs.items c.is_pipe-wanted.result
    (told_of_texts (slice_cmp nat_cmp) text_total c.args.tasks.now c.requires.listed.rising (HasPipe c.args.model.now.words) a b (c.args.at, c.requires.within, sym c.index-tasks-at.is) (c.loop-place.place, c.loop-place-test.true, sym c.index-tasks-place.is) c.is_pipe-wanted.result told)
    c.in_ok-push_where.ensures (λ f h. c.loop-place.invariant f h) first e

pub returns : goal.returns
returns c = λ first e. row_end (slice_cmp nat_cmp) text_total c.args.tasks.now c.requires.listed.rising (IsPipe c.args.tasks.now c.args.model.now.words)
    (λ x y h. holds_second (slice_cmp nat_cmp) text_total c.args.tasks.now c.requires.listed.rising (HasPipe c.args.model.now.words) x y h)
    first.0 c.loop-place.place c.loop-place-test.false c.args.pairs.now.items c.loop-place.pairs.items (c.loop-place.invariant first e)
