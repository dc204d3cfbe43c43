use Rattle.std.proofs.Common.{◌≡◌, ◌∙◌, ◌+◌, ◌<◌, ap, arith, length}
use Rattle.std.proofs.lemmas.List.Edits.{length-remove}
use Rattle.day_partitions.specs.Books.{all_traces}
use Rattle.day_partitions.specs.inner.Slots.{shown_days}
use Rattle.day_partitions.proofs.DropLemmas.{first_total, oldest_items}
use Rattle.day_partitions.proofs.dropping.drop_oldest.Goals as goal

pub days-preserved : goal.days-preserved
days-preserved g c =
    let i = c.days.invariant in
    let ds = c.days.days.items in
    let es = c.drop_at-dropped.new.days.items in
    let some : 0 < length ds = omega (arith, c.days-test.true, c.len.ensures, c.days.days.ok.0) in
    let size : length es + 1 ≡ length ds = ap (λ l. length l + 1) c.drop_at-dropped.ensures.days ∙ length-remove ds 0 some in
    let first = first_total ds c.drop_at-dropped.result some c.drop_at-dropped.ensures.count in
    record {
      count = omega (arith, i.count, first, ap (λ l. length (all_traces (shown_days l))) c.drop_at-dropped.ensures.days);
      slots = c.drop_at-dropped.ensures.slots;
      longer = omega (arith, i.longer, size);
      least = omega (arith, i.least, size, c.days-test.true, c.len.ensures, c.days.days.ok.0);
      items = oldest_items ds es c.args.days.now.items some i.longer i.items c.drop_at-dropped.ensures.days;
      width = c.drop_at-dropped.ensures.width ∙ i.width;
      spare = omega (arith, c.drop_at-dropped.ensures.spare, i.spare, size, i.longer);
      capacity = c.drop_at-dropped.ensures.capacity ∙ i.capacity;
    }
