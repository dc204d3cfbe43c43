use Rattle.std.proofs.Common.{◌+◌, ◌≤◌, ◌∙◌, sym, ap, subst, length, inl, inr}
use Rattle.day_partitions.specs.Books.{BookState, IsBook, book}
use Rattle.day_partitions.specs.inner.Trees.{TreeState, with_spare_rows}
use Rattle.day_partitions.specs.inner.Slots.{shown_days}
use Rattle.day_partitions.specs.inner.Insides.{book_of}
use Rattle.day_partitions.proofs.DropLemmas.{book_spare}
use Rattle.day_partitions.proofs.RoomLemmas.{same_slots, same_days}
use Rattle.day_partitions.proofs.WiderLemmas.{either}
use Rattle.day_partitions.proofs.day_book.DayBook.reserve.Goals as goal

pub invariant_of-self : goal.invariant_of-self
invariant_of-self c =
    let a = c.self.inside in let u = c.reserve.new.self in
    let few : length (book_of a).days + c.args.days ≤ 64 = subst (λ (b : BookState). length b.days + c.args.days ≤ 64) (sym c.self.view_is) c.requires in
    elim (either c.reserve.result u (with_spare_rows a.tree c.args.days) a.tree c.reserve.ensures.ok c.reserve.ensures.err) [
      | inl e ↦ record {
        width = ap (λ (t : TreeState). t.width) e ∙ c.self.invariant.width;
        slots = same_slots a.tree u a.days.items a.days.items c.self.invariant.slots (ap (λ (t : TreeState). t.leaves) e) (ap (λ (t : TreeState). t.width) e) (same_days a.days.items);
        kept = subst (λ (t : TreeState). IsBook (book (shown_days a.days.items) a.names t.spare)) (sym e) (book_spare (book_of a) c.args.days few c.self.invariant.kept);
        capacity = c.self.invariant.capacity;
      }
      | inr e ↦ record {
        width = ap (λ (t : TreeState). t.width) e ∙ c.self.invariant.width;
        slots = same_slots a.tree u a.days.items a.days.items c.self.invariant.slots (ap (λ (t : TreeState). t.leaves) e) (ap (λ (t : TreeState). t.width) e) (same_days a.days.items);
        kept = subst (λ (t : TreeState). IsBook (book (shown_days a.days.items) a.names t.spare)) (sym e) c.self.invariant.kept;
        capacity = c.self.invariant.capacity;
      }
    ]
