use Rattle.std.proofs.Common.{◌≡◌, ◌∙◌, ◌+◌, ◌-◌, ◌≤◌, sym, ap, subst, arith}
use Rattle.day_partitions.specs.Books.{BookState, IsBook, book}
use Rattle.day_partitions.specs.inner.Trees.{TreeState}
use Rattle.day_partitions.specs.inner.Slots.{shown_days}
use Rattle.day_partitions.specs.inner.Insides.{book_of}
use Rattle.day_partitions.proofs.WidenLemmas.{width_grows, slots_widened, book_widened}
use Rattle.day_partitions.proofs.day_book.DayBook.widen.Goals as goal

pub invariant_of-self-2 : goal.invariant_of-self-2
invariant_of-self-2 c =
    let a = c.self.inside in let i = c.self.invariant in
    let more : a.names ≤ c.args.names = subst (λ (b : BookState). b.names ≤ c.args.names) (sym c.self.view_is) c.requires.more in
    let grows = width_grows c.pairs_follow.ensures a.names c.args.names more in
    let sum : a.tree.width + (c.width.result - a.tree.width) ≡ c.width.result = omega (arith, grows, i.width, c.width.ensures) in
    record {
      width = ap (λ (t : TreeState). t.width) c.in_ok-widen.ensures.ok ∙ c.width.ensures;
      slots = slots_widened c.widened_lacks.ensures a.names c.width.result (c.width.result - a.tree.width) a.tree c.widen.new.self a.days.items i.kept.names i.width sum i.kept.named c.in_ok-widen.ensures.ok i.slots;
      kept = subst (λ s. IsBook (book (shown_days a.days.items) c.args.names s)) (sym (ap (λ (t : TreeState). t.spare) c.in_ok-widen.ensures.ok)) (book_widened (book_of a) c.args.names more c.requires.most i.kept);
      capacity = i.capacity;
    }
