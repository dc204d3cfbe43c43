use Rattle.std.proofs.Common.{◌∙◌, sym, ap, subst, arith}
use Rattle.day_partitions.specs.Books.{IsBook, newest_days, with_fewer}
use Rattle.day_partitions.specs.inner.Insides.{book_of}
use Rattle.day_partitions.proofs.DropLemmas.{book_newest, view_newest}
use Rattle.day_partitions.proofs.day_book.DayBook.keep_from.Goals as goal

pub invariant_of-self : goal.invariant_of-self
invariant_of-self g c =
    let a = c.self.inside in
    record {
      width = c.drop_oldest.ensures.width ∙ c.self.invariant.width;
      slots = c.drop_oldest.ensures.slots;
      kept = subst (λ b. IsBook b) (sym (view_newest a.names c.args.days a.tree c.drop_oldest.new.tree a.days.items c.drop_oldest.new.days.items c.drop_oldest.ensures.days c.drop_oldest.ensures.spare)) (book_newest (book_of a) c.args.days c.self.invariant.kept);
      capacity = omega (arith, c.self.invariant.capacity, c.drop_oldest.ensures.capacity);
    }

pub returns-clause-kept : goal.returns-clause-kept
returns-clause-kept g c =
    let a = c.self.inside in
    view_newest a.names c.args.days a.tree c.drop_oldest.new.tree a.days.items c.drop_oldest.new.days.items c.drop_oldest.ensures.days c.drop_oldest.ensures.spare
    ∙ ap (λ b. with_fewer b (newest_days c.args.days b.days)) c.self.view_is
