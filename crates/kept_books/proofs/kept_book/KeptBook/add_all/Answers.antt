use Rattle.std.proofs.Common.{◌∙◌}
use Rattle.kept_books.proofs.NameLemmas.{names_stay}
use Rattle.kept_books.proofs.kept_book.KeptBook.add_all.Goals as goal

pub invariant_of-self : goal.invariant_of-self
invariant_of-self c = record {
  names = names_stay c.add_all-added.result c.self.inside.book c.add_all-added.new.self c.args.sheets.items c.add_all-added.ensures.added c.add_all-added.ensures.unchanged ∙ c.self.invariant.names;
  book = c.days-days.ensures.kept;
  known = c.self.invariant.known;
}
