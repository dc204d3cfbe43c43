-- What is listed of a book before its graphs are made.
use Rattle.std.specs.Prelude.{◌≡◌, length}
use Rattle.judged_books.specs.JudgedBooks.{JudgedState}
use Rattle.model_meet.specs.ModelStates.{ModelState}

-- the model has as many names as the book, and its words are those that judge
pub record AreExclusionsOf (b : JudgedState) (model : ModelState) : Type 0 where
  pub names : model.names ≡ length b.book.known.names
  pub words : model.words ≡ b.words
