use Rattle.std.proofs.Common.{◌≡◌, ◌∙◌, ◌++◌, List, ℕ, ap, sym, subst}
use Rattle.judged_books.specs.inner.Copies.{IsSheetOfBook}
use Rattle.judged_books.proofs.judged_book.copy_words.Goals as goal

pub returns : goal.returns
returns c =
    let same : c.of.result ≡ c.words-words.result.now = c.of.ensures ∙ c.in_ok-extend_from_slice.ensures.items ∙ ap (λ (l : List ℕ). l ++ c.words-words.result.now) c.in_ok-copy.ensures.items in
    subst (λ (l : List ℕ). IsSheetOfBook c.args.book.now l) (sym same) (record { book = c.names-names.ensures.kept; survivors = c.words-words.ensures.survivors; width = c.words-words.ensures.width })
