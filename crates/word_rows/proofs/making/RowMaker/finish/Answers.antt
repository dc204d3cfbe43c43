use Rattle.std.proofs.Common.{◌≡◌, true, List, subst, sym}
use Rattle.word_rows.specs.declared.entries.Entry.{Entry}
use Rattle.word_rows.specs.Rows.{is_row}
use Rattle.word_rows.proofs.MakerLemmas.{made_row}
use Rattle.word_rows.proofs.making.RowMaker.finish.Goals as goal

pub of-requires : goal.of-requires
of-requires c = let s = c.self.inside in subst (λ (l : List Entry). is_row l ≡ true) (sym c.in_ok-push.ensures.items) (made_row s.finished.items s.word s.mask c.self.invariant)
