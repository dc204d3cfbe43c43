use Rattle.std.proofs.Common.{◌+◌, ◌<◌, ℕ, get_or, length, subst, sym}
use Rattle.std.proofs.lemmas.Option.{slice_get-get_or}
use Rattle.hypothesis_index.specs.Places.{pairs_below}
use Rattle.judged_books.specs.inner.MarkedRows.{TellsOfNames, name_width, name_word}
use Rattle.judged_books.proofs.RowLemmas.{row_more, name_grows}
use Rattle.judged_books.proofs.given_rows.clear_name_row.Goals as goal

pub marks-preserved : goal.marks-preserved
marks-preserved c =
    let marks = c.args.marks.now in
    let within : c.marks.low < length marks = subst (λ (n : ℕ). c.marks.low < n) (sym c.requires.long) c.marks-test.true in
    record {
      cleared = row_more TellsOfNames c.args.high marks c.args.maker.now c.marks.maker c.clear_names.new.maker c.marks.low (get_or marks c.marks.low 0) (slice_get-get_or marks c.marks.low 0 within) c.marks.invariant.cleared c.in_ok-clear_names.ensures.cleared;
      no_later = c.below_wider.ensures (name_word c.marks.low c.args.high + 1) (name_width (pairs_below c.args.high + (c.marks.low + 1))) c.clear_names.new.maker (name_grows c.args.high c.marks.low) c.in_ok-clear_names.ensures.no_later;
    }
