use Rattle.std.proofs.Common.{◌≡◌, List, [], ◌∷◌, sym, subst, rules}
use Rattle.std.specs.Prelude.{Option, Some}
use Rattle.atomic_table.specs.Table.{opening}
use Rattle.live_journal.specs.Journals.{JournalState, journal}
use Rattle.live_book.specs.declared.rule.Plan.{Plan}
use Rattle.live_book.specs.Rule.{IsLiveBook}
use Rattle.live_book.specs.Views.{first_caller_view}
use Rattle.live_book.proofs.AllowLemmas.{book_opens}
use Rattle.live_book.proofs.live_book.LiveBook.open.Goals as goal

pub new-requires-2 : goal.new-requires-2
new-requires-2 c = let plan : Plan = record { names = c.args.names; turns = c.args.turns } in
    let same : c.in_ok-slots.slots.items ≡ Some (journal c.args.names []) ∷ [] = search rules in
    subst (λ (l : List (Option JournalState)). IsLiveBook plan (opening (0 ∷ 0 ∷ 0 ∷ []) l (first_caller_view plan))) (sym same) (book_opens plan c.ranges.turns.fits)
