-- A seat in its turn.
use Rattle.std.specs.Prelude.{◌≡◌, ℕ, ◌-◌, None, List, [], ◌∷◌, ◌++◌}
use mathlib.Core.List.{IsPrefix}
use Rattle.live_journal.specs.declared.entry.Entry.{Entry}
use Rattle.live_journal.specs.Replays.{IsJournal}
use Rattle.live_book.specs.declared.rule.Knowledge.{Knowledge}
use Rattle.live_book.specs.declared.rule.Stage.TheVariants.{Seeing}
use Rattle.live_book.specs.Rule.{CallerSeat}

-- a caller that knew this before, in its turn, after it has seen this journal
abbrev pub turn_view : Knowledge → ℕ → List Entry → Knowledge
turn_view k ticket found =
    record k { turns = k.turns - 1; front = found; stage = Seeing ticket found }

-- the caller is in its turn and has seen this journal; it has taken the book out of the slot
pub record IsInTurn (before : Knowledge) (now : CallerSeat) (found : List Entry) : Type 0 where
  pub ticket : ℕ
  pub seat : now ≡ (turn_view before ticket found, (0, None) ∷ [])
  pub begins : IsPrefix before.front found
  pub journal : IsJournal found

-- there is one entry more
pub record IsOneMore (found entries : List Entry) : Type 0 where
  pub last : Entry
  pub is : entries ≡ found ++ last ∷ []
