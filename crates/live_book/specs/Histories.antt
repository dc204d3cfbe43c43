-- The one history of a shared book: the turns that callers had and passed on.
use Rattle.std.specs.Prelude.{◌≡◌, ℕ, ◌+◌, ◌≤◌, ◌==◌, List, [], ◌∷◌, length, count_by}
use mathlib.Core.Option.{some}
use mathlib.Core.List.{IsPrefix}
use lib.ListN.{get_elem?}
use Rattle.live_journal.specs.declared.entry.Entry.{Entry}
use Rattle.live_book.specs.declared.rule.Turn.{Turn}

-- the turn of this ticket, which found one journal and left another
abbrev pub turn : ℕ → List Entry → List Entry → Turn
turn ticket found left = record { ticket = ticket; found = found; left = left }

-- a turn leaves the journal as it found it, or with one entry more at its end
pub record AddsAtMostOne (found left : List Entry) : Type 0 where
  pub begins : IsPrefix found left
  pub one : length left ≤ length found + 1

-- these turns, one for each ticket from this one on, lead from one journal to another: the first
-- found the one, each other found what the turn before it left, and the last left the other
abbrev pub TurnsLead : ℕ → List Entry → List Turn → List Entry → Type 0
TurnsLead ticket from [] to = from ≡ to
TurnsLead ticket from (t ∷ ts) to = (t.ticket ≡ ticket) × (t.found ≡ from)
    × AddsAtMostOne t.found t.left × TurnsLead (ticket + 1) t.left ts to

-- each of these turns stands in the history, at the place of its ticket
abbrev pub AllStand : List Turn → List Turn → Type 0
AllStand history [] = Unit {0}
AllStand history (t ∷ ts) = (get_elem? history t.ticket ≡ some t) × AllStand history ts

-- how many of these turns had the ticket
abbrev pub turns_with : ℕ → List Turn → ℕ
turns_with ticket turns = count_by (λ (t : Turn). t.ticket == ticket) turns

-- there is one history of all turns, from an empty journal on, in which each of these turns stands,
-- and no ticket is in two of them: each found the whole journal, as all turns before it left it
pub record AreOfOneHistory (turns : List Turn) : Type 0 where
  pub history : List Turn
  pub last : List Entry
  pub leads : TurnsLead 0 [] history last
  pub stand : AllStand history turns
  pub once : (ticket : ℕ) → turns_with ticket turns ≤ 1
