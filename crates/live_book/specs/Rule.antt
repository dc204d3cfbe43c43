-- The rule of a shared book: what holds between any two atomic steps of any threads.
use Rattle.std.specs.Prelude.{◌≡◌, ℕ, ◌+◌, ◌^◌, ◌<◌, ◌≤◌, ◌⊎◌, Bool, false, nat_lt, cond}
use Rattle.std.specs.Prelude.{Option, Some, List, [], ◌∷◌, length, sum_by}
use mathlib.Core.Option.{some}
use mathlib.Core.List.{IsPrefix}
use lib.ListN.{get_elem?}
use Rattle.atomic_table.specs.Table.{State, Me}
use Rattle.live_journal.specs.declared.entry.Entry.{Entry}
use Rattle.live_journal.specs.Journals.{JournalState, journal}
use Rattle.live_book.specs.declared.rule.Plan.{Plan}
use Rattle.live_book.specs.declared.rule.Knowledge.{Knowledge}
use Rattle.live_book.specs.declared.rule.Stage.{Stage}
use Rattle.live_book.specs.declared.rule.Stage.TheVariants.{Resting, Waiting, InTurn, Seeing}
use Rattle.live_book.specs.declared.rule.Turn.{Turn}
use Rattle.live_book.specs.Histories.{AddsAtMostOne, AllStand, TurnsLead}
use Rattle.live_book.specs.Views.{empty_caller_view, had, has_ticket, holds, is_in_turn}
use Rattle.live_book.specs.Views.{position_count}

-- the table as plain data, and one seat of it; the words are the tickets drawn, the ticket served
-- and the number of entries, and the slot has the book
abbrev pub BookTable : Type 0
BookTable = State (Option JournalState) Knowledge

abbrev pub CallerSeat : Type 0
CallerSeat = Me (Option JournalState) Knowledge

-- each caller has this property
abbrev pub EachCaller : (Knowledge → Type 0) → List Knowledge → Type 0
EachCaller F callers = (id : ℕ) (k : Knowledge) → get_elem? callers id ≡ some k → F k

-- what is counted of each caller, together
abbrev pub total : (Knowledge → ℕ) → List Knowledge → ℕ
total f callers = sum_by f callers

-- how many callers have this property
abbrev pub callers_with : (Knowledge → Bool) → List Knowledge → ℕ
callers_with p callers = total (λ k. cond (p k) 1 0) callers

-- the caller carries the numbers of names and turns at opening, or was joined to another
abbrev pub IsOpened : Plan → Knowledge → Type 0
IsOpened plan k = ((k.names ≡ plan.names) × (k.all ≡ plan.turns)) ⊎ (k ≡ empty_caller_view)

-- a ticket is at least the one served and below those drawn; in turn it is the one served, and the
-- journal that it found is the one that the last turn left; that, and after the see the front, is
-- the longest front
abbrev pub IsStage : ℕ → ℕ → List Entry → List Entry → List Entry → Stage → Type 0
IsStage drawn served settled longest front Resting = Unit {0}
IsStage drawn served settled longest front (Waiting ticket) =
    (served ≤ ticket) × (ticket < drawn)
IsStage drawn served settled longest front (InTurn ticket found) =
    (ticket ≡ served) × (ticket < drawn) × (found ≡ settled) × (found ≡ longest)
IsStage drawn served settled longest front (Seeing ticket found) =
    (ticket ≡ served) × (ticket < drawn) × (found ≡ settled) × (front ≡ longest)
    × AddsAtMostOne found front

-- some caller has this front
pub record IsFront (callers : List Knowledge) (longest : List Entry) : Type 0 where
  pub id : ℕ
  pub caller : Knowledge
  pub has : get_elem? callers id ≡ some caller
  pub front : caller.front ≡ longest

-- each of these fronts begins the longest
abbrev pub AllBegin : List (List Entry) → List Entry → Type 0
AllBegin [] longest = Unit {0}
AllBegin (front ∷ fronts) longest = IsPrefix front longest × AllBegin fronts longest

-- the one history of all turns that were served and passed on: it leads from an empty journal to
-- the one that the last of them left, and each of them stands once among those of the callers
pub record HasTurnHistory (served : ℕ) (settled : List Entry) (callers : List Knowledge) : Type 0 where
  pub history : List Turn
  pub leads : TurnsLead 0 [] history settled
  pub count : length history ≡ served
  pub stand : EachCaller (λ k. AllStand history k.history) callers
  pub once : (ticket : ℕ) → total (had ticket) callers ≡ cond (nat_lt ticket served) 1 0

pub record IsLiveBook (plan : Plan) (s : BookTable) : Type 0 where
  pub drawn : ℕ
  pub served : ℕ
  pub settled : List Entry
  pub longest : List Entry
  pub words : s.words ≡ drawn ∷ served ∷ length longest ∷ []
  -- the turns that callers have left and the tickets drawn are the turns at opening
  pub turns : total (λ k. k.turns) s.views + drawn ≡ plan.turns
  pub fits : plan.turns < 2 ^ 64
  pub opened : EachCaller (IsOpened plan) s.views
  -- each ticket that was served was passed on once
  pub passes : total (λ k. k.passes) s.views ≡ served
  pub history : HasTurnHistory served settled s.views
  -- where no view is in its turn, the longest front is what the last turn left
  pub quiet : EachCaller (λ k. is_in_turn k.stage ≡ false) s.views → settled ≡ longest
  -- the tickets held are different, and as many as were drawn and not served
  pub differ : (ticket : ℕ) → callers_with (λ k. holds ticket k.stage) s.views ≤ 1
  pub held : served + callers_with (λ k. has_ticket k.stage) s.views ≡ drawn
  pub stages : EachCaller (λ k. IsStage drawn served settled longest k.front k.stage) s.views
  -- each front, and each that a caller has heard of, begins the longest
  pub fronts : EachCaller (λ k. IsPrefix k.front longest) s.views
  pub heard : EachCaller (λ k. AllBegin k.heard longest) s.views
  pub is_front : IsFront s.views longest
  -- no position stands twice, in one view or in two, and none is past the entries
  pub once : (position : ℕ) → total (position_count position) s.views ≤ 1
  pub below : (position : ℕ) → length longest ≤ position → total (position_count position) s.views ≡ 0
  -- where no view is in its turn, the book is in its slot, and its journal is the longest front
  pub home : EachCaller (λ k. is_in_turn k.stage ≡ false) s.views
      → s.homes ≡ some (Some (journal plan.names longest)) ∷ []
