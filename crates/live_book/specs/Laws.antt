-- What the rule of a shared book says of any two callers, in plain words.
use Rattle.std.specs.Prelude.{◌≡◌, ◌≢◌, ℕ, ◌<◌, ◌⊎◌, true, List, ◌++◌, length}
use mathlib.Core.Option.{some}
use mathlib.Core.List.{IsPrefix}
use lib.ListN.{get_elem?}
use Rattle.live_book.specs.declared.rule.Plan.{Plan}
use Rattle.live_book.specs.declared.rule.Knowledge.{Knowledge}
use Rattle.live_book.specs.declared.rule.Turn.{Turn}
use Rattle.live_book.specs.Histories.{AreOfOneHistory}
use Rattle.live_book.specs.Rule.{IsLiveBook, BookTable}
use Rattle.live_book.specs.Views.{holds, is_in_turn, position_count}

-- the rule holds of this table, and these are two of its callers, or one twice
pub record AreCallers (plan : Plan) (s : BookTable) (i j : ℕ) (k l : Knowledge) : Type 0 where
  pub live : IsLiveBook plan s
  pub first : get_elem? s.views i ≡ some k
  pub second : get_elem? s.views j ≡ some l

-- of any two fronts one is a prefix of the other
abbrev pub FrontsAgree : Type 0
FrontsAgree = (plan : Plan) (s : BookTable) (i j : ℕ) (k l : Knowledge)
    → AreCallers plan s i j k l → IsPrefix k.front l.front ⊎ IsPrefix l.front k.front

-- no two callers hold one ticket
abbrev pub TicketsDiffer : Type 0
TicketsDiffer = (plan : Plan) (s : BookTable) (i j ticket : ℕ) (k l : Knowledge)
    → AreCallers plan s i j k l → holds ticket k.stage ≡ true → holds ticket l.stage ≡ true
    → j ≡ i

-- no two callers are in their turn
abbrev pub OneIsInTurn : Type 0
OneIsInTurn = (plan : Plan) (s : BookTable) (i j : ℕ) (k l : Knowledge)
    → AreCallers plan s i j k l → is_in_turn k.stage ≡ true → is_in_turn l.stage ≡ true → j ≡ i

-- no two callers have one position
abbrev pub PositionsDiffer : Type 0
PositionsDiffer = (plan : Plan) (s : BookTable) (i j position : ℕ) (k l : Knowledge)
    → AreCallers plan s i j k l → 0 < position_count position k → 0 < position_count position l
    → j ≡ i

-- the turns of any two callers are of one history
abbrev pub TurnsAgree : Type 0
TurnsAgree = (plan : Plan) (s : BookTable) (i j : ℕ) (k l : Knowledge)
    → AreCallers plan s i j k l → j ≢ i → AreOfOneHistory (k.history ++ l.history)

-- of two turns of one history the later found all that the earlier left
abbrev pub LaterFindsMore : Type 0
LaterFindsMore = (turns : List Turn) (i j : ℕ) (t u : Turn) → AreOfOneHistory turns
    → get_elem? turns i ≡ some t → get_elem? turns j ≡ some u → t.ticket < u.ticket
    → IsPrefix t.left u.found

-- each position is below the number of entries
abbrev pub PositionsStand : Type 0
PositionsStand = (plan : Plan) (s : BookTable) (i position : ℕ) (k : Knowledge)
    → (rule : IsLiveBook plan s) → get_elem? s.views i ≡ some k → 0 < position_count position k
    → position < length rule.longest
