-- What a table, a caller and a seat keep between calls.
use Rattle.std.specs.Prelude.{◌≡◌, ℕ, ◌≤◌, [], ◌∷◌, List, length}
use Rattle.live_journal.specs.declared.entry.Entry.{Entry}
use Rattle.atomic_table.specs.Seated.{TableId}
use Rattle.live_book.specs.declared.rule.Plan.{Plan}
use Rattle.live_book.specs.declared.rule.Knowledge.{Knowledge}
use Rattle.live_book.specs.declared.rule.Stage.{Stage}
use Rattle.live_book.specs.declared.rule.Stage.TheVariants.{Resting, Seeing}
use Rattle.live_book.specs.Views.{found_in, ticket_in}
use Rattle.live_book.specs.Rule.{CallerSeat}

-- the table has three words and one slot
pub record IsShared (table_id : TableId) : Type 0 where
  pub words : table_id.words ≡ 3
  pub slots : table_id.slots ≡ 1

-- a seat is at this table, and carries the numbers of its plan
pub record IsSeated (seat_table table_id : TableId) (plan : Plan) (k : Knowledge) : Type 0 where
  pub here : seat_table ≡ table_id
  pub names : k.names ≡ plan.names
  pub all : k.all ≡ plan.turns
  pub shared : IsShared table_id

-- a table has the plan's numbers
pub record IsTable (names turns : ℕ) (plan : Plan) (table_id : TableId) : Type 0 where
  pub names_are : names ≡ plan.names
  pub turns_are : turns ≡ plan.turns
  pub shared : IsShared table_id

-- a caller between its calls: the number beside its seat is its turns, it rests, it has told all
-- that it heard, and its seat holds no slot
pub record IsCaller (turns : ℕ) (me : CallerSeat) : Type 0 where
  pub counted : turns ≡ me.0.turns
  pub rests : me.0.stage ≡ Resting
  pub told : me.0.heard ≡ []
  pub no_slot : me.1 ≡ []

-- the stage of a turn in which the whole journal was seen
abbrev pub IsSeeing : Stage → Type 0
IsSeeing stage = stage ≡ Seeing (ticket_in stage) (found_in stage)

-- the fronts that the caller heard of are no longer than its own
abbrev pub AreShort : List (List Entry) → ℕ → Type 0
AreShort [] n = Unit {0}
AreShort (front ∷ fronts) n = (length front ≤ n) × AreShort fronts n

abbrev pub HasHeard : Knowledge → Type 0
HasHeard k = AreShort k.heard (length k.front)
