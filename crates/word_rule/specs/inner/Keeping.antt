-- What a table, a pass, a note and a seat keep between calls.
use Rattle.std.specs.Prelude.{◌≡◌, ℕ, ◌<◌, IsTrue, []}
use Rattle.atomic_table.specs.Seated.{TableId}
use Rattle.atomic_table.specs.Table.{Me}
use Rattle.word_rows.specs.Changes.{is_idle}
use Rattle.word_rule.specs.declared.rule.Knowledge.{Knowledge}
use Rattle.word_rule.specs.declared.rule.Plan.{Plan}

-- a pass: the number beside its seat is that of its view's shares, it has one, no row is in
-- progress and the seat holds no slot
pub record IsPass (shares : ℕ) (me : Me (Unit {0}) Knowledge) : Type 0 where
  pub counted : shares ≡ me.0.view.shares
  pub some_share : 0 < shares
  pub rests : IsTrue (is_idle me.0.view)
  pub no_slot : me.1 ≡ []

-- a note: it has no share, no row is in progress and its seat holds no slot
pub record IsNote (me : Me (Unit {0}) Knowledge) : Type 0 where
  pub no_share : me.0.view.shares ≡ 0
  pub rests : IsTrue (is_idle me.0.view)
  pub no_slot : me.1 ≡ []

-- the shared part of a table: it has as many words as were planned, at least one, and no slot
pub record IsShared (plan : Plan) (table_id : TableId) : Type 0 where
  pub words : table_id.words ≡ plan.width
  pub some_word : 0 < plan.width
  pub no_slot : table_id.slots ≡ 0

-- a seat is at this shared part, which is as planned
pub record IsSeated (seat_table table_id : TableId) (plan : Plan) : Type 0 where
  pub here : seat_table ≡ table_id
  pub shared : IsShared plan table_id

-- a table: its numbers are those that were planned, and there is a share
pub record IsTable (width all : ℕ) (plan : Plan) (table_id : TableId) : Type 0 where
  pub planned_width : width ≡ plan.width
  pub planned_all : all ≡ plan.all
  pub some_share : 0 < all
  pub shared : IsShared plan table_id
