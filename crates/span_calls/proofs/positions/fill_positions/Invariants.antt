use Rattle.std.proofs.Common.{◌≡◌, length, take}
use Rattle.call_trees.specs.Tables.{table_of}
use Rattle.span_calls.specs.Calls.{position_at}
use Rattle.span_calls.specs.inner.Places.{ArePlaces}
use Rattle.span_calls.proofs.positions.fill_positions.Given as goal

-- the places of the numbers so far, and the positions of their callers
abbrev pub invariant-loop-at : goal.invariant-loop-at
invariant-loop-at l = record {
  size : length l.places ≡ length l.callers;
  places : ArePlaces (take l.at l.numbers) l.places;
  positions : l.positions.items ≡ table_of (position_at l.callers l.numbers) l.at;
}
