use Rattle.std.proofs.Common.{◌≡◌, ◌≤◌, ◌++◌, ◌+◌, ◌-◌, filter, length, map}
use Rattle.std.specs.List.{range_with_len}
use Rattle.task_pieces.specs.PieceNames.{is_free, numbered_name}
use Rattle.task_pieces.proofs.piece_names.push_names.Given as goal

-- the names with the free numbers so far were appended
abbrev pub invariant-numbers : goal.invariant-numbers
invariant-numbers l = record {
  low : 2 ≤ l.number;
  grown : l.names.items ≡ l.fn.names.items ++ map (numbered_name l.stem) (filter (is_free l.tasks.keys l.stem) (range_with_len 2 (l.number - 2)));
  short : length l.names.items ≤ l.count + 1;
}

abbrev pub decreases-numbers : goal.decreases-numbers
decreases-numbers l = l.count + length l.tasks.keys + 4 - l.number
