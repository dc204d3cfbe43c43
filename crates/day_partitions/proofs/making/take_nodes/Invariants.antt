use Rattle.std.proofs.Common.{◌≡◌, ◌+◌, ◌≤◌, length, vec_capacity}
use Rattle.day_partitions.proofs.MadeLemmas.{IsMade}
use Rattle.day_partitions.proofs.making.take_nodes.Given as goal

abbrev pub invariant-rows : goal.invariant-rows
invariant-rows l =
    record {
      made : IsMade l.rows l.nodes.items l.initial.rows.width;
      count : length l.nodes.items ≡ l.counter;
      width : l.rows.width ≡ l.initial.rows.width;
      spare : l.rows.spare + l.counter ≡ 66;
      room : 66 ≤ vec_capacity l.nodes;
    }
