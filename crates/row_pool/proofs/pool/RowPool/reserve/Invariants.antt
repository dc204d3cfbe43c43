use Rattle.std.proofs.Common.{◌≡◌, ◌+◌, ◌*◌, ◌≤◌, length}
use Rattle.row_pool.proofs.SoundLemmas.{Has}
use Rattle.row_pool.proofs.pool.RowPool.reserve.Given as goal

abbrev pub invariant-rows : goal.invariant-rows
invariant-rows l =
    record {
      has : Has l.self-inside.storage l.width l.self-inside.total l.self-inside.next l.self-inside.spare l.fn.self.rows;
      width : l.self-inside.width ≡ l.width;
      spare : l.self-inside.spare ≡ l.initial.self-inside.spare + l.counter;
      total : l.self-inside.total ≡ l.initial.self-inside.total + l.counter;
      room : l.total * l.width ≤ length l.self-inside.storage;
    }
