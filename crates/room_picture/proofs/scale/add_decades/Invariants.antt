use Rattle.std.proofs.Common.{◌≡◌, ◌≤◌, ◌*◌, take}
use Rattle.std.specs.Prelude.{sum_by}
use Rattle.room_picture.specs.Scales.{decade_part}
use Rattle.room_picture.proofs.scale.add_decades.Given as goal

-- the steps of the decades so far
abbrev pub invariant-powers : goal.invariant-powers
invariant-powers l = record {
  steps : l.steps ≡ sum_by (decade_part l.n) (take l.power-index l.powers);
  within : l.steps ≤ 3000 * l.power-index;
}
