use Rattle.std.proofs.Common.{◌≡◌, ◌-◌, drop, length}
use Rattle.context_names.specs.Scattering.{scattered}
use Rattle.context_names.proofs.scattering.write_values.Given as goal

-- the values of the last numbers so far are written
abbrev pub invariant-loop-left : goal.invariant-loop-left
invariant-loop-left l = record {
  size : length l.all ≡ length l.initial.all;
  written : l.all ≡ scattered (length l.initial.all) (drop (length l.numbers - l.left) l.numbers) (drop (length l.numbers - l.left) l.values);
}
