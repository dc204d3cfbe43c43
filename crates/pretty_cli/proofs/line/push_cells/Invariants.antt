use Rattle.std.proofs.Common.{◌≡◌, ◌++◌, take}
use Rattle.std.specs.List.{flat_map}
use Rattle.std.specs.Prelude.{string_bytes}
use Rattle.pretty_cli.specs.Lines.{set_cell}
use Rattle.pretty_cli.proofs.line.push_cells.Given as goal

-- the columns so far
abbrev pub invariant-cells : goal.invariant-cells
invariant-cells l =
    string_bytes l.line ≡ string_bytes l.fn.line ++ flat_map set_cell (take l.cell-index l.cells)
