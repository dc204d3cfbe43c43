-- Why a table was not closed, and what is given back.
use Rattle.std.specs.Prelude.{◌≡◌, ◌<◌, ◌≤◌}
use Rattle.word_rule.specs.Holdings.{Holding, Opened}
use Rattle.word_rule.specs.declared.closing.CloseFault.{CloseFault}
use Rattle.word_rule.specs.declared.closing.CloseFault.TheVariants.{Memory, PassesOut}

-- the pass has fewer than all shares, or it has all and memory ran out; the table and the pass come
-- back unchanged
abbrev pub IsCloseFault : Opened → Holding → CloseFault → Type 0
IsCloseFault table pass (Memory table' pass') = (table.all ≤ pass.view.shares) × (table' ≡ table)
    × (pass' ≡ pass)
IsCloseFault table pass (PassesOut table' pass' have all) = (pass.view.shares < table.all)
    × (have ≡ pass.view.shares) × (all ≡ table.all) × (table' ≡ table) × (pass' ≡ pass)
