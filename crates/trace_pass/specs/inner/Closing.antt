-- What a table that was not closed gave back.
use Rattle.std.specs.Prelude.{◌≡◌, ℕ, ◌≤◌, List}
use Rattle.hypothesis_index.specs.Places.{width_of}
use Rattle.trace_types.specs.declared.named_trace.NamedTrace.{NamedTrace}
use Rattle.word_rule.specs.Holdings.{Holding, Opened}
use Rattle.word_rule.specs.declared.closing.CloseFault.{CloseFault}
use Rattle.word_rule.specs.declared.closing.CloseFault.TheVariants.{Memory, PassesOut}
use Rattle.trace_pass.specs.Rows.{AreRowsWithin}

-- the table is that of a recorder for so many names, and the pass is that of a recording of these
-- traces
pub record AreParts (names : ℕ) (traces : List NamedTrace) (table : Opened) (pass : Holding)
    : Type 0 where
  pub few : names ≤ 512
  pub width : table.width ≡ width_of names
  pub rows : AreRowsWithin names traces pass.view.done

-- so are those that came back
abbrev pub HasParts : ℕ → List NamedTrace → CloseFault → Type 0
HasParts names traces (Memory table pass) = AreParts names traces table pass
HasParts names traces (PassesOut table pass have all) = AreParts names traces table pass
