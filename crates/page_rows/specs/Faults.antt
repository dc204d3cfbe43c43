-- Why a text was not read.
use Rattle.std.specs.Prelude.{◌≡◌, ⊤, Result, Err}
use Rattle.page_rows.specs.declared.row_fault.RowFault.{RowFault}
use Rattle.page_rows.specs.declared.row_fault.RowFault.TheVariants as faults
use Rattle.page_rows.specs.declared.why.Why.{Why}

-- why a row was not read: out of memory, or what is wrong with its line
abbrev pub IsRowFault : {X : Type 0} → Result X Why → RowFault → Type 0
IsRowFault said faults.Memory = ⊤
IsRowFault said (faults.Bad why) = said ≡ Err why
