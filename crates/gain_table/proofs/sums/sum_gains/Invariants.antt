use Rattle.std.proofs.Common.{◌≡◌, ◌≤◌, ◌<◌, ◌*◌, ◌^◌, ℕ, length, map, take}
use Rattle.std.specs.Borrow.{Bor}
use Rattle.std.specs.List.{AllZip}
use Rattle.model_meet.specs.ModelStates.{ModelState}
use Rattle.model_meet.specs.RelationBits.{KeepsExclusion}
use Rattle.trace_figures.specs.Measured.{IsMeasured}
use Rattle.trace_types.specs.declared.named_trace.NamedTrace.{NamedTrace}
use Rattle.gain_table.specs.GainRows.{AreGainRows}
use Rattle.gain_table.specs.inner.Growing.{row_at}
use Rattle.gain_table.proofs.sums.sum_gains.Given as goal

-- the rows over the traces so far
abbrev pub invariant-traces : goal.invariant-traces
invariant-traces l = record {
  count : length l.rows.items ≡ l.names;
  none : (name : ℕ) → name < l.names → (row_at l.rows.items name).none ≤ l.index * 2 ^ 64;
  half : (name : ℕ) → name < l.names → (row_at l.rows.items name).half ≤ l.index * 2 ^ 64;
  sums : (model : ModelState) → AllZip (λ (t : Bor NamedTrace) f. IsMeasured model t.now f) l.traces l.figures
      → AreGainRows (KeepsExclusion model.words) (map (λ (t : Bor NamedTrace). t.now) (take l.index l.traces)) l.names l.rows.items;
}
