use Rattle.std.proofs.Common.{◌≡◌, ◌++◌, ◌∙◌, List, ℕ, Option, ap, codes, sym, rules}
use Rattle.std.specs.Prelude.{FitsSigned}
use mir.Syntax.{w128}
use mir.Val.{to_z, of_z}
use Rattle.std.proofs.lemmas.Int.{to_z-of_z}
use Rattle.machine_quality.specs.declared.machine_tally.OffsetRange.{OffsetRange}
use Rattle.inspect_run.specs.declared.level.Level.TheVariants.{Fine}
use Rattle.inspect_run.specs.MachineRows.{range_row}
use Rattle.inspect_run.specs.Rows.{signed_row_text}
use Rattle.inspect_run.proofs.ResultLemmas.{on_ok_with}
use Rattle.inspect_run.proofs.machine_rows.push_range.Goals as goal

pub returns-in-Some : goal.returns-in-Some
returns-in-Some c =
    let r : OffsetRange = c.in-Some.field-0 in
    let old : List ℕ = c.args.text.now.items in
    let new : List ℕ = c.push_signed_row.new.text.items in
    let machine : List ℕ = c.args.machine.now in
    let least_fits : FitsSigned w128 c.in-Some.field-0.least = search rules in
    let greatest_fits : FitsSigned w128 c.in-Some.field-0.greatest = search rules in
    let least : to_z w128 (of_z w128 r.least) ≡ r.least = to_z-of_z w128 r.least least_fits in
    let greatest : to_z w128 (of_z w128 r.greatest) ≡ r.greatest = to_z-of_z w128 r.greatest greatest_fits in
    on_ok_with {A = new ≡ old ++ signed_row_text (codes "clock") Fine (to_z w128 (of_z w128 r.least)) (to_z w128 (of_z w128 r.greatest)) machine (codes "least and greatest offset")} {B = new ≡ old ++ range_row machine c.args.range} c.push_signed_row.result
    (λ h. h ∙ (λ i. old ++ signed_row_text (codes "clock") Fine (least i) (greatest i) machine (codes "least and greatest offset"))
    ∙ ap (λ (o : Option OffsetRange). old ++ range_row machine o) (sym c.in-Some.is))
    c.push_signed_row.ensures
