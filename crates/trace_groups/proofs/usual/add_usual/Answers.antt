use Rattle.std.proofs.Common.{◌≡◌, ◌+◌, ◌&&◌, ◌∙◌, Bool, true, false, ap, refl, sym}
use Rattle.trace_quality.specs.Measures.{one_if}
use Rattle.trace_groups.specs.inner.Counts.{is_usual_row, total_in}
use Rattle.trace_groups.specs.inner.Names.{is_name}
use Rattle.trace_groups.proofs.PairLemmas.{name_turn}
use Rattle.trace_groups.proofs.usual.add_usual.Goals as goal

and_true : (a : Bool) → a ≡ (a && true)
and_true true = refl
and_true false = refl

pub returns-in_ok-count_key : goal.returns-in_ok-count_key
returns-in_ok-count_key c name =
    c.in_ok-count_key.ensures name
    ∙ ap (λ b. total_in c.args.totals.now name + one_if b) (name_turn c.args.row.0 name ∙ and_true (is_name name c.args.row.0) ∙ ap (λ b. is_name name c.args.row.0 && b) (sym c.if-is_usual.true ∙ c.is_usual.ensures))
