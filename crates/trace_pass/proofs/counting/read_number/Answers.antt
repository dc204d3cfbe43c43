use Rattle.std.proofs.Common.{arith, ◌≡◌, ℕ, ap, length, subst, sym, ◌∙◌}
use Rattle.std.proofs.lemmas.Bool.{or_left}
use Rattle.hypothesis_index.specs.Places.{width_of}
use Rattle.trace_rules.specs.Hypotheses.{IsAtLeastRefuted}
use Rattle.trace_types.specs.Parts.{by_number}
use Rattle.trace_pass.specs.inner.Parts.{recording_of}
use Rattle.trace_pass.proofs.PlaceLemmas.{few_words, least_refuted}
use Rattle.trace_pass.proofs.counting.read_number.Goals as goal

pub count_zeros-requires : goal.count_zeros-requires
count_zeros-requires c =
    let few = few_words c.pairs_follow.ensures c.args.recorder.now.names c.width.ensures.few in
    let wide : length c.read_part.new.into ≡ width_of c.args.recorder.now.names = omega arith in
    omega arith

pub returns-clause-least : goal.returns-clause-least
returns-clause-least c =
    let wide : length c.read_part.new.into ≡ width_of c.args.recorder.now.names = omega arith in
    let names : c.args.recorder.now.names ≡ c.args.part.now.names = sym c.requires.table.names in
    subst (λ (n : ℕ). IsAtLeastRefuted by_number (recording_of c.args.part.now).traces n) (sym c.count_zeros.ensures.count)
    (least_refuted c.places_differ.ensures c.places_fit.ensures c.clears_below.ensures c.rows_clear_refuted.ensures c.args.part.now.names (recording_of c.args.part.now).traces _ c.read_part.new.into c.shares.ensures.rows.rows
    (wide ∙ ap width_of names) c.count_zeros.ensures.bound
    (λ i b l h e. c.read_part.ensures.shown i b l h (or_left _ _ (or_left _ _ e))))
