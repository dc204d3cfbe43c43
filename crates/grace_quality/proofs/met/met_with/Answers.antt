use Rattle.std.proofs.Common.{◌+◌, ◌∙◌, ap, arith, sym, ℕ}
use Rattle.std.specs.List.{range_with_len, sum_by}
use Rattle.name_meetings.specs.Tables.{figures_of}
use Rattle.grace_quality.specs.Near.{met_of}
use Rattle.grace_quality.proofs.NearLemmas.{sum_more}
use Rattle.grace_quality.proofs.met.met_with.Goals as goal

pub seconds-preserved : goal.seconds-preserved
seconds-preserved c =
    let first = c.args.first in
    let second = c.seconds.second in
    let counts : ℕ → ℕ = λ b. met_of first b (figures_of c.args.table.now first b) in
    record {
      count =
          ap (λ n. n + c.met_of-met.result) c.seconds.invariant.count
          ∙ ap (λ n. sum_by counts (range_with_len 0 second) + n) (c.met_of-met.ensures.count ∙ ap (met_of first second) c.between.ensures)
          ∙ sym (sum_more counts second);
      few = omega (arith, c.seconds.invariant.few, c.met_of-met.ensures.few);
    }
