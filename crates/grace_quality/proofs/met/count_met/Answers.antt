use Rattle.std.proofs.Common.{◌+◌, ◌∙◌, ap, arith, sym, ℕ}
use Rattle.std.specs.List.{range_with_len, sum_by}
use Rattle.name_meetings.specs.Tables.{figures_of}
use Rattle.grace_quality.specs.inner.Listings.{met_with}
use Rattle.grace_quality.proofs.NearLemmas.{sum_more}
use Rattle.grace_quality.proofs.met.count_met.Goals as goal

pub firsts-preserved : goal.firsts-preserved
firsts-preserved c =
    let first = c.firsts.first in
    let counts : ℕ → ℕ = met_with (figures_of c.args.table.now) c.args.names in
    record {
      count =
          ap (λ n. n + c.met_with-met.result) c.firsts.invariant.count
          ∙ ap (λ n. sum_by counts (range_with_len 0 first) + n) c.met_with-met.ensures.count
          ∙ sym (sum_more counts first);
      few = omega (arith, c.firsts.invariant.few, c.met_with-met.ensures.few, c.requires.few);
    }
