use Rattle.std.proofs.Common.{refl, ap, ◌∙◌}
use Rattle.recording_checks.proofs.HoldingLemmas.{held-none}
use Rattle.recording_checks.proofs.pools.live_rows_keep_their_words_through_three_rounds.Goals as goal

pub rounds-init : goal.rounds-init
rounds-init g c =
    record {
      width = ap (λ p. p.width) c.in_ok-reserve.ensures.ok ∙ ap (λ p. p.width) c.new-pool.ensures;
      held = held-none _ _ 8 refl;
      ids = refl;
      words = refl;
    }
