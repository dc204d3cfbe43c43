use Rattle.std.proofs.Common.{ap, ◌∙◌}
use Rattle.mystery_io.specs.Histories.{readings_of}
use Rattle.mystery_io.specs.Readings.{after_read}
use Rattle.mystery_io.specs.Taken.{bytes_of}
use Rattle.mystery_io.proofs.history.History.give.Goals as goal

pub returns : goal.returns
unfolding readings_of
returns c =
    ap (λ h. after_read (readings_of h) (bytes_of c.of-piece-2.result.value)) c.of-before.ensures
    ∙ ap (λ xs. after_read (readings_of c.args.self.now) xs) (ap bytes_of c.of-piece-2.ensures ∙ c.of-piece.ensures)
