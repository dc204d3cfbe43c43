use Rattle.std.proofs.Common.{ap, ◌∙◌}
use Rattle.mystery_io.specs.Histories.{readings_of}
use Rattle.mystery_io.specs.Readings.{after_open}
use Rattle.mystery_io.specs.Taken.{bytes_of}
use Rattle.mystery_io.proofs.history.History.open.Goals as goal

pub returns : goal.returns
unfolding readings_of
returns c =
    ap (λ h. after_open (readings_of h) (bytes_of c.of-name-2.result.value)) c.of-before.ensures
    ∙ ap (λ xs. after_open (readings_of c.args.self.now) xs) (ap bytes_of c.of-name-2.ensures ∙ c.of-name.ensures)
