-- The faults of a step, as the program names them.
use Rattle.std.specs.Prelude.{◌≡◌, Err}
use Rattle.word_rows.specs.declared.events.StepEvent.{StepEvent}
use Rattle.word_rows.specs.Machine.{StepState, no_seat, row_open, bad_share, bad_word, shares_out, step}
use Rattle.step_core.specs.declared.step_fault.StepFault.{StepFault}
use Rattle.step_core.specs.declared.step_fault.StepFault.TheVariants.{Memory, NoSeat, BadShare, BadWord, SharesOut, RowOpen}

-- the event has this fault in this state, and changes nothing; out of memory may come at any event
abbrev pub HasStepFault : StepState → StepEvent → StepFault → Type 0
HasStepFault s e Memory = Unit {0}
HasStepFault s e (NoSeat seat) = step s e ≡ (s, Err (no_seat seat))
HasStepFault s e (BadShare have asked) = step s e ≡ (s, Err (bad_share have asked))
HasStepFault s e (BadWord word width) = step s e ≡ (s, Err (bad_word word width))
HasStepFault s e (SharesOut have all) = step s e ≡ (s, Err (shares_out have all))
HasStepFault s e (RowOpen seat) = step s e ≡ (s, Err (row_open seat))
