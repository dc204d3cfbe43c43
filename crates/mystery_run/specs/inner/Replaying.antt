-- What the steps of printing a replay do.
use Rattle.std.specs.Prelude.{ℕ, List, [], map}
use Rattle.std.specs.List.{concat, zip}
use Rattle.word_rows.specs.declared.events.StepEvent.{StepEvent}
use Rattle.word_rows.specs.Machine.{StepState, no_seat, row_open, bad_share, bad_word, shares_out}
use Rattle.word_rows.specs.Machine.{steps}
use Rattle.step_core.specs.declared.step_fault.StepFault.{StepFault}
use Rattle.step_core.specs.declared.step_fault.StepFault.TheVariants.{Memory, NoSeat, BadShare}
use Rattle.step_core.specs.declared.step_fault.StepFault.TheVariants.{BadWord, SharesOut, RowOpen}
use Rattle.mystery_run.specs.ReplayTexts.{fault_row, step_row}

-- the row of a fault of the machine; an allocation failure has none
abbrev pub row_of_fault : StepFault → List ℕ
row_of_fault Memory = []
row_of_fault (NoSeat seat) = fault_row (no_seat seat)
row_of_fault (BadShare have asked) = fault_row (bad_share have asked)
row_of_fault (BadWord word width) = fault_row (bad_word word width)
row_of_fault (SharesOut have all) = fault_row (shares_out have all)
row_of_fault (RowOpen seat) = fault_row (row_open seat)

-- the text of steps that are made from a state
abbrev pub steps_text : StepState → List StepEvent → List ℕ
steps_text s events = concat (map step_row (zip events (steps s events).1))
