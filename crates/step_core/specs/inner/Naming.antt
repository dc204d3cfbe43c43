-- The program's names for the faults of the definition.
use Rattle.word_rows.specs.Machine.{Fault, no_seat, row_open, bad_share, bad_word, shares_out}
use Rattle.step_core.specs.declared.step_fault.StepFault.{StepFault}
use Rattle.step_core.specs.declared.step_fault.StepFault.TheVariants.{NoSeat, BadShare, BadWord, SharesOut, RowOpen}

-- the fault as the program names it
abbrev pub step_fault : Fault → StepFault
step_fault (no_seat seat) = NoSeat seat
step_fault (row_open seat) = RowOpen seat
step_fault (bad_share have asked) = BadShare have asked
step_fault (bad_word word width) = BadWord word width
step_fault (shares_out have all) = SharesOut have all
