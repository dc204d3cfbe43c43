use Rattle.std.proofs.Common.{length}
use Rattle.batch_sheets.proofs.naming.+name_windows.Given as goal

abbrev pub decreases-name_windows : goal.decreases-name_windows
decreases-name_windows g l = length l.traces.items
