use Rattle.std.proofs.Common.{◌-◌}
use Rattle.batch_sheets.proofs.known_names.+fn-name_known_parts-join+arg3+name_known_parts.Given as goal

abbrev pub decreases-name_known_parts : goal.decreases-name_known_parts
decreases-name_known_parts g l = l.parts

abbrev pub decreases-join+arg3 : goal.decreases-join+arg3
decreases-join+arg3 g l = l.parts - 1
