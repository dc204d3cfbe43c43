use Rattle.event_lines.proofs.ConvertingLemmas.{whole_number}
use Rattle.event_lines.proofs.flat_lines.whole_number.Goals as goal

pub returns : goal.returns
returns c = whole_number c.args.bytes.now c.to_u64.result c.if-has_minus.ensures (rw c.scan.ensures.parts at c.to_u64.ensures)
