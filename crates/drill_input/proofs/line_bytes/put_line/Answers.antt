use Rattle.drill_input.proofs.LineLemmas.{line_appended}
use Rattle.drill_input.proofs.line_bytes.put_line.Goals as goal

pub returns : goal.returns
returns c = line_appended _ c.args.index _ c.args.line.now _ _ _ _ _ _ _ _ _ _ _ c.from.ensures c.line.view_is c.in_ok-extend_from_slice.ensures.items c.in_ok-put_number.ensures c.in_ok-extend_from_slice-2.ensures.items c.in_ok-put_member.ensures c.in_ok-put_member-2.ensures c.in_ok-put_member-3.ensures c.in_ok-extend_from_slice-3.ensures.items c.in_ok-put_number-2.ensures c.in_ok-put_message.ensures c.in_ok-extend_from_slice-4.ensures.items
