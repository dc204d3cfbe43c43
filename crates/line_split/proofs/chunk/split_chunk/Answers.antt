use Rattle.std.proofs.Common.{arith}
use Rattle.line_split.proofs.chunk.split_chunk.Goals as goal

pub returns-clause-fits : goal.returns-clause-fits
returns-clause-fits g c = (c.split_any_lines.ensures.split c.args.first (omega (arith, c.ranges.first.fits))).fits

pub returns-clause-counted : goal.returns-clause-counted
returns-clause-counted g c = (c.split_any_lines.ensures.split c.args.first (omega (arith, c.ranges.first.fits))).counted

pub returns-clause-unread : goal.returns-clause-unread
returns-clause-unread g c = (c.split_any_lines.ensures.split c.args.first (omega (arith, c.ranges.first.fits))).unread
