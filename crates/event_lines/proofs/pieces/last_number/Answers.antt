use Rattle.std.proofs.Common.{arith}
use Rattle.std.proofs.lemmas.List.Splits.{length-slice_split}
use Rattle.std.proofs.lemmas.List.Sums.{length-filter}
use Rattle.event_lines.specs.Cut.{is_line_feed}
use Rattle.event_lines.proofs.pieces.last_number.Goals as goal

pub returns-clause-last : goal.returns-clause-last
returns-clause-last c =
    omega (arith, c.count_line_feeds.ensures.count, length-filter is_line_feed c.args.bytes.now, length-slice_split is_line_feed c.args.bytes.now)
