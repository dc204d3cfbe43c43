use Rattle.head_picture.specs.Heads.{figures_text}
use Rattle.head_picture.proofs.figures.push_figures.Goals as goal

pub returns : goal.returns
unfolding figures_text
returns c =
    rw (c.get-traces.ensures.value, c.get-median.ensures.value, c.get-floor.ensures.value, c.get-greatest.ensures.value, c.of-share.ensures, c.whole_of-all.ensures, c.get-critical.ensures.value, c.get.ensures.value, c.segments.ensures, c.report-report.ensures, c.latency-latency.ensures, c.tail.ensures)
    at c.push_pieces.ensures
