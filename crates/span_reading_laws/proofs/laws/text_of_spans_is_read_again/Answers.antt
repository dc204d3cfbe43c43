use Rattle.span_reading_laws.proofs.TextLemmas.{read_again}
use Rattle.span_reading_laws.proofs.laws.text_of_spans_is_read_again.Goals as goal

pub returns : goal.returns
returns c = read_again c.lines_are_good.ensures c.good_lines_are_read_again.ensures
