use Rattle.refute_picture.specs.Refutes.{witness_text}
use Rattle.refute_picture.proofs.table.push_witness.Goals as goal

pub returns : goal.returns
unfolding witness_text
returns c = rw (c.as_str.ensures, c.get-day.ensures.value, c.get-index.ensures.value, c.get-both.ensures.value) at c.push_pieces.ensures
