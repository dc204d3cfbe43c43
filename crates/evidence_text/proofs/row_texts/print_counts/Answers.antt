use Rattle.evidence_text.proofs.row_texts.print_counts.Goals as goal

pub returns : goal.returns
returns g c = rw (c.from.ensures) at c.print_row.ensures.prints
