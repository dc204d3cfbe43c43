use Rattle.view_page.proofs.view.view_rows.Goals as goal

pub returns-clause-drawn : goal.returns-clause-drawn
returns-clause-drawn c = (_, c.in_ok-page.ensures.read, c.in_ok-draw_page.ensures)
