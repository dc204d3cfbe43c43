use Rattle.std.proofs.Common.{List, ℕ, ◌∷◌, [], subst}
use Rattle.word_rows.specs.Words.{IsMeet}
use Rattle.task_sharings.proofs.PipeLemmas.{pipes_told}
use Rattle.task_sharings.proofs.pipes.words_of.Goals as goal

pub returns : goal.returns
returns c = pipes_told c.places_fit.ensures c.places_differ.ensures c.args.trace.now c.in_ok-row.row c.meet_row.new.self c.in_ok-row.ensures.exact
    (subst (λ (l : List ℕ). IsMeet l (c.in_ok-row.row ∷ []) c.meet_row.new.self) c.in_ok-words.ensures c.meet_row.ensures)
