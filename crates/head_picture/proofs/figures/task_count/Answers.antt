use Rattle.std.proofs.Common.{ℕ, List, length, ap, ◌∙◌}
use Rattle.head_picture.proofs.figures.task_count.Goals as goal

pub returns : goal.returns
returns c = c.count_of.ensures ∙ ap (λ (texts : List (List ℕ)). length texts) (c.deref.ensures.value ∙ c.in_ok-tasks.ensures)
