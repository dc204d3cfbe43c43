use Rattle.std.proofs.Common.{ℕ, List, length, ap, ◌∙◌}
use Rattle.graph_picture.proofs.graph.arrow_count.Goals as goal

pub returns : goal.returns
returns c = c.count_of.ensures ∙ ap (λ (l : List (ℕ × ℕ)). length l) c.deref.ensures.value
