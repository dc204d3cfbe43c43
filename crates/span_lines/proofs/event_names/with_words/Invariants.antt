use Rattle.std.proofs.Common.{◌≡◌, ◌++◌, List, ℕ, map, take}
use Rattle.span_lines.proofs.event_names.with_words.Given as goal

-- the names so far
abbrev pub invariant-loop-label : goal.invariant-loop-label
invariant-loop-label l = l.names.items ≡ map (λ (t : List ℕ). t ++ l.word) (take l.label-index l.labels)
