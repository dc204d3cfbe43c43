use Rattle.std.proofs.Common.{◌≡◌, map, take}
use Rattle.context_names.specs.Labels.{label_at}
use Rattle.context_names.specs.inner.Keys.{labels_of_keys}
use Rattle.context_names.proofs.labels.label_keys.Given as goal

-- the keys of the contexts so far
abbrev pub invariant-loop-number : goal.invariant-loop-number
invariant-loop-number l = labels_of_keys l.keys.items ≡ map (label_at l.threads l.bases) (take l.number-index l.order)
