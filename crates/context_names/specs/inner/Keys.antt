-- Keys of names.
use Rattle.std.specs.Prelude.{ℕ, List, map}
use denote.Ref.{Bor}
use Rattle.context_names.specs.Labels.{Label}
use Rattle.context_names.specs.declared.label_key.LabelKey.{LabelKey}

-- what a key says
abbrev pub label_of_key : LabelKey → Label
label_of_key k = record { thread = k.thread; base = k.base.now }

abbrev pub labels_of_keys : List LabelKey → List Label
labels_of_keys keys = map label_of_key keys

-- the texts of references
abbrev pub lent_bases : List (Bor (List ℕ)) → List (List ℕ)
lent_bases bases = map (λ (t : Bor (List ℕ)). t.now) bases
