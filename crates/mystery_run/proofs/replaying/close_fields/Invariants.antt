use Rattle.std.proofs.Common.{◌≡◌, ◌∷◌, map, take}
use Rattle.std.specs.Prelude.{codes, decimal}
use Rattle.text_rows.specs.Fields.{field_text}
use Rattle.mystery_run.proofs.replaying.close_fields.Given as goal

-- the fields so far
abbrev pub invariant-loop-word : goal.invariant-loop-word
invariant-loop-word l = map field_text l.fields.items ≡ codes "closed" ∷ decimal l.seat ∷ map (λ text. text.bytes) (take l.word-index l.words)
