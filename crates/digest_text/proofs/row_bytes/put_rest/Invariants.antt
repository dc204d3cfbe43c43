use Rattle.std.proofs.Common.{◌≡◌, ◌++◌, ◌∷◌, take}
use Rattle.std.specs.List.{flat_map}
use Rattle.digest_text.proofs.row_bytes.put_rest.Given as goal

-- the fields so far
abbrev pub invariant-loop-field : goal.invariant-loop-field
invariant-loop-field l = l.bytes.items ≡ l.fn.bytes.items ++ flat_map (λ f. 9 ∷ f.now) (take l.field-index l.fields)
