-- The items of an array.
use Rattle.std.proofs.Common.{◌≡◌, List, [], ◌∷◌, refl, ap}
use Rattle.json.specs.Json.{Json}
use Rattle.json.specs.Value.{items_of}
use Rattle.span_text.specs.Members.{list_of}

pub listed : (js : List Json) → list_of (items_of js) ≡ js
listed [] = refl
listed (j ∷ js) = ap (λ ks. j ∷ ks) (listed js)
