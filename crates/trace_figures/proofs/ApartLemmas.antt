-- A list beside another whose elements are taken apart.
use Rattle.std.proofs.Common.{List, [], ◌∷◌, map}
use Rattle.std.specs.List.{AllZip}

-- what is known of the elements of the second list, of a part of each
pub zip_part : {X Y Z : Type 0} (R : X → Y → Type 0) (Q : X → Z → Type 0) (part : Y → Z) → ((x : X) (y : Y) → R x y → Q x (part y)) → (xs : List X) (ys : List Y) → AllZip R xs ys → AllZip Q xs (map part ys)
zip_part R Q part f [] [] all = tt
zip_part R Q part f [] (y ∷ ys) all = absurd all
zip_part R Q part f (x ∷ xs) [] all = absurd all
zip_part R Q part f (x ∷ xs) (y ∷ ys) all = (f x y all.0, zip_part R Q part f xs ys all.1)
