-- Clauses on results.
use Rattle.std.proofs.Common.{◌≡◌, List, Result, Ok, Err, length, subst, sym}
use Rattle.std.specs.List.{AllZip}
use Rattle.std.specs.Result.{IfOk, OnOk}
use Rattle.std.proofs.lemmas.Slice.Zip.{AllZip-long}

-- what holds of a value holds of what is equal to it, where there is a result
pub if_ok_with : {G E T : Type 0} (r : Result G E) (value : G → T) (P : T → Type 0) (x : T) → IfOk r (λ g. value g ≡ x) → P x → IfOk r (λ g. P (value g))
if_ok_with (Ok g) value P x e h = subst P (sym e) h
if_ok_with (Err fault) value P x e h = tt

-- what follows from what holds with a result holds with it
pub on_ok_with : {G E A B : Type 0} (r : Result G E) → (A → B) → OnOk r A → OnOk r B
on_ok_with (Ok g) f h = f h
on_ok_with (Err fault) f h = tt

-- lists that match one by one are as long
pub as_long : {G E X Y : Type 0} (r : Result G E) (R : X → Y → Type 0) (items : G → List Y) (xs : List X) → IfOk r (λ g. AllZip R xs (items g)) → IfOk r (λ g. length (items g) ≡ length xs)
as_long (Ok g) R items xs h = AllZip-long R xs (items g) h
as_long (Err fault) R items xs h = tt
