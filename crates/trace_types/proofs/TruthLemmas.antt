-- Facts on truth values, options and results.
use Rattle.std.proofs.Common.{◌≡◌, Bool, true, false, refl, T, Result, Ok, Err, OnErr, ◌||◌, ◌&&◌, sym, Some}
use Rattle.std.specs.Prelude.{OnOk, IfOk}
use Rattle.std.proofs.lemmas.Bool.{false≢true}

pub false_from_not : (b : Bool) → (b ≡ true → ⊥) → b ≡ false
false_from_not true h = absurd (h refl)
false_from_not false h = refl

pub is_true : (b : Bool) → T b → b ≡ true
is_true true h = refl
is_true false h = absurd h

-- what follows from what a call ensures
pub on_ok : {T E : Type 0} (r : Result T E) (P Q : Type 0) → (P → Q) → OnOk r P → OnOk r Q
on_ok (Ok x) P Q f h = f h
on_ok (Err e) P Q f h = tt

pub on_err : {A E : Type 0} (r : Result A E) (P Q : Type 0) → (P → Q) → OnErr r P → OnErr r Q
on_err (Ok a) P Q f h = h
on_err (Err e) P Q f h = f h

pub or_true : (b : Bool) → (b || true) ≡ true
or_true true = refl
or_true false = refl

pub and_false : (a : Bool) → (a && false) ≡ false
and_false true = refl
and_false false = refl

pub both_hold : (a b : Bool) → (a && b) ≡ true → (a ≡ true) × (b ≡ true)
both_hold true b e = (refl, e)
both_hold false b e = absurd (false≢true e)

-- two tests with one truth are one
pub by_truth : (a b : Bool) → (a ≡ true → b ≡ true) → (b ≡ true → a ≡ true) → a ≡ b
by_truth true b f g = sym (f refl)
by_truth false true f g = g refl
by_truth false false f g = refl

pub some_same : {X : Type 0} (a b : X) → Some a ≡ Some b → a ≡ b
some_same a b h = cc

-- each of four fails a test
pub four_fail : (a b c d : Bool) → (a || (b || (c || (d || false)))) ≡ false → (a ≡ false) × (b ≡ false) × (c ≡ false) × (d ≡ false)
four_fail true b c d h = absurd (cc h)
four_fail false true c d h = absurd (cc h)
four_fail false false true d h = absurd (cc h)
four_fail false false false true h = absurd (cc h)
four_fail false false false false h = (refl, refl, refl, refl)

pub if_ok : {T E : Type 0} (r : Result T E) (P Q : T → Type 0) → ((x : T) → P x → Q x) → IfOk r P → IfOk r Q
if_ok (Ok x) P Q f h = f x h
if_ok (Err e) P Q f h = h
