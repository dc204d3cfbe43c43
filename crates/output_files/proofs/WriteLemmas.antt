-- How a list of files changes where one of them is written.
use Rattle.std.proofs.Common.{◌≡◌, ◌<◌, ◌+◌, ℕ, zero, suc, List, [], ◌∷◌, ◌++◌, length, get_or, set, map, take, drop, ap, arith, refl, sym, ◌∙◌, append-nil, append_assoc, take-add}
use Rattle.output_files.specs.Written.{WrittenFile, after_write}

pub written : {X : Type 0} (tell : X → WrittenFile) (xs : List X) (i : ℕ) (x y : X) (more : List ℕ) → i < length xs → x ≡ get_or xs i x
    → tell y ≡ record { name = (tell x).name; bytes = (tell x).bytes ++ more } → map tell (set xs i y) ≡ after_write (map tell xs) i more
written tell [] i x y more within is e = absurd (omega arith)
written tell (z ∷ xs) zero x y more within is e =
    ap (λ (f : WrittenFile). f ∷ map tell xs) (e ∙ ap (λ x. record { name = (tell x).name; bytes = (tell x).bytes ++ more }) is)
written tell (z ∷ xs) (suc i) x y more within is e = ap (λ fs. tell z ∷ fs) (written tell xs i x y more (omega arith) is e)

-- nothing was written
pub written_none : (files : List WrittenFile) (i : ℕ) → after_write files i [] ≡ files
written_none [] i = refl
written_none (f ∷ fs) zero = ap (λ (b : List ℕ). record { name = f.name; bytes = b } ∷ fs) (append-nil f.bytes)
written_none (f ∷ fs) (suc i) = ap (λ gs. f ∷ gs) (written_none fs i)

pub length-after_write : (files : List WrittenFile) (i : ℕ) (more : List ℕ) → length (after_write files i more) ≡ length files
length-after_write [] i more = refl
length-after_write (f ∷ fs) zero more = refl
length-after_write (f ∷ fs) (suc i) more = ap suc (length-after_write fs i more)

-- two pieces, one after another
pub written_twice : (files : List WrittenFile) (i : ℕ) (a b : List ℕ) → after_write (after_write files i a) i b ≡ after_write files i (a ++ b)
written_twice [] i a b = refl
written_twice (f ∷ fs) zero a b = ap (λ (c : List ℕ). record { name = f.name; bytes = c } ∷ fs) (append_assoc f.bytes a b)
written_twice (f ∷ fs) (suc i) a b = ap (λ gs. f ∷ gs) (written_twice fs i a b)

-- one piece more
pub written_more : (old mid new : List WrittenFile) (i : ℕ) (bytes piece : List ℕ) (sent n : ℕ) → new ≡ after_write mid i (take n piece) → mid ≡ after_write old i (take sent bytes) → piece ≡ drop sent bytes
    → new ≡ after_write old i (take (sent + n) bytes)
written_more old mid new i bytes piece sent n e f p =
    e ∙ ap (λ (fs : List WrittenFile). after_write fs i (take n piece)) f ∙ written_twice old i (take sent bytes) (take n piece)
    ∙ ap (after_write old i) (ap (λ xs. take sent bytes ++ take n xs) p ∙ sym (take-add sent n bytes))
