-- What came of one file.
use Rattle.std.proofs.Common.{◌≡◌, ℕ, ◌+◌, ◌<◌, ◌≤◌, ◌==◌, ◌++◌, List, [], ◌∷◌, Bool, false, length, take, drop, refl, sym, ap, ◌∙◌, arith, take-add}
use Rattle.std.proofs.lemmas.List.{append-nil, drop_all, length-append, length-drop, length-take, take_all, take_at}
use Rattle.mystery_io.specs.Readings.{Reading, after_read}
use Rattle.mystery_io.proofs.ReadGivenLemmas.{to_last}
use Rattle.whole_files.specs.declared.file_read_fault.FileReadFault.{FileReadFault}
use Rattle.whole_files.specs.declared.file_read_fault.FileReadFault.TheVariants.{TooBig}
use Rattle.whole_files.specs.FileReadings.{Came, FailsAfter, ReadsPiece}

pub came_more : (name old new : List ℕ) (count : ℕ) (before mid now : List Reading) → Came name old false before mid → ReadsPiece count old new mid now → Came name new (count == 0) before now
came_more name old new count before mid now came h =
    h.given ∙ ap (λ rs. after_read rs h.piece) came ∙ to_last before (record { name = name; bytes = old; at_end = false }) h.piece (length h.piece == 0)
    ∙ (λ i. before ++ record { name = name; bytes = (sym h.appended) i; at_end = h.size i == 0 } ∷ [])

pub fails_with : (most : ℕ) (name bytes : List ℕ) (at_end : Bool) (before now : List Reading) (fault : FileReadFault) → Came name bytes at_end before now → (fault ≡ TooBig → most < length bytes) → FailsAfter most name before now fault
fails_with most name bytes at_end before now fault came passes = record {
  reading = record { name = name; bytes = bytes; at_end = at_end };
  named = refl;
  given = came;
  passes = passes;
}

pub longer : (old new : List ℕ) (count : ℕ) (before now : List Reading) → ReadsPiece count old new before now → length new ≡ length old + count
longer old new count before now h = omega (arith, ap length h.appended, length-append old h.piece, h.size)

-- what a read left in a buffer behind the bytes so far
pub piece_read : (n count room : ℕ) (old zeros grown buffer new : List ℕ) (len : ℕ) (before now : List Reading) → n ≡ length old → grown ≡ take (n + room) old ++ zeros → len ≡ length grown → length buffer ≡ length grown
    → take n buffer ≡ take n grown → n + count ≤ length buffer → new ≡ take (n + count) (take len (buffer ++ drop (length buffer) grown)) → now ≡ after_read before (take count (drop n buffer)) → ReadsPiece count old new before now
piece_read n count room old zeros grown buffer new len before now size is full long kept within cut given =
    let none : drop (length buffer) grown ≡ [] = drop_all (length buffer) grown (omega (arith, long)) in
    let all : take len (buffer ++ drop (length buffer) grown) ≡ buffer = ap (λ zs. take len (buffer ++ zs)) none ∙ ap (take len) (append-nil buffer) ∙ take_all len buffer (omega (arith, full, long)) in
    let first : take n grown ≡ old = ap (take n) (is ∙ ap (λ xs. xs ++ zeros) (take_all (n + room) old (omega (arith, size)))) ∙ take_at old zeros n (sym size) in
    record {
      piece = take count (drop n buffer);
      size = omega (arith, length-take count (drop n buffer), length-drop n buffer, within);
      appended = cut ∙ ap (take (n + count)) all ∙ take-add n count buffer ∙ ap (λ xs. xs ++ take count (drop n buffer)) (kept ∙ first);
      given = given;
    }
