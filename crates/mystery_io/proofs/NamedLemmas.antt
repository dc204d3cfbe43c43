-- Where a file of a name stands.
use Rattle.std.proofs.Common.{◌≡◌, ℕ, zero, suc, ◌<◌, List, [], ◌∷◌, length, drop, get_or, true, Some, arith, refl, sym, ap}
use Rattle.std.specs.Prelude.{slice_get}
use Rattle.std.specs.Str.{bytes_eq}
use Rattle.mystery_io.specs.declared.mem_file.MemFile.{MemFile}
use Rattle.mystery_io.specs.NamedBytes.{file_named}

-- the file at a place is there
pub got_here : (files : List MemFile) (i : ℕ) (f : MemFile) → i < length files → f ≡ get_or files i f → slice_get files i ≡ Some f
got_here [] i f lt is = absurd (omega arith)
got_here (g ∷ files) zero f lt is = ap Some (sym is)
got_here (g ∷ files) (suc i) f lt is = got_here files i f (omega arith) is

-- the file at a place is the first of those from it on, where it has the name
pub named_here : (files : List MemFile) (i : ℕ) (f : MemFile) (name : List ℕ) → i < length files → f ≡ get_or files i f → bytes_eq f.name name ≡ true → file_named (drop i files) name ≡ Some f
named_here [] i f name lt is eq = absurd (omega arith)
named_here (g ∷ files) zero f name lt is eq = rw (← is, eq) refl
named_here (g ∷ files) (suc i) f name lt is eq = named_here files i f name (omega arith) is eq
