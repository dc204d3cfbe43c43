-- What the owner of places and the right to give them back own and lend.
use Rattle.std.specs.Prelude.{ℕ, ◌+◌, ◌*◌, ◌^◌, List, [], ◌∷◌, length, Option, Some, None}
use base.Fraction.{full_share}
use base.Fml.{Lft, Fml, ftrue, ffalse, fsep, flt, froom}
use mir.Syntax.{Ty, ty_array, ty_int, w64}
use mir.Raw.{raw}
use denote.Builtin.{u64}
use denote.Memory.{part_at, shared_of}
use denote.Sharing.{nothing, said, beside}
use denote.RawPtr.{Ptr, block_ptr, null_ptr}

-- one place, o bytes into the block b: the word that lies there, or room for one
abbrev pub place : ℕ → ℕ → Option ℕ → Fml
place b o (Some x) = part_at u64 full_share x b o
place b o None = froom (ty_int w64) b o

-- places side by side, 8 bytes each
abbrev pub places : ℕ → ℕ → List (Option ℕ) → Fml
places b o [] = ftrue
places b o (c ∷ cs) = fsep (place b o c) (places b (o + 8) cs)

-- what a `&` has of one place
abbrev pub place_lent : ℕ → ℕ → Option ℕ → Lft → Fml
place_lent b o (Some x) = shared_of u64 x b o
place_lent b o None = nothing

abbrev pub places_lent_at : ℕ → ℕ → List (Option ℕ) → Lft → Fml
places_lent_at b o [] = nothing
places_lent_at b o (c ∷ cs) = beside (place_lent b o c) (places_lent_at b (o + 8) cs)

-- the places take fewer than 2 ^ 63 bytes
abbrev pub fit : List (Option ℕ) → Fml
fit cs = flt (length cs * 8) (2 ^ 63)

-- all places of the block at the pointer
abbrev pub places_own : Ptr → List (Option ℕ) → Fml
places_own (block_ptr b o) cs = fsep (fit cs) (places b o cs)
places_own null_ptr cs = ffalse

abbrev pub places_lent : Ptr → List (Option ℕ) → Lft → Fml
places_lent (block_ptr b o) cs = beside (said (fit cs)) (places_lent_at b o cs)
places_lent null_ptr cs = said ffalse

-- the allocator's token for a block of n places
abbrev pub deed_owns : (Ty → Ptr → Fml) → Ptr → ℕ → Fml
deed_owns token p n = token (raw (ty_array (ty_int w64) n)) p
