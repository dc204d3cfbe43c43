-- The parts of a block may cross threads: words may, and the right to give a block back where its allocator may.
use Rattle.std.specs.Prelude.{ℕ, ◌+◌, List, [], ◌∷◌, Option, Some, None}
use base.Fraction.{full_share}
use base.Shift.{Keyless}
use denote.Builtin.{u64}
use denote.RattleType.{RattleType}
use denote.RawPtr.{Ptr, block_ptr, null_ptr}
use denote.Struct.Struct.{exits_of}
use denote.Struct.Owning.{shape, fields, to}
use denote.Param.Send.{IsSend, IsSync, Common, AllSend, part_keyless, owning_send, struct_send, struct_sync, sendable}
use Rattle.core.specs.declared.alloc.Allocator.{Ghosts}
use Rattle.std_alloc.proofs.SendSync.{FreesAnywhere, quiet}
use Rattle.word_block.specs.inner.Ownership.{places, places_lent_at, places_own, places_lent}
use Rattle.word_block.specs.contracts.places.Deed as Deed
use Rattle.word_block.specs.contracts.places.Places as Places

u64_send : IsSend u64
u64_send = search sendable

u64_sync : IsSync u64
u64_sync = search sendable

places-Keyless : (b o : ℕ) (cs : List (Option ℕ)) → Keyless (places b o cs)
places-Keyless b o [] = tt
places-Keyless b o (Some x ∷ cs) = (part_keyless u64 u64_send full_share x b o, places-Keyless b (o + 8) cs)
places-Keyless b o (None ∷ cs) = (tt, places-Keyless b (o + 8) cs)

places_lent-Common : (b o : ℕ) (cs : List (Option ℕ)) → Common (places_lent_at b o cs)
places_lent-Common b o [] κ = tt
places_lent-Common b o (Some x ∷ cs) κ = (u64_sync.shared x b o κ, places_lent-Common b (o + 8) cs κ)
places_lent-Common b o (None ∷ cs) κ = (tt, places_lent-Common b (o + 8) cs κ)

own-Keyless : (p : Ptr) (cs : List (Option ℕ)) → Keyless (places_own p cs)
own-Keyless (block_ptr b o) cs = (tt, places-Keyless b o cs)
own-Keyless null_ptr cs = tt

lent-Common : (p : Ptr) (cs : List (Option ℕ)) → Common (places_lent p cs)
lent-Common (block_ptr b o) cs κ = (tt, places_lent-Common b o cs κ)
lent-Common null_ptr cs κ = tt

pub Places-send : IsSend Places.the_row
Places-send =
    let O = Places.the_type in let all : AllSend (fields O) = (search sendable, tt) in
    owning_send O all (λ d. own-Keyless d.at d.held) (λ k. quiet (to O) (exits_of k (fields O)) ((struct_send (shape O) all).leaving k))

pub Places-sync : IsSync Places.the_row
Places-sync = let O = Places.the_type in record { shared = λ d b o κ. ((struct_sync (shape O) (search sendable, tt)).shared (to O d) b o κ, lent-Common d.at d.held κ) }

module _ (A : RattleType) (g : Ghosts A.Denot) where
  pub Deed-send : FreesAnywhere A.Denot g → IsSend (Deed.the_row A g)
  Deed-send f =
      let O = Deed.the_type A g in let all : AllSend (fields O) = (search sendable, tt) in
      owning_send O all (λ d. f.frees d.alloc _ d.at) (λ k. quiet (to O) (exits_of k (fields O)) ((struct_send (shape O) all).leaving k))

  pub Deed-sync : IsSync (Deed.the_row A g)
  Deed-sync = let O = Deed.the_type A g in record { shared = λ d b o κ. ((struct_sync (shape O) (search sendable, tt)).shared (to O d) b o κ, tt) }
