-- A `&` to the places reaches each word.
use denote.RawPtr.{RawPtr}
use denote.Param.Shared.{copy_shared}
use denote.Struct.Laws.{field_copy}
use denote.Struct.Lending.{of_Lends}
use Rattle.core.specs.contracts.marker.PhantomData as marker
use Rattle.word_block.specs.contracts.places.Places as C
use Rattle.word_block.proofs.places.Places.TheLaw.Statement.{statement}
use Rattle.word_block.proofs.LendLemmas.{places_laws, Lends-places}

pub shares : statement
shares = of_Lends C.struct (C.the_codes (marker.the_row RawPtr).coded) C.the_heap C.the_lent
    (λ d p. places_laws d.at d.held) (copy_shared (marker.the_field RawPtr) (field_copy (marker.the_type RawPtr) tt), tt)
    (λ M 𝓤 𝓛 d p. Lends-places 𝓛 C.the_row.lives d.at d.held)
