-- What the places hold once a `&mut` to their words has ended.
use Rattle.std.specs.Prelude.{ℕ, List, map, length, Option, Some}
use Rattle.std.specs.Borrow.{Fml, MutBor, Array, u64, Lends}
use Rattle.std.specs.List.{refill}
use Rattle.word_block.specs.inner.Filling.{words_of}
use Rattle.word_block.specs.declared.places.Places.{Places}
use Rattle.word_block.specs.contracts.places.Places.{the_row}

-- the owner of the same places with other contents
abbrev pub with_held : Places → List (Option ℕ) → Places
with_held p cs = record { mark = p.mark; at = p.at; held = cs }

-- each place holds the last word written through r
abbrev pub lends_places : MutBor Places → MutBor (List ℕ) → Fml
lends_places p r =
    Lends the_row (Array u64 0) p r
    (λ ws. with_held p.now (map Some (refill (length p.now.held) (words_of p.now.held) ws)))
