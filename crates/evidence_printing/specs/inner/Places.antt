-- Where the traces of days stand, as fields. Indices count from 0.
use Rattle.std.specs.Prelude.{ℕ, ◌+◌, List, [], ◌∷◌, decimal}
use Rattle.std.specs.List.{flat_map}
use Rattle.day_partitions.specs.Books.{KeptDay}
use Rattle.trace_types.specs.declared.named_trace.NamedTrace.{NamedTrace}

-- a trace with this index among those of its day: its day, the index and its request
abbrev pub place_of : ℕ → NamedTrace → List (List ℕ)
place_of index t = decimal t.day ∷ decimal index ∷ t.request ∷ []

-- traces of one day, of which the first has this index
abbrev pub places_from : ℕ → List NamedTrace → List (List (List ℕ))
places_from index [] = []
places_from index (t ∷ ts) = place_of index t ∷ places_from (index + 1) ts

-- the traces of days
abbrev pub places_of : List KeptDay → List (List (List ℕ))
places_of days = flat_map (λ k. places_from 0 k.traces) days
