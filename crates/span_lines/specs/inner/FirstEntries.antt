-- The first entry of each trace, by its id.
use Rattle.std.specs.Prelude.{ℕ, ◌≡◌, List, Option, find}
use Rattle.std.specs.HashMap.{HashMap, get_by}
use Rattle.std.specs.Option.{option_copied, option_map}
use Rattle.std.specs.Str.{bytes_eq}
use denote.Ref.{Bor}
use Rattle.span_types.specs.declared.span.Span.{Span}

-- the id of the first of these entries that is in a trace
abbrev pub first_id : List Span → List ℕ → Option (List ℕ)
first_id entries trace =
    option_map (λ (f : Span). f.id) (find (λ (f : Span). bytes_eq f.trace trace) entries)

-- the id that a table has for a trace
abbrev pub id_in : {S : Type 0} → HashMap (Bor (List ℕ)) (Bor (List ℕ)) S → List ℕ → Option (List ℕ)
id_in ids trace = option_copied (get_by (λ (k : Bor (List ℕ)). bytes_eq trace k.now) ids)

-- of each trace it is that of the first of these entries
abbrev pub AreFirst : {S : Type 0} → List Span → HashMap (Bor (List ℕ)) (Bor (List ℕ)) S → Type 0
AreFirst entries ids = (trace : List ℕ) → id_in ids trace ≡ first_id entries trace
