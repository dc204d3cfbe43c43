-- The parts of a claim's line, as they are read one after another: Claims' `claim_of_fields`, field
-- by field.
use Rattle.std.specs.Prelude.{ℕ, ◌&&◌, List, [], ◌∷◌, codes, Bool}
use Rattle.std.specs.Prelude.{if◌then◌else◌, Option, None, option_map}
use Rattle.std.specs.Option.{option_zip}
use Rattle.std.specs.Str.{bytes_eq}
use Rattle.step_core.specs.Numbers.{plain_number}
use Rattle.trace_types.specs.Segments.{SegmentName}
use Rattle.certificates.specs.Claims.{is_count}
use Rattle.certificates.specs.Claims.{name_of_texts, text_of}
use Rattle.certificates.specs.declared.claim.Claim.{Claim}
use Rattle.certificates.specs.declared.matter.Matter.{Matter}
use Rattle.certificates.specs.declared.matter.Matter.TheVariants.{Before, Exclusive, Pipe}
use Rattle.certificates.specs.declared.trace_place.TracePlace.{TracePlace}

-- the three fields of the header: `why`, `traces=N` and `refuted=N`
abbrev pub are_header_parts : List ℕ → List ℕ → List ℕ → Bool
are_header_parts word traces refuted =
    bytes_eq word (codes "why")
    && is_count (codes "traces=") traces && is_count (codes "refuted=") refuted

-- the place of a trace, from its day, its index and its request
abbrev pub place_of_parts : List ℕ → List ℕ → List ℕ → Option TracePlace
place_of_parts day index request =
    option_map (λ p. record { day = p.0; index = p.1.0; request = p.1.1 })
    (option_zip (plain_number day) (option_zip (plain_number index) (text_of request)))

-- the fields DAY, INDEX and REQUEST, and no others
abbrev pub place_said : List (List ℕ) → Option TracePlace
place_said (day ∷ index ∷ request ∷ []) = place_of_parts day index request
place_said fields = None

-- two names, of three fields each, and then a place
abbrev pub names_then_place : List (List ℕ) → Option ((SegmentName × SegmentName) × TracePlace)
names_then_place (a ∷ b ∷ c ∷ d ∷ e ∷ f ∷ fields) =
    option_zip (option_zip (name_of_texts a b c) (name_of_texts d e f)) (place_said fields)
names_then_place fields = None

-- two tasks, and then a place
abbrev pub tasks_then_place : List (List ℕ) → Option ((List ℕ × List ℕ) × TracePlace)
tasks_then_place (from ∷ to ∷ fields) =
    option_zip (option_zip (text_of from) (text_of to)) (place_said fields)
tasks_then_place fields = None

-- the claim of this line that the trace at this place refutes this relation
abbrev pub placed_claim : ℕ → Matter → TracePlace → Claim
placed_claim line matter place =
    record {
      line = line;
      matter = matter;
      day = place.day;
      index = place.index;
      request = place.request;
    }

-- the claim of this kind that these fields make
abbrev pub claim_of_kind : ℕ → List ℕ → List (List ℕ) → Option Claim
claim_of_kind line kind fields =
    if bytes_eq kind (codes "before")
    then option_map (λ p. placed_claim line (Before p.0.0 p.0.1) p.1) (names_then_place fields) else (
    if bytes_eq kind (codes "exclusive")
    then option_map (λ p. placed_claim line (Exclusive p.0.0 p.0.1) p.1) (names_then_place fields)
    else (
    if bytes_eq kind (codes "pipe")
    then option_map (λ p. placed_claim line (Pipe p.0.0 p.0.1) p.1) (tasks_then_place fields)
    else None))

-- the claim of all fields of a line: `refuted`, the kind, and what belongs to it
abbrev pub parted_claim : ℕ → List (List ℕ) → Option Claim
parted_claim line (word ∷ kind ∷ fields) =
    if bytes_eq word (codes "refuted") then claim_of_kind line kind fields else None
parted_claim line fields = None
