-- What one line of a certificate says: a claim, or the header.
use Rattle.std.specs.Prelude.{ℕ, ◌==◌, ◌&&◌, List, [], ◌∷◌, codes, Bool, false, nat_eq}
use Rattle.std.specs.Prelude.{if◌then◌else◌, Option, Some, None, option_map, is_some, length, drop, not}
use Rattle.std.specs.Option.{option_zip}
use Rattle.std.specs.List.{slice_split, starts_with}
use Rattle.std.specs.Str.{bytes_eq, is_utf8}
use Rattle.step_core.specs.Numbers.{plain_number}
use Rattle.trace_types.specs.Segments.{SegmentName}
use Rattle.event_lines.specs.EventFaults.{is_bad_text}
use Rattle.certificates.specs.declared.claim.Claim.{Claim}
use Rattle.certificates.specs.declared.matter.Matter.{Matter}
use Rattle.certificates.specs.declared.matter.Matter.TheVariants.{Before, Exclusive, Pipe}

-- the fields of a line: its parts around the tabs
abbrev pub line_fields : List ℕ → List (List ℕ)
line_fields line = slice_split (λ byte. byte == 9) line

-- the label, and then a plain number up to 4,294,967,295
abbrev pub is_count : List ℕ → List ℕ → Bool
is_count label field =
    starts_with nat_eq field label && is_some (plain_number (drop (length label) field))

-- the fields are those of the header, `why`, `traces=N` and `refuted=N`, and no others
abbrev pub are_header_fields : List (List ℕ) → Bool
are_header_fields (word ∷ traces ∷ refuted ∷ []) =
    bytes_eq word (codes "why")
    && is_count (codes "traces=") traces && is_count (codes "refuted=") refuted
are_header_fields fields = false

-- the line has the fields of the header
abbrev pub is_header : List ℕ → Bool
is_header line = are_header_fields (line_fields line)

-- the text that a field is: 1 to 64 bytes of UTF-8 without ASCII control characters
abbrev pub text_of : List ℕ → Option (List ℕ)
text_of field = if is_utf8 field && not (is_bad_text field) then Some field else None

-- the name of these three texts: its task, its start event and its end event
abbrev pub name_of_texts : List ℕ → List ℕ → List ℕ → Option SegmentName
name_of_texts task start end =
    option_map (λ t. (t.0, t.1.0, t.1.1))
    (option_zip (text_of task) (option_zip (text_of start) (text_of end)))

-- the relation of this kind of two names
abbrev pub matter_of_names : List ℕ → Option (SegmentName × SegmentName) → Option Matter
matter_of_names kind names =
    if bytes_eq kind (codes "before") then option_map (λ p. Before p.0 p.1) names else (
    if bytes_eq kind (codes "exclusive") then option_map (λ p. Exclusive p.0 p.1) names else None)

-- the relation of this kind of two tasks
abbrev pub matter_of_tasks : List ℕ → Option (List ℕ × List ℕ) → Option Matter
matter_of_tasks kind tasks =
    if bytes_eq kind (codes "pipe") then option_map (λ p. Pipe p.0 p.1) tasks else None

-- the claim of line n that the trace with this day, index and request refutes the relation
abbrev pub claim_at : ℕ → Option Matter → List ℕ → List ℕ → List ℕ → Option Claim
claim_at n matter day index request = option_map
    (λ p. record { line = n; matter = p.0; day = p.1.0; index = p.1.1.0; request = p.1.1.1 })
    (option_zip matter
    (option_zip (plain_number day) (option_zip (plain_number index) (text_of request))))

-- the claim of all fields of line n: `refuted`, the kind, the three texts of each name or both tasks,
-- and the day, the index and the request of a trace
abbrev pub claim_of_fields : ℕ → List (List ℕ) → Option Claim
claim_of_fields n
    (word ∷ kind ∷ a ∷ b ∷ c ∷ d ∷ e ∷ f ∷ day ∷ index ∷ request ∷ []) =
    if bytes_eq word (codes "refuted")
    then claim_at n (matter_of_names kind
    (option_zip (name_of_texts a b c) (name_of_texts d e f))) day index request
    else None
claim_of_fields n (word ∷ kind ∷ from ∷ to ∷ day ∷ index ∷ request ∷ []) =
    if bytes_eq word (codes "refuted")
    then claim_at n (matter_of_tasks kind (option_zip (text_of from) (text_of to))) day index request
    else None
claim_of_fields n fields = None

-- the claim that a line makes, which has this number; none where it has another form
abbrev pub claim_said : ℕ → List ℕ → Option Claim
claim_said number line = claim_of_fields number (line_fields line)
