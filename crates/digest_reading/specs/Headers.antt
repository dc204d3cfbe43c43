-- What the header of a digest's text says.
use Rattle.std.specs.Prelude.{ℕ, ◌^◌, ◌==◌, ◌&&◌, ◌||◌, List, [], ◌∷◌, length, drop, codes, decimal}
use Rattle.std.specs.Prelude.{Bool, not, nat_lt, nat_le, nat_eq, if◌then◌else◌, Option, Some, None}
use Rattle.std.specs.Option.{option_and_then, option_zip}
use Rattle.std.specs.List.{starts_with}
use Rattle.std.specs.Str.{bytes_eq}
use Rattle.std.specs.Str.Parse.{digits_value}
use Rattle.step_core.specs.Numbers.{plain_number}
use Rattle.certificates.specs.Claims.{line_fields}
use Rattle.digest_reading.specs.declared.digest_counts.DigestCounts.{DigestCounts}

-- the number, up to 18,446,744,073,709,551,615, that is printed as this word; none where none is
abbrev pub long_number : List ℕ → Option ℕ
long_number word =
    if nat_lt (digits_value 10 word) (2 ^ 64) && bytes_eq (decimal (digits_value 10 word)) word
    then Some (digits_value 10 word)
    else None

-- the counts can be those of traces: at most 64 tasks and 512 names; no fewer names than tasks, and
-- none without a task or a trace; no more days than traces, and one where there is a trace
abbrev pub are_possible : DigestCounts → Bool
are_possible c =
    nat_le c.tasks 64 && nat_le c.names 512 && nat_le c.tasks c.names
    && (not (c.tasks == 0) || (c.names == 0)) && (not (c.traces == 0) || (c.names == 0))
    && nat_le c.days c.traces && (not (c.days == 0) || (c.traces == 0))

-- what follows the label in a field; none where the field has another beginning
abbrev pub after_label : List ℕ → List ℕ → Option (List ℕ)
after_label label field =
    if starts_with nat_eq field label then Some (drop (length label) field) else None

-- these counts, where they can be those of traces
abbrev pub possible_counts : DigestCounts → Option DigestCounts
possible_counts c = if are_possible c then Some c else None

-- the counts that the four fields after the first say
abbrev pub counts_of_fields : List ℕ → List ℕ → List ℕ → List ℕ → Option DigestCounts
counts_of_fields traces days tasks names = option_and_then
    (λ p. possible_counts
    (record { traces = p.0; days = p.1.0; tasks = p.1.1.0; names = p.1.1.1 }))
    (option_zip (option_and_then long_number (after_label (codes "traces=") traces))
    (option_zip (option_and_then plain_number (after_label (codes "days=") days))
    (option_zip (option_and_then plain_number (after_label (codes "tasks=") tasks))
    (option_and_then plain_number (after_label (codes "names=") names)))))

-- the counts that the fields of a header say
abbrev pub counts_said : List (List ℕ) → Option DigestCounts
counts_said (word ∷ traces ∷ days ∷ tasks ∷ names ∷ []) =
    if bytes_eq word (codes "summary") then counts_of_fields traces days tasks names else None
counts_said fields = None

-- the counts that a header says; none where the line has another form
abbrev pub header_said : List ℕ → Option DigestCounts
header_said line = counts_said (line_fields line)
