-- What given bytes say: the tables of the digests whose texts they are, one after another, or the
-- number of the first line outside the form, counted from 1 over all of them. A line is ended by a
-- line feed; where bytes end too early, the number is that after the last line.
use Rattle.std.specs.Prelude.{ℕ, zero, suc, ◌+◌, ◌-◌, ◌≡◌, List, [], ◌∷◌, ◌++◌, length, take, drop}
use Rattle.std.specs.Prelude.{Option, Some, None, Result, Ok, Err, ⊤, nat_lt, if◌then◌else◌}
use Rattle.std.specs.Option.{option_map_or}
use Rattle.std.specs.Result.{result_map_both}
use Rattle.std.specs.List.{position_or_len}
use Rattle.event_lines.specs.Cut.{is_line_feed}
use Rattle.trace_types.specs.Segments.{SegmentName}
use Rattle.digest_facts.specs.Tables.{Table}
use Rattle.digest_reading.specs.Headers.{header_said}
use Rattle.digest_reading.specs.DigestRows.{are_named, day_said, name_said, task_said}
use Rattle.digest_reading.specs.declared.digest_fault.DigestFault.{DigestFault}
use Rattle.digest_reading.specs.declared.digest_fault.DigestFault.TheVariants.{Memory, Bad}

-- the first line of bytes, without its line feed, and what follows it; none where no line is ended
abbrev pub first_line : List ℕ → Option (List ℕ × List ℕ)
first_line bytes =
    if nat_lt (position_or_len is_line_feed bytes) (length bytes)
    then Some (
      take (position_or_len is_line_feed bytes) bytes,
      drop (position_or_len is_line_feed bytes + 1) bytes,
    )
    else None

-- what was read, the number of the next line, and the bytes from there on
pub record Read (X : Type 0) : Type 0 where
  pub value : X
  pub number : ℕ
  pub left : List ℕ

-- what these bytes say by their first line, which has this number
abbrev pub by_line : {X : Type 0} → (List ℕ → Option X) → ℕ → List ℕ → Result (Read X) ℕ
by_line {X} said number bytes = option_map_or
    (λ (line : List ℕ × List ℕ). option_map_or
    (λ (x : X). Ok (record { value = x; number = number + 1; left = line.1 }))
    (said line.0) (Err number)) (first_line bytes) (Err number)

-- what follows on what was read, or the first bad line
abbrev pub and_next : {X Y : Type 0} → Result (Read X) ℕ → (X → ℕ → List ℕ → Result Y ℕ)
    → Result Y ℕ
and_next (Ok r) f = f r.value r.number r.left
and_next (Err n) f = Err n

-- these rows and so many more, each said by a line and the rows before it
unfoldable pub rows_said : {X : Type 0} → (List X → List ℕ → Option X) → ℕ → List X → ℕ → List ℕ
    → Result (Read (List X)) ℕ
rows_said said zero earlier number bytes =
    Ok (record { value = earlier; number = number; left = bytes })
rows_said said (suc count) earlier number bytes = and_next (by_line (said earlier) number bytes)
    (λ x next left. rows_said said count (earlier ++ x ∷ []) next left)

-- the table of these rows, where each task has a name
abbrev pub table_said : ℕ → List ℕ → List (List ℕ × List ℕ) → List (SegmentName × List ℕ) → ℕ
    → List ℕ → Result (Read (Table SegmentName (List ℕ))) ℕ
table_said traces days tasks names number left =
    if are_named tasks names
    then Ok (record {
      value = record { traces = traces; days = days; tasks = tasks; names = names };
      number = number;
      left = left;
    })
    else Err (number - 1)

-- the table of the digest that the first lines are the text of: a header, and as many rows of days,
-- of tasks and of names as it says
abbrev pub digest_said : ℕ → List ℕ → Result (Read (Table SegmentName (List ℕ))) ℕ
digest_said number bytes = and_next (by_line header_said number bytes) (λ counts first rows.
    and_next (rows_said day_said counts.days [] first rows) (λ days second rows.
    and_next (rows_said task_said counts.tasks [] second rows) (λ tasks third rows.
    and_next (rows_said (name_said tasks) counts.names [] third rows) (λ names next left.
    table_said counts.traces days tasks names next left))))

-- what is read from what is left, where anything is
abbrev pub said_of_rest : (ℕ → List ℕ → Result (List (Table SegmentName (List ℕ))) ℕ) → ℕ → List ℕ
    → Result (List (Table SegmentName (List ℕ))) ℕ
said_of_rest said number [] = Ok []
said_of_rest said number (b ∷ bs) = said number (b ∷ bs)

-- the tables of at least one digest, and of at most so many
unfoldable pub digests_within : ℕ → ℕ → List ℕ → Result (List (Table SegmentName (List ℕ))) ℕ
digests_within zero number bytes = Err number
digests_within (suc most) number bytes = and_next (digest_said number bytes)
    (λ table next left. result_map_both (λ tables. table ∷ tables) (λ n. n)
    (said_of_rest (digests_within most) next left))

-- the tables that given bytes say, or the number of the first line outside the form; each text has
-- a line, so there are no more than bytes
abbrev pub digests_said : List ℕ → Result (List (Table SegmentName (List ℕ))) ℕ
digests_said bytes = digests_within (length bytes + 1) 1 bytes

-- the error is that of a call that is out of memory
abbrev pub IsOutOfMemory : DigestFault → Type 0
IsOutOfMemory e = e ≡ Memory

-- why digests were not read: out of memory, or their first line outside the form
abbrev pub IsDigestFault : {X : Type 0} → Result X ℕ → DigestFault → Type 0
IsDigestFault said Memory = ⊤
IsDigestFault said (Bad line) = said ≡ Err line
