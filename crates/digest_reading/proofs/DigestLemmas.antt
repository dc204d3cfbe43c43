-- A digest that is read part by part, and digests that are read one after another.
use Rattle.std.proofs.Common.{◌≡◌, ℕ, suc, ◌+◌, ◌<◌, List, [], ◌∷◌, ◌++◌, length, true, false, Result, Ok, Err, refl, sym, ap, ◌∙◌, arith, append_assoc, append-nil}
use Rattle.std.specs.Result.{result_map_both}
use Rattle.trace_types.specs.Segments.{SegmentName}
use Rattle.digest_facts.specs.Tables.{Table}
use Rattle.digest_reading.specs.DigestRows.{are_named, day_said, name_said, task_said}
use Rattle.digest_reading.specs.Headers.{header_said}
use Rattle.digest_reading.specs.Readings.{IsDigestFault, Read, and_next, by_line, digest_said, digests_within, rows_said, said_of_rest, table_said}
use Rattle.digest_reading.specs.declared.digest_counts.DigestCounts.{DigestCounts}
use Rattle.digest_reading.specs.declared.digest_fault.DigestFault.{DigestFault}
use Rattle.digest_reading.specs.declared.digest_fault.DigestFault.TheVariants.{Memory, Bad}

abbrev pub T : Type 0
T = Table SegmentName (List ℕ)

-- a fault of a part is one of the whole
pub part_bad : {X Y : Type 0} (part : Result (Read X) ℕ) (f : X → ℕ → List ℕ → Result Y ℕ) (e : DigestFault) → IsDigestFault part e → IsDigestFault (and_next part f) e
part_bad part f Memory h = tt
part_bad part f (Bad line) h = rw h refl

-- a fault after a part that was read
pub later_bad : {X Y : Type 0} (part : Result (Read X) ℕ) (x : X) (n : ℕ) (left : List ℕ) (f : X → ℕ → List ℕ → Result Y ℕ) (e : DigestFault) → part ≡ Ok (record { value = x; number = n; left = left }) → IsDigestFault (f x n left) e → IsDigestFault (and_next part f) e
later_bad part x n left f Memory is h = tt
later_bad part x n left f (Bad line) is h = rw is h

module _ (number : ℕ) (bytes : List ℕ) (counts : DigestCounts) (first : ℕ) (rows : List ℕ) (h : by_line header_said number bytes ≡ Ok (record { value = counts; number = first; left = rows })) where
  pub days_bad : (e : DigestFault) → IsDigestFault (rows_said day_said counts.days [] first rows) e → IsDigestFault (digest_said number bytes) e
  days_bad Memory b = tt
  days_bad (Bad line) b = rw h (rw b refl)

  module _ (days : List ℕ) (second : ℕ) (others : List ℕ) (d : rows_said day_said counts.days [] first rows ≡ Ok (record { value = days; number = second; left = others })) where
    pub tasks_bad : (e : DigestFault) → IsDigestFault (rows_said task_said counts.tasks [] second others) e → IsDigestFault (digest_said number bytes) e
    tasks_bad Memory b = tt
    tasks_bad (Bad line) b = rw h (rw d (rw b refl))

    module _ (tasks : List (List ℕ × List ℕ)) (third : ℕ) (more : List ℕ) (t : rows_said task_said counts.tasks [] second others ≡ Ok (record { value = tasks; number = third; left = more })) where
      pub names_bad : (e : DigestFault) → IsDigestFault (rows_said (name_said tasks) counts.names [] third more) e → IsDigestFault (digest_said number bytes) e
      names_bad Memory b = tt
      names_bad (Bad line) b = rw h (rw d (rw t (rw b refl)))

      module _ (names : List (SegmentName × List ℕ)) (next : ℕ) (left : List ℕ) (n : rows_said (name_said tasks) counts.names [] third more ≡ Ok (record { value = names; number = next; left = left })) where
        whole : digest_said number bytes ≡ table_said counts.traces days tasks names next left
        whole = rw h (rw d (rw t (rw n refl)))

        pub digest_read : true ≡ are_named tasks names → digest_said number bytes ≡ Ok (record { value = record { traces = counts.traces; days = days; tasks = tasks; names = names }; number = next; left = left })
        digest_read e = whole ∙ rw (← e) refl

        pub unnamed_bad : false ≡ are_named tasks names → (line : ℕ) → line + 1 ≡ next → digest_said number bytes ≡ Err line
        unnamed_bad e line is = whole ∙ rw (← e) (ap Err (omega (arith, is)))

-- these tables, and then those that are read after them
abbrev pub after_tables : List (Table SegmentName (List ℕ)) → Result (List (Table SegmentName (List ℕ))) ℕ → Result (List (Table SegmentName (List ℕ))) ℕ
after_tables tables rest = result_map_both (λ more. tables ++ more) (λ n. n) rest

joined : (tables : List T) (table : T) (r : Result (List T) ℕ) → after_tables (tables ++ table ∷ []) r ≡ after_tables tables (result_map_both (λ more. table ∷ more) (λ n. n) r)
joined tables table (Ok more) = ap Ok (append_assoc tables (table ∷ []) more)
joined tables table (Err n) = refl

-- a digest more
pub table_added : (k f n m : ℕ) (tables new : List T) (left rest : List ℕ) (table : T) (all : Result (List T) ℕ) → new ≡ tables ++ table ∷ [] → k ≡ suc f → 0 < length left → digest_said n left ≡ Ok (record { value = table; number = m; left = rest })
    → after_tables tables (said_of_rest (digests_within k) n left) ≡ all → after_tables new (said_of_rest (digests_within f) m rest) ≡ all
unfolding digests_within
table_added k f n m tables new [] rest table all more e some said told = absurd (omega (arith, some))
table_added k f n m tables new (b ∷ bs) rest table all more e some said told = rw more (joined tables table (said_of_rest (digests_within f) m rest) ∙ rw (e, said) at told)

-- a digest that is outside the form
pub table_bad : (k f n : ℕ) (tables : List T) (left : List ℕ) (all : Result (List T) ℕ) (e : DigestFault) → k ≡ suc f → 0 < length left → IsDigestFault (digest_said n left) e → after_tables tables (said_of_rest (digests_within k) n left) ≡ all → IsDigestFault all e
unfolding digests_within
table_bad k f n tables left all Memory e some bad told = tt
table_bad k f n tables [] all (Bad line) e some bad told = absurd (omega (arith, some))
table_bad k f n tables (b ∷ bs) all (Bad line) e some bad told = sym (rw (e, bad) at told)

-- nothing is left
pub tables_done : (k n : ℕ) (tables : List T) (left : List ℕ) (all : Result (List T) ℕ) → length left ≡ 0 → after_tables tables (said_of_rest (digests_within k) n left) ≡ all → all ≡ Ok tables
tables_done k n tables [] all e told = sym told ∙ ap Ok (append-nil tables)
tables_done k n tables (b ∷ bs) all e told = absurd (omega (arith, e))

-- the first digest
pub first_read : (k f m : ℕ) (bytes rest : List ℕ) (table : T) → k ≡ suc f → digest_said 1 bytes ≡ Ok (record { value = table; number = m; left = rest }) → after_tables (table ∷ []) (said_of_rest (digests_within f) m rest) ≡ digests_within k 1 bytes
unfolding digests_within
first_read k f m bytes rest table e said = rw (e, said) refl

pub first_bad : (k f : ℕ) (bytes : List ℕ) (e : DigestFault) → k ≡ suc f → IsDigestFault (digest_said 1 bytes) e → IsDigestFault (digests_within k 1 bytes) e
unfolding digests_within
first_bad k f bytes Memory is bad = tt
first_bad k f bytes (Bad line) is bad = rw (is, bad) refl
