-- Texts of tables, one after another, are read as these tables, and what is read are such texts.
use Rattle.std.proofs.Common.{◌≡◌, ℕ, zero, suc, ◌+◌, ◌-◌, ◌<◌, ◌≤◌, List, [], ◌∷◌, ◌++◌, length, map, Bool, true, false, Result, Ok, Err, refl, sym, ap, ◌∙◌, subst, arith, append_assoc, length-append}
use Rattle.std.specs.Prelude.{All, if◌then◌else◌}
use Rattle.std.specs.List.{flat_map, join_with_byte}
use Rattle.std.specs.Result.{result_map_both}
use Rattle.std.proofs.lemmas.List.Elements.{All-cons, All-head, All-nil, All-tail}
use Rattle.std.proofs.lemmas.Grind.{flat_map-append}
use Rattle.trace_types.specs.Segments.{SegmentName}
use Rattle.text_rows.specs.Rows.{row_of}
use Rattle.digest_facts.specs.Tables.{Table}
use Rattle.digest_facts.specs.Texts.{day_fields, header_fields, name_fields, rows_below, table_text, task_fields}
use Rattle.digest_reading.specs.DigestRows.{are_named, day_said, name_said, task_said}
use Rattle.digest_reading.specs.Headers.{header_said}
use Rattle.digest_reading.specs.Readings.{Read, and_next, by_line, digest_said, digests_within, rows_said, said_of_rest, table_said}
use Rattle.digest_reading.specs.declared.digest_counts.DigestCounts.{DigestCounts}
use Rattle.digest_laws.proofs.LineLemmas.{row_then}
use Rattle.digest_laws.proofs.RowLemmas as rows
use Rattle.digest_laws.proofs.FieldLemmas.{CountsIn, DayIn, NameIn, TaskIn, count_fields, day_printed, day_read, header_is, header_read, header_whole, name_printed, name_read, task_printed, task_read}

-- the counts of a table
abbrev pub counts_of : Table SegmentName (List ℕ) → DigestCounts
counts_of u = record { traces = u.traces; days = length u.days; tasks = length u.tasks; names = length u.names }

-- a table is accepted row by row
pub record IsAccepted (u : Table SegmentName (List ℕ)) : Type 0 where
  pub counts : CountsIn (counts_of u)
  pub days : rows.AreAccepted DayIn [] u.days
  pub tasks : rows.AreAccepted TaskIn [] u.tasks
  pub names : rows.AreAccepted (NameIn u.tasks) [] u.names
  pub named : are_named u.tasks u.names ≡ true

-- the rows of a table before other bytes
text_parts : (u : Table SegmentName (List ℕ)) (rest : List ℕ) → table_text u ++ rest ≡ row_of (header_fields u) ++ (flat_map row_of (map day_fields u.days) ++ (flat_map row_of (map task_fields u.tasks) ++ (flat_map row_of (map name_fields u.names) ++ rest)))
text_parts u rest =
    let d : List ℕ = flat_map row_of (map day_fields u.days) in
    let t : List ℕ = flat_map row_of (map task_fields u.tasks) in
    let n : List ℕ = flat_map row_of (map name_fields u.names) in
    let below : flat_map row_of (rows_below u) ≡ d ++ (t ++ n) = flat_map-append row_of (map day_fields u.days) (map task_fields u.tasks ++ map name_fields u.names) ∙ ap (λ (l : List ℕ). d ++ l) (flat_map-append row_of (map task_fields u.tasks) (map name_fields u.names)) in
    ap (λ (l : List ℕ). (row_of (header_fields u) ++ l) ++ rest) below
    ∙ append_assoc (row_of (header_fields u)) (d ++ (t ++ n)) rest
    ∙ ap (λ (l : List ℕ). row_of (header_fields u) ++ l) (append_assoc d (t ++ n) rest ∙ ap (λ (l : List ℕ). d ++ l) (append_assoc t n rest))

-- bytes whose first line is the header of a table, and whose further rows are its own, one kind after
-- another, are its text and what is left
text_joined : (u : Table SegmentName (List ℕ)) (bytes line first second third left : List ℕ) → bytes ≡ line ++ 10 ∷ first → line ≡ join_with_byte 9 (header_fields u) → first ≡ flat_map row_of (map day_fields u.days) ++ second → second ≡ flat_map row_of (map task_fields u.tasks) ++ third → third ≡ flat_map row_of (map name_fields u.names) ++ left → bytes ≡ table_text u ++ left
text_joined u bytes line first second third left cut is days tasks names =
    let d : List ℕ = flat_map row_of (map day_fields u.days) in
    let t : List ℕ = flat_map row_of (map task_fields u.tasks) in
    let n : List ℕ = flat_map row_of (map name_fields u.names) in
    let rest : first ≡ d ++ (t ++ (n ++ left)) = days ∙ ap (λ (l : List ℕ). d ++ l) (tasks ∙ ap (λ (l : List ℕ). t ++ l) names) in
    cut ∙ ap (λ (l : List ℕ). l ++ 10 ∷ first) is ∙ sym (row_then (header_fields u) first) ∙ ap (λ (l : List ℕ). row_of (header_fields u) ++ l) rest ∙ sym (text_parts u left)

-- ---- one table
-- a table is read from its text
pub record IsTableRead (number : ℕ) (bytes : List ℕ) (u : Table SegmentName (List ℕ)) (rest : List ℕ) : Type 0 where
  pub next : ℕ
  pub said : digest_said number bytes ≡ Ok (record { value = u; number = next; left = rest })

pub table_read : (u : Table SegmentName (List ℕ)) (n : ℕ) (rest : List ℕ) → IsAccepted u → IsTableRead n (table_text u ++ rest) u rest
table_read u n rest h =
    let d : List ℕ = flat_map row_of (map day_fields u.days) in
    let t : List ℕ = flat_map row_of (map task_fields u.tasks) in
    let m : List ℕ = flat_map row_of (map name_fields u.names) in
    let header = rows.line_read header_said n (header_fields u) (d ++ (t ++ (m ++ rest))) (counts_of u) (header_whole (counts_of u) h.counts) (header_read (counts_of u) h.counts) in
    let days = rows.rows_read DayIn day_said day_fields day_read [] u.days (n + 1) (t ++ (m ++ rest)) h.days in
    let tasks = rows.rows_read TaskIn task_said task_fields task_read [] u.tasks (n + 1 + length u.days) (m ++ rest) h.tasks in
    let names = rows.rows_read (NameIn u.tasks) (name_said u.tasks) name_fields (name_read u.tasks) [] u.names (n + 1 + length u.days + length u.tasks) rest h.names in
    record {
      next = n + 1 + length u.days + length u.tasks + length u.names;
      said = ap (digest_said n) (text_parts u rest) ∙ rw header (rw days (rw tasks (rw names (rw h.named refl))));
    }

-- a table that was read
pub record IsTextOfTable (bytes : List ℕ) (r : Read (Table SegmentName (List ℕ))) : Type 0 where
  pub accepted : IsAccepted r.value
  pub bytes_are : bytes ≡ table_text r.value ++ r.left

-- what follows on what was read
record IsNext {X Y : Type 0} (part : Result (Read X) ℕ) (f : X → ℕ → List ℕ → Result Y ℕ) (y : Y) : Type 0 where
  pub read : Read X
  pub is : part ≡ Ok read
  pub next : f read.value read.number read.left ≡ Ok y

next_of : {X Y : Type 0} (part : Result (Read X) ℕ) (f : X → ℕ → List ℕ → Result Y ℕ) (y : Y) → and_next part f ≡ Ok y → IsNext part f y
next_of (Ok r) f y h = record { read = r; is = refl; next = h }
next_of (Err n) f y h = absurd (cc h)

abbrev with_names : DigestCounts → List ℕ → List (List ℕ × List ℕ) → List (SegmentName × List ℕ) → ℕ → List ℕ → Result (Read (Table SegmentName (List ℕ))) ℕ
with_names c days tasks names next left = table_said c.traces days tasks names next left

abbrev with_tasks : DigestCounts → List ℕ → List (List ℕ × List ℕ) → ℕ → List ℕ → Result (Read (Table SegmentName (List ℕ))) ℕ
with_tasks c days tasks third rest = and_next (rows_said (name_said tasks) c.names [] third rest) (with_names c days tasks)

abbrev with_days : DigestCounts → List ℕ → ℕ → List ℕ → Result (Read (Table SegmentName (List ℕ))) ℕ
with_days c days second rest = and_next (rows_said task_said c.tasks [] second rest) (with_tasks c days)

abbrev with_counts : DigestCounts → ℕ → List ℕ → Result (Read (Table SegmentName (List ℕ))) ℕ
with_counts c first rest = and_next (rows_said day_said c.days [] first rest) (with_days c)

-- the table that was read, where each task has a name
record IsNamed (traces : ℕ) (days : List ℕ) (tasks : List (List ℕ × List ℕ)) (names : List (SegmentName × List ℕ)) (number : ℕ) (left : List ℕ) (r : Read (Table SegmentName (List ℕ))) : Type 0 where
  pub named : are_named tasks names ≡ true
  pub whole : record { value = record { traces = traces; days = days; tasks = tasks; names = names }; number = number; left = left } ≡ r

named_of : (traces : ℕ) (days : List ℕ) (tasks : List (List ℕ × List ℕ)) (names : List (SegmentName × List ℕ)) (number : ℕ) (left : List ℕ) (r : Read (Table SegmentName (List ℕ))) → table_said traces days tasks names number left ≡ Ok r → IsNamed traces days tasks names number left r
named_of traces days tasks names number left r h = by (are_named tasks names) refl h
  where
    by : (b : Bool) → are_named tasks names ≡ b → (if b then Ok (record { value = record { traces = traces; days = days; tasks = tasks; names = names }; number = number; left = left }) else Err (number - 1)) ≡ Ok r → IsNamed traces days tasks names number left r
    by true e told = record { named = e; whole = cc told }
    by false e told = absurd (cc told)

pub table_back : (number : ℕ) (bytes : List ℕ) (r : Read (Table SegmentName (List ℕ))) → digest_said number bytes ≡ Ok r → IsTextOfTable bytes r
table_back number bytes r h =
    let a = next_of (by_line header_said number bytes) with_counts r h in
    let c : DigestCounts = a.read.value in
    let b = next_of (rows_said day_said c.days [] a.read.number a.read.left) (with_days c) r a.next in
    let days : List ℕ = b.read.value in
    let k = next_of (rows_said task_said c.tasks [] b.read.number b.read.left) (with_tasks c days) r b.next in
    let tasks : List (List ℕ × List ℕ) = k.read.value in
    let m = next_of (rows_said (name_said tasks) c.names [] k.read.number k.read.left) (with_names c days tasks) r k.next in
    let names : List (SegmentName × List ℕ) = m.read.value in
    let done = named_of c.traces days tasks names m.read.number m.read.left r m.next in
    let head = rows.line_said header_said number bytes a.read a.is in
    let header = header_is head.line c head.said_by in
    let ds = rows.all_back DayIn day_said day_fields day_printed c.days a.read.number a.read.left b.read b.is in
    let ts = rows.all_back TaskIn task_said task_fields task_printed c.tasks b.read.number b.read.left k.read k.is in
    let ns = rows.all_back (NameIn tasks) (name_said tasks) name_fields (name_printed tasks) c.names k.read.number k.read.left m.read m.is in
    let u : Table SegmentName (List ℕ) = record { traces = c.traces; days = days; tasks = tasks; names = names } in
    let counts : counts_of u ≡ c = λ i. record { traces = c.traces; days = ds.counted i; tasks = ts.counted i; names = ns.counted i } in
    let line : head.line ≡ join_with_byte 9 (header_fields u) = header.line_is ∙ ap (λ (q : DigestCounts). join_with_byte 9 (count_fields q)) (sym counts) in
    subst (IsTextOfTable bytes) done.whole (record {
      accepted = record {
        counts = subst CountsIn (sym counts) header.counts;
        days = ds.accepted;
        tasks = ts.accepted;
        names = ns.accepted;
        named = done.named;
      };
      bytes_are = text_joined u bytes head.line a.read.left b.read.left k.read.left m.read.left head.bytes_are line ds.bytes_are ts.bytes_are ns.bytes_are;
    })

-- ---- tables one after another
abbrev pub texts : List (Table SegmentName (List ℕ)) → List ℕ
texts us = flat_map table_text us

-- a text has a byte
text_some : (u : Table SegmentName (List ℕ)) → 1 ≤ length (table_text u)
text_some u =
    let first : table_text u ≡ row_of (header_fields u) ++ flat_map row_of (rows_below u) = refl in
    omega (arith, length-append (row_of (header_fields u)) (flat_map row_of (rows_below u)), length-append (join_with_byte 9 (header_fields u)) (10 ∷ []))

pub texts_long : (us : List (Table SegmentName (List ℕ))) → length us ≤ length (texts us)
texts_long [] = omega arith
texts_long (u ∷ us) = omega (arith, texts_long us, text_some u, length-append (table_text u) (texts us))

-- what is left before further texts
rest_said : (k n : ℕ) (us : List (Table SegmentName (List ℕ))) → (0 < length us → digests_within k n (texts us) ≡ Ok us) → said_of_rest (digests_within k) n (texts us) ≡ Ok us
rest_said k n [] h = refl
rest_said k n (u ∷ us) h = by (texts (u ∷ us)) (omega (arith, text_some u, length-append (table_text u) (texts us))) (h (omega arith))
  where
    by : (bytes : List ℕ) → 1 ≤ length bytes → digests_within k n bytes ≡ Ok (u ∷ us) → said_of_rest (digests_within k) n bytes ≡ Ok (u ∷ us)
    by [] some e = absurd (omega arith)
    by (b ∷ bs) some e = e

pub tables_read : (k n : ℕ) (us : List (Table SegmentName (List ℕ))) → 0 < length us → length us ≤ k → All IsAccepted us → digests_within k n (texts us) ≡ Ok us
unfolding digests_within
tables_read k n [] some few all = absurd (omega arith)
tables_read zero n (u ∷ us) some few all = absurd (omega arith)
tables_read (suc k) n (u ∷ us) some few all =
    let first = table_read u n (texts us) (All-head IsAccepted u us all) in
    let more = rest_said k first.next us (λ some. tables_read k first.next us some (omega arith) (All-tail IsAccepted u us all)) in
    rw first.said (rw more refl)

-- tables that were read
pub record AreTexts (bytes : List ℕ) (us : List (Table SegmentName (List ℕ))) : Type 0 where
  pub some : 0 < length us
  pub accepted : All IsAccepted us
  pub bytes_are : bytes ≡ texts us

pub tables_back : (k n : ℕ) (bytes : List ℕ) (us : List (Table SegmentName (List ℕ))) → digests_within k n bytes ≡ Ok us → AreTexts bytes us
unfolding digests_within
tables_back zero n bytes us h = absurd (cc h)
tables_back (suc k) n bytes us h =
    let a = next_of (digest_said n bytes) (λ table next left. result_map_both (λ tables. table ∷ tables) (λ e. e) (said_of_rest (digests_within k) next left)) us h in
    let here = table_back n bytes a.read a.is in
    by_rest (tables_back k) a.read.value a.read.number a.read.left here.accepted here.bytes_are a.next
  where
    with_more : (u : Table SegmentName (List ℕ)) (left : List ℕ) (r : Result (List (Table SegmentName (List ℕ))) ℕ) → IsAccepted u → bytes ≡ table_text u ++ left → ((vs : List (Table SegmentName (List ℕ))) → r ≡ Ok vs → All IsAccepted vs × (left ≡ texts vs)) → result_map_both (λ tables. u ∷ tables) (λ e. e) r ≡ Ok us → AreTexts bytes us
    with_more u left (Err e) ok is more told = absurd (cc told)
    with_more u left (Ok vs) ok is more told =
        let whole : u ∷ vs ≡ us = cc told in
        let m = more vs refl in
        subst (AreTexts bytes) whole (record {
          some = omega arith;
          accepted = All-cons IsAccepted u vs ok m.0;
          bytes_are = is ∙ ap (λ (l : List ℕ). table_text u ++ l) m.1;
        })

    by_rest : ((m : ℕ) (rest : List ℕ) (vs : List (Table SegmentName (List ℕ))) → digests_within k m rest ≡ Ok vs → AreTexts rest vs) → (u : Table SegmentName (List ℕ)) (next : ℕ) (left : List ℕ) → IsAccepted u → bytes ≡ table_text u ++ left → result_map_both (λ tables. u ∷ tables) (λ e. e) (said_of_rest (digests_within k) next left) ≡ Ok us → AreTexts bytes us
    by_rest back u next [] ok is told = with_more u [] (Ok []) ok is (λ vs e. let none : [] ≡ vs = cc e in (subst (All IsAccepted) none (All-nil IsAccepted), ap texts none)) told
    by_rest back u next (b ∷ bs) ok is told = with_more u (b ∷ bs) (digests_within k next (b ∷ bs)) ok is (λ vs e. let r = back next (b ∷ bs) vs e in (r.accepted, r.bytes_are)) told
