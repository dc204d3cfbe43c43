-- What the rows of a table say, row by row: the fields that are printed are read again, and what is
-- read is what is printed.
use Rattle.std.proofs.Common.{◌≡◌, ℕ, ◌<◌, ◌≤◌, ◌^◌, ◌==◌, ◌&&◌, List, [], ◌∷◌, ◌++◌, length, map, drop, Bool, true, false, Option, Some, None, refl, ap, ◌∙◌, subst, arith, codes, decimal}
use Rattle.std.specs.Prelude.{All, nat_eq, nat_le, if◌then◌else◌}
use Rattle.std.specs.Cmp.Lexicographic.{slice_cmp}
use Rattle.std.specs.List.{join_with_byte, list_all, starts_with}
use Rattle.std.specs.Option.{option_and_then, option_zip}
use Rattle.std.specs.Ordering.{nat_cmp}
use Rattle.std.specs.Str.{bytes_eq}
use Rattle.std.proofs.lemmas.Bool.{and_parts, le-leb, leb-true}
use Rattle.std.proofs.lemmas.Bool.Decides.{Decides-eqb}
use Rattle.std.proofs.lemmas.List.Elements.{All-cons, All-nil}
use Rattle.std.proofs.lemmas.Slice.Eq.{bytes_eq-Decides, starts_is}
use Rattle.trace_types.specs.NameOrder.{name_cmp}
use Rattle.trace_types.specs.Segments.{SegmentName}
use Rattle.step_core.specs.Numbers.{plain_number}
use Rattle.step_core.proofs.PlainLemmas.{of_number}
use Rattle.certificates.specs.Claims.{line_fields, name_of_texts, text_of}
use Rattle.text_rows.specs.Rows.{figure}
use Rattle.digest_facts.specs.Texts.{IsUnbroken, day_fields, name_fields, task_fields}
use Rattle.digest_reading.specs.DigestRows.{are_marks, comes_after, day_of_fields, day_said, has_task, is_name_mark, is_next_day, is_task_mark, latest_day, name_of_fields, name_row, name_said, task_of_fields, task_row, task_said}
use Rattle.digest_reading.specs.Headers.{after_label, are_possible, counts_of_fields, counts_said, header_said, long_number, possible_counts}
use Rattle.digest_reading.specs.declared.digest_counts.DigestCounts.{DigestCounts}
use Rattle.digest_reading.proofs.LongLemmas as longs
use Rattle.digest_laws.proofs.LineLemmas.{fields_back, joined_whole, line_of_fields}
use Rattle.digest_laws.proofs.NumberLemmas.{IsGoodName, IsGoodText, figure_whole, long_is, marks_whole, name_back, name_is, number_whole, plain_is, task_marks, text_is, text_whole, word_whole}
use Rattle.digest_laws.proofs.RowLemmas.{IsPrinted, IsReadBack}

two : (a b : List ℕ) → IsUnbroken a → IsUnbroken b → All IsUnbroken (a ∷ b ∷ [])
two a b p q = All-cons IsUnbroken a (b ∷ []) p (All-cons IsUnbroken b [] q (All-nil IsUnbroken))

three : (a b c : List ℕ) → IsUnbroken a → IsUnbroken b → IsUnbroken c → All IsUnbroken (a ∷ b ∷ c ∷ [])
three a b c p q r = All-cons IsUnbroken a (b ∷ c ∷ []) p (two b c q r)

five : (a b c d e : List ℕ) → IsUnbroken a → IsUnbroken b → IsUnbroken c → IsUnbroken d → IsUnbroken e → All IsUnbroken (a ∷ b ∷ c ∷ d ∷ e ∷ [])
five a b c d e p q r s t = All-cons IsUnbroken a (b ∷ c ∷ d ∷ e ∷ []) p (All-cons IsUnbroken b (c ∷ d ∷ e ∷ []) q (three c d e r s t))

word_is : (word text : List ℕ) → bytes_eq word text ≡ true → word ≡ text
word_is word text h = (bytes_eq-Decides word text).0 h

-- ---- days
-- a day that is no later than the latest one and comes after those before it
pub record DayIn (earlier : List ℕ) (day : ℕ) : Type 0 where
  pub small : day ≤ latest_day
  pub after : comes_after nat_cmp earlier day ≡ true

small_day : (day : ℕ) → day ≤ latest_day → day < 2 ^ 32
small_day day h = omega (arith, h)

day_whole : (day : ℕ) → day < 2 ^ 32 → All IsUnbroken (day_fields day)
day_whole day h = two (codes "day") (decimal day) (word_whole (codes "day") refl refl) (number_whole day (omega arith))

pub day_read : (earlier : List ℕ) (day : ℕ) → DayIn earlier day → IsReadBack day_said day_fields earlier day
day_read earlier day h = record {
  whole = joined_whole (day_fields day) (day_whole day (small_day day h.small));
  said_again = ap (day_of_fields earlier) (fields_back (codes "day") (decimal day ∷ []) (day_whole day (small_day day h.small))) ∙ rw (of_number day (small_day day h.small), h.after, le-leb day latest_day h.small) refl;
}

pub day_printed : (earlier : List ℕ) (line : List ℕ) (day : ℕ) → day_said earlier line ≡ Some day → IsPrinted DayIn day_fields earlier line day
day_printed earlier line day h = by (line_fields line) refl h
  where
    with_number : (word digits : List ℕ) (n : Option ℕ) (b : Bool) → line_fields line ≡ word ∷ digits ∷ [] → plain_number digits ≡ n → (c : ℕ) → n ≡ Some c → (bytes_eq word (codes "day") && is_next_day earlier c) ≡ b → (if b then Some c else None) ≡ Some day → IsPrinted DayIn day_fields earlier line day
    with_number word digits n false e f c g k told = absurd (cc told)
    with_number word digits n true e f c g k told =
        let same : c ≡ day = cc told in
        let p = and_parts (bytes_eq word (codes "day")) (is_next_day earlier c) k in
        let q = and_parts (comes_after nat_cmp earlier c) (nat_le c latest_day) p.1 in
        let number = plain_is c digits (f ∙ g) in
        record {
          accepted = record { small = subst (λ (d : ℕ). d ≤ latest_day) same (leb-true c latest_day q.1); after = subst (λ (d : ℕ). comes_after nat_cmp earlier d ≡ true) same q.0 };
          line_is = line_of_fields line (word ∷ digits ∷ []) e ∙ ap (λ (w : List ℕ). join_with_byte 9 (w ∷ digits ∷ [])) (word_is word (codes "day") p.0)
              ∙ ap (λ (w : List ℕ). join_with_byte 9 (codes "day" ∷ w ∷ [])) (number.word_is ∙ ap decimal same);
        }

    by_number : (word digits : List ℕ) (n : Option ℕ) → line_fields line ≡ word ∷ digits ∷ [] → plain_number digits ≡ n → option_and_then (λ d. if bytes_eq word (codes "day") && is_next_day earlier d then Some d else None) n ≡ Some day → IsPrinted DayIn day_fields earlier line day
    by_number word digits None e f told = absurd (cc told)
    by_number word digits (Some c) e f told = with_number word digits (Some c) (bytes_eq word (codes "day") && is_next_day earlier c) e f c refl refl told

    by : (fs : List (List ℕ)) → line_fields line ≡ fs → day_of_fields earlier fs ≡ Some day → IsPrinted DayIn day_fields earlier line day
    by [] e told = absurd (cc told)
    by (a ∷ []) e told = absurd (cc told)
    by (a ∷ b ∷ []) e told = by_number a b (plain_number b) e refl told
    by (a ∷ b ∷ c ∷ fs) e told = absurd (cc told)

-- ---- tasks
-- a task that is a good text and comes after those before it, with a mark for each of them
pub record TaskIn (earlier : List (List ℕ × List ℕ)) (row : List ℕ × List ℕ) : Type 0 where
  pub good : IsGoodText row.0
  pub after : comes_after (slice_cmp nat_cmp) (map (λ r. r.0) earlier) row.0 ≡ true
  pub marks : are_marks is_task_mark (length earlier) row.1 ≡ true

task_whole : (earlier : List (List ℕ × List ℕ)) (row : List ℕ × List ℕ) → TaskIn earlier row → All IsUnbroken (task_fields row)
task_whole earlier row h =
    three (codes "task") row.0 row.1 (word_whole (codes "task") refl refl) (text_whole row.0 h.good)
    (marks_whole row.1 (task_marks row.1 (and_parts (length row.1 == length earlier) (list_all is_task_mark row.1) h.marks).1))

pub task_read : (earlier : List (List ℕ × List ℕ)) (row : List ℕ × List ℕ) → TaskIn earlier row → IsReadBack task_said task_fields earlier row
task_read earlier row h =
    let whole = task_whole earlier row h in
    let good : text_of row.0 ≡ Some row.0 = h.good in
    record {
      whole = joined_whole (task_fields row) whole;
      said_again = ap (task_of_fields earlier) (fields_back (codes "task") (row.0 ∷ row.1 ∷ []) whole) ∙ rw (h.marks, good, h.after) refl;
    }

pub task_printed : (earlier : List (List ℕ × List ℕ)) (line : List ℕ) (row : List ℕ × List ℕ) → task_said earlier line ≡ Some row → IsPrinted TaskIn task_fields earlier line row
task_printed earlier line row h = by (line_fields line) refl h
  where
    with_after : (word task marks t : List ℕ) (b : Bool) → line_fields line ≡ word ∷ task ∷ marks ∷ [] → bytes_eq word (codes "task") ≡ true → are_marks is_task_mark (length earlier) marks ≡ true → text_of task ≡ Some t → comes_after (slice_cmp nat_cmp) (map (λ r. r.0) earlier) t ≡ b → (if b then Some (t, marks) else None) ≡ Some row → IsPrinted TaskIn task_fields earlier line row
    with_after word task marks t false e w m f a told = absurd (cc told)
    with_after word task marks t true e w m f a told =
        let text = text_is task t f in
        let whole : (t, marks) ≡ row = cc told in
        record {
          accepted = subst (TaskIn earlier) whole (record { good = text.good; after = a; marks = m });
          line_is = line_of_fields line (word ∷ task ∷ marks ∷ []) e ∙ ap (λ (x : List ℕ). join_with_byte 9 (x ∷ task ∷ marks ∷ [])) (word_is word (codes "task") w)
              ∙ ap (λ (x : List ℕ). join_with_byte 9 (codes "task" ∷ x ∷ marks ∷ [])) text.field_is
              ∙ ap (λ (r : List ℕ × List ℕ). join_with_byte 9 (task_fields r)) whole;
        }

    with_text : (word task marks : List ℕ) (t : Option (List ℕ)) → line_fields line ≡ word ∷ task ∷ marks ∷ [] → bytes_eq word (codes "task") ≡ true → are_marks is_task_mark (length earlier) marks ≡ true → text_of task ≡ t → option_and_then (λ x. task_row earlier x marks) t ≡ Some row → IsPrinted TaskIn task_fields earlier line row
    with_text word task marks None e w m f told = absurd (cc told)
    with_text word task marks (Some t) e w m f told = with_after word task marks t (comes_after (slice_cmp nat_cmp) (map (λ r. r.0) earlier) t) e w m f refl told

    with_test : (word task marks : List ℕ) (b : Bool) → line_fields line ≡ word ∷ task ∷ marks ∷ [] → (bytes_eq word (codes "task") && are_marks is_task_mark (length earlier) marks) ≡ b → (if b then option_and_then (λ x. task_row earlier x marks) (text_of task) else None) ≡ Some row → IsPrinted TaskIn task_fields earlier line row
    with_test word task marks false e t told = absurd (cc told)
    with_test word task marks true e t told =
        let p = and_parts (bytes_eq word (codes "task")) (are_marks is_task_mark (length earlier) marks) t in
        with_text word task marks (text_of task) e p.0 p.1 refl told

    by : (fs : List (List ℕ)) → line_fields line ≡ fs → task_of_fields earlier fs ≡ Some row → IsPrinted TaskIn task_fields earlier line row
    by [] e told = absurd (cc told)
    by (a ∷ []) e told = absurd (cc told)
    by (a ∷ b ∷ []) e told = absurd (cc told)
    by (a ∷ b ∷ c ∷ []) e told = with_test a b c (bytes_eq a (codes "task") && are_marks is_task_mark (length earlier) c) e refl told
    by (a ∷ b ∷ c ∷ d ∷ fs) e told = absurd (cc told)

-- ---- names
-- a name of good texts that comes after those before it, with a mark for each of them, whose task
-- has a row
pub record NameIn (tasks : List (List ℕ × List ℕ)) (earlier : List (SegmentName × List ℕ)) (row : SegmentName × List ℕ) : Type 0 where
  pub good : IsGoodName row.0
  pub after : comes_after name_cmp (map (λ r. r.0) earlier) row.0 ≡ true
  pub marks : are_marks is_name_mark (length earlier) row.1 ≡ true
  pub listed : has_task tasks row.0.0 ≡ true

module _ (tasks : List (List ℕ × List ℕ)) where
  name_whole : (earlier : List (SegmentName × List ℕ)) (row : SegmentName × List ℕ) → NameIn tasks earlier row → All IsUnbroken (name_fields row)
  name_whole earlier row h =
      five (codes "name") row.0.0 row.0.1 row.0.2 row.1 (word_whole (codes "name") refl refl) (text_whole row.0.0 h.good.task) (text_whole row.0.1 h.good.start) (text_whole row.0.2 h.good.end)
      (marks_whole row.1 (and_parts (length row.1 == length earlier) (list_all is_name_mark row.1) h.marks).1)

  pub name_read : (earlier : List (SegmentName × List ℕ)) (row : SegmentName × List ℕ) → NameIn tasks earlier row → IsReadBack (name_said tasks) name_fields earlier row
  name_read earlier row h =
      let whole = name_whole earlier row h in
      record {
        whole = joined_whole (name_fields row) whole;
        said_again = ap (name_of_fields tasks earlier) (fields_back (codes "name") (row.0.0 ∷ row.0.1 ∷ row.0.2 ∷ row.1 ∷ []) whole) ∙ rw (h.marks, name_back row.0 h.good, h.listed, h.after) refl;
      }

  pub name_printed : (earlier : List (SegmentName × List ℕ)) (line : List ℕ) (row : SegmentName × List ℕ) → name_said tasks earlier line ≡ Some row → IsPrinted (NameIn tasks) name_fields earlier line row
  name_printed earlier line row h = by (line_fields line) refl h
    where
      with_row : (word task start end marks : List ℕ) (n : SegmentName) (b : Bool) → line_fields line ≡ word ∷ task ∷ start ∷ end ∷ marks ∷ [] → bytes_eq word (codes "name") ≡ true → are_marks is_name_mark (length earlier) marks ≡ true → name_of_texts task start end ≡ Some n → (has_task tasks n.0 && comes_after name_cmp (map (λ r. r.0) earlier) n) ≡ b → (if b then Some (n, marks) else None) ≡ Some row → IsPrinted (NameIn tasks) name_fields earlier line row
      with_row word task start end marks n false e w m f a told = absurd (cc told)
      with_row word task start end marks n true e w m f a told =
          let p = and_parts (has_task tasks n.0) (comes_after name_cmp (map (λ r. r.0) earlier) n) a in
          let name = name_is task start end n f in
          let whole : (n, marks) ≡ row = cc told in
          record {
            accepted = subst (NameIn tasks earlier) whole (record { good = name.good; after = p.1; marks = m; listed = p.0 });
            line_is = line_of_fields line (word ∷ task ∷ start ∷ end ∷ marks ∷ []) e ∙ ap (λ (x : List ℕ). join_with_byte 9 (x ∷ task ∷ start ∷ end ∷ marks ∷ [])) (word_is word (codes "name") w)
                ∙ (λ i. join_with_byte 9 (codes "name" ∷ name.task_is i ∷ name.start_is i ∷ name.end_is i ∷ marks ∷ []))
                ∙ ap (λ (r : SegmentName × List ℕ). join_with_byte 9 (name_fields r)) whole;
          }

      with_name : (word task start end marks : List ℕ) (n : Option SegmentName) → line_fields line ≡ word ∷ task ∷ start ∷ end ∷ marks ∷ [] → bytes_eq word (codes "name") ≡ true → are_marks is_name_mark (length earlier) marks ≡ true → name_of_texts task start end ≡ n → option_and_then (λ x. name_row tasks earlier x marks) n ≡ Some row → IsPrinted (NameIn tasks) name_fields earlier line row
      with_name word task start end marks None e w m f told = absurd (cc told)
      with_name word task start end marks (Some n) e w m f told = with_row word task start end marks n (has_task tasks n.0 && comes_after name_cmp (map (λ r. r.0) earlier) n) e w m f refl told

      with_test : (word task start end marks : List ℕ) (b : Bool) → line_fields line ≡ word ∷ task ∷ start ∷ end ∷ marks ∷ [] → (bytes_eq word (codes "name") && are_marks is_name_mark (length earlier) marks) ≡ b → (if b then option_and_then (λ x. name_row tasks earlier x marks) (name_of_texts task start end) else None) ≡ Some row → IsPrinted (NameIn tasks) name_fields earlier line row
      with_test word task start end marks false e t told = absurd (cc told)
      with_test word task start end marks true e t told =
          let p = and_parts (bytes_eq word (codes "name")) (are_marks is_name_mark (length earlier) marks) t in
          with_name word task start end marks (name_of_texts task start end) e p.0 p.1 refl told

      by : (fs : List (List ℕ)) → line_fields line ≡ fs → name_of_fields tasks earlier fs ≡ Some row → IsPrinted (NameIn tasks) name_fields earlier line row
      by [] e told = absurd (cc told)
      by (a ∷ []) e told = absurd (cc told)
      by (a ∷ b ∷ []) e told = absurd (cc told)
      by (a ∷ b ∷ c ∷ []) e told = absurd (cc told)
      by (a ∷ b ∷ c ∷ d ∷ []) e told = absurd (cc told)
      by (a ∷ b ∷ c ∷ d ∷ m ∷ []) e told = with_test a b c d m (bytes_eq a (codes "name") && are_marks is_name_mark (length earlier) m) e refl told
      by (a ∷ b ∷ c ∷ d ∷ m ∷ f ∷ fs) e told = absurd (cc told)

-- ---- headers
-- the fields of a header with these counts
abbrev pub count_fields : DigestCounts → List (List ℕ)
count_fields c = codes "summary" ∷ figure (codes "traces") c.traces ∷ figure (codes "days") c.days ∷ figure (codes "tasks") c.tasks ∷ figure (codes "names") c.names ∷ []

-- the counts of a header
pub record CountsIn (c : DigestCounts) : Type 0 where
  pub traces : c.traces < 2 ^ 64
  pub days : c.days < 2 ^ 32
  pub tasks : c.tasks < 2 ^ 32
  pub names : c.names < 2 ^ 32
  pub possible : are_possible c ≡ true

counts_whole : (c : DigestCounts) → CountsIn c → All IsUnbroken (count_fields c)
counts_whole c h =
    five (codes "summary") (figure (codes "traces") c.traces) (figure (codes "days") c.days) (figure (codes "tasks") c.tasks) (figure (codes "names") c.names)
    (word_whole (codes "summary") refl refl)
    (figure_whole (codes "traces") c.traces (word_whole (codes "traces") refl refl) h.traces)
    (figure_whole (codes "days") c.days (word_whole (codes "days") refl refl) (omega (arith, h.days)))
    (figure_whole (codes "tasks") c.tasks (word_whole (codes "tasks") refl refl) (omega (arith, h.tasks)))
    (figure_whole (codes "names") c.names (word_whole (codes "names") refl refl) (omega (arith, h.names)))

pub header_whole : (c : DigestCounts) → CountsIn c → All (λ b. (b == 10) ≡ false) (join_with_byte 9 (count_fields c))
header_whole c h = joined_whole (count_fields c) (counts_whole c h)

pub header_read : (c : DigestCounts) → CountsIn c → header_said (join_with_byte 9 (count_fields c)) ≡ Some c
header_read c h =
    let t = longs.of_number c.traces h.traces in
    let d = of_number c.days h.days in
    let k = of_number c.tasks h.tasks in
    let n = of_number c.names h.names in
    ap counts_said (fields_back (codes "summary") (figure (codes "traces") c.traces ∷ figure (codes "days") c.days ∷ figure (codes "tasks") c.tasks ∷ figure (codes "names") c.names ∷ []) (counts_whole c h))
    ∙ (λ i. option_and_then (λ (p : ℕ × (ℕ × (ℕ × ℕ))). possible_counts (record { traces = p.0; days = p.1.0; tasks = p.1.1.0; names = p.1.1.1 })) (option_zip (t i) (option_zip (d i) (option_zip (k i) (n i)))))
    ∙ rw h.possible refl

-- a field is a label and what follows it
labelled : (label field rest : List ℕ) → after_label label field ≡ Some rest → field ≡ label ++ rest
labelled label field rest h = by (starts_with nat_eq field label) refl h
  where
    by : (b : Bool) → starts_with nat_eq field label ≡ b → (if b then Some (drop (length label) field) else None) ≡ Some rest → field ≡ label ++ rest
    by false e told = absurd (cc told)
    by true e told =
        let same : drop (length label) field ≡ rest = cc told in
        (starts_is Decides-eqb field label (starts_with nat_eq field label) refl).0 e ∙ ap (λ (l : List ℕ). label ++ l) same

-- a field is a label and a number
record IsLabelled (limit n : ℕ) (label field : List ℕ) : Type 0 where
  pub small : n < limit
  pub field_is : field ≡ label ++ decimal n

plain_labelled : (label field : List ℕ) (n : ℕ) → option_and_then plain_number (after_label label field) ≡ Some n → IsLabelled (2 ^ 32) n label field
plain_labelled label field n h = by (after_label label field) refl h
  where
    by : (o : Option (List ℕ)) → after_label label field ≡ o → option_and_then plain_number o ≡ Some n → IsLabelled (2 ^ 32) n label field
    by None e told = absurd (cc told)
    by (Some rest) e told =
        let number = plain_is n rest told in
        record { small = number.small; field_is = labelled label field rest e ∙ ap (λ (l : List ℕ). label ++ l) number.word_is }

long_labelled : (label field : List ℕ) (n : ℕ) → option_and_then long_number (after_label label field) ≡ Some n → IsLabelled (2 ^ 64) n label field
long_labelled label field n h = by (after_label label field) refl h
  where
    by : (o : Option (List ℕ)) → after_label label field ≡ o → option_and_then long_number o ≡ Some n → IsLabelled (2 ^ 64) n label field
    by None e told = absurd (cc told)
    by (Some rest) e told =
        let number = long_is n rest told in
        record { small = number.small; field_is = labelled label field rest e ∙ ap (λ (l : List ℕ). label ++ l) number.word_is }

-- the line of a header is that of its counts
pub record IsHeaderOf (line : List ℕ) (c : DigestCounts) : Type 0 where
  pub counts : CountsIn c
  pub line_is : line ≡ join_with_byte 9 (count_fields c)

pub header_is : (line : List ℕ) (c : DigestCounts) → header_said line ≡ Some c → IsHeaderOf line c
header_is line c h = by (line_fields line) refl h
  where
    with_counts : (word traces days tasks names : List ℕ) (t d k n : ℕ) (b : Bool) → line_fields line ≡ word ∷ traces ∷ days ∷ tasks ∷ names ∷ [] → bytes_eq word (codes "summary") ≡ true → IsLabelled (2 ^ 64) t (codes "traces=") traces → IsLabelled (2 ^ 32) d (codes "days=") days → IsLabelled (2 ^ 32) k (codes "tasks=") tasks → IsLabelled (2 ^ 32) n (codes "names=") names
        → are_possible (record { traces = t; days = d; tasks = k; names = n }) ≡ b → (if b then Some (record { traces = t; days = d; tasks = k; names = n }) else None) ≡ Some c → IsHeaderOf line c
    with_counts word traces days tasks names t d k n false e w lt ld lk ln p told = absurd (cc told)
    with_counts word traces days tasks names t d k n true e w lt ld lk ln p told =
        let counts : DigestCounts = record { traces = t; days = d; tasks = k; names = n } in
        let whole : counts ≡ c = cc told in
        let s : word ≡ codes "summary" = word_is word (codes "summary") w in
        record {
          counts = subst CountsIn whole (record { traces = lt.small; days = ld.small; tasks = lk.small; names = ln.small; possible = p });
          line_is = line_of_fields line (word ∷ traces ∷ days ∷ tasks ∷ names ∷ []) e
              ∙ (λ i. join_with_byte 9 (s i ∷ lt.field_is i ∷ ld.field_is i ∷ lk.field_is i ∷ ln.field_is i ∷ []))
              ∙ ap (λ (q : DigestCounts). join_with_byte 9 (count_fields q)) whole;
        }

    with_numbers : (word traces days tasks names : List ℕ) (t d k n : Option ℕ) → line_fields line ≡ word ∷ traces ∷ days ∷ tasks ∷ names ∷ [] → bytes_eq word (codes "summary") ≡ true
        → option_and_then long_number (after_label (codes "traces=") traces) ≡ t → option_and_then plain_number (after_label (codes "days=") days) ≡ d → option_and_then plain_number (after_label (codes "tasks=") tasks) ≡ k → option_and_then plain_number (after_label (codes "names=") names) ≡ n
        → option_and_then (λ (p : ℕ × (ℕ × (ℕ × ℕ))). possible_counts (record { traces = p.0; days = p.1.0; tasks = p.1.1.0; names = p.1.1.1 })) (option_zip t (option_zip d (option_zip k n))) ≡ Some c → IsHeaderOf line c
    with_numbers word traces days tasks names None d k n e w lt ld lk ln told = absurd (cc told)
    with_numbers word traces days tasks names (Some t) None k n e w lt ld lk ln told = absurd (cc told)
    with_numbers word traces days tasks names (Some t) (Some d) None n e w lt ld lk ln told = absurd (cc told)
    with_numbers word traces days tasks names (Some t) (Some d) (Some k) None e w lt ld lk ln told = absurd (cc told)
    with_numbers word traces days tasks names (Some t) (Some d) (Some k) (Some n) e w lt ld lk ln told =
        with_counts word traces days tasks names t d k n (are_possible (record { traces = t; days = d; tasks = k; names = n })) e w
        (long_labelled (codes "traces=") traces t lt) (plain_labelled (codes "days=") days d ld) (plain_labelled (codes "tasks=") tasks k lk) (plain_labelled (codes "names=") names n ln) refl told

    with_word : (word traces days tasks names : List ℕ) (b : Bool) → line_fields line ≡ word ∷ traces ∷ days ∷ tasks ∷ names ∷ [] → bytes_eq word (codes "summary") ≡ b → (if b then counts_of_fields traces days tasks names else None) ≡ Some c → IsHeaderOf line c
    with_word word traces days tasks names false e w told = absurd (cc told)
    with_word word traces days tasks names true e w told =
        with_numbers word traces days tasks names (option_and_then long_number (after_label (codes "traces=") traces)) (option_and_then plain_number (after_label (codes "days=") days)) (option_and_then plain_number (after_label (codes "tasks=") tasks)) (option_and_then plain_number (after_label (codes "names=") names)) e w refl refl refl refl told

    by : (fs : List (List ℕ)) → line_fields line ≡ fs → counts_said fs ≡ Some c → IsHeaderOf line c
    by [] e told = absurd (cc told)
    by (a ∷ []) e told = absurd (cc told)
    by (a ∷ b ∷ []) e told = absurd (cc told)
    by (a ∷ b ∷ d ∷ []) e told = absurd (cc told)
    by (a ∷ b ∷ d ∷ f ∷ []) e told = absurd (cc told)
    by (a ∷ b ∷ d ∷ f ∷ g ∷ []) e told = with_word a b d f g (bytes_eq a (codes "summary")) e refl told
    by (a ∷ b ∷ d ∷ f ∷ g ∷ k ∷ fs) e told = absurd (cc told)
