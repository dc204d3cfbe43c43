-- Rows that are printed one after another are read again, and what is read are such rows.
use Rattle.std.proofs.Common.{◌≡◌, ℕ, zero, suc, ◌+◌, List, [], ◌∷◌, ◌++◌, length, map, Option, Some, None, Result, Ok, Err, refl, sym, subst, ap, ◌∙◌, arith, append_assoc, append-nil}
use Rattle.std.specs.Prelude.{All, false}
use Rattle.std.specs.List.{flat_map, join_with_byte}
use Rattle.std.specs.Option.{option_map_or}
use Rattle.event_lines.specs.Cut.{is_line_feed}
use Rattle.text_rows.specs.Rows.{row_of}
use Rattle.digest_reading.specs.Readings.{Read, and_next, by_line, first_line, rows_said}
use Rattle.digest_laws.proofs.LineLemmas.{line_back, line_cut, row_then}

-- ---- one line
-- a printed row is read by its line
pub line_read : {X : Type 0} (said : List ℕ → Option X) (n : ℕ) (fields : List (List ℕ)) (rest : List ℕ) (x : X) → All (λ b. is_line_feed b ≡ false) (join_with_byte 9 fields) → said (join_with_byte 9 fields) ≡ Some x
    → by_line said n (row_of fields ++ rest) ≡ Ok (record { value = x; number = n + 1; left = rest })
line_read {X} said n fields rest x whole is =
    let cut : first_line (row_of fields ++ rest) ≡ Some (join_with_byte 9 fields, rest) = ap first_line (row_then fields rest) ∙ line_cut (join_with_byte 9 fields) rest whole in
    rw cut (rw is refl)

-- what a line says, and the bytes that it ends
pub record IsLineRead {X : Type 0} (said : List ℕ → Option X) (bytes : List ℕ) (x : X) (left : List ℕ) : Type 0 where
  pub line : List ℕ
  pub said_by : said line ≡ Some x
  pub bytes_are : bytes ≡ line ++ 10 ∷ left

pub line_said : {X : Type 0} (said : List ℕ → Option X) (n : ℕ) (bytes : List ℕ) (r : Read X) → by_line said n bytes ≡ Ok r → IsLineRead said bytes r.value r.left
line_said {X} said n bytes r h = by (first_line bytes) refl h
  where
    with_said : (line : List ℕ × List ℕ) (x : Option X) → first_line bytes ≡ Some line → said line.0 ≡ x → option_map_or (λ (y : X). Ok (record { value = y; number = n + 1; left = line.1 })) x (Err n) ≡ Ok r → IsLineRead said bytes r.value r.left
    with_said line None e f told = absurd (cc told)
    with_said line (Some x) e f told =
        let whole : record { value = x; number = n + 1; left = line.1 } ≡ r = cc told in
        let value : x ≡ r.value = ap (λ (q : Read X). q.value) whole in
        let left : line.1 ≡ r.left = ap (λ (q : Read X). q.left) whole in
        record {
          line = line.0;
          said_by = f ∙ ap Some value;
          bytes_are = line_back bytes line.0 line.1 e ∙ ap (λ (l : List ℕ). line.0 ++ 10 ∷ l) left;
        }

    by : (o : Option (List ℕ × List ℕ)) → first_line bytes ≡ o → option_map_or (λ (line : List ℕ × List ℕ). option_map_or (λ (x : X). Ok (record { value = x; number = n + 1; left = line.1 })) (said line.0) (Err n)) o (Err n) ≡ Ok r → IsLineRead said bytes r.value r.left
    by None e told = absurd (cc told)
    by (Some line) e told = with_said line (said line.0) e refl told

-- ---- rows
-- an accepted element is read from its row
pub record IsReadBack {X : Type 0} (said : List X → List ℕ → Option X) (fields : X → List (List ℕ)) (earlier : List X) (x : X) : Type 0 where
  pub whole : All (λ b. is_line_feed b ≡ false) (join_with_byte 9 (fields x))
  pub said_again : said earlier (join_with_byte 9 (fields x)) ≡ Some x

module _ {X : Type 0} (Accepts : List X → X → Type 0) where
  -- each of further elements is accepted after those before it
  abbrev pub AreAccepted : List X → List X → Type 0
  AreAccepted earlier [] = Unit {0}
  AreAccepted earlier (x ∷ xs) = Accepts earlier x × AreAccepted (earlier ++ x ∷ []) xs

  -- what a line says is accepted, and the line is its row
  pub record IsPrinted (fields : X → List (List ℕ)) (earlier : List X) (line : List ℕ) (x : X) : Type 0 where
    pub accepted : Accepts earlier x
    pub line_is : line ≡ join_with_byte 9 (fields x)

  module _ (said : List X → List ℕ → Option X) (fields : X → List (List ℕ)) where
    pub rows_read : ((earlier : List X) (x : X) → Accepts earlier x → IsReadBack said fields earlier x) → (earlier xs : List X) (n : ℕ) (rest : List ℕ) → AreAccepted earlier xs
        → rows_said said (length xs) earlier n (flat_map row_of (map fields xs) ++ rest) ≡ Ok (record { value = earlier ++ xs; number = n + length xs; left = rest })
    unfolding rows_said
    rows_read each earlier [] n rest h =
        let all : earlier ≡ earlier ++ [] = sym (append-nil earlier) in
        let same : n ≡ n + 0 = omega arith in
        λ i. Ok (record { value = all i; number = same i; left = rest })
    rows_read each earlier (x ∷ xs) n rest h =
        let b = each earlier x h.0 in
        let more : List ℕ = flat_map row_of (map fields xs) ++ rest in
        let bytes : (row_of (fields x) ++ flat_map row_of (map fields xs)) ++ rest ≡ row_of (fields x) ++ more = append_assoc (row_of (fields x)) (flat_map row_of (map fields xs)) rest in
        let first : by_line (said earlier) n (row_of (fields x) ++ more) ≡ Ok (record { value = x; number = n + 1; left = more }) = line_read (said earlier) n (fields x) more x b.whole b.said_again in
        let next = rows_read each (earlier ++ x ∷ []) xs (n + 1) rest h.1 in
        let all : (earlier ++ x ∷ []) ++ xs ≡ earlier ++ x ∷ xs = append_assoc earlier (x ∷ []) xs in
        let count : (n + 1) + length xs ≡ n + suc (length xs) = omega arith in
        rw bytes (rw first (next ∙ (λ i. Ok (record { value = all i; number = count i; left = rest }))))

    -- further rows that were read
    pub record AreRead (earlier : List X) (count : ℕ) (bytes : List ℕ) (r : Read (List X)) : Type 0 where
      pub rows : List X
      pub value : r.value ≡ earlier ++ rows
      pub counted : length rows ≡ count
      pub accepted : AreAccepted earlier rows
      pub bytes_are : bytes ≡ flat_map row_of (map fields rows) ++ r.left

    pub rows_back : ((earlier : List X) (line : List ℕ) (x : X) → said earlier line ≡ Some x → IsPrinted fields earlier line x) → (count : ℕ) (earlier : List X) (n : ℕ) (bytes : List ℕ) (r : Read (List X)) → rows_said said count earlier n bytes ≡ Ok r → AreRead earlier count bytes r
    unfolding rows_said
    rows_back each zero earlier n bytes r h =
        let whole : record { value = earlier; number = n; left = bytes } ≡ r = cc h in
        record {
          rows = [];
          value = sym (ap (λ (q : Read (List X)). q.value) whole) ∙ sym (append-nil earlier);
          counted = refl;
          accepted = tt;
          bytes_are = ap (λ (q : Read (List X)). q.left) whole;
        }
    rows_back each (suc count) earlier n bytes r h = by (by_line (said earlier) n bytes) refl (rows_back each count) h
      where
        by : (p : Result (Read X) ℕ) → by_line (said earlier) n bytes ≡ p → ((before : List X) (m : ℕ) (rest : List ℕ) (q : Read (List X)) → rows_said said count before m rest ≡ Ok q → AreRead before count rest q) → and_next p (λ x next left. rows_said said count (earlier ++ x ∷ []) next left) ≡ Ok r → AreRead earlier (suc count) bytes r
        by (Err m) e back told = absurd (cc told)
        by (Ok q) e back told =
            let line = line_said (said earlier) n bytes q e in
            let here = each earlier line.line q.value line.said_by in
            let more = back (earlier ++ q.value ∷ []) q.number q.left r told in
            record {
              rows = q.value ∷ more.rows;
              value = more.value ∙ append_assoc earlier (q.value ∷ []) more.rows;
              counted = ap suc more.counted;
              accepted = (here.accepted, more.accepted);
              bytes_are = line.bytes_are ∙ ap (λ (l : List ℕ). l ++ 10 ∷ q.left) here.line_is
                  ∙ sym (row_then (fields q.value) q.left)
                  ∙ ap (λ (l : List ℕ). row_of (fields q.value) ++ l) more.bytes_are
                  ∙ sym (append_assoc (row_of (fields q.value)) (flat_map row_of (map fields more.rows)) r.left);
            }

    -- rows that are all of those that were read
    pub record AreAll (count : ℕ) (bytes : List ℕ) (r : Read (List X)) : Type 0 where
      pub counted : length r.value ≡ count
      pub accepted : AreAccepted [] r.value
      pub bytes_are : bytes ≡ flat_map row_of (map fields r.value) ++ r.left

    pub all_back : ((earlier : List X) (line : List ℕ) (x : X) → said earlier line ≡ Some x → IsPrinted fields earlier line x) → (count n : ℕ) (bytes : List ℕ) (r : Read (List X)) → rows_said said count [] n bytes ≡ Ok r → AreAll count bytes r
    all_back each count n bytes r h =
        let a = rows_back each count [] n bytes r h in
        let value : r.value ≡ a.rows = a.value in
        record {
          counted = ap (λ (l : List X). length l) value ∙ a.counted;
          accepted = subst (AreAccepted []) (sym value) a.accepted;
          bytes_are = a.bytes_are ∙ ap (λ (l : List X). flat_map row_of (map fields l) ++ r.left) (sym value);
        }
