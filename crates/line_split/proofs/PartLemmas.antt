-- What one line more brings to the files of a call.
use Rattle.std.proofs.Common.{◌≡◌, ◌<◌, ◌≤◌, ◌+◌, ◌-◌, ℕ, List, [], ◌∷◌, ◌++◌, Bool, true, false, Option, Some, None, Result, Ok, Err, ap, arith, refl, sym, ◌∙◌, append-nil, append_assoc, if◌then◌else◌, inl, inr}
use Rattle.std.specs.Prelude.{◌==◌, filter, nat_lt, is_ok}
use Rattle.std.specs.List.{flat_map}
use Rattle.std.proofs.lemmas.Bool.{cases_eq, cases_lt, eq-eqb, eqb-true, le-ltb, lt-ltb, ne_eqb}
use Rattle.std.proofs.lemmas.List.Concat.{flat_map-append}
use Rattle.std.proofs.lemmas.Nat.{mod_below}
use Rattle.std.proofs.lemmas.List.Elements.{filter-append}
use Rattle.byteorder.specs.Endian.{big_number}
use Rattle.sha2.specs.Sha256.{sha256}
use Rattle.output_files.specs.Written.{WrittenFile}
use Rattle.line_split.specs.declared.reason.Reason.{Reason}
use Rattle.line_split.specs.CommandLines.{Call}
use Rattle.line_split.specs.Lines.{FileLine, request_of}
use Rattle.line_split.specs.Parts.{IsOnePart, grace_line, grace_origin, has_part, is_in_part, line_row, made_name, made_text, origin_row, origins_text, part_file, part_of, part_text}
use Rattle.line_split.specs.inner.Pending.{added, with_more}
use Rattle.line_split.specs.inner.Steps.{part_said}

has_said : (call : Call) (r : Result (Option (List ℕ)) Reason) (k part : ℕ) → part_said call r ≡ Ok (Some k) → has_part call part r ≡ (k == part)
has_said call (Ok (Some request)) k part e =
    let same : part_of call.parts call.seed request ≡ k = cc in
    ap (λ n. n == part) same
has_said call (Ok None) k part e = cc
has_said call (Err why) k part e = cc

has_none : (call : Call) (r : Result (Option (List ℕ)) Reason) (part : ℕ) → part_said call r ≡ Ok None → has_part call part r ≡ false
has_none call (Ok (Some request)) part e = cc
has_none call (Ok None) part e = refl
has_none call (Err why) part e = cc

-- a line of which the part is known is good
pub good_said : (call : Call) (r : Result (Option (List ℕ)) Reason) (o : Option ℕ) → part_said call r ≡ Ok o → is_ok r ≡ true
good_said call (Ok (Some request)) o e = refl
good_said call (Ok None) o e = refl
good_said call (Err why) o e = cc

-- why a line is bad
pub bad_said : (call : Call) (r : Result (Option (List ℕ)) Reason) (why : Reason) → part_said call r ≡ Err why → r ≡ Err why
bad_said call (Ok (Some request)) why e = cc
bad_said call (Ok None) why e = cc
bad_said call (Err w) why e = cc

-- the rows of a file with one line more
rows_push : (row : FileLine → List ℕ) (p : FileLine → Bool) (lines : List FileLine) (line : FileLine) (b : Bool) → p line ≡ b
    → flat_map row (filter p (lines ++ line ∷ [])) ≡ flat_map row (filter p lines) ++ (if b then row line else [])
rows_push row p lines line b e =
    ap (flat_map row) (filter-append p lines (line ∷ [])) ∙ flat_map-append row (filter p lines) (filter p (line ∷ [])) ∙ ap (λ xs. flat_map row (filter p lines) ++ xs) (one b e)
  where
    one : (b : Bool) → p line ≡ b → flat_map row (filter p (line ∷ [])) ≡ (if b then row line else [])
    one true e = rw e (append-nil (row line))
    one false e = rw e refl

text_push : (head : List ℕ) (row : FileLine → List ℕ) (p : FileLine → Bool) (lines : List FileLine) (line : FileLine) (b : Bool) → p line ≡ b
    → head ++ flat_map row (filter p (lines ++ line ∷ [])) ≡ (head ++ flat_map row (filter p lines)) ++ (if b then row line else [])
text_push head row p lines line b e = ap (λ xs. head ++ xs) (rows_push row p lines line b e) ∙ sym (append_assoc head (flat_map row (filter p lines)) (if b then row line else []))

-- a line that stands in no part brings nothing
none_text : (call : Call) (lines : List FileLine) (line : FileLine) (j : ℕ) → part_said call (request_of line.bytes) ≡ Ok None → made_text call lines j ≡ made_text call (lines ++ line ∷ []) j
none_text call lines line j e = by (nat_lt j call.parts)
  where
    by : (b : Bool) → (if b then part_text call lines j else origins_text call lines (j - call.parts)) ≡ (if b then part_text call (lines ++ line ∷ []) j else origins_text call (lines ++ line ∷ []) (j - call.parts))
    by true = sym (text_push (grace_line call.grace) line_row (is_in_part call j) lines line false (has_none call (request_of line.bytes) j e) ∙ append-nil (part_text call lines j))
    by false = sym (text_push (grace_origin call.grace) origin_row (is_in_part call (j - call.parts)) lines line false (has_none call (request_of line.bytes) (j - call.parts) e) ∙ append-nil (origins_text call lines (j - call.parts)))

pub file_none : (call : Call) (lines : List FileLine) (line : FileLine) → part_said call (request_of line.bytes) ≡ Ok None → (j : ℕ) → part_file call lines j ≡ part_file call (lines ++ line ∷ []) j
file_none call lines line e j = ap (λ (b : List ℕ). record { name = made_name call j; bytes = b }) (none_text call lines line j e)

-- one list more or none
more_if : (name text more : List ℕ) (b : Bool) → (if b then with_more (record { name = name; bytes = text }) more else record { name = name; bytes = text }) ≡ record { name = name; bytes = text ++ (if b then more else []) }
more_if name text more true = refl
more_if name text more false = ap (λ (t : List ℕ). record { name = name; bytes = t }) (sym (append-nil text))

eqb_by : (a b c d : ℕ) → (a ≡ b → c ≡ d) → (c ≡ d → a ≡ b) → (a == b) ≡ (c == d)
eqb_by a b c d f g = elim (cases_eq a b) [
  | inl e ↦ eq-eqb a b e ∙ sym (eq-eqb c d (f e))
  | inr ne ↦ ne_eqb a b ne ∙ sym (ne_eqb c d (λ e. ne (g e)))
]

-- a line brings its row to its part, and one to the origins
module _ (call : Call) (lines : List FileLine) (line : FileLine) (k : ℕ) (within : k < call.parts) (is : part_said call (request_of line.bytes) ≡ Ok (Some k)) where
  part_push : (j : ℕ) → part_text call (lines ++ line ∷ []) j ≡ part_text call lines j ++ (if k == j then line_row line else [])
  part_push j = text_push (grace_line call.grace) line_row (is_in_part call j) lines line (k == j) (has_said call (request_of line.bytes) k j is)

  origins_push : (j : ℕ) → origins_text call (lines ++ line ∷ []) j ≡ origins_text call lines j ++ (if k == j then origin_row line else [])
  origins_push j = text_push (grace_origin call.grace) origin_row (is_in_part call j) lines line (k == j) (has_said call (request_of line.bytes) k j is)

  abbrev both : ℕ → WrittenFile
  both = added (added (part_file call lines) k (line_row line)) (call.parts + k) (origin_row line)

  abbrev made : ℕ → List ℕ → WrittenFile
  made j text = record { name = made_name call j; bytes = text }

  below : (j : ℕ) → j < call.parts → both j ≡ part_file call (lines ++ line ∷ []) j
  below j lt =
      let outer : (j == call.parts + k) ≡ false = ne_eqb j (call.parts + k) (λ e. omega (arith, e, lt)) in
      let here : nat_lt j call.parts ≡ true = lt-ltb j call.parts lt in
      let row = line_row line in
      let inner : ℕ → WrittenFile = added (part_file call lines) k row in
      let text : made_text call lines j ++ (if j == k then row else []) ≡ made_text call (lines ++ line ∷ []) j =
      ap (λ (b : Bool). (if b then part_text call lines j else origins_text call lines (j - call.parts)) ++ (if j == k then row else [])) here
      ∙ ap (λ (b : Bool). part_text call lines j ++ (if b then row else [])) (eqb_by j k k j sym sym) ∙ sym (part_push j)
      ∙ ap (λ (b : Bool). if b then part_text call (lines ++ line ∷ []) j else origins_text call (lines ++ line ∷ []) (j - call.parts)) (sym here) in
      ap (λ (b : Bool). if b then with_more (inner j) (origin_row line) else inner j) outer ∙ more_if (made_name call j) (made_text call lines j) row (j == k) ∙ ap (made j) text

  above : (j : ℕ) → call.parts ≤ j → both j ≡ part_file call (lines ++ line ∷ []) j
  above j ge =
      let other : (j == k) ≡ false = ne_eqb j k (λ e. omega (arith, e, ge, within)) in
      let here : nat_lt j call.parts ≡ false = le-ltb j call.parts ge in
      let row = origin_row line in
      let old = made j (made_text call lines j) in
      let text : made_text call lines j ++ (if j == call.parts + k then row else []) ≡ made_text call (lines ++ line ∷ []) j =
      ap (λ (b : Bool). (if b then part_text call lines j else origins_text call lines (j - call.parts)) ++ (if j == call.parts + k then row else [])) here
      ∙ ap (λ (b : Bool). origins_text call lines (j - call.parts) ++ (if b then row else [])) (eqb_by j (call.parts + k) k (j - call.parts) (λ e. omega (arith, e)) (λ e. omega (arith, e, ge)))
      ∙ sym (origins_push (j - call.parts))
      ∙ ap (λ (b : Bool). if b then part_text call (lines ++ line ∷ []) j else origins_text call (lines ++ line ∷ []) (j - call.parts)) (sym here) in
      ap (λ (b : Bool). if j == call.parts + k then with_more (if b then with_more old (line_row line) else old) row else (if b then with_more old (line_row line) else old)) other
      ∙ more_if (made_name call j) (made_text call lines j) row (j == call.parts + k) ∙ ap (made j) text

  pub file_put : (j : ℕ) → both j ≡ part_file call (lines ++ line ∷ []) j
  file_put j = elim (cases_lt j call.parts) [ inl lt ↦ below j lt | inr ge ↦ above j ge ]

-- an event line stands in one part
pub one_part : (call : Call) (line : FileLine) (request : List ℕ) → 0 < call.parts → request_of line.bytes ≡ Ok (Some request) → IsOnePart call line
one_part call line request some is =
    let part = part_of call.parts call.seed request in
    record {
      part = part;
      within = mod_below (big_number 8 (sha256 (call.seed ++ request))) call.parts some;
      stands = ap (has_part call part) is ∙ eq-eqb part part refl;
      alone = λ other h. sym (eqb-true part other (sym (ap (has_part call other) is) ∙ h));
    }

-- the part of a line is that of its request
part_is : (call : Call) (line : FileLine) (request : List ℕ) (part : ℕ) → request_of line.bytes ≡ Ok (Some request) → is_in_part call part line ≡ true → part_of call.parts call.seed request ≡ part
part_is call line request part is h = eqb-true (part_of call.parts call.seed request) part (sym (ap (has_part call part) is) ∙ h)

pub same_part : (call : Call) (line other : FileLine) (request : List ℕ) (a b : ℕ) → request_of line.bytes ≡ Ok (Some request) → request_of other.bytes ≡ Ok (Some request) → is_in_part call a line ≡ true → is_in_part call b other ≡ true → a ≡ b
same_part call line other request a b is same here there = sym (part_is call line request a is here) ∙ part_is call other request b same there
