-- Numbers, texts and marks of fields: what they are read as, and that they have no tab and no line
-- feed.
use Rattle.std.proofs.Common.{◌≡◌, ℕ, ◌<◌, ◌≤◌, ◌^◌, ◌==◌, ◌&&◌, ◌||◌, not, List, [], ◌∷◌, ◌++◌, length, Bool, true, false, true≢false, Option, Some, None, refl, sym, ap, ◌∙◌, subst, arith, codes, decimal}
use Rattle.std.specs.Prelude.{All, nat_le, nat_lt, option_map, if◌then◌else◌}
use Rattle.std.specs.Char.{is_ascii_digit}
use Rattle.std.specs.List.{list_all, list_any}
use Rattle.std.specs.Option.{option_zip}
use Rattle.std.specs.Str.{bytes_eq, is_utf8}
use Rattle.std.specs.Str.Parse.{digits_value}
use Rattle.std.proofs.lemmas.Bool.{and_parts, eqb-true, leb-true, ltb-false, ltb-true, ne_eqb, or_parts}
use Rattle.std.proofs.lemmas.Fmt.{digits_decimal}
use Rattle.std.proofs.lemmas.List.Elements.{All-append, All-cons, All-nil}
use Rattle.std.proofs.lemmas.Slice.Eq.{bytes_eq-Decides}
use Rattle.trace_types.proofs.DecimalLemmas.{decimal_numerals}
use Rattle.trace_types.specs.Segments.{SegmentName}
use Rattle.event_lines.specs.EventFaults.{is_bad_text, is_control_character}
use Rattle.step_core.specs.Numbers.{plain_number}
use Rattle.certificates.specs.Claims.{name_of_texts, text_of}
use Rattle.text_rows.specs.Rows.{figure}
use Rattle.digest_facts.specs.Texts.{IsUnbroken}
use Rattle.digest_reading.specs.DigestRows.{is_name_mark, is_task_mark}
use Rattle.digest_reading.specs.Headers.{long_number}

-- ---- numbers
-- a word is the digits of the number that it is read as, which fits
pub record IsNumber (limit n : ℕ) (word : List ℕ) : Type 0 where
  pub small : n < limit
  pub word_is : word ≡ decimal n

number_of : (limit n : ℕ) (word : List ℕ) (a b : Bool) → nat_lt (digits_value 10 word) limit ≡ a → bytes_eq (decimal (digits_value 10 word)) word ≡ b → (if a && b then Some (digits_value 10 word) else None) ≡ Some n → IsNumber limit n word
number_of limit n word true true e f h =
    let same : digits_value 10 word ≡ n = cc h in
    record {
      small = subst (λ (m : ℕ). m < limit) same (ltb-true (digits_value 10 word) limit e);
      word_is = sym ((bytes_eq-Decides (decimal (digits_value 10 word)) word).0 f) ∙ ap decimal same;
    }
number_of limit n word true false e f h = absurd (cc h)
number_of limit n word false b e f h = absurd (cc h)

pub plain_is : (n : ℕ) (word : List ℕ) → plain_number word ≡ Some n → IsNumber (2 ^ 32) n word
plain_is n word h = number_of (2 ^ 32) n word (nat_lt (digits_value 10 word) (2 ^ 32)) (bytes_eq (decimal (digits_value 10 word)) word) refl refl h

pub long_is : (n : ℕ) (word : List ℕ) → long_number word ≡ Some n → IsNumber (2 ^ 64) n word
long_is n word h = number_of (2 ^ 64) n word (nat_lt (digits_value 10 word) (2 ^ 64)) (bytes_eq (decimal (digits_value 10 word)) word) refl refl h

-- ---- bytes that a field lacks
pub both_whole : (xs ys : List ℕ) → IsUnbroken xs → IsUnbroken ys → IsUnbroken (xs ++ ys)
both_whole xs ys h k = (All-append (λ b. (b == 9) ≡ false) xs ys h.0 k.0, All-append (λ b. (b == 10) ≡ false) xs ys h.1 k.1)

none_any : (c : ℕ) (bytes : List ℕ) → list_any (λ b. b == c) bytes ≡ false → All (λ b. (b == c) ≡ false) bytes
none_any c [] h = All-nil (λ b. (b == c) ≡ false)
none_any c (b ∷ bytes) h =
    let p = or_parts (b == c) (list_any (λ x. x == c) bytes) h in
    All-cons (λ x. (x == c) ≡ false) b bytes p.0 (none_any c bytes p.1)

pub word_whole : (bytes : List ℕ) → list_any (λ b. b == 9) bytes ≡ false → list_any (λ b. b == 10) bytes ≡ false → IsUnbroken bytes
word_whole bytes h k = (none_any 9 bytes h, none_any 10 bytes k)

digit_other : (b c : ℕ) → c < 48 → is_ascii_digit b ≡ true → (b == c) ≡ false
digit_other b c l h =
    let p = and_parts (nat_le 48 b) (nat_le b 57) h in
    let low : 48 ≤ b = leb-true 48 b p.0 in
    ne_eqb b c (λ e. omega arith)

digits_other : (c : ℕ) → c < 48 → (ds : List ℕ) → list_all is_ascii_digit ds ≡ true → All (λ b. (b == c) ≡ false) ds
digits_other c l [] h = All-nil (λ b. (b == c) ≡ false)
digits_other c l (b ∷ ds) h =
    let p = and_parts (is_ascii_digit b) (list_all is_ascii_digit ds) h in
    All-cons (λ b. (b == c) ≡ false) b ds (digit_other b c l p.0) (digits_other c l ds p.1)

pub number_whole : (n : ℕ) → n < 2 ^ 64 → IsUnbroken (decimal n)
number_whole n h =
    let digits = digits_decimal decimal_numerals n h in
    (digits_other 9 (omega arith) (decimal n) digits, digits_other 10 (omega arith) (decimal n) digits)

pub figure_whole : (name : List ℕ) (n : ℕ) → IsUnbroken name → n < 2 ^ 64 → IsUnbroken (figure name n)
figure_whole name n h l = both_whole (name ++ codes "=") (decimal n) (both_whole name (codes "=") h (word_whole (codes "=") refl refl)) (number_whole n l)

-- ---- texts
-- a text is read from its field as it stands
abbrev pub IsGoodText : List ℕ → Type 0
IsGoodText text = text_of text ≡ Some text

-- and so are the three texts of a name
pub record IsGoodName (name : SegmentName) : Type 0 where
  pub task : IsGoodText name.0
  pub start : IsGoodText name.1
  pub end : IsGoodText name.2

good_text : (utf8 bad : Bool) (text : List ℕ) → (if utf8 && not bad then Some text else None) ≡ Some text → bad ≡ false
good_text true true text h = absurd (cc h)
good_text true false text h = refl
good_text false bad text h = absurd (cc h)

other : (b c : ℕ) → is_control_character b ≡ false → c < 32 → (b == c) ≡ false
other b c h low =
    let le : 32 ≤ b = ltb-false b 32 (or_parts (nat_lt b 32) (b == 127) h).0 in
    ne_eqb b c (λ e. omega arith)

lacks : (c : ℕ) → c < 32 → (bytes : List ℕ) → list_any is_control_character bytes ≡ false → All (λ b. (b == c) ≡ false) bytes
lacks c low [] h = All-nil (λ b. (b == c) ≡ false)
lacks c low (b ∷ bytes) h =
    let p = or_parts (is_control_character b) (list_any is_control_character bytes) h in
    All-cons (λ b. (b == c) ≡ false) b bytes (other b c p.0 low) (lacks c low bytes p.1)

pub text_whole : (text : List ℕ) → IsGoodText text → IsUnbroken text
text_whole text h =
    let clean = (or_parts (length text == 0 || nat_lt 64 (length text)) (list_any is_control_character text) (good_text (is_utf8 text) (is_bad_text text) text h)).1 in
    (lacks 9 (omega arith) text clean, lacks 10 (omega arith) text clean)

-- a field is the text that it is read as, which is good
pub record IsTextOf (field text : List ℕ) : Type 0 where
  pub good : IsGoodText text
  pub field_is : field ≡ text

pub text_is : (field text : List ℕ) → text_of field ≡ Some text → IsTextOf field text
text_is field text h = by (is_utf8 field && not (is_bad_text field)) refl h
  where
    by : (b : Bool) → (is_utf8 field && not (is_bad_text field)) ≡ b → (if b then Some field else None) ≡ Some text → IsTextOf field text
    by true e told =
        let same : field ≡ text = cc told in
        record { good = subst (λ (t : List ℕ). text_of t ≡ Some text) same h; field_is = same }
    by false e told = absurd (cc told)

pub name_back : (a : SegmentName) → IsGoodName a → name_of_texts a.0 a.1 a.2 ≡ Some a
name_back a p =
    let task : IsGoodText a.0 = p.task in
    let start : IsGoodText a.1 = p.start in
    let end : IsGoodText a.2 = p.end in
    λ i. option_map (λ (t : List ℕ × (List ℕ × List ℕ)). (t.0, t.1.0, t.1.1)) (option_zip (task i) (option_zip (start i) (end i)))

-- three fields are the texts of the name that they are read as, which are good
pub record IsNameOf (task start end : List ℕ) (name : SegmentName) : Type 0 where
  pub good : IsGoodName name
  pub task_is : task ≡ name.0
  pub start_is : start ≡ name.1
  pub end_is : end ≡ name.2

pub name_is : (task start end : List ℕ) (name : SegmentName) → name_of_texts task start end ≡ Some name → IsNameOf task start end name
name_is task start end name h = by (text_of task) (text_of start) (text_of end) refl refl refl h
  where
    by : (a b c : Option (List ℕ)) → text_of task ≡ a → text_of start ≡ b → text_of end ≡ c → option_map (λ (t : List ℕ × (List ℕ × List ℕ)). (t.0, t.1.0, t.1.1)) (option_zip a (option_zip b c)) ≡ Some name → IsNameOf task start end name
    by None b c e f g told = absurd (cc told)
    by (Some a) None c e f g told = absurd (cc told)
    by (Some a) (Some b) None e f g told = absurd (cc told)
    by (Some a) (Some b) (Some c) e f g told =
        let p = text_is task a e in
        let q = text_is start b f in
        let r = text_is end c g in
        let whole : (a, b, c) ≡ name = cc told in
        let first : a ≡ name.0 = ap (λ (n : SegmentName). n.0) whole in
        let second : b ≡ name.1 = ap (λ (n : SegmentName). n.1) whole in
        let third : c ≡ name.2 = ap (λ (n : SegmentName). n.2) whole in
        record {
          good = record { task = subst IsGoodText first p.good; start = subst IsGoodText second q.good; end = subst IsGoodText third r.good };
          task_is = p.field_is ∙ first;
          start_is = q.field_is ∙ second;
          end_is = r.field_is ∙ third;
        }

-- ---- marks
not_mark : (c b : ℕ) → is_name_mark c ≡ false → is_name_mark b ≡ true → (b == c) ≡ false
not_mark c b out h = by (b == c) refl
  where
    by : (e : Bool) → (b == c) ≡ e → (b == c) ≡ false
    by true e =
        let same : b ≡ c = eqb-true b c e in
        absurd (true≢false (sym h ∙ ap is_name_mark same ∙ out))
    by false e = e

marks_lack : (c : ℕ) → is_name_mark c ≡ false → (marks : List ℕ) → list_all is_name_mark marks ≡ true → All (λ b. (b == c) ≡ false) marks
marks_lack c out [] h = All-nil (λ b. (b == c) ≡ false)
marks_lack c out (b ∷ marks) h =
    let p = and_parts (is_name_mark b) (list_all is_name_mark marks) h in
    All-cons (λ b. (b == c) ≡ false) b marks (not_mark c b out p.0) (marks_lack c out marks p.1)

pub marks_whole : (marks : List ℕ) → list_all is_name_mark marks ≡ true → IsUnbroken marks
marks_whole marks h = (marks_lack 9 refl marks h, marks_lack 10 refl marks h)

pub task_marks : (marks : List ℕ) → list_all is_task_mark marks ≡ true → list_all is_name_mark marks ≡ true
task_marks [] h = refl
task_marks (b ∷ marks) h =
    let p = and_parts (is_task_mark b) (list_all is_task_mark marks) h in
    rw (p.0, task_marks marks p.1) refl
