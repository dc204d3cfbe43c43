-- The tokens of texts in quotes, of whole numbers, and of the bytes around them.
use Rattle.std.proofs.Common.{◌≡◌, ℕ, suc, ◌+◌, ◌<◌, ◌≤◌, List, [], ◌∷◌, ◌++◌, length, take, drop, get_or, Bool, true, false, cond, not, ◌&&◌, ◌||◌, ◌==◌, nat_lt, Some, None, option_and_then, refl, sym, ap, ap₂, subst, ◌∙◌, arith, inl, inr, lt_of_not-le}
use Rattle.std.proofs.lemmas.Bool.{true≢false, false≢true, and_parts, eqb-true, leb-true, ne_eqb}
use Rattle.std.proofs.lemmas.List.{drop_more, drop_all, get_or_past}
use Rattle.std.specs.List.{list_all, list_any, prefix_len}
use Rattle.std.specs.Char.{is_ascii_digit}
use Rattle.json.specs.Token.{Token}
use Rattle.json.specs.Text.{content, plain, after_backslash, prepend}
use Rattle.json.specs.Word.{is_operator, is_space, ends_word, after_digits, after_whole, after_fraction, after_exponent, after_number}
use Rattle.json.specs.Lex.{Lexeme, token, colon, quote, backslash, operator, space, other, Mode, between, in_string, lex_byte, lex, string_token, Place, fresh, after_value, after_comma, after_key, may_begin, punctuate, begins_colon}
use Rattle.json.specs.Print.{IsNumber}
use Rattle.json.proofs.Printed.Numbers.{lex-number}
use Rattle.event_lines.specs.Cut.{is_blank_byte}
use Rattle.event_lines.specs.EventFaults.{is_bad_text, is_control_character}
use Rattle.event_lines.specs.inner.PlainObjects.{is_clear, EndsMember}

-- ---- bytes

-- a byte that is no space, at an index
pub at_byte : (d : List ℕ) (i b : ℕ) → get_or d i 32 ≡ b → (b ≡ 32 → ⊥) → (i < length d) × (drop i d ≡ b ∷ drop (i + 1) d)
at_byte d i b e apart =
    let within : i < length d = lt_of_not-le (λ h. apart (sym e ∙ get_or_past d i 32 h)) in
    (within, drop_more d i 32 within ∙ ap (λ x. x ∷ drop (i + 1) d) e)

pub prefix_passes : (p : ℕ → Bool) (xs : List ℕ) → list_all p (take (prefix_len p xs) xs) ≡ true
prefix_passes p [] = refl
prefix_passes p (x ∷ xs) = by (p x) refl (prefix_passes p xs)
  where
    by : (b : Bool) → p x ≡ b → list_all p (take (prefix_len p xs) xs) ≡ true → list_all p (take (cond b (1 + prefix_len p xs) 0) (x ∷ xs)) ≡ true
    by false e rest = refl
    by true e rest =
        let next : 1 + prefix_len p xs ≡ suc (prefix_len p xs) = omega arith in
        ap (λ k. list_all p (take k (x ∷ xs))) next ∙ ap₂ (λ a b. a && b) e rest

record Parts (q b l m : Bool) : Type 0 where
  quote : q ≡ false
  backslash : b ≡ false
  low : l ≡ false
  delete : m ≡ false

parts : (q b l m : Bool) → not ((q || b) || (l || m)) ≡ true → Parts q b l m
parts true b l m h = absurd (false≢true h)
parts false true l m h = absurd (false≢true h)
parts false false true m h = absurd (false≢true h)
parts false false false true h = absurd (false≢true h)
parts false false false false h = record { quote = refl; backslash = refl; low = refl; delete = refl }

clear_parts : (x : ℕ) → is_clear x ≡ true → Parts (x == 34) (x == 92) (nat_lt x 32) (x == 127)
clear_parts x h = parts (x == 34) (x == 92) (nat_lt x 32) (x == 127) h

-- ---- texts

content_clear : (s r : List ℕ) → list_all is_clear s ≡ true → content plain (s ++ 34 ∷ r) ≡ Some s
unfolding content
content_clear [] r h = refl
content_clear (x ∷ s) r h =
    let both = and_parts (is_clear x) (list_all is_clear s) h in
    let p = clear_parts x both.0 in
    by (x == 34) (x == 92) (nat_lt x 32) p.quote p.backslash p.low ∙ ap (prepend (x ∷ [])) (content_clear s r both.1)
  where
    by : (q b l : Bool) → q ≡ false → b ≡ false → l ≡ false
        → cond q (Some []) (cond b (content after_backslash (s ++ 34 ∷ r)) (cond l None (prepend (x ∷ []) (content plain (s ++ 34 ∷ r))))) ≡ prepend (x ∷ []) (content plain (s ++ 34 ∷ r))
    by q b l e f g = rw (e, f, g) refl

passes : (q b o s : Bool) (x : ℕ) (xs : List ℕ) (k : Mode → List Lexeme) → q ≡ false → b ≡ false
    → lex_byte in_string (cond q quote (cond b backslash (cond o operator (cond s space other)))) x xs k ≡ k in_string
passes true b o s x xs k e f = absurd (true≢false e)
passes false true o s x xs k e f = absurd (true≢false f)
passes false false true s x xs k e f = refl
passes false false false true x xs k e f = refl
passes false false false false x xs k e f = refl

lex_clear : (s r : List ℕ) → list_all is_clear s ≡ true → lex in_string (s ++ 34 ∷ r) ≡ lex between r
unfolding lex
lex_clear [] r h = refl
lex_clear (x ∷ s) r h =
    let both = and_parts (is_clear x) (list_all is_clear s) h in
    let p = clear_parts x both.0 in
    passes (x == 34) (x == 92) (is_operator x) (is_space x) x (s ++ 34 ∷ r) (λ m. lex m (s ++ 34 ∷ r)) p.quote p.backslash ∙ lex_clear s r both.1

text_lexemes : (s r : List ℕ) → list_all is_clear s ≡ true → lex between (34 ∷ (s ++ 34 ∷ r)) ≡ token (Token.string s) ∷ lex between r
unfolding lex
text_lexemes s r h = ap₂ (λ o ls. token (string_token o) ∷ ls) (content_clear s r h) (lex_clear s r h)

-- a text without control characters, that is not empty and not too long
clear_control : (s : List ℕ) → list_all is_clear s ≡ true → list_any is_control_character s ≡ false
clear_control [] h = refl
clear_control (x ∷ s) h =
    let both = and_parts (is_clear x) (list_all is_clear s) h in
    let p = clear_parts x both.0 in
    ap₂ (λ a b. a || b) (ap₂ (λ a b. a || b) p.low p.delete) (clear_control s both.1)

pub good_text : (s : List ℕ) → list_all is_clear s ≡ true → (length s == 0) ≡ false → nat_lt 64 (length s) ≡ false → is_bad_text s ≡ false
good_text s h some short = rw (some, short) (clear_control s h)

-- ---- keys and values

after_colon : (r : List ℕ) → lex between (58 ∷ r) ≡ colon ∷ lex between r
unfolding lex
after_colon r = refl

key_punctuated : (p : Place) (k : List ℕ) (ls : List Lexeme) → may_begin p ≡ true → punctuate p (token (Token.string k) ∷ (colon ∷ ls)) ≡ Token.key k ∷ punctuate fresh ls
unfolding punctuate
key_punctuated fresh k ls h = refl
key_punctuated after_comma k ls h = refl
key_punctuated after_value k ls h = absurd (false≢true h)
key_punctuated after_key k ls h = absurd (false≢true h)

pub key_tokens : (p : Place) (k r : List ℕ) → may_begin p ≡ true → list_all is_clear k ≡ true → punctuate p (lex between (34 ∷ (k ++ 34 ∷ (58 ∷ r)))) ≡ Token.key k ∷ punctuate fresh (lex between r)
key_tokens p k r m h =
    ap (punctuate p) (text_lexemes k (58 ∷ r) h ∙ ap (λ ls. token (Token.string k) ∷ ls) (after_colon r)) ∙ key_punctuated p k (lex between r) m

no_colon : (b : ℕ) (r : List ℕ) → EndsMember b → begins_colon (lex between (b ∷ r)) ≡ false
unfolding lex
no_colon b r (inl e) = subst (λ x. begins_colon (lex between (x ∷ r)) ≡ false) (sym e) refl
no_colon b r (inr e) = subst (λ x. begins_colon (lex between (x ∷ r)) ≡ false) (sym e) refl

text_punctuated : (s : List ℕ) (ls : List Lexeme) → begins_colon ls ≡ false → punctuate fresh (token (Token.string s) ∷ ls) ≡ Token.string s ∷ punctuate after_value ls
unfolding punctuate
text_punctuated s ls h = rw h refl

pub text_tokens : (s : List ℕ) (b : ℕ) (r : List ℕ) → list_all is_clear s ≡ true → EndsMember b → punctuate fresh (lex between (34 ∷ (s ++ 34 ∷ (b ∷ r)))) ≡ Token.string s ∷ punctuate after_value (lex between (b ∷ r))
text_tokens s b r h e = ap (punctuate fresh) (text_lexemes s (b ∷ r) h) ∙ text_punctuated s (lex between (b ∷ r)) (no_colon b r e)

word_ends : (b : ℕ) (r : List ℕ) → EndsMember b → ends_word (b ∷ r) ≡ true
word_ends b r (inl e) = subst (λ x. ends_word (x ∷ r) ≡ true) (sym e) refl
word_ends b r (inr e) = subst (λ x. ends_word (x ∷ r) ≡ true) (sym e) refl

number_punctuated : (s : List ℕ) (ls : List Lexeme) → punctuate fresh (token (Token.number s) ∷ ls) ≡ Token.number s ∷ punctuate after_value ls
unfolding punctuate
number_punctuated s ls = refl

pub number_tokens : (s : List ℕ) (b : ℕ) (r : List ℕ) → IsNumber s → EndsMember b → punctuate fresh (lex between (s ++ b ∷ r)) ≡ Token.number s ∷ punctuate after_value (lex between (b ∷ r))
number_tokens s b r h e = ap (punctuate fresh) (lex-number s (b ∷ r) h (word_ends b r e)) ∙ number_punctuated s (lex between (b ∷ r))

pub comma_tokens : (r : List ℕ) → punctuate after_value (lex between (44 ∷ r)) ≡ punctuate after_comma (lex between r)
unfolding lex punctuate
comma_tokens r = refl

pub closing_tokens : (r : List ℕ) → lex between r ≡ lex between [] → punctuate after_value (lex between (125 ∷ r)) ≡ Token.end_object ∷ []
unfolding lex punctuate
closing_tokens r e = ap (λ ls. Token.end_object ∷ punctuate after_value ls) e

pub opening_tokens : (r : List ℕ) → punctuate fresh (lex between (123 ∷ r)) ≡ Token.begin_object ∷ punctuate fresh (lex between r)
unfolding lex punctuate
opening_tokens r = refl

-- ---- blanks

blank_byte : (x : ℕ) (xs : List ℕ) → is_blank_byte x ≡ true → lex between (x ∷ xs) ≡ lex between xs
unfolding lex
blank_byte x xs h = by (x == 32) (x == 9) (x == 13) refl refl refl
  where
    by : (a b c : Bool) → (x == 32) ≡ a → (x == 9) ≡ b → (x == 13) ≡ c → lex between (x ∷ xs) ≡ lex between xs
    by true b c e f g = let is : x ≡ 32 = eqb-true x 32 e in subst (λ y. lex between (y ∷ xs) ≡ lex between xs) (sym is) refl
    by false true c e f g = let is : x ≡ 9 = eqb-true x 9 f in subst (λ y. lex between (y ∷ xs) ≡ lex between xs) (sym is) refl
    by false false true e f g = let is : x ≡ 13 = eqb-true x 13 g in subst (λ y. lex between (y ∷ xs) ≡ lex between xs) (sym is) refl
    by false false false e f g = absurd (false≢true (sym (ap₂ (λ a b. a || b) (ap₂ (λ a b. a || b) e f) g) ∙ h))

pub blank_passed : (d : List ℕ) (i : ℕ) → i < length d → is_blank_byte (get_or d i 0) ≡ true → lex between (drop (i + 1) d) ≡ lex between (drop i d)
blank_passed d i lt h = sym (ap (lex between) (drop_more d i 0 lt) ∙ blank_byte (get_or d i 0) (drop (i + 1) d) h)

-- ---- numbers

digits_counted : (xs : List ℕ) → list_all is_ascii_digit xs ≡ true → prefix_len is_ascii_digit xs ≡ length xs
digits_counted [] h = refl
digits_counted (x ∷ xs) h =
    let both = and_parts (is_ascii_digit x) (list_all is_ascii_digit xs) h in
    let rest = digits_counted xs both.1 in
    ap (λ b. cond b (1 + prefix_len is_ascii_digit xs) 0) both.0 ∙ omega (arith, rest)

-- digits that do not begin with 0 are a number
pub digits_number : (x : ℕ) (xs : List ℕ) → list_all is_ascii_digit (x ∷ xs) ≡ true → (x == 48) ≡ false → IsNumber (x ∷ xs)
unfolding after_number
digits_number x xs h first =
    let both = and_parts (is_ascii_digit x) (list_all is_ascii_digit xs) h in
    let low : 48 ≤ x = leb-true 48 x (and_parts _ _ both.0).0 in
    let sign : (x == 45) ≡ false = ne_eqb x 45 (λ e. omega arith) in
    let whole : after_whole (x ∷ xs) ≡ Some [] =
    ap (λ b. cond b (Some xs) (after_digits (x ∷ xs))) first ∙ ap (λ n. cond (n == 0) None (Some (drop n (x ∷ xs)))) (digits_counted (x ∷ xs) h)
    ∙ ap (λ b. cond b None (Some (drop (length (x ∷ xs)) (x ∷ xs)))) (ne_eqb (length (x ∷ xs)) 0 (λ e. omega arith))
    ∙ ap Some (drop_all (length (x ∷ xs)) (x ∷ xs) (omega arith)) in
    ap (λ b. option_and_then after_exponent (option_and_then after_fraction (after_whole (cond b xs (x ∷ xs))))) sign
    ∙ ap (λ o. option_and_then after_exponent (option_and_then after_fraction o)) whole
