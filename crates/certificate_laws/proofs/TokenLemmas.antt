-- The strings among the tokens of a text in UTF-8 are UTF-8.
use Rattle.std.proofs.Common.{◌≡◌, ℕ, ◌+◌, ◌<◌, ◌==◌, cond, List, [], ◌∷◌, ◌++◌, Bool, true, false, Option, Some, None, length, drop, get_or, length-append, refl, sym, ap, ◌∙◌, subst, arith, append_assoc}
use Rattle.std.specs.Str.{IsUtf8}
use Rattle.std.proofs.lemmas.Bool.{eqb-true}
use Rattle.std.proofs.lemmas.List.{drop_at, get_or_at, length_push}
use Rattle.std.proofs.lemmas.Str.{IsCharBoundary-after_ascii, IsUtf8-drop}
use Rattle.json.specs.Ascii as ascii
use Rattle.json.specs.Lex.{Class, Lexeme, Mode, Place, after_comma, after_key, after_value, backslash, begins_colon, between, class, colon, comma, fresh, if_allowed, in_escape, in_string, in_word, lex, lex_byte, may_begin, may_close, operator, operator_lexeme, other, place_token, punctuate, quote, space, string_token, token, tokens}
use Rattle.json.specs.Text.{content, plain}
use Rattle.json.specs.Token.{Token}
use Rattle.json.specs.Word.{after_number, ends_word, head, is_operator, is_space, literal, number_before, word}
use Rattle.certificate_laws.proofs.ContentLemmas.{content_utf8}

-- a string or a key is UTF-8
abbrev pub IsGoodToken : Token → Type 0
IsGoodToken Token.begin_object = Unit {0}
IsGoodToken Token.end_object = Unit {0}
IsGoodToken Token.begin_array = Unit {0}
IsGoodToken Token.end_array = Unit {0}
IsGoodToken (Token.key s) = IsUtf8 s
IsGoodToken (Token.string s) = IsUtf8 s
IsGoodToken (Token.number s) = Unit {0}
IsGoodToken (Token.boolean b) = Unit {0}
IsGoodToken Token.null = Unit {0}
IsGoodToken Token.bad = Unit {0}

abbrev pub AreGoodTokens : List Token → Type 0
AreGoodTokens [] = Unit {0}
AreGoodTokens (t ∷ ts) = IsGoodToken t × AreGoodTokens ts

abbrev IsGoodLexeme : Lexeme → Type 0
IsGoodLexeme (token t) = IsGoodToken t
IsGoodLexeme comma = Unit {0}
IsGoodLexeme colon = Unit {0}

abbrev AreGoodLexemes : List Lexeme → Type 0
AreGoodLexemes [] = Unit {0}
AreGoodLexemes (l ∷ ls) = IsGoodLexeme l × AreGoodLexemes ls

-- ---- one lexeme

token_cond : (b : Bool) (t u : Token) → IsGoodToken t → IsGoodToken u → IsGoodToken (cond b t u)
token_cond true t u h k = h
token_cond false t u h k = k

lexeme_cond : (b : Bool) (l m : Lexeme) → IsGoodLexeme l → IsGoodLexeme m → IsGoodLexeme (cond b l m)
lexeme_cond true l m h k = h
lexeme_cond false l m h k = k

operator_good : (x : ℕ) → IsGoodLexeme (operator_lexeme x)
operator_good x =
    lexeme_cond (x == 123) (token Token.begin_object) _ tt (lexeme_cond (x == 125) (token Token.end_object) _ tt
    (lexeme_cond (x == 91) (token Token.begin_array) _ tt (lexeme_cond (x == 93) (token Token.end_array) _ tt (lexeme_cond (x == 44) comma colon tt tt))))

number_good : (t : List ℕ) (rest : Option (List ℕ)) → IsGoodToken (number_before t rest)
number_good t None = tt
number_good t (Some rest) = token_cond (ends_word rest) (Token.number _) Token.bad tt tt

literal_good : (name : List ℕ) (t : Token) (text : List ℕ) → IsGoodToken t → IsGoodToken (literal name t text)
literal_good name t text h = token_cond _ t Token.bad h tt

word_by : (a b c : Bool) (t : List ℕ) → IsGoodToken (cond a (literal ascii.true_text (Token.boolean true) t) (cond b (literal ascii.false_text (Token.boolean false) t) (cond c (literal ascii.null_text Token.null t) (number_before t (after_number t)))))
word_by true b c t = literal_good ascii.true_text (Token.boolean true) t tt
word_by false true c t = literal_good ascii.false_text (Token.boolean false) t tt
word_by false false true t = literal_good ascii.null_text Token.null t tt
word_by false false false t = number_good t (after_number t)

word_good : (t : List ℕ) → IsGoodToken (word t)
unfolding word
word_good t = word_by (head t == 116) (head t == 102) (head t == 110) t

string_good : (xs : List ℕ) (s : Option (List ℕ)) → IsUtf8 xs → content plain xs ≡ s → IsGoodToken (string_token s)
string_good xs None utf8 e = tt
string_good xs (Some s) utf8 e = content_utf8 xs s utf8 e

-- ---- all lexemes

byte_good : (m : Mode) (c : Class) (x : ℕ) (xs : List ℕ) (k : Mode → List Lexeme) → (c ≡ quote → IsUtf8 xs) → ((next : Mode) → AreGoodLexemes (k next)) → AreGoodLexemes (lex_byte m c x xs k)
byte_good between quote x xs k utf8 h = (string_good xs (content plain xs) (utf8 refl) refl, h in_string)
byte_good between backslash x xs k utf8 h = (tt, h in_word)
byte_good between operator x xs k utf8 h = (operator_good x, h between)
byte_good between space x xs k utf8 h = h between
byte_good between other x xs k utf8 h = (word_good (x ∷ xs), h in_word)
byte_good in_word quote x xs k utf8 h = h in_word
byte_good in_word backslash x xs k utf8 h = h in_word
byte_good in_word operator x xs k utf8 h = (operator_good x, h between)
byte_good in_word space x xs k utf8 h = h between
byte_good in_word other x xs k utf8 h = h in_word
byte_good in_string quote x xs k utf8 h = h between
byte_good in_string backslash x xs k utf8 h = h in_escape
byte_good in_string operator x xs k utf8 h = h in_string
byte_good in_string space x xs k utf8 h = h in_string
byte_good in_string other x xs k utf8 h = h in_string
byte_good in_escape c x xs k utf8 h = h in_string

-- only a quotation mark is of that class
quote_by : (q b o s : Bool) → cond q quote (cond b backslash (cond o operator (cond s space other))) ≡ quote → q ≡ true
quote_by true b o s e = refl
quote_by false true o s e = absurd (cc e)
quote_by false false true s e = absurd (cc e)
quote_by false false false true e = absurd (cc e)
quote_by false false false false e = absurd (cc e)

-- what follows an ASCII byte of UTF-8
rest_utf8 : (before xs : List ℕ) (x : ℕ) → IsUtf8 (before ++ x ∷ xs) → x < 128 → IsUtf8 xs
rest_utf8 before xs x utf8 low =
    let bytes : List ℕ = before ++ x ∷ xs in
    let at : get_or bytes (length before) 0 ≡ x = get_or_at before x xs 0 (length before) refl in
    let within : length before < length bytes = omega (arith, length-append before (x ∷ xs)) in
    let rest = IsUtf8-drop bytes (length before + 1) utf8 (IsCharBoundary-after_ascii bytes (length before) utf8 within (omega (arith, at))) in
    let whole : bytes ≡ (before ++ x ∷ []) ++ xs = sym (append_assoc before (x ∷ []) xs) in
    subst IsUtf8 (ap (drop (length before + 1)) whole ∙ drop_at (before ++ x ∷ []) xs (length before + 1) (length_push before x)) rest

lexemes_good : (m : Mode) (before xs : List ℕ) → IsUtf8 (before ++ xs) → AreGoodLexemes (lex m xs)
unfolding lex
lexemes_good m before [] utf8 = tt
lexemes_good m before (x ∷ xs) utf8 =
    byte_good m (class x) x xs (λ next. lex next xs)
    (λ e. let same : x ≡ 34 = eqb-true x 34 (quote_by (x == 34) (x == 92) (is_operator x) (is_space x) e) in rest_utf8 before xs x utf8 (omega arith))
    (λ next. lexemes_good next (before ++ x ∷ []) xs (subst IsUtf8 (sym (append_assoc before (x ∷ []) xs)) utf8))

-- ---- all tokens

allowed_good : (b : Bool) (t : Token) (k : Place → List Token) (next : Place) → IsGoodToken t → ((p : Place) → AreGoodTokens (k p)) → AreGoodTokens (if_allowed b t k next)
allowed_good true t k next h more = (h, more next)
allowed_good false t k next h more = (tt, tt)

placed_good : (p : Place) (t : Token) (before_colon : Bool) (k : Place → List Token) → IsGoodToken t → ((q : Place) → AreGoodTokens (k q)) → AreGoodTokens (place_token p t before_colon k)
placed_good p Token.begin_object b k h more = allowed_good (may_begin p) Token.begin_object k fresh tt more
placed_good p Token.end_object b k h more = allowed_good (may_close p) Token.end_object k after_value tt more
placed_good p Token.begin_array b k h more = allowed_good (may_begin p) Token.begin_array k fresh tt more
placed_good p Token.end_array b k h more = allowed_good (may_close p) Token.end_array k after_value tt more
placed_good p (Token.key s) b k h more = (tt, tt)
placed_good p (Token.string s) true k h more = allowed_good (may_begin p) (Token.key s) k after_key h more
placed_good p (Token.string s) false k h more = allowed_good (may_begin p) (Token.string s) k after_value h more
placed_good p (Token.number s) b k h more = allowed_good (may_begin p) (Token.number s) k after_value tt more
placed_good p (Token.boolean c) b k h more = allowed_good (may_begin p) (Token.boolean c) k after_value tt more
placed_good p Token.null b k h more = allowed_good (may_begin p) Token.null k after_value tt more
placed_good p Token.bad b k h more = (tt, tt)

punctuated_good : (p : Place) (ls : List Lexeme) → AreGoodLexemes ls → AreGoodTokens (punctuate p ls)
unfolding punctuate
punctuated_good fresh [] h = tt
punctuated_good after_value [] h = tt
punctuated_good after_comma [] h = (tt, tt)
punctuated_good after_key [] h = (tt, tt)
punctuated_good fresh (token t ∷ ls) h = placed_good fresh t (begins_colon ls) (λ next. punctuate next ls) h.0 (λ next. punctuated_good next ls h.1)
punctuated_good after_value (token t ∷ ls) h = placed_good after_value t (begins_colon ls) (λ next. punctuate next ls) h.0 (λ next. punctuated_good next ls h.1)
punctuated_good after_comma (token t ∷ ls) h = placed_good after_comma t (begins_colon ls) (λ next. punctuate next ls) h.0 (λ next. punctuated_good next ls h.1)
punctuated_good after_key (token t ∷ ls) h = placed_good after_key t (begins_colon ls) (λ next. punctuate next ls) h.0 (λ next. punctuated_good next ls h.1)
punctuated_good fresh (comma ∷ ls) h = (tt, tt)
punctuated_good after_value (comma ∷ ls) h = punctuated_good after_comma ls h.1
punctuated_good after_comma (comma ∷ ls) h = (tt, tt)
punctuated_good after_key (comma ∷ ls) h = (tt, tt)
punctuated_good fresh (colon ∷ ls) h = (tt, tt)
punctuated_good after_value (colon ∷ ls) h = (tt, tt)
punctuated_good after_comma (colon ∷ ls) h = (tt, tt)
punctuated_good after_key (colon ∷ ls) h = punctuated_good fresh ls h.1

pub tokens_good : (text : List ℕ) → IsUtf8 text → AreGoodTokens (tokens text)
tokens_good text utf8 = punctuated_good fresh (lex between text) (lexemes_good between [] text utf8)
