-- Names that are folded, character by character.
use Rattle.std.proofs.Common.{◌≡◌, ℕ, ◌+◌, ◌/◌, ◌%◌, ◌<◌, ◌≤◌, ◌⊎◌, inl, inr, List, [], ◌∷◌, ◌++◌, Bool, true, false, cond, ltb, eqb, drop, length, get_or, refl, sym, ap, ◌∙◌, arith, append_assoc}
use Rattle.std.specs.Char.{encode_utf8}
use Rattle.std.proofs.lemmas.Bool.{cases_lt, false≢true, le-ltb, ne_eqb}
use Rattle.std.proofs.lemmas.List.{drop_all, drop_more}
use Rattle.std.proofs.lemmas.Str.{encode_ascii}
use lib.Utf8.{encodes}
use Rattle.span_names.specs.Folding.{folded_from, folded_word, is_between}

within : (b : ℕ) → 128 ≤ b → is_between b ≡ false
within b h = let p : eqb b 32 ≡ false = ne_eqb b 32 (λ e. omega (arith, e, h)) in let q : eqb b 47 ≡ false = ne_eqb b 47 (λ e. omega (arith, e, h)) in rw (p, q) refl

more : (w : List ℕ) (b : ℕ) (rest : List ℕ) → 128 ≤ b → folded_from w (b ∷ rest) ≡ folded_from (w ++ b ∷ []) rest
more w b rest h = let e = within b h in rw e refl

more2 : (w : List ℕ) (a b : ℕ) (rest : List ℕ) → 128 ≤ a → 128 ≤ b → folded_from w (a ∷ b ∷ rest) ≡ folded_from (w ++ a ∷ b ∷ []) rest
more2 w a b rest p q = more w a (b ∷ rest) p ∙ more (w ++ a ∷ []) b rest q ∙ ap (λ (v : List ℕ). folded_from v rest) (append_assoc w (a ∷ []) (b ∷ []))

more3 : (w : List ℕ) (a b c : ℕ) (rest : List ℕ) → 128 ≤ a → 128 ≤ b → 128 ≤ c → folded_from w (a ∷ b ∷ c ∷ rest) ≡ folded_from (w ++ a ∷ b ∷ c ∷ []) rest
more3 w a b c rest p q r = more w a (b ∷ c ∷ rest) p ∙ more2 (w ++ a ∷ []) b c rest q r ∙ ap (λ (v : List ℕ). folded_from v rest) (append_assoc w (a ∷ []) (b ∷ c ∷ []))

more4 : (w : List ℕ) (a b c d : ℕ) (rest : List ℕ) → 128 ≤ a → 128 ≤ b → 128 ≤ c → 128 ≤ d → folded_from w (a ∷ b ∷ c ∷ d ∷ rest) ≡ folded_from (w ++ a ∷ b ∷ c ∷ d ∷ []) rest
more4 w a b c d rest p q r s = more w a (b ∷ c ∷ d ∷ rest) p ∙ more3 (w ++ a ∷ []) b c d rest q r s ∙ ap (λ (v : List ℕ). folded_from v rest) (append_assoc w (a ∷ []) (b ∷ c ∷ d ∷ []))

long_char : (c : ℕ) (w rest : List ℕ) → 128 ≤ c → folded_from w (encode_utf8 c ++ rest) ≡ folded_from (w ++ encode_utf8 c) rest
unfolding encode_utf8
long_char c w rest h = let t : ltb c 128 ≡ false = le-ltb c 128 h in rw t (by (ltb c 2048) (ltb c 65536))
  where
    Long : Bool → Bool → List ℕ
    Long x y = cond x ((192 + c / 64) ∷ (128 + c % 64) ∷ []) (cond y ((224 + c / 4096) ∷ (128 + (c / 64) % 64) ∷ (128 + c % 64) ∷ []) ((240 + c / 262144) ∷ (128 + (c / 4096) % 64) ∷ (128 + (c / 64) % 64) ∷ (128 + c % 64) ∷ []))

    by : (x y : Bool) → folded_from w (Long x y ++ rest) ≡ folded_from (w ++ Long x y) rest
    by true y = more2 w _ _ rest (omega arith) (omega arith)
    by false true = more3 w _ _ _ rest (omega arith) (omega arith) (omega arith)
    by false false = more4 w _ _ _ _ rest (omega arith) (omega arith) (omega arith) (omega arith)

-- a character within a word goes into it
pub in_word : (c : ℕ) (w rest : List ℕ) → is_between c ≡ false → folded_from w (encode_utf8 c ++ rest) ≡ folded_from (w ++ encode_utf8 c) rest
in_word c w rest e = by (cases_lt c 128)
  where
    by : (c < 128) ⊎ (128 ≤ c) → folded_from w (encode_utf8 c ++ rest) ≡ folded_from (w ++ encode_utf8 c) rest
    by (inl lt) = let one = encode_ascii c lt in rw (one, e) refl
    by (inr ge) = long_char c w rest ge

low : (c : ℕ) → is_between c ≡ true → c < 128
low c h = by (cases_lt c 128)
  where
    by : (c < 128) ⊎ (128 ≤ c) → c < 128
    by (inl lt) = lt
    by (inr ge) = absurd (false≢true (sym (within c ge) ∙ h))

-- a character between words ends one
pub ends_word : (c : ℕ) (w rest : List ℕ) → is_between c ≡ true → folded_from w (encode_utf8 c ++ rest) ≡ folded_word w ++ (encode_utf8 c ++ folded_from [] rest)
ends_word c w rest e = let one = encode_ascii c (low c e) in rw (one, e) refl

pub next_char : (cs : List ℕ) (n c : ℕ) → n < length cs → c ≡ get_or cs n c → encodes (drop n cs) ≡ encode_utf8 c ++ encodes (drop (n + 1) cs)
next_char cs n c lt is = ap encodes (drop_more cs n c lt) ∙ ap (λ x. encode_utf8 x ++ encodes (drop (n + 1) cs)) (sym is)

pub no_char : (cs w : List ℕ) (n : ℕ) → length cs ≤ n → folded_from w (encodes (drop n cs)) ≡ folded_word w
no_char cs w n past = ap (λ (ds : List ℕ). folded_from w (encodes ds)) (drop_all n cs past)
