-- What a block of readings lacks.
use Rattle.std.proofs.Common.{◌≡◌, ℕ, zero, suc, ◌+◌, ◌<◌, Bool, false, ◌||◌, ◌&&◌, ◌==◌, nat_lt, List, [], ◌∷◌, length, sym, refl, ap, ◌∙◌, subst, arith}
use Rattle.std.proofs.lemmas.Bool.{lt-ltb, le-ltb, ltb-true, ltb-false, eq-eqb, ne_eqb}
use Rattle.std.specs.Int.{bit_at}
use Rattle.word_rows.specs.Words.{bit_of}
use Rattle.word_rows.specs.Accounts.{lacks}
use Rattle.word_rows.specs.Changes.{readings_from}
use Rattle.word_rows.specs.Meeting.{BlockLacks}
use Rattle.word_rows.proofs.ViewLemmas.{or_false}

-- a word before the first is not read
none_before : (k : ℕ) (words : List ℕ) (i b : ℕ) → i < k → lacks (readings_from k words) i b ≡ false
none_before k [] i b h = refl
none_before k (n ∷ ns) i b h = (λ j. (ne_eqb k i (λ e. omega arith) j && (bit_at n b == 0)) || lacks (readings_from (k + 1) ns) i b) ∙ none_before (k + 1) ns i b (omega arith)

next_lt : (i n m : ℕ) → m ≡ n + 1 → nat_lt i n ≡ nat_lt (suc i) m
next_lt i n m e = grind (arith, lt-ltb, le-ltb, ltb-true, ltb-false)

no_lt : (i : ℕ) → false ≡ nat_lt i 0
no_lt i = grind (arith, lt-ltb, le-ltb, ltb-true, ltb-false)

-- the words read from this one on
block_from : (k : ℕ) (words : List ℕ) (i b : ℕ) → lacks (readings_from k words) (k + i) b ≡ (nat_lt i (length words) && (bit_of words i b == 0))
block_from k [] i b = ap (λ (t : Bool). t && (bit_of [] i b == 0)) (no_lt i)
block_from k (n ∷ ns) zero b =
    (λ j. (eq-eqb k (k + 0) (omega arith) j && (bit_at n b == 0)) || none_before (k + 1) ns (k + 0) b (omega arith) j)
    ∙ or_false (bit_at n b == 0)
    ∙ ap (λ (t : Bool). t && (bit_at n b == 0)) (sym (lt-ltb 0 (length (n ∷ ns)) (omega arith)))
block_from k (n ∷ ns) (suc i) b = let moved : k + suc i ≡ (k + 1) + i = omega arith in
    (λ j. (ne_eqb k (k + suc i) (λ e. omega arith) j && (bit_at n b == 0)) || lacks (readings_from (k + 1) ns) (moved j) b)
    ∙ block_from (k + 1) ns i b
    ∙ ap (λ (t : Bool). t && (bit_of ns i b == 0)) (next_lt i (length ns) (length (n ∷ ns)) (omega arith))

pub block_lacks : BlockLacks
block_lacks words i b = subst (λ (k : ℕ). lacks (readings_from 0 words) k b ≡ (nat_lt i (length words) && (bit_of words i b == 0))) (omega arith) (block_from 0 words i b)
