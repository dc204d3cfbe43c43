-- The marks that rows begin with.
use Rattle.std.proofs.Common.{◌≡◌, ℕ, ◌-◌, ◌*◌, ◌/◌, ◌%◌, ◌+◌, ◌<◌, ◌≤◌, true, false, ◌&&◌, ◌||◌, ◌==◌, List, replicate, length, refl, sym, ap, ◌∙◌, ⊎_elim, arith}
use Rattle.std.proofs.Math.ListN.{get_or-eq_default}
use Rattle.std.proofs.lemmas.Bool.{and_right, cases_lt}
use Rattle.std.proofs.lemmas.List.{get_or-replicate, length-replicate}
use Rattle.std.proofs.lemmas.Nat.Bits.{bit_at-zero}
use Rattle.std.specs.Int.{bit_at}
use Rattle.std.specs.List.{list_any}
use Rattle.hypothesis_index.specs.Places.{pairs_below}
use Rattle.refute_tests.specs.inner.Marks.{backward_marks, early_name, forward_marks, has_mark, in_row, is_named, row_marks}
use Rattle.trace_types.specs.declared.named_segment.NamedSegment.{NamedSegment}

pub blank : (k n c : ℕ) → has_mark (replicate k 0) n c ≡ false
blank k n c = ap (λ (m : ℕ). bit_at m (4 * (n % 16) + c) == 1) (⊎_elim
    (λ (h : n / 16 < k). get_or-replicate k (n / 16) 0 0 h)
    (λ (h : k ≤ n / 16). get_or-eq_default (replicate k 0) 0 (let zeros : List ℕ = replicate k 0 in let long : length zeros ≡ k = length-replicate k 0 in omega arith))
    (cases_lt (n / 16) k)) ∙ ap (λ (m : ℕ). m == 1) (bit_at-zero (4 * (n % 16) + c))

pub none_named : (n c : ℕ) → has_mark (replicate 32 0) n c ≡ ((c == 3) && false)
none_named n c = blank 32 n c ∙ sym (and_right (c == 3) false refl)

pub forward_rows : (grace : ℕ) (ends starts : List NamedSegment) (marks : List ℕ) (p c : ℕ) → ((n : ℕ) → has_mark marks n c ≡ ((c == 3) && is_named ends n))
    → list_any (λ t. row_marks true grace ends marks t p c) starts ≡ list_any (λ t. forward_marks grace ends t p c) starts
forward_rows grace ends starts marks p c is =
    λ j. list_any (λ (t : NamedSegment). in_row t.name p && (is (p - pairs_below t.name) j || ((c == 0) && early_name true grace ends t (p - pairs_below t.name)))) starts

pub backward_rows : (grace : ℕ) (starts ends : List NamedSegment) (p c : ℕ)
    → list_any (λ t. row_marks false grace starts (replicate 32 0) t p c) ends ≡ list_any (λ t. backward_marks grace starts t p c) ends
backward_rows grace starts ends p c =
    λ j. list_any (λ (t : NamedSegment). in_row t.name p && (blank 32 (p - pairs_below t.name) c j || ((c == 0) && early_name false grace starts t (p - pairs_below t.name)))) ends
