-- Bytes that are cut at the first separator.
use Rattle.std.proofs.Common.{◌≡◌, ℕ, ◌+◌, ◌-◌, ◌<◌, List, [], ◌∷◌, length, take, drop, Bool, Some, None, arith, sym, ap, ◌∙◌}
use Rattle.std.specs.List.{position_or_len, slice_split}
use Rattle.std.proofs.lemmas.List.{take_rest}
use Rattle.std.proofs.lemmas.List.Splits.{slice_split_first, slice_split_none}
use Rattle.std.proofs.lemmas.List.Sums.{fails_before_first, position_or_len_is}
use Rattle.memchr.specs.Find.{IsFirstByte}
use Rattle.trace_types.proofs.TruthLemmas.{false_from_not}

-- where the separator is, the first part ends
pub cut_found : (separates : ℕ → Bool) (bytes : List ℕ) (i : ℕ) → IsFirstByte separates bytes (Some i) → slice_split separates bytes ≡ take i bytes ∷ slice_split separates (take (length bytes - (i + 1)) (drop (i + 1) bytes))
cut_found p bytes i h =
    let e : position_or_len p bytes ≡ i = position_or_len_is p bytes i 0 (omega (arith, h.0.high)) (λ k lt. false_from_not _ (h.0.before k (omega arith) lt)) (λ lt. h.1) in
    let lt : position_or_len p bytes < length bytes = omega (arith, h.0.high) in
    slice_split_first p bytes 0 lt ∙ ap (λ n. take n bytes ∷ slice_split p (drop (n + 1) bytes)) e ∙ ap (λ rest. take i bytes ∷ slice_split p rest) (sym (take_rest bytes (i + 1)))

-- without a separator all bytes are the one part
pub cut_nowhere : (separates : ℕ → Bool) (bytes : List ℕ) → IsFirstByte separates bytes None → slice_split separates bytes ≡ bytes ∷ []
cut_nowhere p bytes h =
    let e : position_or_len p bytes ≡ length bytes = position_or_len_is p bytes (length bytes) 0 (omega arith) (λ k lt. false_from_not _ (h k (omega arith) lt)) (λ lt. absurd (omega arith)) in
    slice_split_none p bytes (λ k d lt. fails_before_first p bytes k d (omega (arith, e)))
