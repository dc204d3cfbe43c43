-- How many bits of words are 0, and the number of hypotheses that the traces of a list refute.
use Rattle.std.specs.Prelude.{ℕ, ◌+◌, List, [], ◌∷◌}
use Rattle.std.specs.Int.{count_zeros, w64}
use Rattle.trace_rules.specs.Hypotheses.{IsAtLeastRefuted, IsAtMostRefuted}
use Rattle.trace_types.specs.Parts.{by_number}
use Rattle.trace_types.specs.declared.named_trace.NamedTrace.{NamedTrace}

-- the number of bits that are 0 in words of 64 bits
abbrev pub zeros : List ℕ → ℕ
zeros [] = 0
zeros (word ∷ words) = count_zeros w64 word + zeros words

-- the number of hypotheses that some trace of the list refutes
pub record IsRefutedCount (traces : List NamedTrace) (n : ℕ) : Type 0 where
  pub least : IsAtLeastRefuted by_number traces n
  pub most : IsAtMostRefuted by_number traces n
