-- What the words of one trace tell of pipes.
use Rattle.std.proofs.Common.{◌≡◌, ◌≢◌, ◌↔◌, ◌||◌, ℕ, ◌<◌, ◌≤◌, IsTrue, Bool, true, false, not, cond, List, [], ◌∷◌, refl, sym, ap, ◌∙◌, subst, arith, ⊎_elim}
use Rattle.std.specs.Int.{bit_at}
use Rattle.std.proofs.lemmas.Bool.{cases_lt, false≢true}
use Rattle.std.proofs.lemmas.List.{get_or-replicate, length-replicate}
use Rattle.std.proofs.lemmas.Nat.Bits.{bit_at-lt, bit_at_ones}
use Rattle.hypothesis_index.specs.Places.{IsRelation, NamesBelow, pairs_below, place_of, width_of}
use Rattle.hypothesis_index.specs.Refuting.{IsPlaceOfSome, RefutesTasks}
use Rattle.hypothesis_index.specs.declared.relation.Relation.{Relation}
use Rattle.hypothesis_index.specs.declared.relation.Relation.TheVariants.{Pipe}
use Rattle.refute_tests.specs.Clearing.{ClearsExactly}
use Rattle.trace_types.specs.Parts.{by_number}
use Rattle.trace_types.specs.Pipelines.{RefutesPipe}
use Rattle.trace_types.specs.declared.named_trace.NamedTrace.{NamedTrace}
use Rattle.word_rows.specs.Rows.{clears, rows_clear}
use Rattle.word_rows.specs.Words.{IsMeet, bit_of, full_words}
use Rattle.word_rows.specs.declared.entries.Entry.{Entry}
use Rattle.task_sharings.specs.inner.Traces.{TellPipes}

-- the words of all tasks
no_names : width_of 0 ≡ 126
unfolding pairs_below
no_names = refl

abbrev pub PlacesFit : Type 0
PlacesFit = (names : ℕ) (r : Relation) → names ≤ 512 → IsRelation r → NamesBelow names r
    → ((place_of r).word < width_of names) × ((place_of r).bit < 64)

abbrev pub PlacesDiffer : Type 0
PlacesDiffer = (r s : Relation) → IsRelation r → IsRelation s → place_of r ≡ place_of s → r ≡ s

pub pipe_fits : PlacesFit → (t u : ℕ) → t ≢ u → t < 64 → u < 64 → ((place_of (Pipe t u)).word < 126) × ((place_of (Pipe t u)).bit < 64)
pipe_fits fit t u ne ht hu = let h = fit 0 (Pipe t u) (omega arith) (ne, ht, hu) tt in (subst (λ (n : ℕ). (place_of (Pipe t u)).word < n) no_names h.0, h.1)

-- one row
one_row : (row : List Entry) (i b : ℕ) (c : Bool) → clears row i b ≡ c → rows_clear (row ∷ []) i b ≡ c
one_row row i b true e = ap (λ (x : Bool). x || false) e
one_row row i b false e = ap (λ (x : Bool). x || false) e

module _ (fit : PlacesFit) (apart : PlacesDiffer) (trace : NamedTrace) (row : List Entry) (words : List ℕ) (exact : ClearsExactly row (λ r. RefutesTasks r trace)) (met : IsMeet (full_words 126) (row ∷ []) words) where
  module _ (t u : ℕ) (ne : t ≢ u) (ht : t < 64) (hu : u < 64) where
    abbrev word : ℕ
    word = (place_of (Pipe t u)).word

    abbrev bit : ℕ
    bit = (place_of (Pipe t u)).bit

    met_bit : word < 126 → bit < 64 → (c : Bool) → clears row word bit ≡ c → bit_of words word bit ≡ cond c 0 (bit_of (full_words 126) word bit)
    met_bit hw hb c e = met.bits word bit (subst (λ (n : ℕ). word < n) (sym (length-replicate {A = ℕ} 126 18446744073709551615)) hw) hb ∙ ap (λ (x : Bool). cond x 0 (bit_of (full_words 126) word bit)) (one_row row word bit c e)

    full : word < 126 → bit < 64 → bit_of (full_words 126) word bit ≡ 1
    full hw hb = ap (λ (n : ℕ). bit_at n bit) (get_or-replicate {A = ℕ} 126 word 18446744073709551615 0 hw) ∙ bit_at_ones 64 bit hb

    is_of : IsPlaceOfSome (λ r. RefutesTasks r trace) word bit → RefutesPipe by_number t u trace
    is_of h = let same = apart h.0 (Pipe t u) h.1 (ne, ht, hu) h.2 in subst (λ (r : Relation). RefutesTasks r trace) same h.3

    by_case : word < 126 → bit < 64 → (c : Bool) → clears row word bit ≡ c → bit_of words word bit ≡ 0 → RefutesPipe by_number t u trace
    by_case hw hb true e zero = is_of ((exact word bit).0 e)
    by_case hw hb false e zero = absurd (let m = met_bit hw hb false e in let f = full hw hb in omega arith)

    bit_tells : word < 126 → bit < 64 → (bit_of words word bit ≡ 0) ↔ RefutesPipe by_number t u trace
    bit_tells hw hb = (
      by_case hw hb (clears row word bit) refl,
      (λ h. met_bit hw hb true ((exact word bit).1 (Pipe t u, (ne, ht, hu), refl, h))),
    )

  pub pipes_told : TellPipes trace words
  pipes_told = record {
    width = met.width ∙ length-replicate {A = ℕ} 126 18446744073709551615;
    bits = λ t u ne ht hu. let fits = pipe_fits fit t u ne ht hu in bit_tells t u ne ht hu fits.0 fits.1;
  }

-- a bit that is not 1 is 0
pub turned : (b : Bool) (n i : ℕ) → IsTrue b ↔ (bit_at n i ≡ 1) → {P : Type 0} → (bit_at n i ≡ 0) ↔ P → (not b ≡ true) ↔ P
turned true n i is told = ((λ e. absurd (false≢true e)), (λ p. let z = told.1 p in let o = is.0 refl in absurd (omega arith)))
turned false n i is told = ((λ _. told.0 (let l = bit_at-lt n i in ⊎_elim (λ (low : bit_at n i < 1). omega (arith, low)) (λ (high : 1 ≤ bit_at n i). absurd (false≢true (is.1 (omega (arith, l, high))))) (cases_lt (bit_at n i) 1))), (λ _. refl))
