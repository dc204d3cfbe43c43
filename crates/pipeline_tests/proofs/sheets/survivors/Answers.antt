use Rattle.std.proofs.Common.{◌≡◌, ◌+◌, ◌<◌, ◌↔◌, ◌++◌, ◌∷◌, [], ℕ, true, List, length, take, sym, ap, subst, ◌∙◌, arith}
use Rattle.std.proofs.lemmas.List.{take_more, take_all}
use Rattle.hypothesis_index.specs.Places.{width_of}
use Rattle.word_rows.proofs.OpeningLemmas.{full_length}
use Rattle.pipeline_tests.proofs.SurvivorLemmas.{full_words_survive, bits_more}
use Rattle.refute_tests.specs.Clearing.{HaveNamesBelow}
use Rattle.refute_tests.specs.Survivors.{AreSurvivors, IsRefutedPlace}
use Rattle.trace_types.specs.declared.named_trace.NamedTrace.{NamedTrace}
use Rattle.word_rows.specs.Rows.{below}
use Rattle.word_rows.specs.Words.{bit_of, full_words}
use Rattle.pipeline_tests.proofs.sheets.survivors.Goals as goal

pub loop-trace-init : goal.loop-trace-init
loop-trace-init c = let same : c.in_ok-words.words ≡ full_words (width_of c.args.names) = c.in_ok-words.ensures ∙ ap full_words c.width.ensures in record {
  long = ap (λ (l : List ℕ). length l) same ∙ full_length (width_of c.args.names);
  bits = subst (λ (l : List ℕ). (i b : ℕ) → i < length l → b < 64 → (bit_of l i b ≡ 0) ↔ IsRefutedPlace [] i b) (sym same) (full_words_survive (width_of c.args.names)).bits;
}

pub meet_row-requires : goal.meet_row-requires
meet_row-requires c = subst (λ (n : ℕ). below n c.in_ok-row.row ≡ true) (sym c.loop-trace.invariant.long)
    (c.in_ok-row.ensures.fits c.args.names (subst (HaveNamesBelow c.args.names) (sym c.trace-item.is) (c.requires.named c.loop-trace.trace-index c.trace-item.result c.loop-trace-test.true)))

pub loop-trace-preserved : goal.loop-trace-preserved
loop-trace-preserved c =
    let v = c.loop-trace.invariant in
    let t : NamedTrace = c.trace-item.result in
    let k = c.loop-trace.trace-index in
    let traces : List NamedTrace = c.args.traces.now in
    let new : List ℕ = c.meet_row.new.self in
    let front : take (k + 1) traces ≡ take k traces ++ t ∷ [] = take_more traces k t c.loop-trace-test.true ∙ ap (λ (x : NamedTrace). take k traces ++ x ∷ []) (sym c.trace-item.is) in
    record {
      long = c.meet_row.ensures.width ∙ v.long;
      bits = subst (λ (l : List NamedTrace). (i b : ℕ) → i < length new → b < 64 → (bit_of new i b ≡ 0) ↔ IsRefutedPlace l i b) (sym front)
          (bits_more c.loop-trace.words new (take k traces) t c.in_ok-row.row v.bits c.meet_row.ensures c.in_ok-row.ensures.exact);
    }

pub returns-clause-survivors : goal.returns-clause-survivors
returns-clause-survivors c = let v = c.loop-trace.invariant in
    subst (λ (w : List ℕ). AreSurvivors c.args.traces.now w) (sym c.bounded.ensures.same)
    (subst (λ (l : List NamedTrace). AreSurvivors l c.loop-trace.words) (take_all c.loop-trace.trace-index c.args.traces.now (omega arith)) (record { bound = c.bounded.ensures.bound; bits = v.bits }))

pub returns-clause-width : goal.returns-clause-width
returns-clause-width c = ap (λ (w : List ℕ). length w) c.bounded.ensures.same ∙ c.loop-trace.invariant.long
