-- Cut traces, and the traces that they stand for.
use Rattle.std.proofs.Common.{◌≡◌, ℕ, List, [], ◌∷◌, ◌++◌, map, take, drop, sym, ap, ◌∙◌}
use Rattle.std.specs.Prelude.{All}
use Rattle.std.proofs.lemmas.List.{map-append}
use Rattle.std.proofs.lemmas.List.Elements.{All-nil, All-cons, All-head, All-tail}
use Rattle.trace_types.specs.declared.trace.Trace.{Trace}
use Rattle.event_table.specs.Texts.{TextLists}
use Rattle.segment_cut.specs.NumberedCuts.{NumberedCut}
use Rattle.batch_sheets.specs.Named.{HasFewSegments, cut_trace}
use Rattle.batch_sheets.specs.inner.Growth.{IsToBeNamed}
use Rattle.batch_sheets.proofs.ZipLemmas.{cut_joined}

-- traces that are to be named have few segments
pub few_given : (texts : TextLists) (cuts : List NumberedCut) → All (IsToBeNamed texts) cuts → All HasFewSegments (map cut_trace cuts)
few_given texts [] given = All-nil HasFewSegments
few_given texts (c ∷ cuts) given = All-cons HasFewSegments (cut_trace c) (map cut_trace cuts) (All-head (IsToBeNamed texts) c cuts given).few (few_given texts cuts (All-tail (IsToBeNamed texts) c cuts given))

-- traces that have few segments, and whose numbers stand for these texts, are to be named
pub all_given : (texts : TextLists) (cuts : List NumberedCut) → All HasFewSegments (map cut_trace cuts) → All (λ (c : NumberedCut). c.texts ≡ texts) cuts → All (IsToBeNamed texts) cuts
all_given texts [] few are = All-nil (IsToBeNamed texts)
all_given texts (c ∷ cuts) few are = All-cons (IsToBeNamed texts) c cuts (record { few = All-head HasFewSegments (cut_trace c) (map cut_trace cuts) few; same_texts = All-head (λ (d : NumberedCut). d.texts ≡ texts) c cuts are })
    (all_given texts cuts (All-tail HasFewSegments (cut_trace c) (map cut_trace cuts) few) (All-tail (λ (d : NumberedCut). d.texts ≡ texts) c cuts are))

-- the traces of what a list was cut into
pub traces_joined : (cuts front back : List NumberedCut) (n : ℕ) → front ≡ take n cuts → back ≡ drop n cuts → map cut_trace front ++ map cut_trace back ≡ map cut_trace cuts
traces_joined cuts front back n f b = sym (map-append cut_trace front back) ∙ ap (map cut_trace) (cut_joined cuts front back n f b)

-- one trace more
pub traces_next : (cuts : List NumberedCut) (c : NumberedCut) → map cut_trace (cuts ++ c ∷ []) ≡ map cut_trace cuts ++ cut_trace c ∷ []
traces_next cuts c = map-append cut_trace cuts (c ∷ [])
