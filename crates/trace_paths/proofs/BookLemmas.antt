-- The traces of a book's days, one day after another.
use Rattle.std.proofs.Common.{◌≡◌, ℕ, ◌+◌, ◌<◌, ◌≤◌, List, [], ◌∷◌, ◌++◌, length, map, get_or, slice_get, take, drop, Some, All, arith, sym, ap, ◌∙◌, subst}
use Rattle.std.specs.List.{flat_map}
use Rattle.std.specs.Option.{option_map}
use Rattle.std.proofs.lemmas.List.{append-nil, get_or-map, length-append, length-map, take-append-drop, take_more}
use Rattle.std.proofs.lemmas.List.Elements.{All-nil, All-append, All-head, All-tail}
use Rattle.std.proofs.lemmas.List.Concat.{flat_map-append}
use Rattle.std.proofs.lemmas.Option.{slice_get-get_or}
use Rattle.trace_types.specs.declared.named_trace.NamedTrace.{NamedTrace}
use Rattle.day_partitions.specs.Books.{KeptDay, all_traces}

-- one more day
pub days_more : (days : List KeptDay) (k : ℕ) (traces : List NamedTrace) → k < length days → option_map (λ (d : KeptDay). d.traces) (slice_get days k) ≡ Some traces → all_traces (take (k + 1) days) ≡ all_traces (take k days) ++ traces
days_more days k traces lt are = go days k lt are
  where
    go : (days : List KeptDay) (k : ℕ) → k < length days → option_map (λ (d : KeptDay). d.traces) (slice_get days k) ≡ Some traces → all_traces (take (k + 1) days) ≡ all_traces (take k days) ++ traces
    go [] k lt are = absurd (omega arith)
    go (d ∷ ds) k lt are =
        let one = slice_get-get_or (d ∷ ds) k d lt in
        let same : (get_or (d ∷ ds) k d).traces ≡ traces = let e : Some (get_or (d ∷ ds) k d).traces ≡ Some traces = sym (ap (option_map (λ (x : KeptDay). x.traces)) one) ∙ are in cc in
        ap all_traces (take_more (d ∷ ds) k d lt) ∙ (flat_map-append (λ (x : KeptDay). x.traces) (take k (d ∷ ds)) (get_or (d ∷ ds) k d ∷ [])
        ∙ ap (λ (l : List NamedTrace). all_traces (take k (d ∷ ds)) ++ l) (append-nil (get_or (d ∷ ds) k d).traces ∙ same))

-- the days so far have at most the traces of all
pub days_part : (days : List KeptDay) (k : ℕ) → length (all_traces (take k days)) ≤ length (all_traces days)
days_part days k =
    let whole : all_traces (take k days) ++ all_traces (drop k days) ≡ all_traces days = sym (flat_map-append (λ (x : KeptDay). x.traces) (take k days) (drop k days)) ∙ ap all_traces (take-append-drop k days) in
    omega (arith, ap length whole, length-append (all_traces (take k days)) (all_traces (drop k days)))

-- what holds of the traces of each day holds of all
pub all_in_days : (P : NamedTrace → Type 0) (days : List KeptDay) → All (λ (d : KeptDay). All P d.traces) days → All P (all_traces days)
all_in_days P [] all = All-nil P
all_in_days P (d ∷ ds) all = All-append P d.traces (all_traces ds) (All-head (λ (x : KeptDay). All P x.traces) d ds all) (all_in_days P ds (All-tail (λ (x : KeptDay). All P x.traces) d ds all))

-- what holds of each mapped element
pub All-unmap : {X Y : Type 0} (P : Y → Type 0) (f : X → Y) (xs : List X) → All P (map f xs) → All (λ x. P (f x)) xs
All-unmap P f xs all k d lt = let many = length-map xs f in subst P (get_or-map f xs k d (f d) lt) (all k (f d) (omega arith))
