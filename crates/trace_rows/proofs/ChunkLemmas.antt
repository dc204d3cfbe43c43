-- What a parallel map over traces gives where each of its calls succeeds, and lists of lent traces
-- that are taken a chunk at a time.
use Rattle.std.proofs.Common.{◌≡◌, ℕ, ◌+◌, ◌-◌, ◌≤◌, List, [], ◌∷◌, ◌++◌, length, take, drop, map, Option, Err, refl, sym, ◌∙◌, ap, subst, append_assoc, arith}
use Rattle.std.specs.Borrow.{Bor}
use Rattle.std.specs.List.{flat_map}
use Rattle.std.proofs.Math.Seq.{take-add}
use Rattle.std.proofs.lemmas.List.{map-append, take_all, take-append-drop}
use Rattle.session_rules.specs.KeptTraces.{Kept}
use Rattle.session_rules.specs.Parts.{IsPart, Part}
use Rattle.text_rows.specs.PartsFollow.{PartCallGoesOn, PartCallsFollow}
use Rattle.text_rows.specs.declared.print_fault.PrintFault.{PrintFault}
use Rattle.trace_types.specs.declared.named_trace.NamedTrace.{NamedTrace}
use Rattle.judged_books.specs.JudgedBooks.{JudgedState}
use Rattle.trace_rows.specs.inner.ShownTraces.{PrintsShown, TracePart}
use Rattle.trace_rows.proofs.PrintLemmas.{done, shown_follow, shown_goes_on}

-- the traces that are lent
abbrev pub lent : List (Bor NamedTrace) → List NamedTrace
lent ts = map (λ (t : Bor NamedTrace). t.now) ts

-- lent traces are those of each by itself
pub each_lent : (ts : List (Bor NamedTrace)) → flat_map (λ (t : Bor NamedTrace). t.now ∷ []) ts ≡ lent ts
each_lent [] = refl
each_lent (t ∷ ts) = ap (λ us. t.now ∷ us) (each_lent ts)

-- some of the lent traces, the next so many, and the rest
chunk_end : (ts : List (Bor NamedTrace)) (i n : ℕ) → lent (take i ts) ++ lent (take (i + n - i) (drop i ts)) ≡ lent (take (i + n) ts)
chunk_end ts i n =
    let many : i + n - i ≡ n = omega arith in
    sym (map-append (λ (t : Bor NamedTrace). t.now) (take i ts) (take (i + n - i) (drop i ts))) ∙ ap lent (ap (λ m. take i ts ++ take m (drop i ts)) many ∙ sym (take-add i n ts))

chunk_rest : (ts : List (Bor NamedTrace)) (i n : ℕ) → lent (take i ts) ++ (lent (take (i + n - i) (drop i ts)) ++ lent (drop (i + n) ts)) ≡ lent ts
chunk_rest ts i n =
    sym (append_assoc (lent (take i ts)) (lent (take (i + n - i) (drop i ts))) (lent (drop (i + n) ts)))
    ∙ (ap (λ l. l ++ lent (drop (i + n) ts)) (chunk_end ts i n)
    ∙ (sym (map-append (λ (t : Bor NamedTrace). t.now) (take (i + n) ts) (drop (i + n) ts)) ∙ ap lent (take-append-drop (i + n) ts)))

-- one more chunk, all of them, and one that was not printed to its end
module _ {S : Type 0} (written : S → Option (List ℕ)) (faults : S → ℕ) (b : JudgedState) (part : TracePart) (ts : List (Bor NamedTrace)) where
  pub chunks_next : (i n : ℕ) (old mid new : S) (held between holds : List ℕ) → PartCallsFollow written faults IsPart (Unit {0})
      → PrintsShown written faults done old mid b part (lent (take i ts)) held between → PrintsShown written faults done mid new b part (lent (take (i + n - i) (drop i ts))) between holds → PrintsShown written faults done old new b part (lent (take (i + n) ts)) held holds
  chunks_next i n old mid new held between holds follow p q =
      subst (λ us. PrintsShown written faults done old new b part us held holds) (chunk_end ts i n) (shown_follow written faults b part done old mid new (lent (take i ts)) (lent (take (i + n - i) (drop i ts))) held between holds follow p q)

  pub chunks_all : (i : ℕ) (old new : S) (held holds : List ℕ) → length ts ≤ i → PrintsShown written faults done old new b part (lent (take i ts)) held holds → PrintsShown written faults done old new b part (lent ts) held holds
  chunks_all i old new held holds le p = subst (λ us. PrintsShown written faults done old new b part (lent us) held holds) (take_all i ts le) p

  pub chunks_cut : (i n : ℕ) (e : PrintFault) (old mid new : S) (held between holds : List ℕ) → PartCallsFollow written faults IsPart (Unit {0}) → PartCallGoesOn written faults IsPart (Unit {0})
      → PrintsShown written faults done old mid b part (lent (take i ts)) held between → PrintsShown {T = Unit {0}} written faults (Err e) mid new b part (lent (take (i + n - i) (drop i ts))) between holds → PrintsShown {T = Unit {0}} written faults (Err e) old new b part (lent ts) held holds
  chunks_cut i n e old mid new held between holds follow goes_on p q =
      subst (λ us. PrintsShown {T = Unit {0}} written faults (Err e) old new b part us held holds) (chunk_rest ts i n)
      (shown_follow written faults b part (Err e) old mid new (lent (take i ts)) (lent (take (i + n - i) (drop i ts)) ++ lent (drop (i + n) ts)) held between holds follow p
      (shown_goes_on written faults b part e mid new (lent (take (i + n - i) (drop i ts))) (lent (drop (i + n) ts)) between holds holds goes_on q))
