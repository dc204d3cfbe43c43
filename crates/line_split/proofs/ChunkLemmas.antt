-- The lines of a chunk, split one after another.
use Rattle.std.proofs.Common.{◌≡◌, ◌<◌, ◌+◌, ℕ, List, [], ◌∷◌, ◌++◌, length, get_or, take, drop, ap, sym, subst, ◌∙◌}
use Rattle.output_files.specs.Written.{WrittenFile}
use Rattle.line_split.specs.declared.pending.Pending.{Pending}
use Rattle.line_split.specs.declared.split_fault.SplitFault.{SplitFault}
use Rattle.line_split.specs.CommandLines.{Call}
use Rattle.line_split.specs.Lines.{FileLine, lines_from}
use Rattle.line_split.specs.inner.Steps.{Splits}
use Rattle.line_split.proofs.LineLemmas.{lines_more, lines_split}
use Rattle.line_split.proofs.StepLemmas.{ended, failed, nothing, splits_err, splits_on, splits_short}

module _ {P : Type 0} (call : Call) (written : P → List WrittenFile) (faults : P → ℕ) (file n i : ℕ) (ls : List (List ℕ)) (old mid new : P) (p q s : Pending) (lt : i < length ls)
    (first : Splits call (lines_from file n (take i ls)) (ended nothing) written faults old mid p q) (line : List ℕ) (is : line ≡ get_or ls i []) where
  more : lines_from file n (take i ls) ++ record { file = file; number = n + i; bytes = line } ∷ [] ≡ lines_from file n (take (i + 1) ls)
  more = ap (λ (l : List ℕ). lines_from file n (take i ls) ++ record { file = file; number = n + i; bytes = l } ∷ []) is ∙ sym (lines_more file n ls i [] lt)

  -- the next line was split
  pub step_on : Splits call (record { file = file; number = n + i; bytes = line } ∷ []) (ended nothing) written faults mid new q s → Splits call (lines_from file n (take (i + 1) ls)) (ended nothing) written faults old new p s
  step_on h = subst (λ (a : List FileLine). Splits call a (ended nothing) written faults old new p s) more
      (splits_on call written faults nothing (lines_from file n (take i ls)) (record { file = file; number = n + i; bytes = line } ∷ []) (ended nothing) old mid new p q s first h)

  -- it was not
  pub step_err : (T U : Type 0) (e : SplitFault) → Splits call (record { file = file; number = n + i; bytes = line } ∷ []) (failed T e) written faults mid new q s → Splits call (lines_from file n ls) (failed U e) written faults old new p s
  step_err T U e h =
      let a = lines_from file n (take (i + 1) ls) in
      let b = lines_from file (n + length (take (i + 1) ls)) (drop (i + 1) ls) in
      let on : Splits call a (failed T e) written faults old new p s = subst (λ (a : List FileLine). Splits call a (failed T e) written faults old new p s) more
      (splits_on call written faults nothing (lines_from file n (take i ls)) (record { file = file; number = n + i; bytes = line } ∷ []) (failed T e) old mid new p q s first h) in
      subst (λ (a : List FileLine). Splits call a (failed U e) written faults old new p s) (sym (lines_split file n (i + 1) ls))
      (splits_err call written faults {T = T} {U = U} e (a ++ b) old new p s s (splits_short call written faults {T = T} e a b old new p s on))
