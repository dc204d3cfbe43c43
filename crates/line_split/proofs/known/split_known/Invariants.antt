use Rattle.std.proofs.Common.{◌≡◌, ◌<◌, ◌+◌, ◌^◌, ℕ, List, drop, map, take}
use Rattle.std.specs.Borrow.{Bor}
use Rattle.line_split.specs.Lines.{lines_from}
use Rattle.line_split.specs.Parts.{counted}
use Rattle.line_split.specs.inner.Calls.{call_of_line}
use Rattle.line_split.specs.inner.Known.{AreKnown}
use Rattle.line_split.specs.inner.Steps.{Fits, Splits}
use Rattle.line_split.proofs.StepLemmas.{ended, nothing}
use Rattle.line_split.proofs.known.split_known.Given as goal

-- the lines so far were split, and these parts are those of the others
abbrev pub invariant-lines : goal.invariant-lines
invariant-lines g l =
    let P = g.P.OutputFiles in
    let call = call_of_line l.call in
    let lines = map (λ (line : Bor (List ℕ)). line.now) l.lines in
    record {
      fits : Fits call (P.written l.files) l.pending;
      small : l.number < 2 ^ 64;
      numbered : (n : ℕ) → l.first ≡ counted n → l.number ≡ counted (n + l.line-index);
      known : AreKnown call (drop l.line-index lines) (drop l.at l.parts);
      split : (n : ℕ) → l.first ≡ counted n
          → Splits call (lines_from l.file n (take l.line-index lines)) (ended nothing) P.written P.faults l.fn.files l.files l.fn.pending l.pending;
    }
