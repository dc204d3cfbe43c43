-- Pieces of a file, and the lines that end in them.
use Rattle.std.proofs.Common.{◌≡◌, ◌<◌, ◌≤◌, ◌+◌, ℕ, List, [], ◌∷◌, ◌++◌, Bool, true, false, length, ap, arith, refl, sym, subst, ◌∙◌, append-nil, append_assoc, inl, inr}
use Rattle.std.proofs.lemmas.List.{length-append}
use Rattle.std.proofs.lemmas.List.Elements.{All-append}
use Rattle.std.proofs.lemmas.List.Splits.{length-slice_split}
use Rattle.event_lines.specs.Cut.{input_lines, is_line_feed}
use Rattle.output_files.specs.Written.{WrittenFile}
use Rattle.line_split.specs.declared.pending.Pending.{Pending}
use Rattle.line_split.specs.declared.reason.Reason.TheVariants.{TooLong}
use Rattle.line_split.specs.declared.split_fault.SplitFault.{SplitFault}
use Rattle.line_split.specs.declared.split_fault.SplitFault.TheVariants.{Arguments, Memory, BadLine, File, Write}
use Rattle.line_split.specs.CommandLines.{Call}
use Rattle.line_split.specs.Lines.{FileLine, IsGood, lines_from, longest_line}
use Rattle.line_split.specs.Parts.{counted, file_count, part_file}
use Rattle.line_split.specs.inner.Pending.{IsBegun}
use Rattle.line_split.specs.inner.Steps.{Carried, FileCause, FileStops, Fits, IsCause, Splits, all_split}
use Rattle.line_split.proofs.LineLemmas.{lines_append}
use Rattle.line_split.proofs.PendingLemmas.{tells_begins}
use Rattle.line_split.proofs.SaidLemmas.{request_long}
use Rattle.line_split.proofs.StepLemmas.{failed, nothing, splits_none, splits_on}

some_lines : (file n : ℕ) (lines : List (List ℕ)) → 0 < length lines → 0 < length (lines_from file n lines)
some_lines file n [] lt = absurd (omega arith)
some_lines file n (l ∷ ls) lt = omega arith

-- the cause in a chunk is the cause in the file, since a line follows
cause_in : (file : ℕ) (at_end : Bool) (rest more : List FileLine) (fault : SplitFault) → 0 < length more → IsCause rest fault → FileCause file at_end (rest ++ more) fault
cause_in file at_end rest more Arguments lt h = h
cause_in file at_end rest more Memory lt h = h
cause_in file at_end rest more (BadLine f line why) lt h = (h.0, h.1 ++ more, ap (λ ls. ls ++ more) h.2, h.3, h.4, h.5, inl (omega (arith, length-append h.1 more, lt)))
cause_in file at_end rest more (File index) lt h = absurd h
cause_in file at_end rest more Write lt h = h

-- or its file came to the end
cause_last : (file : ℕ) (rest : List FileLine) (fault : SplitFault) → IsCause rest fault → FileCause file true rest fault
cause_last file rest Arguments h = h
cause_last file rest Memory h = h
cause_last file rest (BadLine f line why) h = (h.0, h.1, h.2, h.3, h.4, h.5, inr (inl refl))
cause_last file rest (File index) h = absurd h
cause_last file rest Write h = h

-- before the first byte of a file
pub carried_begin : {P : Type 0} (call : Call) (file : ℕ) (written : P → List WrittenFile) (faults : P → ℕ) (s : P) (p : Pending) (rest : List ℕ) (number : ℕ) → rest ≡ [] → number ≡ 1 → Fits call (written s) p → Carried call file [] written faults s s p p rest number
carried_begin call file written faults s p rest number none one fits = record {
  lines = [];
  cut = λ more. ap (λ (xs : List ℕ). input_lines (xs ++ more)) (sym none);
  numbered = one;
  split = splits_none call written faults nothing s p fits;
}

module _ {P : Type 0} (call : Call) (file : ℕ) (bytes : List ℕ) (written : P → List WrittenFile) (faults : P → ℕ) (start mid : P) (before p : Pending) (rest : List ℕ) (number : ℕ) (h : Carried call file bytes written faults start mid before p rest number) where
  -- bytes came that are only carried
  pub carried_more : (piece now : List ℕ) → now ≡ rest ++ piece → Carried call file (bytes ++ piece) written faults start mid before p now number
  carried_more piece now is = record {
    lines = h.lines;
    cut = λ more. ap input_lines (append_assoc bytes piece more) ∙ h.cut (piece ++ more) ∙ ap (λ (xs : List ℕ). h.lines ++ input_lines xs) (sym (append_assoc rest piece more) ∙ ap (λ xs. xs ++ more) (sym is));
    numbered = h.numbered;
    split = h.split;
  }

  -- all lines that were read
  all_lines : input_lines bytes ≡ h.lines ++ input_lines rest
  all_lines = ap input_lines (sym (append-nil bytes)) ∙ h.cut [] ∙ ap (λ (xs : List ℕ). h.lines ++ input_lines xs) (append-nil rest)

  -- a fault came before any further line was split
  pub stops_here : (at_end : Bool) (fault : SplitFault) → FileCause file at_end (lines_from file (1 + length h.lines) (input_lines rest)) fault → FileStops call file bytes at_end written start mid before fault
  stops_here at_end fault cause others lines told =
      let new = h.split.told others lines told in
      record {
        done = lines_from file 1 h.lines;
        rest = lines_from file (1 + length h.lines) (input_lines rest);
        split = ap (lines_from file 1) all_lines ∙ lines_append file 1 h.lines (input_lines rest);
        good = h.split.good;
        begun = tells_begins (file_count call) others (part_file call (lines ++ lines_from file 1 h.lines)) (written mid) p new;
        cause = cause;
      }

  -- the file could not be read on, and one line is carried
  pub stops_read : input_lines rest ≡ rest ∷ [] → FileStops call file bytes false written start mid before (File file)
  stops_read one = stops_here false (File file) (refl, subst (λ (ls : List (List ℕ)). length (lines_from file (1 + length h.lines) ls) ≤ 1) (sym one) (omega arith))

  -- the line that is carried is too long already
  pub stops_long : (at_end : Bool) → input_lines rest ≡ rest ∷ [] → longest_line < length rest → FileStops call file bytes at_end written start mid before (BadLine file number TooLong)
  stops_long at_end one long = stops_here at_end (BadLine file number TooLong) (
    record { file = file; number = 1 + length h.lines; bytes = rest },
    [],
    ap (lines_from file (1 + length h.lines)) one,
    request_long rest long,
    refl,
    h.numbered,
    inr (inr long),
  )

  module _ (cuts : (front back : List ℕ) → input_lines (front ++ 10 ∷ back) ≡ input_lines front ++ input_lines back) (chunk tail : List ℕ) (is : rest ≡ chunk ++ 10 ∷ tail) where
    -- a chunk of lines was split
    pub carried_on : (new : P) (q : Pending) (next : ℕ) → next ≡ counted (1 + length h.lines + length (input_lines chunk))
        → Splits call (lines_from file (1 + length h.lines) (input_lines chunk)) all_split written faults mid new p q → Carried call file bytes written faults start new before q tail next
    carried_on new q next numbered split = record {
      lines = h.lines ++ input_lines chunk;
      cut = λ more.
          h.cut more ∙ ap (λ (xs : List ℕ). h.lines ++ input_lines xs) (ap (λ xs. xs ++ more) is ∙ append_assoc chunk (10 ∷ tail) more)
          ∙ ap (λ ls. h.lines ++ ls) (cuts chunk (tail ++ more)) ∙ sym (append_assoc h.lines (input_lines chunk) (input_lines (tail ++ more)));
      numbered = numbered ∙ ap counted (omega (arith, length-append h.lines (input_lines chunk)));
      split = subst (λ (a : List FileLine). Splits call a all_split written faults start new before q) (sym (lines_append file 1 h.lines (input_lines chunk)))
          (splits_on call written faults nothing (lines_from file 1 h.lines) (lines_from file (1 + length h.lines) (input_lines chunk)) all_split start mid new before p q h.split split);
    }

    -- it was not
    pub stops_chunk : (T : Type 0) (fault : SplitFault) (new : P) (q : Pending) → Splits call (lines_from file (1 + length h.lines) (input_lines chunk)) (failed T fault) written faults mid new p q → FileStops call file bytes false written start new before fault
    stops_chunk T fault new q split others lines told =
        let first = lines_from file 1 h.lines in
        let last = lines_from file (1 + length h.lines + length (input_lines chunk)) (input_lines tail) in
        let at = split.stops others (lines ++ first) (h.split.told others lines told) in
        let some : 0 < length last = some_lines file (1 + length h.lines + length (input_lines chunk)) (input_lines tail) (omega (arith, length-slice_split is_line_feed tail)) in
        record {
          done = first ++ at.done;
          rest = at.rest ++ last;
          split = ap (lines_from file 1) (all_lines ∙ ap (λ (xs : List ℕ). h.lines ++ input_lines xs) is ∙ ap (λ ls. h.lines ++ ls) (cuts chunk tail)) ∙ lines_append file 1 h.lines (input_lines chunk ++ input_lines tail)
              ∙ ap (λ ls. first ++ ls) (lines_append file (1 + length h.lines) (input_lines chunk) (input_lines tail) ∙ ap (λ ls. ls ++ last) at.split)
              ∙ ap (λ ls. first ++ ls) (append_assoc at.done at.rest last) ∙ sym (append_assoc first at.done (at.rest ++ last));
          good = All-append IsGood first at.done h.split.good at.good;
          begun = subst (λ ls. IsBegun call others ls (written new)) (append_assoc lines first at.done) at.begun;
          cause = cause_in file false at.rest last fault some at.cause;
        }

  -- the last line was split, or was not
  pub stops_last : (T : Type 0) (fault : SplitFault) (new : P) (q : Pending) → Splits call (lines_from file (1 + length h.lines) (input_lines rest)) (failed T fault) written faults mid new p q → FileStops call file bytes true written start new before fault
  stops_last T fault new q split others lines told =
      let first = lines_from file 1 h.lines in
      let at = split.stops others (lines ++ first) (h.split.told others lines told) in
      record {
        done = first ++ at.done;
        rest = at.rest;
        split = ap (lines_from file 1) all_lines ∙ lines_append file 1 h.lines (input_lines rest) ∙ ap (λ ls. first ++ ls) at.split ∙ sym (append_assoc first at.done at.rest);
        good = All-append IsGood first at.done h.split.good at.good;
        begun = subst (λ ls. IsBegun call others ls (written new)) (append_assoc lines first at.done) at.begun;
        cause = cause_last file at.rest fault at.cause;
      }

  pub splits_last : (new : P) (q : Pending) → Splits call (lines_from file (1 + length h.lines) (input_lines rest)) all_split written faults mid new p q → Splits call (lines_from file 1 (input_lines bytes)) all_split written faults start new before q
  splits_last new q split = subst (λ (a : List FileLine). Splits call a all_split written faults start new before q) (sym (ap (lines_from file 1) all_lines ∙ lines_append file 1 h.lines (input_lines rest)))
      (splits_on call written faults nothing (lines_from file 1 h.lines) (lines_from file (1 + length h.lines) (input_lines rest)) all_split start mid new before p q h.split split)
