-- Steps of a run, one after another.
use Rattle.std.proofs.Common.{ℕ, List, [], ◌++◌, ap, refl, sym, subst, ◌∙◌, append-nil, append_assoc, Result, Ok, Err}
use Rattle.std.proofs.lemmas.List.Elements.{All-append, All-nil}
use Rattle.std.proofs.lemmas.Result.{IfErr-weaker, on_ok_weaker}
use Rattle.output_files.specs.Written.{WrittenFile}
use Rattle.line_split.specs.declared.pending.Pending.{Pending}
use Rattle.line_split.specs.declared.split_fault.SplitFault.{SplitFault}
use Rattle.line_split.specs.declared.split_fault.SplitFault.TheVariants.{Arguments, Memory, BadLine, File, Write}
use Rattle.line_split.specs.CommandLines.{Call}
use Rattle.line_split.specs.Lines.{FileLine, IsGood}
use Rattle.line_split.specs.inner.Pending.{IsBegun, Tells}
use Rattle.line_split.specs.inner.Steps.{Fits, IsCause, Splits, write_faults}

-- a result that is done, and one with a fault
abbrev pub nothing : Unit {0}
nothing = tt

abbrev pub ended : {T : Type 0} → T → Result T SplitFault
ended x = Ok x

abbrev pub failed : (T : Type 0) → SplitFault → Result T SplitFault
failed T fault = Err fault

cause_of_more : (rest more : List FileLine) (fault : SplitFault) → IsCause rest fault → IsCause (rest ++ more) fault
cause_of_more rest more Arguments h = h
cause_of_more rest more Memory h = h
cause_of_more rest more (BadLine file line why) h = (h.0, h.1 ++ more, ap (λ ls. ls ++ more) h.2, h.3, h.4, h.5)
cause_of_more rest more (File index) h = h
cause_of_more rest more Write h = h

module _ {P : Type 0} (call : Call) (written : P → List WrittenFile) (faults : P → ℕ) where
  -- no line was split
  pub splits_none : {T : Type 0} (x : T) (s : P) (p : Pending) → Fits call (written s) p → Splits call [] (ended x) written faults s s p p
  splits_none x s p fits = record {
    fits = fits;
    told = λ before lines h. subst (λ ls. Tells call before ls (written s) p) (sym (append-nil lines)) h;
    good = All-nil IsGood;
    stops = tt;
    counted = refl;
    unread = λ count. refl;
  }

  -- more lines were split after the first
  pub splits_on : {T U : Type 0} (x : U) (a b : List FileLine) (r : Result T SplitFault) (old mid new : P) (p q s : Pending) → Splits call a (ended x) written faults old mid p q → Splits call b r written faults mid new q s
      → Splits call (a ++ b) r written faults old new p s
  splits_on x a b r old mid new p q s first second = record {
    fits = second.fits;
    told = on_ok_weaker r (λ t before lines h. subst (λ ls. Tells call before ls (written new) s) (append_assoc lines a b) (t before (lines ++ a) (first.told before lines h))) second.told;
    good = on_ok_weaker r (λ g. All-append IsGood a b first.good g) second.good;
    stops = IfErr-weaker r _ _ (λ fault stop before lines h.
        let at = stop before (lines ++ a) (first.told before lines h) in
        record {
          done = a ++ at.done;
          rest = at.rest;
          split = ap (λ ls. a ++ ls) at.split ∙ sym (append_assoc a at.done at.rest);
          good = All-append IsGood a at.done first.good at.good;
          begun = subst (λ ls. IsBegun call before ls (written new)) (append_assoc lines a at.done) at.begun;
          cause = at.cause;
        }) second.stops;
    counted = second.counted ∙ ap (write_faults r) first.counted;
    unread = second.unread;
  }

  -- a fault came, so more lines that were to be split were not
  pub splits_short : {T : Type 0} (e : SplitFault) (a b : List FileLine) (old new : P) (p q : Pending) → Splits call a (failed T e) written faults old new p q → Splits call (a ++ b) (failed T e) written faults old new p q
  splits_short e a b old new p q h = record {
    fits = tt;
    told = tt;
    good = tt;
    stops = λ before lines told.
        let at = h.stops before lines told in
        record {
          done = at.done;
          rest = at.rest ++ b;
          split = ap (λ ls. ls ++ b) at.split ∙ append_assoc at.done at.rest b;
          good = at.good;
          begun = at.begun;
          cause = cause_of_more at.rest b e at.cause;
        };
    counted = h.counted;
    unread = h.unread;
  }

  -- the same fault in another result
  pub splits_err : {T U : Type 0} (e : SplitFault) (a : List FileLine) (old new : P) (p q s : Pending) → Splits call a (failed T e) written faults old new p q → Splits call a (failed U e) written faults old new p s
  splits_err e a old new p q s h = record { fits = tt; told = tt; good = tt; stops = h.stops; counted = h.counted; unread = h.unread }

  pub splits_ok : {T U : Type 0} (x : T) (y : U) (a : List FileLine) (old new : P) (p q : Pending) → Splits call a (ended x) written faults old new p q → Splits call a (ended y) written faults old new p q
  splits_ok x y a old new p q h = record { fits = h.fits; told = h.told; good = h.good; stops = tt; counted = h.counted; unread = λ count. refl }
