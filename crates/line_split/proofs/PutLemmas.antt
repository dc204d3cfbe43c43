-- What a line does to the files of a call.
use Rattle.std.proofs.Common.{◌≡◌, ◌<◌, ◌+◌, ℕ, List, [], ◌∷◌, ◌++◌, All, Option, Some, None, Result, Ok, Err, ap, refl, sym, subst, ◌∙◌, append-nil}
use Rattle.std.specs.Prelude.{IfErr, OnErr, OnOk}
use Rattle.std.proofs.lemmas.List.Elements.{All-cons, All-nil}
use Rattle.output_files.specs.Written.{WrittenFile}
use Rattle.line_split.specs.declared.pending.Pending.{Pending}
use Rattle.line_split.specs.declared.split_fault.SplitFault.{SplitFault}
use Rattle.line_split.specs.declared.split_fault.SplitFault.TheVariants.{Arguments, Memory, BadLine, File, Write}
use Rattle.line_split.specs.CommandLines.{Call}
use Rattle.line_split.specs.Lines.{FileLine, IsGood, request_of}
use Rattle.line_split.specs.Parts.{file_count, line_row, origin_row, part_file}
use Rattle.line_split.specs.inner.Pending.{BeginsFiles, IsBegun, IsOver, TellsFiles, added, buffer_count}
use Rattle.line_split.specs.inner.Steps.{Fits, IsCause, IsStoreFault, Splits, part_said, read_faults, write_faults}
use Rattle.line_split.proofs.PartLemmas.{file_none, file_put, good_said}
use Rattle.line_split.proofs.StepLemmas.{ended, failed}
use Rattle.line_split.proofs.PendingLemmas.{begins_more, begins_same, tells_begins, tells_same}

pub store_cause : (fault : SplitFault) → IsStoreFault fault → IsCause [] fault
store_cause Arguments h = h
store_cause Memory h = tt
store_cause (BadLine file line why) h = absurd h
store_cause (File index) h = h
store_cause Write h = tt

-- it is no fault of the files that are read
pub store_unread : (T : Type 0) (fault : SplitFault) → IsStoreFault fault → (count : ℕ) → read_faults (failed T fault) count ≡ count
store_unread T Arguments h count = absurd h
store_unread T Memory h count = refl
store_unread T (BadLine file line why) h count = absurd h
store_unread T (File index) h count = absurd h
store_unread T Write h count = refl

one_good : (call : Call) (line : FileLine) (o : Option ℕ) → part_said call (request_of line.bytes) ≡ Ok o → All IsGood (line ∷ [])
one_good call line o is = All-cons IsGood line [] (good_said call (request_of line.bytes) o is) (All-nil IsGood)

module _ {P : Type 0} (call : Call) (written : P → List WrittenFile) (faults : P → ℕ) where
  -- a fault came before any line was split
  pub splits_stop : {T : Type 0} (fault : SplitFault) (more : List FileLine) (s : P) (p q : Pending) → IsCause more fault → write_faults (failed T fault) (faults s) ≡ faults s → ((count : ℕ) → read_faults (failed T fault) count ≡ count) → Splits call more (failed T fault) written faults s s p q
  splits_stop fault more s p q cause none unread = record {
    fits = tt;
    told = tt;
    good = tt;
    stops = λ before lines h. record {
      done = [];
      rest = more;
      split = refl;
      good = All-nil IsGood;
      begun = subst (λ ls. IsBegun call before ls (written s)) (sym (append-nil lines)) (tells_begins (file_count call) before (part_file call lines) (written s) p h);
      cause = cause;
    };
    counted = sym none;
    unread = unread;
  }

  -- a line that stands in no part
  pub splits_blank : {T : Type 0} (x : T) (line : FileLine) (s : P) (p : Pending) → part_said call (request_of line.bytes) ≡ Ok None → Fits call (written s) p → Splits call (line ∷ []) (ended x) written faults s s p p
  splits_blank x line s p is fits = record {
    fits = fits;
    told = λ before lines h. tells_same (file_count call) before (part_file call lines) (part_file call (lines ++ line ∷ [])) (written s) p (file_none call lines line is) h;
    good = one_good call line None is;
    stops = tt;
    counted = refl;
    unread = λ count. refl;
  }

  -- a line that stands in a part
  module _ (line : FileLine) (k : ℕ) (within : k < call.parts) (is : part_said call (request_of line.bytes) ≡ Ok (Some k)) (old mid new : P) (p q s : Pending) where
    abbrev pub Put : ℕ → List ℕ → P → P → Pending → Pending → Type 0
    Put i row a b x y = (count : ℕ) (before : List WrittenFile) (all : ℕ → WrittenFile) → TellsFiles count before all (written a) x → TellsFiles count before (added all i row) (written b) y

    abbrev pub Cut : ℕ → List ℕ → P → P → Pending → Type 0
    Cut i row a b x = (count : ℕ) (before : List WrittenFile) (all : ℕ → WrittenFile) → TellsFiles count before all (written a) x → BeginsFiles count before (added all i row) (written b)

    -- its row was not put
    pub splits_first : {T : Type 0} (e : SplitFault) → Cut k (line_row line) old mid p → IsStoreFault e → faults mid ≡ write_faults (failed T e) (faults old) → Splits call (line ∷ []) (failed T e) written faults old mid p q
    splits_first {T = T} e cut stored counted = record {
      fits = tt;
      told = tt;
      good = tt;
      stops = λ before lines h.
          let n = file_count call in
          let all = part_file call lines in
          let one = added all k (line_row line) in
          record {
            done = line ∷ [];
            rest = [];
            split = refl;
            good = one_good call line (Some k) is;
            begun = begins_same n before (added one (call.parts + k) (origin_row line)) (part_file call (lines ++ line ∷ [])) (written mid) (file_put call lines line k within is)
                (begins_more n before one (written mid) (call.parts + k) (origin_row line) (cut n before all h));
            cause = store_cause e stored;
          };
      counted = counted;
      unread = store_unread T e stored;
    }

    -- its row was put, and where it comes from was put or not
    pub splits_put : {T : Type 0} (r : Result T SplitFault) (row : List ℕ) → row ≡ origin_row line → Fits call (written old) p → Put k (line_row line) old mid p q → buffer_count q ≡ buffer_count p → OnOk r (IsOver (written new) s) → OnOk r (buffer_count s ≡ buffer_count q)
        → OnOk r (Put (call.parts + k) row mid new q s) → OnErr r (Cut (call.parts + k) row mid new q) → IfErr r IsStoreFault → faults mid ≡ faults old → faults new ≡ write_faults r (faults mid) → Splits call (line ∷ []) r written faults old new p s
    splits_put {T = T} (Ok x) row e fits put many over more told cut stored none counted = record {
      fits = record { over = over; many = more ∙ many ∙ fits.many };
      told = λ before lines h.
          let n = file_count call in
          let all = part_file call lines in
          let one = added all k (line_row line) in
          tells_same n before (added one (call.parts + k) (origin_row line)) (part_file call (lines ++ line ∷ [])) (written new) s (file_put call lines line k within is)
          (subst (λ (xs : List ℕ). TellsFiles n before (added one (call.parts + k) xs) (written new) s) e (told n before one (put n before all h)));
      good = one_good call line (Some k) is;
      stops = tt;
      counted = counted ∙ none;
      unread = λ count. refl;
    }
    splits_put {T = T} (Err fault) row e fits put many over more told cut stored none counted = record {
      fits = tt;
      told = tt;
      good = tt;
      stops = λ before lines h.
          let n = file_count call in
          let all = part_file call lines in
          let one = added all k (line_row line) in
          record {
            done = line ∷ [];
            rest = [];
            split = refl;
            good = one_good call line (Some k) is;
            begun = begins_same n before (added one (call.parts + k) (origin_row line)) (part_file call (lines ++ line ∷ [])) (written new) (file_put call lines line k within is)
                (subst (λ (xs : List ℕ). BeginsFiles n before (added one (call.parts + k) xs) (written new)) e (cut n before one (put n before all h)));
            cause = store_cause fault stored;
          };
      counted = counted ∙ ap (write_faults (failed T fault)) none;
      unread = store_unread T fault stored;
    }
