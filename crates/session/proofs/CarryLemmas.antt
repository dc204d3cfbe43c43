-- A job that was printed and flushed, or was stopped.
use Rattle.std.proofs.Common.{◌≡◌, ℕ, List, [], ◌++◌, Option, inl, inr, refl, sym, ap, ◌∙◌, subst}
use Rattle.std.specs.Prelude.{Ok, Err}
use Rattle.std.specs.Io.KnownBytes.{append_known}
use Rattle.std.proofs.lemmas.List.{append-nil}
use Rattle.batch_sheets.specs.declared.recording.DayLines.{DayLines}
use Rattle.mystery_io.specs.Prefixes.{AppendsPrefix}
use Rattle.session_rules.specs.Parts.{IsPart, Part}
use Rattle.session_rules.specs.Sessions.{Adds, Does, State}
use Rattle.session_rules.specs.declared.job.Job.{Job}
use Rattle.session_rules.specs.declared.job.Job.TheVariants.{Add}
use Rattle.session_rules.specs.declared.refused.Refused.{Refused}
use Rattle.text_rows.specs.PartsFollow.{FlushCutsParts, FlushEndsParts}
use Rattle.text_rows.specs.Printing.{Prints, print_faults}
use Rattle.text_rows.specs.TextsFollow.{FlushCutsText, FlushEndsText}
use Rattle.text_rows.specs.TextsOfParts.{PrintsParts, PrintsPrefix}
use Rattle.text_rows.specs.declared.print_fault.PrintFault.{PrintFault}
use Rattle.text_rows.specs.declared.print_fault.PrintFault.TheVariants as printing
use Rattle.trace_types.specs.declared.event.Event.{Event}
use Rattle.session.specs.AddLaws.{added_text}
use Rattle.session.specs.Carrying.{CarriesOut, CutsShort, HasCommandCause, IsLimitFault, command_faults, fault_of_print}
use Rattle.session.specs.SessionStates.{SessionState}
use Rattle.session.specs.declared.add_fault.AddFault.{AddFault}
use Rattle.session.specs.declared.add_fault.AddFault.TheVariants.{Memory, Over}
use Rattle.session.specs.inner.AddFaults.{HasAddCause, fault_of_add}
use Rattle.session.specs.inner.AddSteps.{IsAddOf}
use Rattle.session.specs.inner.Steps.{PrintsStep}

-- a job that was cut short, by the fault of its printing
pub cut_cause : (fault : PrintFault) (workers : ℕ) (job : Job) (s : State) (before now : Option (List ℕ)) → CutsShort workers job s before now → HasCommandCause (fault_of_print fault) workers job s before now
cut_cause printing.Memory workers job s before now c = inr c
cut_cause printing.Write workers job s before now c = c

pub print_counted : (T : Type 0) (fault : PrintFault) (count : ℕ) → print_faults {T = Unit {0}} (Err fault) count ≡ command_faults {T = T} (Err (fault_of_print fault)) count
print_counted T printing.Memory count = refl
print_counted T printing.Write count = refl

pub print_no_limit : (fault : PrintFault) → IsLimitFault (fault_of_print fault) → ⊥
print_no_limit printing.Memory l = l
print_no_limit printing.Write l = l

pub add_counted : (T : Type 0) (fault : AddFault) (count : ℕ) → command_faults {T = T} (Err (fault_of_add fault)) count ≡ count
add_counted T Memory count = refl
add_counted T (Over limit) count = refl

-- an add that did not begin to print
pub add_cause : (fault : AddFault) (workers : ℕ) (events : List Event) (s : State) (before : Option (List ℕ)) → HasAddCause events s fault → HasCommandCause (fault_of_add fault) workers (Add events) s before before
add_cause Memory workers events s before h = inl refl
add_cause (Over limit) workers events s before h = (h, refl)

-- the text of an add, which was printed of these lists into an empty buffer
module _ (workers : ℕ) (events : List Event) (s : State) (session : SessionState) (refused : List Refused) (watched : List DayLines) (a : IsAddOf workers events s session refused watched) (held : List ℕ) (empty : held ≡ []) (rows : List Refused) (rows_are : rows ≡ refused) (lines : List DayLines) (lines_are : lines ≡ watched) (before now : Option (List ℕ)) where
  same : added_text rows lines ≡ added_text refused watched
  same = ap (λ r. added_text r lines) rows_are ∙ ap (added_text refused) lines_are

  whole : (mid : Option (List ℕ)) (between : List ℕ) → Prints before mid held between (added_text rows lines) → Prints before mid [] between (added_text refused watched)
  whole mid between p = subst (λ h. Prints before mid h between (added_text refused watched)) empty (subst (Prints before mid held between) same p)

  cut : AppendsPrefix before now (added_text refused watched) → CutsShort workers (Add events) s before now
  cut p = record {
    first = a.parts;
    left = [];
    next = a.next;
    does = subst (λ ps. Adds workers events s ps a.next) (sym (append-nil a.parts)) a.does;
    text = added_text refused watched;
    told = a.told;
    prefix = p;
  }

  pub add_carried : (ends : FlushEndsText) (mid : Option (List ℕ)) (between : List ℕ) → Prints before mid held between (added_text rows lines) → now ≡ append_known mid between → CarriesOut workers (Add events) s session before now
  add_carried ends mid between p e = record {
    parts = a.parts;
    next = a.next;
    does = a.does;
    shows = a.shows;
    text = added_text refused watched;
    told = a.told;
    written = ends before mid now between (added_text refused watched) (whole mid between p) e;
  }

  pub add_cut : (fault : PrintFault) → AppendsPrefix before now (held ++ added_text rows lines) → HasCommandCause (fault_of_print fault) workers (Add events) s before now
  add_cut fault p = cut_cause fault workers (Add events) s before now (cut (subst (λ h. AppendsPrefix before now (h ++ added_text refused watched)) empty (subst (λ t. AppendsPrefix before now (held ++ t)) same p)))

  pub add_flush_cut : (cuts : FlushCutsText) (fault : PrintFault) (mid : Option (List ℕ)) (between : List ℕ) → Prints before mid held between (added_text rows lines) → AppendsPrefix mid now between → HasCommandCause (fault_of_print fault) workers (Add events) s before now
  add_flush_cut cuts fault mid between p f = cut_cause fault workers (Add events) s before now (cut (cuts before mid now between (added_text refused watched) (whole mid between p) f))

-- the parts of a job other than an add
module _ {S : Type 0} (written : S → Option (List ℕ)) (faults : S → ℕ) (workers : ℕ) (job : Job) (s : State) (session : SessionState) where
  cut_prefix : (parts : List Part) (next : State) (before now : Option (List ℕ)) → Does workers job s parts next → PrintsPrefix IsPart parts before now [] → CutsShort workers job s before now
  cut_prefix parts next before now does p = record {
    first = p.first;
    left = p.rest;
    next = next;
    does = subst (λ ps. Does workers job s ps next) p.split does;
    text = p.text;
    told = p.told;
    prefix = p.prefix;
  }

  pub job_carried : (ends : FlushEndsParts IsPart) (old mid : S) (now : Option (List ℕ)) (held between : List ℕ) → held ≡ [] → PrintsStep {T = Unit {0}} written faults (Ok tt) old mid workers job s session held between → now ≡ append_known (written mid) between → CarriesOut workers job s session (written old) now
  job_carried ends old mid now held between empty step e =
      let printed = subst (λ h. PrintsParts IsPart step.parts (written old) (written mid) h between) empty step.printed.all in
      let w = ends step.parts (written old) (written mid) now between printed e in
      record { parts = step.parts; next = step.next; does = step.does; shows = step.shows; text = w.0; told = w.1; written = w.2 }

  pub job_cut : (fault : PrintFault) (old new : S) (held holds : List ℕ) → held ≡ [] → PrintsStep {T = Unit {0}} written faults (Err fault) old new workers job s session held holds → HasCommandCause (fault_of_print fault) workers job s (written old) (written new)
  job_cut fault old new held holds empty step =
      cut_cause fault workers job s (written old) (written new) (cut_prefix step.parts step.next (written old) (written new) step.does (subst (PrintsPrefix IsPart step.parts (written old) (written new)) empty step.printed.prefix))

  pub job_flush_cut : (cuts : FlushCutsParts IsPart) (fault : PrintFault) (old mid : S) (now : Option (List ℕ)) (held between : List ℕ) → held ≡ [] → PrintsStep {T = Unit {0}} written faults (Ok tt) old mid workers job s session held between → AppendsPrefix (written mid) now between
      → HasCommandCause (fault_of_print fault) workers job s (written old) now
  job_flush_cut cuts fault old mid now held between empty step p =
      let printed = subst (λ h. PrintsParts IsPart step.parts (written old) (written mid) h between) empty step.printed.all in
      cut_cause fault workers job s (written old) now (cut_prefix step.parts step.next (written old) now step.does (cuts step.parts (written old) (written mid) now between printed p))
