-- How the outcome of an input that was read is that of the run.
use Rattle.std.proofs.Common.{◌≡◌, ◌⊎◌, ℕ, ◌+◌, ◌++◌, List, [], drop, length, take, true, Option, Some, None, ap, refl, sym, subst, inl, inr}
use Rattle.std.specs.Prelude.{Result, Ok, Err}
use Rattle.digest_facts.specs.Digests.{Digest}
use Rattle.digest_merging.specs.Limits.{limit_passed}
use Rattle.digest_merging.specs.Merges.{IsGivenBy}
use Rattle.digest_facts.specs.Tables.{Table}
use Rattle.digest_merging.specs.declared.digest_limit.DigestLimit.{DigestLimit}
use Rattle.mystery_io.specs.Prefixes.{AppendsPrefix}
use Rattle.trace_types.specs.Segments.{SegmentName}
use Rattle.mystery_io.specs.Input.{input_read}
use Rattle.mystery_io.specs.ReadFaults.{OpensFirst}
use Rattle.mystery_io.specs.Readings.{AreEnded}
use Rattle.session.specs.Running.{EndsIn, WritesWhole}
use Rattle.session.specs.declared.command_fault.CommandFault.{CommandFault}
use Rattle.session.specs.declared.command_fault.CommandFault.TheVariants as faults
use Rattle.session_rules.specs.declared.job.Job.{Job}
use Rattle.mystery_run.specs.declared.outcome.Outcome.{Outcome}
use Rattle.mystery_run.specs.declared.outcome.Outcome.TheVariants.{Done, Memory, Arguments, BadLine, File, Write, Size, Over, OverGiven}
use Rattle.mystery_run.specs.CommandLines.{Call, all_files_of, call_of, files_of, files_of_action, is_in_grammar, preface_of, preface_of_call}
use Rattle.mystery_run.specs.Endings.{CallEnds, Ends, CallEndsAt}
use Rattle.mystery_run.specs.Readings.{FailsAt, FitsSize, PassesAt, PassesSize}
use Rattle.mystery_run.specs.Texts.{IsGivenOver}
use Rattle.mystery_run.specs.Runs.{Seen, OfInputs, ReadsAll, EndsAs, Reads, Explains}
use Rattle.mystery_run.specs.Works.{BadInput, PrefaceSaid, Work, Jobs, preface_said, work_after, work_said}
use Rattle.mystery_run.specs.inner.GivenTables.{AreGiven}
use Rattle.mystery_run.specs.inner.InputEnds.{InputEnds, SaidEnds}
use Rattle.mystery_run.specs.inner.FaultEndings.{outcome_of}
use Rattle.mystery_run.specs.inner.OutcomeFaults.{outcome_read_faults}
use Rattle.mystery_run.proofs.ReadingLemmas.{opens_to_failed, opens_to_passed, too_big}
use Rattle.mystery_run.proofs.ReplayLemmas.{unbegun}

-- a run that ran out of memory before it wrote anything
pub no_memory : (workers : ℕ) (said : Result Work BadInput) (old : Option (List ℕ)) → InputEnds workers said Memory old old
no_memory workers (Ok work) old = ([], inl refl, unbegun old [])
no_memory workers (Err bad) old = ([], (inr refl, refl), unbegun old [])

-- jobs that were carried out under what tables give
module _ (workers : ℕ) (tables : List (Table SegmentName (List ℕ))) (jobs : List Job) (given : Digest SegmentName (List ℕ)) (is : IsGivenBy tables given) (fits : limit_passed given ≡ None) (old new : Option (List ℕ)) where
  pub whole_ends : WritesWhole workers given jobs old new → InputEnds workers (Ok (Jobs tables jobs)) Done old new
  whole_ends h = (h.1, record { given = given; is = is; fits = fits; holds = (h.0, h.2) }, h.3)

  pub fault_ends : (fault : CommandFault) → EndsIn fault workers given jobs old new → InputEnds workers (Ok (Jobs tables jobs)) (outcome_of fault) old new
  fault_ends faults.Memory h = (h.0, inr (record { given = given; is = is; fits = fits; holds = h.1 }), h.2)
  fault_ends faults.Write h = (h.0, record { given = given; is = is; fits = fits; holds = h.1 }, h.2)
  fault_ends (faults.Over limit) h = (h.0, record { given = given; is = is; fits = fits; holds = h.1 }, h.2)

-- what is given passes a limit
pub given_ends : (workers : ℕ) (tables : List (Table SegmentName (List ℕ))) (jobs : List Job) (limit : DigestLimit) (old : Option (List ℕ)) → IsGivenOver (Jobs tables jobs) limit → InputEnds workers (Ok (Jobs tables jobs)) (OverGiven limit) old old
given_ends workers tables jobs limit old h = ([], (h, refl), refl)

-- no file fails once the input was read
pub no_file_fails : (workers : ℕ) (said : Result Work BadInput) (o : Outcome) (before now : Option (List ℕ)) (count : ℕ) → InputEnds workers said o before now → outcome_read_faults o count ≡ count
no_file_fails workers said Done before now count h = refl
no_file_fails workers said Memory before now count h = refl
no_file_fails workers said Arguments before now count h = refl
no_file_fails workers said (BadLine line why) before now count h = refl
no_file_fails workers said Write before now count h = refl
no_file_fails workers said Size before now count h = refl
no_file_fails workers said (Over limit) before now count h = refl
no_file_fails workers said (OverGiven limit) before now count h = refl
no_file_fails workers (Ok work) (File index) before now count h = absurd h.1
no_file_fails workers (Err bad) (File index) before now count h = elim h.1.0 [
  | inl e ↦ absurd (cc e)
  | inr e ↦ absurd (cc e)
]

-- the call of the arguments is known
module _ (s : Seen) (call : Call) (known : Some call ≡ call_of s.words) where
  in_grammar : is_in_grammar s.words ≡ true
  in_grammar = rw (← known) refl

  files_named : files_of s.words ≡ files_of_action call.action
  files_named = rw (← known) refl

  preface_named : preface_of s.words ≡ preface_of_call call
  preface_named = rw (← known) refl

  ends_at : (cert input : List ℕ) (o : Outcome) (text : List ℕ) → CallEnds call cert input o text → Ends s.words cert input o text
  ends_at cert input o text h = subst (λ c. CallEndsAt c cert input o text) known h

  -- memory ran out before there was an input, or a file failed
  pub explains_memory : (count : ℕ) × OpensFirst s.files (preface_of_call call ++ files_of_action call.action) count → s.written_now ≡ s.written_before → Explains Memory s
  explains_memory opened same = record {
    reads = (in_grammar, rw (preface_named, files_named) opened);
    ends = ([], ends_at _ _ Memory [] (inl refl), subst (λ now. AppendsPrefix s.written_before now []) (sym same) (unbegun s.written_before []));
  }

  pub explains_file : (index : ℕ) → FailsAt s.files (preface_of_call call) (files_of_action call.action) index → s.written_now ≡ s.written_before → Explains (File index) s
  explains_file index failed same = record {
    reads = (in_grammar, rw (preface_named, files_named) failed);
    ends = ([], ends_at _ _ (File index) [] refl, same);
  }

  -- the preface or the input passes the limit
  pub explains_size : (index : ℕ) × PassesAt s.files (preface_of_call call) (files_of_action call.action) index → s.written_now ≡ s.written_before → Explains Size s
  explains_size passed same =
      let there : (index : ℕ) × PassesAt s.files (preface_of s.words) (files_of s.words) index = rw (preface_named, files_named) passed in
      record {
        reads = (in_grammar, there);
        ends = ([], ends_at _ _ Size [] (too_big s.files (preface_of s.words) (files_of s.words) there.0 there.1, refl), same);
      }

-- how the input of a call ends, by what was said
module _ (call : Call) (cert input : List ℕ) (fits : FitsSize cert input) where
  bad_ends : (bad : BadInput) → work_said call cert input ≡ Err bad → (o : Outcome) (text : List ℕ) → ((o ≡ BadLine bad.line bad.why) ⊎ (o ≡ Memory)) → text ≡ [] → CallEnds call cert input o text
  bad_ends bad e o text (inl is) none = subst (λ p. CallEnds call cert input p text) (sym is) (fits, e, none)
  bad_ends bad e o text (inr is) none = subst (λ p. CallEnds call cert input p text) (sym is) (inl none)

  said_ends : (said : Result Work BadInput) → work_said call cert input ≡ said → (o : Outcome) (text : List ℕ) → SaidEnds call.workers said o text → CallEnds call cert input o text
  said_ends (Ok work) e Done text h = (fits, (work, e, h))
  said_ends (Ok work) e (Over limit) text h = (fits, (work, e, h))
  said_ends (Ok work) e Write text h = (fits, (work, e, h))
  said_ends (Ok work) e (OverGiven limit) text h = ((fits, (work, e, h.0)), h.1)
  said_ends (Ok work) e Memory text (inl none) = inl none
  said_ends (Ok work) e Memory text (inr h) = inr (fits, (work, e, h))
  said_ends (Ok work) e Arguments text h = absurd h
  said_ends (Ok work) e (BadLine line why) text h = absurd h
  said_ends (Ok work) e (File index) text h = absurd h
  said_ends (Ok work) e Size text h = absurd h
  said_ends (Err bad) e o text h = bad_ends bad e o text h.0 h.1

-- a run that read its whole input
memory_reads : (s : Seen) → ReadsAll s → Reads Memory s
memory_reads s all = (all.called, (length (all_files_of s.words), all.opened))

bad_reads : (s : Seen) (bad : BadInput) (o : Outcome) → ReadsAll s → ((o ≡ BadLine bad.line bad.why) ⊎ (o ≡ Memory)) → Reads o s
bad_reads s bad o all (inl is) = subst (λ p. Reads p s) (sym is) all
bad_reads s bad o all (inr is) = subst (λ p. Reads p s) (sym is) (memory_reads s all)

said_reads : (s : Seen) (workers : ℕ) (said : Result Work BadInput) (o : Outcome) (text : List ℕ) → ReadsAll s → SaidEnds workers said o text → Reads o s
said_reads s workers (Ok work) Done text all h = all
said_reads s workers (Ok work) (Over limit) text all h = all
said_reads s workers (Ok work) (OverGiven limit) text all h = all
said_reads s workers (Ok work) Write text all h = all
said_reads s workers (Ok work) Memory text all h = memory_reads s all
said_reads s workers (Ok work) Arguments text all h = absurd h
said_reads s workers (Ok work) (BadLine line why) text all h = absurd h
said_reads s workers (Ok work) (File index) text all h = absurd h
said_reads s workers (Ok work) Size text all h = absurd h
said_reads s workers (Err bad) o text all h = bad_reads s bad o all h.0

-- what was read is the preface and the input of the arguments
module _ (s : Seen) (call : Call) (known : Some call ≡ call_of s.words) (said : Result PrefaceSaid BadInput) (cert input : List ℕ) (read : preface_said call.given cert ≡ said) (fits : FitsSize cert input) where
  ends_read : (o : Outcome) (text : List ℕ) → SaidEnds call.workers (work_after call.action said input) o text → Ends s.words cert input o text
  ends_read o text h =
      let e : work_said call cert input ≡ work_after call.action said input = ap (λ said. work_after call.action said input) read in
      ends_at s call known cert input o text (said_ends call cert input fits (work_after call.action said input) e o text h)

  pub explains_read : (o : Outcome) → cert ≡ input_read (take (length (preface_of_call call)) s.files.readings) → input ≡ input_read (drop (length (preface_of_call call)) s.files.readings) → ReadsAll s
      → InputEnds call.workers (work_after call.action said input) o s.written_before s.written_now → Explains o s
  explains_read o first rest all h = record {
    reads = said_reads s call.workers (work_after call.action said input) o h.0 all h.1;
    ends = rw (preface_named s call known, ← first, ← rest) (h.0, ends_read o h.0 h.1, h.2);
  }

-- what was read of the files of a call
pub reads_all : (s : Seen) (call : Call) (known : Some call ≡ call_of s.words) → OpensFirst s.files (preface_of_call call ++ files_of_action call.action) (length (preface_of_call call ++ files_of_action call.action))
    → AreEnded s.files.readings → ReadsAll s
reads_all s call known opened ended = record {
  called = in_grammar s call known;
  opened = rw (preface_named s call known, files_named s call known) opened;
  ended = ended;
}

-- whatever the outcome, the first files were opened, so many
pub opens_of : (o : Outcome) (s : Seen) → Reads o s → (count : ℕ) × OpensFirst s.files (all_files_of s.words) count
opens_of Done s h = (length (all_files_of s.words), h.opened)
opens_of Memory s h = h.1
opens_of Arguments s h = (0, h.1)
opens_of (BadLine line why) s h = (length (all_files_of s.words), h.opened)
opens_of (File index) s h = (index + 1, opens_to_failed s.files (preface_of s.words) (files_of s.words) index h.1)
opens_of Write s h = (length (all_files_of s.words), h.opened)
opens_of Size s h = (h.1.0 + 1, opens_to_passed s.files (preface_of s.words) (files_of s.words) h.1.0 h.1.1)
opens_of (Over limit) s h = (length (all_files_of s.words), h.opened)
opens_of (OverGiven limit) s h = (length (all_files_of s.words), h.opened)

-- a run that ends by the size passes the limit
size_at : (c : Option Call) (cert input text : List ℕ) → CallEndsAt c cert input Size text → PassesSize cert input
size_at None cert input text h =
    let e : Size ≡ Arguments = h.0 in
    cc
size_at (Some call) cert input text h = h.0

pub size_passed : (s : Seen) → EndsAs Size s → OfInputs s.files s.words PassesSize
size_passed s h = size_at (call_of s.words) _ _ h.0 h.1
