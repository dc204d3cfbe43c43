-- What was read of an input, and what its bytes say.
use Rattle.std.proofs.Common.{◌≡◌, ◌≤◌, ℕ, List, [], ◌++◌, length, Option, Result, Ok, arith, ap, refl, subst, sym, ◌∙◌, append-nil, append_assoc}
use Rattle.std.specs.Prelude.{Vec}
use Rattle.std.specs.declared.alloc.Global.{Global}
use Rattle.certificates.specs.Certificates.{certificate_said}
use Rattle.certificates.specs.declared.claim.Claim.{Claim}
use Rattle.digest_facts.specs.Digests.{empty_digest}
use Rattle.digest_facts.specs.Tables.{Table}
use Rattle.event_lines.specs.declared.line.Line.{Line}
use Rattle.event_lines.specs.InputLines.{LineFault, lines_said}
use Rattle.event_lines.specs.LinesTaken.{LinesTaken, TakesBytes, said_with}
use Rattle.mystery_io.specs.Input.{input_limit}
use Rattle.trace_types.specs.Segments.{SegmentName}
use Rattle.mystery_run.specs.declared.input.Input.{Input}
use Rattle.mystery_run.specs.declared.input.Input.TheVariants.{Bytes, Lines, Bad}
use Rattle.mystery_run.specs.declared.input_form.InputForm.{InputForm}
use Rattle.mystery_run.specs.declared.input_form.InputForm.TheVariants as forms
use Rattle.mystery_run.specs.declared.outcome.Outcome.{Outcome}
use Rattle.mystery_run.specs.Works.{preface_said, steps_said}
use Rattle.mystery_run.specs.inner.GivenTables.{AreGiven, IsUsable}
use Rattle.mystery_run.specs.inner.InputEnds.{InputEnds}
use Rattle.mystery_run.specs.inner.Inputs.{HasTaken, IsInputOf, IsReadAs, IsWithinLimit, bytes_kept, lines_said_by}

-- bytes are taken after others
pub has_taken_more : (old new : LinesTaken) (taken bytes : List ℕ) → TakesBytes old bytes new → HasTaken old taken → HasTaken new (taken ++ bytes)
has_taken_more old new taken bytes h before = λ later. h.said later ∙ before (bytes ++ later) ∙ ap lines_said (sym (append_assoc taken bytes later))

-- all bytes were taken
pub said_of_all : (taken : LinesTaken) (bytes : List ℕ) (said : Result (List Line) LineFault) → HasTaken taken bytes → said_with taken [] ≡ said → lines_said bytes ≡ said
said_of_all taken bytes said h e = ap lines_said (sym (append-nil bytes)) ∙ sym (h []) ∙ e

-- bytes that are kept are an input of each form
pub bytes_are : (form : InputForm) (input : Input) (bytes : List ℕ) → lines_said_by input ≡ lines_said bytes → bytes_kept input ≡ bytes → IsInputOf form input bytes
bytes_are forms.Lines input bytes said kept = said
bytes_are forms.Steps input bytes said kept = kept

-- the lines of an input are those of bytes within the limit
pub good_bytes : (input : Input) (lines : List Line) → IsWithinLimit input → lines_said_by input ≡ Ok lines → (bytes : List ℕ) × (lines_said bytes ≡ Ok lines) × (length bytes ≤ input_limit)
good_bytes (Bytes bytes) lines within e = (bytes.items, e, within)
good_bytes (Lines known) lines within e = (within.0, within.1 ∙ e, within.2)
good_bytes (Bad line reason) lines within e = absurd (cc e)

-- lines that were read are those of the bytes that were taken
pub lines_are_read : (taken : LinesTaken) (bytes : List ℕ) (input : Input) → HasTaken taken bytes → length bytes ≤ input_limit
    → said_with taken [] ≡ lines_said_by input → (lines_said bytes ≡ lines_said_by input → IsWithinLimit input) → IsReadAs forms.Lines input bytes
lines_are_read taken bytes input h fits said within =
    let e : lines_said bytes ≡ lines_said_by input = said_of_all taken bytes (lines_said_by input) h said in
    record { is = sym e; fits = fits; within = within e }

-- a replay of the bytes that are kept is one of the input's bytes
pub replay_of_bytes : (workers : ℕ) (input : Input) (kept : List ℕ) (o : Outcome) (before now : Option (List ℕ)) → kept ≡ bytes_kept input → InputEnds workers (steps_said kept) o before now
    → (bytes : List ℕ) → IsInputOf forms.Steps input bytes → InputEnds workers (steps_said bytes) o before now
replay_of_bytes workers input kept o before now e h bytes is = subst (λ xs. InputEnds workers (steps_said xs) o before now) (e ∙ is) h

-- bytes were read
pub bytes_read : (form : InputForm) (bytes : Vec ℕ Global) (known : List ℕ) → length bytes.items ≤ input_limit → bytes.items ≡ known → IsReadAs form (Bytes bytes) known
bytes_read form bytes known fits same = subst (IsReadAs form (Bytes bytes)) same (record { is = bytes_are form (Bytes bytes) bytes.items refl refl; fits = fits; within = fits })

-- the bytes that are kept are within the limit
pub kept_within : (input : Input) → IsWithinLimit input → length (bytes_kept input) ≤ input_limit
kept_within (Bytes bytes) within = within
kept_within (Lines lines) within = omega arith
kept_within (Bad line reason) within = omega arith

-- what the bytes of a certificate say, and that nothing is given beside them
pub claims_said : (bytes known : List ℕ) (claims : List Claim) (tables : List (Table SegmentName (List ℕ))) → bytes ≡ known → certificate_said bytes ≡ Ok claims → tables ≡ []
    → preface_said [] known ≡ Ok (record { tables = tables; claims = claims })
claims_said bytes known claims tables same said none = rw (← same, said, none) refl

-- claims that were read, and nothing that is given
pub claims_usable : (tables : List (Table SegmentName (List ℕ))) (claims items : List Claim) (bytes known : List ℕ) → tables ≡ [] → claims ≡ items → length items ≤ length bytes → bytes ≡ known → length known ≤ input_limit
    → IsUsable (record { tables = tables; claims = claims })
claims_usable tables claims items bytes known none same few read fits = record {
  given = subst AreGiven (sym none) (empty_digest, record { digests = []; tables = tt; merge = refl });
  few = omega (arith, ap length same, few, ap length read, fits);
}
