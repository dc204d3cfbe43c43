-- What the preface and the input were found to be, or why they were not read.
use Rattle.std.specs.Prelude.{ℕ, ◌++◌, List, Result, Ok, Err}
use Rattle.mystery_io.specs.ReadFaults.{FilesSeen, OpensFirst}
use Rattle.mystery_io.specs.declared.reading.ReadFault.{ReadFault}
use Rattle.mystery_io.specs.declared.reading.ReadFault.TheVariants.{Memory, File, TooBig}
use Rattle.mystery_run.specs.declared.preface.Preface.{Preface}
use Rattle.mystery_run.specs.declared.preface.Preface.TheVariants.{Said, Bad}
use Rattle.mystery_run.specs.CommandLines.{preface_under}
use Rattle.mystery_run.specs.Readings.{FailsAt, PassesAt}
use Rattle.mystery_run.specs.Works.{BadInput, PrefaceSaid}
use Rattle.mystery_run.specs.declared.call_files.CallFiles.{CallFiles}

-- what a preface says that was read: its tables and its claims, or its first bad line
abbrev pub said_by : Preface → Result PrefaceSaid BadInput
said_by (Said tables claims) = Ok (record { tables = tables.items; claims = claims })
said_by (Bad line why) = Err (record { line = line; why = why })

-- the files of the preface of a call
abbrev pub preface_files : CallFiles → List (List ℕ)
preface_files files = preface_under files.given.now files.certificate.now

-- why the files of a preface and then those of an input were not read
abbrev pub HasReadingCause : FilesSeen → List (List ℕ) → List (List ℕ) → ReadFault → Type 0
HasReadingCause seen preface files Memory =
    (count : ℕ) × OpensFirst seen (preface ++ files) count
HasReadingCause seen preface files (File index) = FailsAt seen preface files index
HasReadingCause seen preface files TooBig =
    (index : ℕ) × PassesAt seen preface files index
