-- How a run that read all files ends.
use Rattle.std.proofs.Common.{◌≡◌, ℕ, List, length, true}
use Rattle.inspect_run.specs.CommandLines.{is_in_grammar}
use Rattle.inspect_run.specs.Endings.{Explains, IsQuality, ReadsAll, Seen}
use Rattle.inspect_run.specs.inner.Leaving.{WritesText}
use Rattle.inspect_run.specs.declared.outcome.Outcome.{Outcome}
use Rattle.inspect_run.specs.declared.outcome.Outcome.TheVariants.{Done, Memory, Arguments, File, Write, Size}

-- what was written explains it
pub explained : (o : Outcome) (seen : Seen) (Told : List ℕ → Type 0) → is_in_grammar seen.words ≡ true → ReadsAll seen.files seen.words → ((text : List ℕ) → Told text → IsQuality seen.words seen.files.readings text) → WritesText o Told seen.written_before seen.written_now → Explains o seen
explained Done seen Told called read told h = (h.0, record { called = called; read = read; told = told h.0 h.1 }, h.2)
explained Write seen Told called read told h = (h.0, record { called = called; read = read; told = told h.0 h.1 }, h.2)
explained Memory seen Told called read told h = record { called = called; reading = (length seen.words, read.opened); written = h }
explained Arguments seen Told called read told h = absurd h
explained (File index) seen Told called read told h = absurd h
explained Size seen Told called read told h = absurd h
