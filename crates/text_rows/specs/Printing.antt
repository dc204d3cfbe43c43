-- What a function that prints a text does.
use Rattle.std.specs.Prelude.{ℕ, ◌≡◌, ◌≤◌, ◌++◌, List, length, take, drop, Option, Result, Ok, Err}
use Rattle.std.specs.Prelude.{OnOk, OnErr}
use Rattle.std.specs.Io.KnownBytes.{append_known}
use Rattle.mystery_io.specs.Counts.{counted_up}
use Rattle.mystery_io.specs.Prefixes.{AppendsPrefix}
use Rattle.text_rows.specs.declared.print_fault.PrintFault.{PrintFault}
use Rattle.text_rows.specs.declared.print_fault.PrintFault.TheVariants.{Memory, Write}

-- a buffer of this many bytes or more is flushed: 64 KiB
abbrev pub flush_size : ℕ
flush_size = 65536

-- a text was printed after what the buffer held: a prefix of both was written, the first so many
-- bytes, and the buffer holds the rest
pub record Prints (before now : Option (List ℕ)) (held holds text : List ℕ) : Type 0 where
  pub count : ℕ
  pub within : count ≤ length (held ++ text)
  pub written : now ≡ append_known before (take count (held ++ text))
  pub rest : holds ≡ drop count (held ++ text)

-- the count of faults after some printing
abbrev pub print_faults : {T : Type 0} → Result T PrintFault → ℕ → ℕ
print_faults (Ok x) count = count
print_faults (Err Memory) count = count
print_faults (Err Write) count = counted_up count

-- a call printed a text, or a fault stopped it at a prefix of what the buffer held and the text
pub record PrintsText {S T : Type 0} (written : S → Option (List ℕ)) (faults : S → ℕ)
    (result : Result T PrintFault) (old new : S) (held holds text : List ℕ) : Type 0 where
  pub all : OnOk result (Prints (written old) (written new) held holds text)
  pub prefix : OnErr result (AppendsPrefix (written old) (written new) (held ++ text))
  pub counted : faults new ≡ print_faults result (faults old)
