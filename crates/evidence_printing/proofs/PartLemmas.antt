-- A text as the one part of a call.
use Rattle.std.proofs.Common.{ℕ, List, Result, Ok, Err, Option, inr}
use Rattle.text_rows.specs.declared.print_fault.PrintFault.{PrintFault}
use Rattle.text_rows.specs.Printing.{PrintsText}
use Rattle.text_rows.specs.TextsOfParts.{PrintsPart}

pub text_is_part : {S T : Type 0} (written : S → Option (List ℕ)) (faults : S → ℕ) (result : Result T PrintFault) (old new : S) (IsText : List ℕ → Type 0) (held holds text : List ℕ)
    → IsText text → PrintsText written faults result old new held holds text → PrintsPart written faults result old new IsText held holds
text_is_part written faults (Ok x) old new IsText held holds text is p = record { all = (text, is, p.all); prefix = tt; counted = p.counted }
text_is_part written faults (Err e) old new IsText held holds text is p = record { all = tt; prefix = inr (text, is, p.prefix); counted = p.counted }
