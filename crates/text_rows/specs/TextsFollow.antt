-- What follows for a text that is printed after another: statements that laws prove.
use Rattle.std.specs.Prelude.{ℕ, ◌≡◌, ◌++◌, [], List, Option, Result, Ok, Err}
use Rattle.std.specs.Io.KnownBytes.{append_known}
use Rattle.mystery_io.specs.Prefixes.{AppendsPrefix}
use Rattle.text_rows.specs.declared.print_fault.PrintFault.{PrintFault}
use Rattle.text_rows.specs.Printing.{Prints, PrintsText}

-- a call that does nothing prints no text
abbrev pub NothingIsPrinted : Type 0
NothingIsPrinted = (before : Option (List ℕ)) (held : List ℕ) → Prints before before held held []

-- a text and then the next are printed as both
abbrev pub PrintsFollow : Type 0
PrintsFollow = (before mid now : Option (List ℕ)) (held between holds text next : List ℕ)
    → Prints before mid held between text → Prints mid now between holds next
    → Prints before now held holds (text ++ next)

-- a text and then a prefix of the next are a prefix of both
abbrev pub PrefixFollows : Type 0
PrefixFollows = (before mid now : Option (List ℕ)) (held between text next : List ℕ)
    → Prints before mid held between text → AppendsPrefix mid now (between ++ next)
    → AppendsPrefix before now (held ++ (text ++ next))

-- a prefix of a text is a prefix of that text and the next
abbrev pub PrefixGoesOn : Type 0
PrefixGoesOn = (before now : Option (List ℕ)) (held text next : List ℕ)
    → AppendsPrefix before now (held ++ text) → AppendsPrefix before now (held ++ (text ++ next))

-- a text that was printed into an empty buffer and then flushed was written
abbrev pub FlushEndsText : Type 0
FlushEndsText = (before mid now : Option (List ℕ)) (between text : List ℕ)
    → Prints before mid [] between text → now ≡ append_known mid between
    → now ≡ append_known before text

-- of a text that was printed into an empty buffer and flushed in part a prefix was written
abbrev pub FlushCutsText : Type 0
FlushCutsText = (before mid now : Option (List ℕ)) (between text : List ℕ)
    → Prints before mid [] between text → AppendsPrefix mid now between
    → AppendsPrefix before now text

-- two calls, the second with any result, print the one text and then the other
abbrev pub CallsFollow : {S : Type 0} → (S → Option (List ℕ)) → (S → ℕ) → Type 0 → Type 0
CallsFollow {S} written faults T = (done : T) (result : Result T PrintFault) (old mid new : S)
    (held between holds text next : List ℕ)
    → PrintsText written faults (Ok done) old mid held between text
    → PrintsText written faults result mid new between holds next
    → PrintsText written faults result old new held holds (text ++ next)

-- a call that a fault stopped was stopped in its text and the next
abbrev pub CallGoesOn : {S : Type 0} → (S → Option (List ℕ)) → (S → ℕ) → Type 0 → Type 0
CallGoesOn {S} written faults T = (fault : PrintFault) (old new : S)
    (held between holds text next : List ℕ)
    → PrintsText {T = T} written faults (Err fault) old new held between text
    → PrintsText {T = T} written faults (Err fault) old new held holds (text ++ next)
