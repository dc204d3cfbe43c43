-- What follows for parts that are printed after others: statements that laws prove.
use Rattle.std.specs.Prelude.{ℕ, ◌≡◌, ◌++◌, ◌∷◌, [], List, map, Option, Result, Ok, Err}
use Rattle.std.specs.Io.KnownBytes.{append_known}
use Rattle.mystery_io.specs.Prefixes.{AppendsPrefix}
use Rattle.text_rows.specs.declared.print_fault.PrintFault.{PrintFault}
use Rattle.text_rows.specs.Printing.{Prints, PrintsText}
use Rattle.text_rows.specs.TextsOfParts.{AreTexts, PrintsParts, PrintsPrefix, PrintsTexts}

-- a text of parts and then one of others are a text of both
abbrev pub AreTextsOfBoth : {X : Type 0} → (X → List ℕ → Type 0) → Type 0
AreTextsOfBoth {X} IsText = (parts others : List X) (text next : List ℕ)
    → AreTexts IsText parts text → AreTexts IsText others next
    → AreTexts IsText (parts ++ others) (text ++ next)

-- a call that does nothing prints no part
abbrev pub NoPartIsPrinted : {X : Type 0} → (X → List ℕ → Type 0) → Type 0
NoPartIsPrinted IsText = (before : Option (List ℕ)) (held : List ℕ)
    → PrintsParts IsText [] before before held held

-- parts and then others are printed as both
abbrev pub PartsFollow : {X : Type 0} → (X → List ℕ → Type 0) → Type 0
PartsFollow {X} IsText = (parts others : List X) (before mid now : Option (List ℕ))
    (held between holds : List ℕ)
    → PrintsParts IsText parts before mid held between
    → PrintsParts IsText others mid now between holds
    → PrintsParts IsText (parts ++ others) before now held holds

-- parts and then a prefix of others are a prefix of both
abbrev pub PrefixOfPartsFollows : {X : Type 0} → (X → List ℕ → Type 0) → Type 0
PrefixOfPartsFollows {X} IsText = (parts others : List X) (before mid now : Option (List ℕ))
    (held between : List ℕ)
    → PrintsParts IsText parts before mid held between
    → PrintsPrefix IsText others mid now between
    → PrintsPrefix IsText (parts ++ others) before now held

-- a prefix of parts is a prefix of them and others
abbrev pub PrefixOfPartsGoesOn : {X : Type 0} → (X → List ℕ → Type 0) → Type 0
PrefixOfPartsGoesOn {X} IsText = (parts others : List X) (before now : Option (List ℕ))
    (held : List ℕ)
    → PrintsPrefix IsText parts before now held
    → PrintsPrefix IsText (parts ++ others) before now held

-- a call that ends before it writes leaves a prefix of any parts
abbrev pub NoPartIsBegun : {X : Type 0} → (X → List ℕ → Type 0) → Type 0
NoPartIsBegun {X} IsText = (parts : List X) (before : Option (List ℕ)) (held : List ℕ)
    → PrintsPrefix IsText parts before before held

-- a text of a part that was printed is that part
abbrev pub TextIsOnePart : {X : Type 0} → (X → List ℕ → Type 0) → Type 0
TextIsOnePart {X} IsText = (part : X) (text : List ℕ) (before now : Option (List ℕ))
    (held holds : List ℕ)
    → IsText part text → Prints before now held holds text
    → PrintsParts IsText (part ∷ []) before now held holds

-- a prefix of a text of a part is a prefix of that part
abbrev pub PrefixIsOfOnePart : {X : Type 0} → (X → List ℕ → Type 0) → Type 0
PrefixIsOfOnePart {X} IsText = (part : X) (text : List ℕ) (before now : Option (List ℕ))
    (held : List ℕ)
    → IsText part text → AppendsPrefix before now (held ++ text)
    → PrintsPrefix IsText (part ∷ []) before now held

-- parts of items are the parts that a function makes of them, if each text of an item is one of
-- its part
abbrev pub PartsAreMapped : {X Y : Type 0} → (X → List ℕ → Type 0) → (Y → List ℕ → Type 0)
    → Type 0
PartsAreMapped {X} {Y} IsItem IsText = (part_of : X → Y)
    → ((item : X) (text : List ℕ) → IsItem item text → IsText (part_of item) text)
    → (items : List X) (before now : Option (List ℕ)) (held holds : List ℕ)
    → PrintsParts IsItem items before now held holds
    → PrintsParts IsText (map part_of items) before now held holds

-- a prefix of parts of items is one of the parts that a function makes of them, likewise
abbrev pub PrefixIsMapped : {X Y : Type 0} → (X → List ℕ → Type 0) → (Y → List ℕ → Type 0)
    → Type 0
PrefixIsMapped {X} {Y} IsItem IsText = (part_of : X → Y)
    → ((item : X) (text : List ℕ) → IsItem item text → IsText (part_of item) text)
    → (items : List X) (before now : Option (List ℕ)) (held : List ℕ)
    → PrintsPrefix IsItem items before now held
    → PrintsPrefix IsText (map part_of items) before now held

-- a text of parts that were printed into an empty buffer and then flushed was written
abbrev pub FlushEndsParts : {X : Type 0} → (X → List ℕ → Type 0) → Type 0
FlushEndsParts {X} IsText = (parts : List X) (before mid now : Option (List ℕ))
    (between : List ℕ)
    → PrintsParts IsText parts before mid [] between → now ≡ append_known mid between
    → (text : List ℕ) × AreTexts IsText parts text × (now ≡ append_known before text)

-- of parts that were printed into an empty buffer and flushed in part a prefix was written
abbrev pub FlushCutsParts : {X : Type 0} → (X → List ℕ → Type 0) → Type 0
FlushCutsParts {X} IsText = (parts : List X) (before mid now : Option (List ℕ))
    (between : List ℕ)
    → PrintsParts IsText parts before mid [] between → AppendsPrefix mid now between
    → PrintsPrefix IsText parts before now []

-- two calls, the second with any result, print parts and then others
abbrev pub PartCallsFollow : {S X : Type 0} → (S → Option (List ℕ)) → (S → ℕ)
    → (X → List ℕ → Type 0) → Type 0 → Type 0
PartCallsFollow {S} {X} written faults IsText T = (done : T) (result : Result T PrintFault)
    (old mid new : S) (parts others : List X) (held between holds : List ℕ)
    → PrintsTexts written faults (Ok done) old mid IsText parts held between
    → PrintsTexts written faults result mid new IsText others between holds
    → PrintsTexts written faults result old new IsText (parts ++ others) held holds

-- a call that a fault stopped in its parts was stopped in them and others
abbrev pub PartCallGoesOn : {S X : Type 0} → (S → Option (List ℕ)) → (S → ℕ)
    → (X → List ℕ → Type 0) → Type 0 → Type 0
PartCallGoesOn {S} {X} written faults IsText T = (fault : PrintFault) (old new : S)
    (parts others : List X) (held between holds : List ℕ)
    → PrintsTexts {T = T} written faults (Err fault) old new IsText parts held between
    → PrintsTexts {T = T} written faults (Err fault) old new IsText (parts ++ others) held holds

-- a call that prints a text of a part prints that part
abbrev pub CallPrintsOnePart : {S X : Type 0} → (S → Option (List ℕ)) → (S → ℕ)
    → (X → List ℕ → Type 0) → Type 0 → Type 0
CallPrintsOnePart {S} {X} written faults IsText T = (part : X) (text : List ℕ)
    (result : Result T PrintFault) (old new : S) (held holds : List ℕ)
    → IsText part text → PrintsText written faults result old new held holds text
    → PrintsTexts written faults result old new IsText (part ∷ []) held holds

-- a call that prints parts of items prints the parts that a function makes of them, likewise
abbrev pub PartCallIsMapped : {S X Y : Type 0} → (S → Option (List ℕ)) → (S → ℕ)
    → (X → List ℕ → Type 0) → (Y → List ℕ → Type 0) → Type 0 → Type 0
PartCallIsMapped {S} {X} {Y} written faults IsItem IsText T = (part_of : X → Y)
    → ((item : X) (text : List ℕ) → IsItem item text → IsText (part_of item) text)
    → (result : Result T PrintFault) (old new : S) (items : List X) (held holds : List ℕ)
    → PrintsTexts written faults result old new IsItem items held holds
    → PrintsTexts written faults result old new IsText (map part_of items) held holds
