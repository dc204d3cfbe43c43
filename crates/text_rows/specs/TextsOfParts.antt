-- Texts that are made of parts, of which what is a text of each is a relation.
use Rattle.std.specs.Prelude.{ℕ, ◌≡◌, ◌++◌, ◌∷◌, ◌⊎◌, [], List, Option, Result, OnOk, OnErr}
use Rattle.mystery_io.specs.Prefixes.{AppendsPrefix}
use Rattle.text_rows.specs.declared.print_fault.PrintFault.{PrintFault}
use Rattle.text_rows.specs.Printing.{Prints, print_faults}

-- the bytes are a text of each part, one after another
abbrev pub AreTexts : {X : Type 0} → (X → List ℕ → Type 0) → List X → List ℕ → Type 0
AreTexts IsText [] text = text ≡ []
AreTexts IsText (part ∷ parts) text = (first : List ℕ) × (rest : List ℕ)
    × IsText part first × AreTexts IsText parts rest × (text ≡ first ++ rest)

-- a text of the parts was printed after what the buffer held
pub record PrintsParts {X : Type 0} (IsText : X → List ℕ → Type 0) (parts : List X)
    (before now : Option (List ℕ)) (held holds : List ℕ) : Type 0 where
  pub text : List ℕ
  pub told : AreTexts IsText parts text
  pub prints : Prints before now held holds text

-- a prefix was written of what the buffer held and a text of the first parts: what the buffer held
-- and whole parts in order, and then a prefix of one
pub record PrintsPrefix {X : Type 0} (IsText : X → List ℕ → Type 0) (parts : List X)
    (before now : Option (List ℕ)) (held : List ℕ) : Type 0 where
  pub first : List X
  pub rest : List X
  pub split : parts ≡ first ++ rest
  pub text : List ℕ
  pub told : AreTexts IsText first text
  pub prefix : AppendsPrefix before now (held ++ text)

-- a call printed a text of one part, or a fault stopped it: before there was such a text, at a
-- prefix of what the buffer held; else at a prefix of that and the text
pub record PrintsPart {S T : Type 0} (written : S → Option (List ℕ)) (faults : S → ℕ)
    (result : Result T PrintFault) (old new : S) (IsText : List ℕ → Type 0)
    (held holds : List ℕ) : Type 0 where
  pub all : OnOk result ((text : List ℕ) × IsText text
      × Prints (written old) (written new) held holds text)
  pub prefix : OnErr result (AppendsPrefix (written old) (written new) held
      ⊎ ((text : List ℕ) × IsText text
      × AppendsPrefix (written old) (written new) (held ++ text)))
  pub counted : faults new ≡ print_faults result (faults old)

-- a call printed a text of the parts, or a fault stopped it at a prefix
pub record PrintsTexts {S T X : Type 0} (written : S → Option (List ℕ)) (faults : S → ℕ)
    (result : Result T PrintFault) (old new : S) (IsText : X → List ℕ → Type 0) (parts : List X)
    (held holds : List ℕ) : Type 0 where
  pub all : OnOk result (PrintsParts IsText parts (written old) (written new) held holds)
  pub prefix : OnErr result (PrintsPrefix IsText parts (written old) (written new) held)
  pub counted : faults new ≡ print_faults result (faults old)
