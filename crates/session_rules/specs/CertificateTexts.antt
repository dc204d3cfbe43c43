-- The printed text of a certificate: for each refuted relation the first kept trace that refutes
-- it. And what is printed of its check.
use Rattle.std.specs.Prelude.{◌≡◌, ℕ, Bool, List, [], ◌∷◌, ◌++◌, codes, decimal}
use Rattle.std.specs.Prelude.{if◌then◌else◌}
use Rattle.certificates.specs.declared.matter.Matter.{Matter}
use Rattle.certificates.specs.declared.matter.Matter.TheVariants.{Before, Exclusive, Pipe}
use Rattle.text_rows.specs.Rows.{figure, row_of}
use Rattle.session_rules.specs.KeptTraces.{Kept, day_of}
use Rattle.session_rules.specs.Refutations.{IsFirstToRefute}

-- `why`, how many traces are kept, and how many relations they refute
abbrev pub why_row : ℕ → ℕ → List ℕ
why_row traces refuted =
    row_of (codes "why" ∷ figure (codes "traces") traces ∷ figure (codes "refuted") refuted ∷ [])

-- the kind of a relation, and the task, the start event and the end event of both names, or both
-- tasks
abbrev pub matter_fields : Matter → List (List ℕ)
matter_fields (Before a b) = codes "before" ∷ a.0 ∷ a.1 ∷ a.2 ∷ b.0 ∷ b.1 ∷ b.2 ∷ []
matter_fields (Exclusive a b) = codes "exclusive" ∷ a.0 ∷ a.1 ∷ a.2 ∷ b.0 ∷ b.1 ∷ b.2 ∷ []
matter_fields (Pipe t u) = codes "pipe" ∷ t ∷ u ∷ []

-- `refuted`, the relation, and the day, the index and the request of a trace
abbrev pub refuted_row : Matter → Kept → ℕ → List ℕ
refuted_row matter k index =
    row_of (codes "refuted" ∷ (matter_fields matter
    ++ decimal (day_of k) ∷ decimal index ∷ k.trace.request ∷ []))

-- the row of a refuted relation and the first kept trace that refutes it
pub record IsRefutedText (kept : List Kept) (matter : Matter) (bytes : List ℕ) : Type 0 where
  pub trace : Kept
  pub index : ℕ
  pub first : IsFirstToRefute kept matter trace index
  pub text : bytes ≡ refuted_row matter trace index

-- `shown` or `not shown`, and the number of the claim's line
abbrev pub verdict_row : Bool → ℕ → List ℕ
verdict_row verdict line =
    row_of ((if verdict then codes "shown" else codes "not shown") ∷ decimal line ∷ [])
