-- A row `nearly` names the trace that a certificate names: statements that laws prove.
use Rattle.std.specs.Prelude.{◌≡◌, ◌↔◌, ℕ, List, ◌∷◌, ◌++◌, Contains, codes}
use Rattle.certificates.specs.declared.matter.Matter.{Matter}
use Rattle.certificates.specs.declared.matter.Matter.TheVariants.{Before, Exclusive, Pipe}
use Rattle.evidence_rules.specs.declared.between.Between.{Between}
use Rattle.evidence_rules.specs.declared.choice.Choice.{Choice}
use Rattle.evidence_rules.specs.declared.pair_row.PairRow.{PairRow}
use Rattle.evidence_rules.specs.declared.sharing.Sharing.{Sharing}
use Rattle.session_rules.specs.CertificateTexts.{IsRefutedText, matter_fields}
use Rattle.session_rules.specs.EvidenceTexts.{IsEvidenceText, place_fields}
use Rattle.session_rules.specs.KeptTraces.{Kept}
use Rattle.text_rows.specs.Rows.{row_of}
use Rattle.row_laws.specs.ModelRows.{TwoNames, TwoTasks}
use Rattle.row_laws.specs.NamedRows.{NamesTwo}

-- the row of a certificate on this relation is the one with the kept trace at this index: its day,
-- its index among those of its day and its request, the fields that a row `nearly` ends in
abbrev pub IsNamedByWhy : List Kept → Matter → ℕ → Type 0
IsNamedByWhy kept matter index = (bytes : List ℕ) → IsRefutedText kept matter bytes
    ↔ (bytes ≡ row_of (codes "refuted" ∷ (matter_fields matter ++ place_fields kept index)))

-- so it is with the trace of each row `nearly` of an order
abbrev pub NearlyOrdersNameWitness : Type 0
NearlyOrdersNameWitness = (choice : Choice) (kept : List Kept) (bytes : List ℕ)
    (text : IsEvidenceText choice kept bytes) (row : PairRow Between) (pair : TwoNames)
    → Contains text.rows.nearly_orders row → NamesTwo text.names row pair
    → IsNamedByWhy kept (Before pair.0 pair.1) row.figures.first_early

-- of a mutual exclusion
abbrev pub NearlyExclusionsNameWitness : Type 0
NearlyExclusionsNameWitness = (choice : Choice) (kept : List Kept) (bytes : List ℕ)
    (text : IsEvidenceText choice kept bytes) (row : PairRow Between) (pair : TwoNames)
    → Contains text.rows.nearly_exclusions row → NamesTwo text.names row pair
    → IsNamedByWhy kept (Exclusive pair.0 pair.1) row.figures.first_both

-- and of a pipeline
abbrev pub NearlyPipesNameWitness : Type 0
NearlyPipesNameWitness = (choice : Choice) (kept : List Kept) (bytes : List ℕ)
    (text : IsEvidenceText choice kept bytes) (row : PairRow Sharing) (pair : TwoTasks)
    → Contains text.rows.nearly_pipes row → NamesTwo text.tasks row pair
    → IsNamedByWhy kept (Pipe pair.0 pair.1) row.figures.first_refuted
