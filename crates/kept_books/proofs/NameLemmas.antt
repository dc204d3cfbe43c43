-- How many names a book of days has after sheets are added.
use Rattle.std.proofs.Common.{◌≡◌, ◌∙◌, List, [], ◌∷◌, ap, refl}
use Rattle.std.specs.Prelude.{Err, Ok, OnErr, OnOk, Result}
use Rattle.day_partitions.specs.Batches.{with_all}
use Rattle.day_partitions.specs.Books.{BookState, with_added}
use Rattle.day_partitions.specs.declared.dated_sheet.DatedSheet.{DatedSheet}

same_names : (b : BookState) (sheets : List DatedSheet) → (with_all b sheets).names ≡ b.names
same_names b [] = refl
same_names b (s ∷ ss) = same_names (with_added b s.day s.sheet.traces) ss

-- as many as before, added or not
pub names_stay : {T E : Type 0} (result : Result T E) (old new : BookState) (sheets : List DatedSheet) → OnOk result (new ≡ with_all old sheets) → OnErr result (new ≡ old) → new.names ≡ old.names
names_stay (Ok x) old new sheets added same = ap (λ (b : BookState). b.names) added ∙ same_names old sheets
names_stay (Err e) old new sheets added same = ap (λ (b : BookState). b.names) same
