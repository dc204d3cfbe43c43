-- Rows in order.
use Rattle.std.proofs.Common.{◌≡◌, ℕ, List, Bor, Result, Ok, Err, OnOk}
use Rattle.std.proofs.lemmas.Fn.{always_returns_same}
use Rattle.std.specs.Fn.{Called, ComputesKey}
use Rattle.std.specs.List.Sorted.{IsSortedByKey}
use Rattle.std.specs.Ordering.{nat_cmp}
use denote.Param.Members.{Mut}
use Rattle.refute_picture.specs.declared.overlap_row.OverlapRow.{OverlapRow}
use Rattle.refute_picture.specs.Overlaps.{overlap_key}

pub in_order : {F : Type 0} {g : Mut F (Bor OverlapRow × Unit {0}) ℕ} {f : F} (rows : List OverlapRow) → ((k : OverlapRow → ℕ) → ComputesKey g k f → IsSortedByKey k nat_cmp rows)
    → ((a : Bor OverlapRow × Unit {0}) (r : ℕ) (f' : F) → Called g f a r f' → (r ≡ overlap_key a.0.now) × (f' ≡ f)) → IsSortedByKey overlap_key nat_cmp rows
in_order {g = g} {f = f} rows up h = up overlap_key (always_returns_same g (λ a r. r ≡ overlap_key a.0.now) f h)

-- what is said of rows is said of some rows
pub told_rows : {T E : Type 0} (r : Result T E) (P Q : List OverlapRow → Type 0) (rows : List OverlapRow) → P rows → OnOk r (Q rows) → OnOk r ((x : List OverlapRow) × P x × Q x)
told_rows (Ok v) P Q rows p q = (rows, p, q)
told_rows (Err e) P Q rows p q = tt
