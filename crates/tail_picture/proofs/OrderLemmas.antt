-- Rows in order.
use Rattle.std.proofs.Common.{◌≡◌, ℕ, List, Bor, Result, Ok, Err, OnOk}
use Rattle.std.proofs.lemmas.Fn.{always_returns_same}
use Rattle.std.specs.Fn.{Called, ComputesKey}
use Rattle.std.specs.List.Sorted.{IsSortedByKey}
use Rattle.std.specs.Ordering.{nat_cmp}
use denote.Param.Members.{Mut}
use Rattle.tail_picture.specs.declared.tailed_row.TailedRow.{TailedRow}
use Rattle.tail_picture.specs.Tails.{tail_key}

pub in_order : {F : Type 0} {g : Mut F (Bor TailedRow × Unit {0}) ℕ} {f : F} (rows : List TailedRow) → ((k : TailedRow → ℕ) → ComputesKey g k f → IsSortedByKey k nat_cmp rows)
    → ((a : Bor TailedRow × Unit {0}) (r : ℕ) (f' : F) → Called g f a r f' → (r ≡ tail_key a.0.now) × (f' ≡ f)) → IsSortedByKey tail_key nat_cmp rows
in_order {g = g} {f = f} rows up h = up tail_key (always_returns_same g (λ a r. r ≡ tail_key a.0.now) f h)

-- what is said of rows is said of some rows
pub told_rows : {T E : Type 0} (r : Result T E) (P Q : List TailedRow → Type 0) (rows : List TailedRow) → P rows → OnOk r (Q rows) → OnOk r ((x : List TailedRow) × P x × Q x)
told_rows (Ok v) P Q rows p q = (rows, p, q)
told_rows (Err e) P Q rows p q = tt
