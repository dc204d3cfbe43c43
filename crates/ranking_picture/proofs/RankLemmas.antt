-- Rows in order.
use Rattle.std.proofs.Common.{◌≡◌, ℕ, List, Bor, Result, Ok, Err, OnOk}
use Rattle.std.proofs.lemmas.Fn.{always_returns_same}
use Rattle.std.specs.Fn.{Called, ComputesKey}
use Rattle.std.specs.List.Sorted.{IsSortedByKey}
use Rattle.std.specs.Ordering.{nat_cmp}
use denote.Param.Members.{Mut}
use Rattle.ranking_picture.specs.declared.ranked_row.RankedRow.{RankedRow}
use Rattle.ranking_picture.specs.Rankings.{rank_key}

pub in_order : {F : Type 0} {g : Mut F (Bor RankedRow × Unit {0}) ℕ} {f : F} (rows : List RankedRow) → ((k : RankedRow → ℕ) → ComputesKey g k f → IsSortedByKey k nat_cmp rows)
    → ((a : Bor RankedRow × Unit {0}) (r : ℕ) (f' : F) → Called g f a r f' → (r ≡ rank_key a.0.now) × (f' ≡ f)) → IsSortedByKey rank_key nat_cmp rows
in_order {g = g} {f = f} rows up h = up rank_key (always_returns_same g (λ a r. r ≡ rank_key a.0.now) f h)

-- what is said of a ranking is said of some ranking
pub told_ranked : {T E : Type 0} (r : Result T E) (P Q : List RankedRow → Type 0) (ranking : List RankedRow) → P ranking → OnOk r (Q ranking) → OnOk r ((x : List RankedRow) × P x × Q x)
told_ranked (Ok v) P Q ranking p q = (ranking, p, q)
told_ranked (Err e) P Q ranking p q = tt
