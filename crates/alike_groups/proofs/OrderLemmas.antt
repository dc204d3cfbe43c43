-- Groups in order.
use Rattle.std.proofs.Common.{◌≡◌, ℕ, ◌<◌, List, Bor, All, filter, subst, sym}
use Rattle.std.specs.Prelude.{nat_le}
use Rattle.std.proofs.lemmas.Fn.{always_returns_same}
use Rattle.std.proofs.lemmas.List.Elements.{All-filter, All-take}
use Rattle.std.proofs.lemmas.List.Sorted.{All-permutation}
use Rattle.std.specs.Fn.{Called, ComputesKey}
use Rattle.std.specs.List.Sorted.{IsSortedByKey}
use denote.Param.Members.{Mut}
use Rattle.alike_groups.specs.Groups.{AreGreatest, pair_order, size_key}
use Rattle.alike_groups.specs.declared.group.Group.{Group}

pub by_key : {F : Type 0} {g : Mut F (Bor Group × Unit {0}) (ℕ × ℕ)} {f : F} (groups : List Group) → ((k : Group → ℕ × ℕ) → ComputesKey g k f → IsSortedByKey k pair_order groups)
    → ((a : Bor Group × Unit {0}) (r : ℕ × ℕ) (f' : F) → Called g f a r f' → (r ≡ size_key a.0.now) × (f' ≡ f)) → IsSortedByKey size_key pair_order groups
by_key {g = g} {f = f} groups up h = up size_key (always_returns_same g (λ a r. r ≡ size_key a.0.now) f h)

-- what is told of all groups holds of the greatest
pub greatest_within : (least most count : ℕ) (groups told : List Group) → AreGreatest least most groups told → All (λ (g : Group). g.first < count) groups → All (λ (g : Group). g.first < count) told
greatest_within least most count groups told are all =
    let P : Group → Type 0 = λ g. g.first < count in
    subst (All P) (sym are.are) (All-take P most are.sorted (All-permutation P (filter (λ (g : Group). nat_le least g.count) groups) are.sorted are.same (All-filter (λ (g : Group). nat_le least g.count) P groups all)))
