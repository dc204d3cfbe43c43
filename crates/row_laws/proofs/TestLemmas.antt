-- What the tests tell by which rows are listed.
use Rattle.std.proofs.Common.{◌≡◌, ◌≢◌, ◌↔◌, ℕ, ◌*◌, ◌<◌, ◌≤◌, Bool, true, false, not, ◌&&◌, ◌==◌, nat_lt, nat_le, refl}
use Rattle.std.proofs.lemmas.Bool.{and_from, eq-eqb, eqb-true, le-leb, leb-true, lt-ltb, ltb-true}
use Rattle.trace_types.proofs.TruthLemmas.{both_hold}
use Rattle.evidence_rules.specs.EvidenceRows.{are_few, is_exclusion, is_nearly_exclusion, is_nearly_order, is_nearly_pipe, is_order, is_pipe, supported}
use Rattle.evidence_rules.specs.declared.between.Between.{Between}
use Rattle.evidence_rules.specs.declared.sharing.Sharing.{Sharing}

-- ---- tests of numbers
and_tells : (x y : Bool) (P Q : Type 0) → (x ≡ true) ↔ P → (y ≡ true) ↔ Q → ((x && y) ≡ true) ↔ (P × Q)
and_tells x y P Q h k = (
  (λ e. let b = both_hold x y e in (h.0 b.0, k.0 b.1)),
  (λ b. and_from x y (h.1 b.0) (k.1 b.1)),
)

below_tells : (n m : ℕ) → (nat_lt n m ≡ true) ↔ (n < m)
below_tells n m = ((λ e. ltb-true n m e), (λ l. lt-ltb n m l))

most_tells : (n m : ℕ) → (nat_le n m ≡ true) ↔ (n ≤ m)
most_tells n m = ((λ e. leb-true n m e), (λ l. le-leb n m l))

same_tells : (n m : ℕ) → ((n == m) ≡ true) ↔ (n ≡ m)
same_tells n m = ((λ e. eqb-true n m e), (λ e. eq-eqb n m e))

not_tells : (x : Bool) (P : Type 0) → (x ≡ true) ↔ P → (not x ≡ true) ↔ (P → ⊥)
not_tells true P h = ((λ e. absurd (let f : false ≡ true = e in cc)), (λ n. absurd (n (h.0 refl))))
not_tells false P h = ((λ e p. let f : false ≡ true = h.1 p in cc), (λ n. refl))

differ_tells : (n m : ℕ) → (not (n == m) ≡ true) ↔ (n ≢ m)
differ_tells n m = not_tells (n == m) (n ≡ m) (same_tells n m)

-- ---- tests of figures
few_tells : (refuted all : ℕ) → (are_few refuted all ≡ true) ↔ ((0 < refuted) × (100 * refuted ≤ all))
few_tells refuted all = and_tells (nat_lt 0 refuted) (nat_le (100 * refuted) all) (0 < refuted) (100 * refuted ≤ all) (below_tells 0 refuted) (most_tells (100 * refuted) all)

-- the two differ, some trace has both, and none refutes
told_tells : (i j all refuted : ℕ) → ((not (i == j) && (nat_lt 0 all && (refuted == 0))) ≡ true) ↔ ((i ≢ j) × ((0 < all) × (refuted ≡ 0)))
told_tells i j all refuted = and_tells (not (i == j)) (nat_lt 0 all && (refuted == 0)) (i ≢ j) ((0 < all) × (refuted ≡ 0)) (differ_tells i j)
    (and_tells (nat_lt 0 all) (refuted == 0) (0 < all) (refuted ≡ 0) (below_tells 0 all) (same_tells refuted 0))

pub order_tells : (i j : ℕ) (f : Between) → (is_order i j f ≡ true) ↔ ((i ≢ j) × ((0 < f.traces) × (f.early ≡ 0)))
order_tells i j f = told_tells i j f.traces f.early

pub pipe_tells : (i j : ℕ) (f : Sharing) → (is_pipe i j f ≡ true) ↔ ((i ≢ j) × ((0 < f.traces) × (f.refuted ≡ 0)))
pipe_tells i j f = told_tells i j f.traces f.refuted

pub exclusion_tells : (i j : ℕ) (f : Between) → (is_exclusion i j f ≡ true) ↔ ((i < j) × (((0 < f.traces) × (f.both ≡ 0)) × ((0 < f.early) × (0 < f.turned))))
exclusion_tells i j f = and_tells (nat_lt i j) ((nat_lt 0 f.traces && (f.both == 0)) && (nat_lt 0 f.early && nat_lt 0 f.turned)) (i < j) (((0 < f.traces) × (f.both ≡ 0)) × ((0 < f.early) × (0 < f.turned))) (below_tells i j)
    (and_tells (nat_lt 0 f.traces && (f.both == 0)) (nat_lt 0 f.early && nat_lt 0 f.turned) ((0 < f.traces) × (f.both ≡ 0)) ((0 < f.early) × (0 < f.turned))
    (and_tells (nat_lt 0 f.traces) (f.both == 0) (0 < f.traces) (f.both ≡ 0) (below_tells 0 f.traces) (same_tells f.both 0))
    (and_tells (nat_lt 0 f.early) (nat_lt 0 f.turned) (0 < f.early) (0 < f.turned) (below_tells 0 f.early) (below_tells 0 f.turned)))

pub nearly_order_tells : (i j : ℕ) (f : Between) → (is_nearly_order i j f ≡ true) ↔ ((i ≢ j) × ((0 < f.early) × (100 * f.early ≤ f.traces)))
nearly_order_tells i j f = and_tells (not (i == j)) (are_few f.early f.traces) (i ≢ j) ((0 < f.early) × (100 * f.early ≤ f.traces)) (differ_tells i j) (few_tells f.early f.traces)

pub nearly_exclusion_tells : (i j : ℕ) (f : Between) → (is_nearly_exclusion i j f ≡ true) ↔ ((i < j) × ((0 < f.both) × (100 * f.both ≤ f.traces)))
nearly_exclusion_tells i j f = and_tells (nat_lt i j) (are_few f.both f.traces) (i < j) ((0 < f.both) × (100 * f.both ≤ f.traces)) (below_tells i j) (few_tells f.both f.traces)

pub nearly_pipe_tells : (i j : ℕ) (f : Sharing) → (is_nearly_pipe i j f ≡ true) ↔ ((i ≢ j) × ((0 < f.refuted) × (100 * f.refuted ≤ f.traces)))
nearly_pipe_tells i j f = and_tells (not (i == j)) (are_few f.refuted f.traces) (i ≢ j) ((0 < f.refuted) × (100 * f.refuted ≤ f.traces)) (differ_tells i j) (few_tells f.refuted f.traces)

-- with so many traces at least
pub supported_tells : {F : Type 0} (traces : F → ℕ) (least : ℕ) (is : ℕ → ℕ → F → Bool) (i j : ℕ) (f : F) (P : Type 0) → (is i j f ≡ true) ↔ P → (supported traces least is i j f ≡ true) ↔ (P × (least ≤ traces f))
supported_tells traces least is i j f P h = and_tells (is i j f) (nat_le least (traces f)) P (least ≤ traces f) h (most_tells least (traces f))
