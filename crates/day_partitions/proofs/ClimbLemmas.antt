-- One level of the path from a leaf to the root.
use Rattle.std.proofs.Common.{◌≡◌, ◌≢◌, ℕ, suc, ◌+◌, ◌-◌, ◌*◌, ◌/◌, ◌^◌, ◌<◌, ◌≤◌, inl, inr, true, List, length, Option, refl, sym, ap, ◌∙◌, arith, subst}
use Rattle.std.proofs.lemmas.Nat.{pow_pos}
use Rattle.std.proofs.Math.Nat.{two-pow-succ}
use Rattle.std.proofs.lemmas.Bool.{cases_eq}
use Rattle.row_pool.specs.Pools.{Pool, row_at, with_row}
use Rattle.word_rows.specs.Words.{IsCommon}
use Rattle.row_pool.proofs.CallerLemmas.{row_at-same, row_at-other, live-with}
use Rattle.row_pool.proofs.MapLemmas.{len-insert_old}
use Rattle.day_partitions.specs.inner.Nodes.{id_at, owns_row, AreRows, AreMetBut, ChangesInner}
use Rattle.day_partitions.proofs.PlaceLemmas.{own_inner}

pub common_of : (a b c x y z : List ℕ) → x ≡ a → y ≡ b → z ≡ c → IsCommon a b c → IsCommon x y z
common_of a b c x y z ex ey ez m =
    subst (λ l. IsCommon l y z) (sym ex) (subst (λ l. IsCommon a l z) (sym ey) (subst (λ l. IsCommon a b l) (sym ez) m))

module _ (p : Pool) (nodes : List ℕ) (leaves : List (Option ℕ)) where
  -- the row of another place stays
  pub row_stays : (m n : ℕ) (xs : List ℕ) → AreRows p nodes leaves → m < 130 → n < 130 → owns_row leaves m ≡ true → n ≢ m → row_at (with_row p (id_at nodes leaves m) xs) (id_at nodes leaves n) ≡ row_at p (id_at nodes leaves n)
  row_stays m n xs r lm ln mine other = row_at-other p (id_at nodes leaves m) xs (id_at nodes leaves n) (λ e. r.apart m n lm ln mine (λ f. other (sym f)) (sym e))

  -- words in a row of an owned place, but the full one
  pub rows_with : (m : ℕ) (xs : List ℕ) → AreRows p nodes leaves → m < 129 → owns_row leaves m ≡ true → length xs ≡ p.width → AreRows (with_row p (id_at nodes leaves m) xs) nodes leaves
  rows_with m xs r lm mine long =
      let id = id_at nodes leaves in let q = with_row p (id m) xs in
      record {
        all_nodes = r.all_nodes;
        all_leaves = r.all_leaves;
        live = λ n l. live-with p (id m) xs (id n) (r.live n l);
        apart = r.apart;
        long = λ n l. elim (cases_eq n m) [
          | inl same ↦ ap (λ i. length (row_at q (id i))) same ∙ ap length (row_at-same p (id m) xs) ∙ long
          | inr other ↦ ap length (row_stays m n xs r (omega arith) l mine other) ∙ r.long n l
        ];
        blank = row_stays m 129 xs r (omega arith) (omega arith) mine (λ e. omega arith) ∙ r.blank;
        counted = len-insert_old p.rows (id m) xs (r.live m (omega arith)) ∙ r.counted;
      }

  -- the inner row m is met again
  pub met_with : (m : ℕ) (xs : List ℕ) → AreRows p nodes leaves → 1 ≤ m → m < 64 → AreMetBut p nodes leaves m → IsCommon (row_at p (id_at nodes leaves (2 * m))) (row_at p (id_at nodes leaves (2 * m + 1))) xs → AreMetBut (with_row p (id_at nodes leaves m) xs) nodes leaves (m / 2)
  met_with m xs r one below met new =
      let id = id_at nodes leaves in let q = with_row p (id m) xs in
      let mine = own_inner leaves m below in
      let stays : (n : ℕ) → n < 130 → n ≢ m → row_at q (id n) ≡ row_at p (id n) = λ n l other. row_stays m n xs r (omega arith) l mine other in
      λ n low high other. elim (cases_eq n m) [
        | inl same ↦ subst (λ i. IsCommon (row_at q (id (2 * i))) (row_at q (id (2 * i + 1))) (row_at q (id i))) (sym same)
            (common_of _ _ _ _ _ _ (stays (2 * m) (omega arith) (λ e. omega arith)) (stays (2 * m + 1) (omega arith) (λ e. omega arith)) (row_at-same p (id m) xs) new)
        | inr differs ↦ common_of _ _ _ _ _ _ (stays (2 * n) (omega arith) (λ e. other (omega arith))) (stays (2 * n + 1) (omega arith) (λ e. other (omega arith))) (stays n (omega arith) differs) (met n low high differs)
      ]

-- one level up
pub record Step (p q : Pool) (nodes : List ℕ) (leaves : List (Option ℕ)) (m : ℕ) : Type 0 where
  pub rows : AreRows q nodes leaves
  pub met : AreMetBut q nodes leaves (m / 2)
  pub others : ChangesInner p nodes leaves q

step_with : (p : Pool) (nodes : List ℕ) (leaves : List (Option ℕ)) (m : ℕ) (xs : List ℕ) → AreRows p nodes leaves → 1 ≤ m → m < 64 → AreMetBut p nodes leaves m → IsCommon (row_at p (id_at nodes leaves (2 * m))) (row_at p (id_at nodes leaves (2 * m + 1))) xs → Step p (with_row p (id_at nodes leaves m) xs) nodes leaves m
step_with p nodes leaves m xs r one below met new =
    record {
      rows = rows_with p nodes leaves m xs r (omega arith) (own_inner leaves m below) (new.width ∙ r.long (2 * m) (omega arith));
      met = met_with p nodes leaves m xs r one below met new;
      others = record {
        width = refl;
        spare = refl;
        same = λ n low high. row_stays p nodes leaves m n xs r (omega arith) high (own_inner leaves m below) (λ e. omega arith);
      };
    }

pub stepped : (p q : Pool) (nodes : List ℕ) (leaves : List (Option ℕ)) (m x y z : ℕ) (xs : List ℕ) → AreRows p nodes leaves → 1 ≤ m → m < 64 → AreMetBut p nodes leaves m → x ≡ id_at nodes leaves m → y ≡ id_at nodes leaves (2 * m) → z ≡ id_at nodes leaves (2 * m + 1) → IsCommon (row_at p y) (row_at p z) xs → q ≡ with_row p x xs → Step p q nodes leaves m
stepped p q nodes leaves m x y z xs r one below met ex ey ez new e =
    let is : q ≡ with_row p (id_at nodes leaves m) xs = e ∙ ap (λ i. with_row p i xs) ex in
    subst (λ s. Step p s nodes leaves m) (sym is)
    (step_with p nodes leaves m xs r one below met (common_of _ _ _ _ _ _ (sym (ap (row_at p) ey)) (sym (ap (row_at p) ez)) refl new))

pub changes_none : (p : Pool) (nodes : List ℕ) (leaves : List (Option ℕ)) → ChangesInner p nodes leaves p
changes_none p nodes leaves = record { width = refl; spare = refl; same = λ n low high. refl }

pub changes_more : (p q r : Pool) (nodes : List ℕ) (leaves : List (Option ℕ)) → ChangesInner p nodes leaves q → ChangesInner q nodes leaves r → ChangesInner p nodes leaves r
changes_more p q r nodes leaves a b =
    record { width = b.width ∙ a.width; spare = b.spare ∙ a.spare; same = λ n low high. b.same n low high ∙ a.same n low high }

pub halved : (j at : ℕ) → j < 6 → 2 ^ (6 - j) ≤ at → at < 2 * 2 ^ (6 - j) → (1 ≤ at / 2) × (2 ^ (6 - (j + 1)) ≤ at / 2) × (at / 2 < 2 * 2 ^ (6 - (j + 1)))
halved j at below low high =
    let one : 6 - j ≡ suc (6 - (j + 1)) = omega arith in
    let twice : 2 ^ (6 - j) ≡ 2 ^ (6 - (j + 1)) + 2 ^ (6 - (j + 1)) = ap (λ e. 2 ^ e) one ∙ two-pow-succ (6 - (j + 1)) in
    let some = pow_pos (6 - (j + 1)) in
    (omega (arith, twice, some), omega (arith, twice), omega (arith, twice))
