-- What a new number and another set do to the words of a set.
use Rattle.std.proofs.Common.{◌≡◌, ◌≢◌, ℕ, ◌*◌, ◌/◌, ◌%◌, ◌^◌, ◌<◌, ◌≤◌, max, List, length, get_or, set, ◌⊎◌, ◌↔◌, inl, inr, ⊎_elim, sym, ap, ◌∙◌, arith, get_or-set_same, get_or-set_other, w64, bit_or}
use Rattle.std.specs.Int.{bit_at}
use Rattle.std.proofs.lemmas.Bool.{cases_eq, cases_lt}
use Rattle.std.proofs.lemmas.List.{get_or_past}
use Rattle.std.proofs.lemmas.Nat.Bits.{bit_at_set_same, bit_at_set_other, bit_at_or, bit_at-lt}
use Rattle.weighted_dag.specs.inner.BitSets.{Has}

pub Has-insert : (ws : List ℕ) (n w : ℕ) → n / 64 < length ws → w ≡ get_or ws (n / 64) 0 → (k : ℕ) → Has (set ws (n / 64) (bit_or w (1 * 2 ^ (n % 64) % 18446744073709551616))) k ↔ (Has ws k ⊎ (k ≡ n))
Has-insert ws n w inside is k =
    let v : ℕ = bit_or w (1 * 2 ^ (n % 64) % 18446744073709551616) in
    let within : n % 64 < 64 = omega arith in
    ⊎_elim
    (λ (e : k / 64 ≡ n / 64).
    let now : get_or (set ws (n / 64) v) (k / 64) 0 ≡ v = ap (λ (j : ℕ). get_or (set ws (n / 64) v) j 0) e ∙ get_or-set_same ws (n / 64) v 0 inside in
    let before : get_or ws (k / 64) 0 ≡ w = ap (λ (j : ℕ). get_or ws j 0) e ∙ sym is in
    ⊎_elim
    (λ (f : k % 64 ≡ n % 64).
    let same : k ≡ n = omega arith in
    let one : bit_at v (n % 64) ≡ 1 = bit_at_set_same w64 w (n % 64) within in
    (λ _. inr same, λ _. ap (λ (x : ℕ). bit_at x (k % 64)) now ∙ ap (λ (j : ℕ). bit_at v j) f ∙ one))
    (λ (f : k % 64 ≢ n % 64).
    let stays : bit_at v (k % 64) ≡ bit_at w (k % 64) = bit_at_set_other w64 w (n % 64) within (k % 64) f in
    let new : bit_at (get_or (set ws (n / 64) v) (k / 64) 0) (k % 64) ≡ bit_at (get_or ws (k / 64) 0) (k % 64) = ap (λ (x : ℕ). bit_at x (k % 64)) now ∙ stays ∙ sym (ap (λ (x : ℕ). bit_at x (k % 64)) before) in
    (λ h. inl (sym new ∙ h), ⊎_elim (λ (h : Has ws k). new ∙ h) (λ (h : k ≡ n). absurd (f (ap (λ (x : ℕ). x % 64) h)))))
    (cases_eq (k % 64) (n % 64)))
    (λ (e : k / 64 ≢ n / 64).
    let now : get_or (set ws (n / 64) v) (k / 64) 0 ≡ get_or ws (k / 64) 0 = get_or-set_other ws (n / 64) (k / 64) v 0 e in
    let new : bit_at (get_or (set ws (n / 64) v) (k / 64) 0) (k % 64) ≡ bit_at (get_or ws (k / 64) 0) (k % 64) = ap (λ (x : ℕ). bit_at x (k % 64)) now in
    (λ h. inl (sym new ∙ h), ⊎_elim (λ (h : Has ws k). new ∙ h) (λ (h : k ≡ n). absurd (e (ap (λ (x : ℕ). x / 64) h)))))
    (cases_eq (k / 64) (n / 64))

-- the words below a place are united, and the others are as they were
pub record IsUnitedBelow (place : ℕ) (old more new : List ℕ) : Type 0 where
  pub room : length new ≡ length old
  pub united : (j : ℕ) → j < place → get_or new j 0 ≡ bit_or (get_or old j 0) (get_or more j 0)
  pub others : (j : ℕ) → place ≤ j → get_or new j 0 ≡ get_or old j 0

pub Has-unite : (old more new : List ℕ) → length old ≡ length more → IsUnitedBelow (length more) old more new → (k : ℕ) → Has new k ↔ (Has old k ⊎ Has more k)
Has-unite old more new same so k =
    let j : ℕ = k / 64 in
    let i : ℕ = k % 64 in
    let word : get_or new j 0 ≡ bit_or (get_or old j 0) (get_or more j 0) = ⊎_elim
    (λ (l : j < length more). so.united j l)
    (λ (l : length more ≤ j).
    let a : get_or new j 0 ≡ 0 = so.others j l ∙ get_or_past old j 0 (omega arith) in
    let b : get_or old j 0 ≡ 0 = get_or_past old j 0 (omega arith) in
    let c : get_or more j 0 ≡ 0 = get_or_past more j 0 l in
    a ∙ sym (ap (λ (x : ℕ). bit_or x (get_or more j 0)) b ∙ ap (λ (x : ℕ). bit_or 0 x) c))
    (cases_lt j (length more)) in
    let bit : bit_at (get_or new j 0) i ≡ max (bit_at (get_or old j 0) i) (bit_at (get_or more j 0) i) = ap (λ (x : ℕ). bit_at x i) word ∙ bit_at_or (get_or old j 0) (get_or more j 0) i in
    let low = bit_at-lt (get_or old j 0) i in
    let low' = bit_at-lt (get_or more j 0) i in (
      λ h. ⊎_elim
          (λ (l : bit_at (get_or old j 0) i < 1). inr (omega arith))
          (λ (l : 1 ≤ bit_at (get_or old j 0) i). inl (omega arith))
          (cases_lt (bit_at (get_or old j 0) i) 1),
      ⊎_elim (λ (h : Has old k). omega arith) (λ (h : Has more k). omega arith),
    )
