-- Rows that were taken one after another.
use Rattle.std.proofs.Common.{◌≡◌, ◌≢◌, ℕ, ◌+◌, ◌<◌, ◌≤◌, inl, inr, List, [], ◌∷◌, ◌++◌, length, get_or, None, IsSome, sym, ap, ◌∙◌, arith, subst}
use Rattle.std.proofs.lemmas.Bool.{cases_lt}
use Rattle.std.proofs.lemmas.List.{length_push, get_or_push, get_or_append_left}
use Rattle.std.specs.FinMap.{get, insert, len}
use Rattle.word_rows.specs.Words.{full_words as full}
use Rattle.row_pool.specs.Pools.{Pool, IsLive, row_at, with_row, with_row_taken}
use Rattle.row_pool.proofs.CallerLemmas.{row_at-same, row_at-other, live-insert_same, live-with, apart-new}
use Rattle.row_pool.proofs.MapLemmas.{len-insert_new}
use Rattle.day_partitions.specs.inner.Nodes.{AreMade}
use Rattle.day_partitions.proofs.PoolLemmas.{row_at-kept}

-- each of these ids names a full row of its own, and no other row is live
pub record IsMade (p : Pool) (ids : List ℕ) (w : ℕ) : Type 0 where
  pub live : (n : ℕ) → n < length ids → IsLive p (get_or ids n 0)
  pub apart : (m n : ℕ) → m < length ids → n < length ids → m ≢ n → get_or ids m 0 ≢ get_or ids n 0
  pub full_rows : (n : ℕ) → n < length ids → row_at p (get_or ids n 0) ≡ full w
  pub counted : len p.rows ≡ length ids

pub made_none : (p : Pool) (w : ℕ) → len p.rows ≡ 0 → IsMade p [] w
made_none p w e = record { live = λ n l. absurd (omega arith); apart = λ m n lm ln other. absurd (omega arith); full_rows = λ n l. absurd (omega arith); counted = e }

made_with : (p : Pool) (ids : List ℕ) (w id : ℕ) → IsMade p ids w → get p.rows id ≡ None → IsMade (with_row p id (full w)) (ids ++ id ∷ []) w
made_with p ids w id m new =
    let old : (n : ℕ) → n < length ids → get_or (ids ++ id ∷ []) n 0 ≡ get_or ids n 0 = λ n h. get_or_append_left ids (id ∷ []) 0 n h in
    let last : (n : ℕ) → length ids ≤ n → n < length (ids ++ id ∷ []) → get_or (ids ++ id ∷ []) n 0 ≡ id = λ n h l. get_or_push ids id 0 n (omega (arith, length_push ids id)) in
    record {
      live = λ n l. elim (cases_lt n (length ids)) [
        | inl h ↦ subst (λ i. IsLive (with_row p id (full w)) i) (sym (old n h)) (live-with p id (full w) _ (m.live n h))
        | inr h ↦ subst (λ i. IsLive (with_row p id (full w)) i) (sym (last n h l)) (live-insert_same p.rows id (full w))
      ];
      apart = λ a b la lb other. elim (cases_lt a (length ids)) [
        | inl ha ↦ elim (cases_lt b (length ids)) [
          | inl hb ↦ λ e. m.apart a b ha hb other (sym (old a ha) ∙ e ∙ old b hb)
          | inr hb ↦ λ e. apart-new p.rows id (get_or ids a 0) new (m.live a ha) (sym (old a ha) ∙ e ∙ last b hb lb)
        ]
        | inr ha ↦ elim (cases_lt b (length ids)) [
          | inl hb ↦ λ e. apart-new p.rows id (get_or ids b 0) new (m.live b hb) (sym (old b hb) ∙ sym e ∙ last a ha la)
          | inr hb ↦ λ e. other (omega (arith, la, lb, length_push ids id))
        ]
      ];
      full_rows = λ n l. elim (cases_lt n (length ids)) [
        | inl h ↦ ap (row_at (with_row p id (full w))) (old n h) ∙ row_at-other p id (full w) _ (apart-new p.rows id _ new (m.live n h)) ∙ m.full_rows n h
        | inr h ↦ ap (row_at (with_row p id (full w))) (last n h l) ∙ row_at-same p id (full w)
      ];
      counted = len-insert_new p.rows id (full w) new ∙ ap (λ n. n + 1) m.counted ∙ sym (length_push ids id);
    }

-- one more row was taken
pub made_more : (p q : Pool) (ids jds : List ℕ) (w id : ℕ) → IsMade p ids w → get p.rows id ≡ None → q ≡ with_row_taken p id → p.width ≡ w → jds ≡ ids ++ id ∷ [] → IsMade q jds w
made_more p q ids jds w id m new is width push =
    let h = made_with p ids w id m new in
    let rows : q.rows ≡ insert p.rows id (full w) = ap (λ r. r.rows) is ∙ ap (λ v. insert p.rows id (full v)) width in
    let same : (i : ℕ) → get q.rows i ≡ get (insert p.rows id (full w)) i = λ i. ap (λ r. get r i) rows in
    let made : IsMade q (ids ++ id ∷ []) w = record {
      live = λ n l. subst (λ o. IsSome o) (sym (same (get_or (ids ++ id ∷ []) n 0))) (h.live n l);
      apart = h.apart;
      full_rows = λ n l. row_at-kept (with_row p id (full w)) q (get_or (ids ++ id ∷ []) n 0) (same _) ∙ h.full_rows n l;
      counted = ap (λ r. len r) rows ∙ h.counted;
    } in
    subst (λ l. IsMade q l w) (sym push) made

pub made_all : (p : Pool) (ids : List ℕ) (w : ℕ) → length ids ≡ 66 → p.width ≡ w → p.spare ≡ 0 → IsMade p ids w → AreMade w p ids
made_all p ids w long width none m =
    record {
      count = long;
      width_is = width;
      spare = none;
      live = λ n l. m.live n (omega arith);
      apart = λ i n li ln other. m.apart i n (omega arith) (omega arith) other;
      full_rows = λ n l. m.full_rows n (omega arith);
      counted = m.counted ∙ long;
    }
