-- The meet of two rows, word by word.
use Rattle.std.proofs.Common.{◌≡◌, ◌≢◌, ℕ, ◌+◌, ◌*◌, ◌<◌, ◌≤◌, inl, inr, List, length, get_or, set, slice_index, bit_and, refl, sym, ap, ◌∙◌, arith, length-set}
use Rattle.std.specs.Int.{bit_at}
use Rattle.std.proofs.lemmas.Bool.{cases_eq}
use Rattle.std.proofs.lemmas.List.{get_or-set_same, get_or-set_other}
use Rattle.std.proofs.lemmas.Nat.Bits.{bit_at_and}
use Rattle.row_pool.specs.inner.Layout.{row_in, Changes, Meets}
use Rattle.row_pool.proofs.RowLemmas.{apart, length-row_in, get_or-row_in}

-- the first k words of the row `to` are met
pub record MetSoFar (w to a b k : ℕ) (ws vs : List ℕ) : Type 0 where
  pub changes : Changes w to ws vs
  pub done : (j : ℕ) → j < k → get_or vs (to * w + j) 0 ≡ bit_and (get_or ws (a * w + j) 0) (get_or ws (b * w + j) 0)

pub met_none : (w to a b : ℕ) (ws : List ℕ) → MetSoFar w to a b 0 ws ws
met_none w to a b ws = record { changes = record { size = refl; others = λ k d e. refl }; done = λ j l. absurd (omega arith) }

pub met_more : (w to a b k : ℕ) (ws vs : List ℕ) → to ≢ a → to ≢ b → k < w → to * w + w ≤ length ws → MetSoFar w to a b k ws vs → MetSoFar w to a b (k + 1) ws (set vs (to * w + k) (bit_and (get_or vs (a * w + k) 0) (get_or vs (b * w + k) 0)))
met_more w to a b k ws vs not_a not_b below within m =
    let c = m.changes in
    let x = get_or vs (a * w + k) 0 in let y = get_or vs (b * w + k) 0 in
    let x_is = c.others (a * w + k) 0 (apart w to a k (λ e. not_a (sym e)) below) in
    let y_is = c.others (b * w + k) 0 (apart w to b k (λ e. not_b (sym e)) below) in
    record {
      changes = record {
        size = length-set vs (to * w + k) (bit_and x y) ∙ c.size;
        others = λ q d far. get_or-set_other vs (to * w + k) q (bit_and x y) d (λ same. elim far [ inl l ↦ omega arith | inr l ↦ omega arith ]) ∙ c.others q d far;
      };
      done = λ j l. elim (cases_eq j k) [
        | inl same ↦ ap (λ i. get_or (set vs (to * w + k) (bit_and x y)) (to * w + i) 0) same
            ∙ get_or-set_same vs (to * w + k) (bit_and x y) 0 (omega (arith, c.size))
            ∙ ap (λ u. bit_and u y) x_is ∙ ap (bit_and (get_or ws (a * w + k) 0)) y_is
            ∙ sym (ap (λ i. bit_and (get_or ws (a * w + i) 0) (get_or ws (b * w + i) 0)) same)
        | inr other ↦ get_or-set_other vs (to * w + k) (to * w + j) (bit_and x y) 0 (λ same. other (omega arith)) ∙ m.done j (omega arith)
      ];
    }

pub met_all : (w to a b k : ℕ) (ws vs : List ℕ) → w ≤ k → to * w + w ≤ length ws → a * w + w ≤ length ws → b * w + w ≤ length ws → MetSoFar w to a b k ws vs → Meets w to a b ws vs
met_all w to a b k ws vs all in_to in_a in_b m =
    let long_to = length-row_in w to vs (omega (arith, m.changes.size)) in
    let long_a = length-row_in w a ws in_a in
    record {
      changes = m.changes;
      met = record {
        width = long_to ∙ sym long_a;
        bits = λ i n l small.
            let below : i < w = omega arith in
            let word : slice_index (row_in vs w to) i ≡ bit_and (slice_index (row_in ws w a) i) (slice_index (row_in ws w b) i) =
            get_or-row_in w to vs i 0 below ∙ m.done i (omega arith)
            ∙ ap (λ u. bit_and u (get_or ws (b * w + i) 0)) (sym (get_or-row_in w a ws i 0 below))
            ∙ ap (bit_and (get_or (row_in ws w a) i 0)) (sym (get_or-row_in w b ws i 0 below)) in
            ap (λ u. bit_at u n) word ∙ bit_at_and (slice_index (row_in ws w a) i) (slice_index (row_in ws w b) i) n;
      };
    }
