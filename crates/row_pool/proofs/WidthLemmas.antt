-- Rows that become wider.
use Rattle.std.proofs.Common.{◌≡◌, ℕ, zero, suc, ◌+◌, ◌-◌, ◌*◌, ◌<◌, ◌≤◌, inl, inr, Bool, true, false, cond, List, ◌∷◌, ◌++◌, length, take, drop, get_or, Some, None, refl, sym, ap, ◌∙◌, subst, arith, length-append, length-drop}
use Rattle.std.proofs.lemmas.List.{get_or_append_left, length-take-le, get_or-take, get_or-drop, get_or-append_right, take_at}
use Rattle.std.specs.List.{refill}
use Rattle.std.proofs.lemmas.Slice.{between-put_mid}
use borrow.Rule.Slice.PartMut.{put_mid}
use Rattle.std.proofs.lemmas.Bool.{cases_Bool, cases_lt, cases_eq}
use Rattle.std.specs.FinMap.{get, insert, len}
use Rattle.std.specs.Option.{option_map}
use Rattle.word_rows.specs.Words.{full_words as full, widened_words as with_full}
use Rattle.row_pool.specs.Pools.{LiveRows}
use Rattle.row_pool.specs.inner.Layout.{row_in, chain, has, distinct_below, live_rows, WritesRow, Widens, IsSoundPool}
use Rattle.row_pool.proofs.MapLemmas.{len-insert_new}
use Rattle.row_pool.proofs.RowLemmas.{has_head, has_tail, length-row_in, get_or-row_in, has_below, row_within, row_in-other}
use Rattle.row_pool.proofs.LiveLemmas.{shows}

mid : (w i : ℕ) (ws xs : List ℕ) → length xs ≡ w → i * w + w ≤ length ws → WritesRow w i ws (put_mid (i * w) w ws xs) xs
mid w i ws xs long within =
    let a = i * w in
    let post = drop w (drop a ws) in
    let front = length-take-le a ws (omega arith) in
    let same : a + w - a ≡ w = omega arith in
    record {
      changes = record {
        size = omega (arith, length-append (take a ws) (xs ++ post), length-append xs post, front, length-drop w (drop a ws), length-drop a ws);
        others = λ k d far. elim far [
          | inl l ↦ get_or_append_left (take a ws) (xs ++ post) d k (omega arith) ∙ get_or-take a ws k d l
          | inr l ↦ let back : a + (w + (k - a - w)) ≡ k = omega arith in
              get_or-append_right (take a ws) (xs ++ post) a k d front (omega arith) ∙ get_or-append_right xs post w (k - a) d long (omega arith)
              ∙ get_or-drop w (drop a ws) (k - a - w) d ∙ get_or-drop a ws (w + (k - a - w)) d ∙ ap (λ j. get_or ws j d) back
        ];
      };
      is = ap (λ n. take n (drop a (put_mid a w ws xs))) (sym same) ∙ between-put_mid a w ws xs (a + w) (omega arith) (omega arith);
    }

pub refill_same : (ws vs : List ℕ) → length vs ≡ length ws → refill (length ws) ws vs ≡ vs
refill_same ws vs e = take_at vs (drop (length vs) ws) (length ws) e

-- one more row is written
pub widens_more : (old new n : ℕ) (ws vs us : List ℕ) → n * new + new ≤ length vs → ((q : ℕ) → q < n → row_in vs new q ≡ row_in ws old q ++ full (new - old)) → WritesRow new n vs us (row_in ws old n ++ full (new - old)) → (q : ℕ) → q < n + 1 → row_in us new q ≡ row_in ws old q ++ full (new - old)
widens_more old new n ws vs us within before c q l =
    elim (cases_eq q n) [
      | inl same ↦ ap (row_in us new) same ∙ c.is ∙ ap (λ j. row_in ws old j ++ full (new - old)) (sym same)
      | inr other ↦ row_in-other new n q vs us other c.changes ∙ before q (omega arith)
    ]

pub writes_mid : (w i k : ℕ) (ws ys xs : List ℕ) → k ≡ w → ys ≡ xs → length xs ≡ w → i * w + w ≤ length ws → WritesRow w i ws (put_mid (i * w) k ws ys) xs
writes_mid w i k ws ys xs e f long within =
    subst (λ n. WritesRow w i ws (put_mid (i * w) n ws ys) xs) (sym e) (subst (λ zs. WritesRow w i ws (put_mid (i * w) w ws zs) xs) (sym f) (mid w i ws xs long within))

first_of_row : (old new n q : ℕ) (ws vs : List ℕ) → 0 < old → old ≤ new → n * old ≤ length ws → Widens old new n ws vs → q < n → get_or vs (q * new) 0 ≡ get_or ws (q * old) 0
first_of_row old new n q ws vs wide more sized s l =
    let zero_new : q * new + 0 ≡ q * new = omega arith in
    let zero_old : q * old + 0 ≡ q * old = omega arith in
    let within = row_within old q n l in
    ap (λ k. get_or vs k 0) (sym zero_new)
    ∙ sym (get_or-row_in new q vs 0 0 (omega arith))
    ∙ ap (λ r. get_or r 0 0) (s.row q l)
    ∙ get_or_append_left (row_in ws old q) (full (new - old)) 0 0 (omega (arith, length-row_in old q ws (omega arith)))
    ∙ get_or-row_in old q ws 0 0 wide
    ∙ ap (λ k. get_or ws k 0) zero_old

chain-wide : (ws vs : List ℕ) (old new k h : ℕ) → ((q : ℕ) → has q (chain ws old k h) ≡ true → get_or vs (q * new) 0 ≡ get_or ws (q * old) 0) → chain vs new k h ≡ chain ws old k h
chain-wide ws vs old new zero h same = refl
chain-wide ws vs old new (suc k) h same =
    let next = get_or ws (h * old) 0 in
    let first : get_or vs (h * new) 0 ≡ next = same h (has_head h (chain ws old k next)) in
    ap (λ t. h ∷ t) (ap (chain vs new k) first ∙ chain-wide ws vs old new k next (λ q there. same q (has_tail q h (chain ws old k next) there)))

by_test : (b : Bool) (m : LiveRows) (n : ℕ) (xs : List ℕ) → get m n ≡ None → len (cond b m (insert m n xs)) ≡ cond b (len m) (len m + 1)
by_test true m n xs e = refl
by_test false m n xs e = len-insert_new m n xs e

-- how many rows are live does not hang on their words
len_next : (ws : List ℕ) (w : ℕ) (fs : List ℕ) (n : ℕ) → len (live_rows ws w fs (suc n)) ≡ cond (has n fs) (len (live_rows ws w fs n)) (len (live_rows ws w fs n) + 1)
unfolding live_rows
len_next ws w fs n = by_test (has n fs) (live_rows ws w fs n) n (row_in ws w n) ((shows ws w fs n).past n (omega arith))

len_same : (ws vs : List ℕ) (w v : ℕ) (fs : List ℕ) (n : ℕ) → len (live_rows vs v fs n) ≡ len (live_rows ws w fs n)
len_same ws vs w v fs zero = unfold live_rows in refl
len_same ws vs w v fs (suc n) =
    len_next vs v fs n
    ∙ ap (λ k. cond (has n fs) k (k + 1)) (len_same ws vs w v fs n)
    ∙ sym (len_next ws w fs n)

pub record Widened (ws : List ℕ) (old total next spare : ℕ) (vs : List ℕ) (new : ℕ) : Type 0 where
  pub sound : IsSoundPool vs new total next spare
  pub rows : (q : ℕ) → get (live_rows vs new (chain vs new spare next) total) q ≡ option_map (λ words. with_full words (new - old)) (get (live_rows ws old (chain ws old spare next) total) q)

pub widened : (ws : List ℕ) (old total next spare : ℕ) (vs : List ℕ) (new : ℕ) → IsSoundPool ws old total next spare → old ≤ new → Widens old new total ws vs → Widened ws old total next spare vs new
widened ws old total next spare vs new s more w =
    let fs = chain ws old spare next in
    let same = chain-wide ws vs old new spare next (λ q h. first_of_row old new total q ws vs s.wide more s.sized w (has_below total q fs s.free h)) in
    let a = shows ws old fs total in let b = shows vs new fs total in
    record {
      sound = record {
        wide = omega (arith, s.wide);
        sized = w.size;
        short = s.short;
        free = ap (distinct_below total) same ∙ s.free;
        counted = omega (arith, ap (λ gs. len (live_rows vs new gs total)) same, len_same ws vs old new fs total, s.counted);
      };
      rows = λ q. ap (λ gs. get (live_rows vs new gs total) q) same ∙ elim (cases_lt q total) [
        | inr l ↦ b.past q l ∙ sym (ap (option_map (λ words. with_full words (new - old))) (a.past q l))
        | inl l ↦ elim (cases_Bool (has q fs)) [
          | inl h ↦ b.free q h ∙ sym (ap (option_map (λ words. with_full words (new - old))) (a.free q h))
          | inr h ↦ b.live q l h ∙ ap Some (w.row q l) ∙ sym (ap (option_map (λ words. with_full words (new - old))) (a.live q l h))
        ]
      ];
    }
