-- What keeps a pool sound, and what its rows are then.
use Rattle.std.proofs.Common.{◌≡◌, ℕ, suc, ◌+◌, ◌*◌, ◌^◌, ◌<◌, ◌≤◌, List, ◌∷◌, length, get_or, None, IsSome, refl, sym, ap, ◌∙◌, arith}
use Rattle.std.specs.FinMap.{get, insert, remove, len, empty, len-empty}
use Rattle.std.specs.Ordering.{nat_cmp}
use Rattle.row_pool.specs.Pools.{LiveRows}
use Rattle.row_pool.specs.inner.Layout.{row_in, chain, distinct_below, live_rows, Changes, WritesRow, IsSoundPool}
use Rattle.row_pool.proofs.MapLemmas.{len-insert_new, len-insert_old, len-remove_old}
use Rattle.row_pool.proofs.RowLemmas.{row_within, chain-other, chain-same, first_is, first_from, distinct_more, not_has_past, has_below, row_in-at, length-row_in, get_or-row_in}
use Rattle.row_pool.proofs.LiveLemmas.{is_used, live-written, live-taken, live-first, live-given, live-added, live-same}

-- a pool that is sound, with these rows
pub record Has (ws : List ℕ) (w total next spare : ℕ) (m : LiveRows) : Type 0 where
  pub sound : IsSoundPool ws w total next spare
  pub rows : live_rows ws w (chain ws w spare next) total ≡ m

module _ (ws : List ℕ) (w total next spare : ℕ) where
  abbrev rows_of : LiveRows
  rows_of = live_rows ws w (chain ws w spare next) total

  -- a row that is live was written
  pub has-written : (vs : List ℕ) (i : ℕ) (xs : List ℕ) → IsSoundPool ws w total next spare → IsSome (get rows_of i) → WritesRow w i ws vs xs → Has vs w total next spare (insert rows_of i xs)
  has-written vs i xs s there c =
      let u = is_used ws w (chain ws w spare next) total i there in
      let same = chain-other ws vs w spare next i s.wide u.used c.changes in
      let rows = ap (λ fs. live_rows vs w fs total) same ∙ live-written ws vs w (chain ws w spare next) total i xs u c.changes c.is in
      record {
        sound = record {
          wide = s.wide;
          sized = omega (arith, s.sized, c.changes.size);
          short = s.short;
          free = ap (distinct_below total) same ∙ s.free;
          counted = omega (arith, ap len rows, len-insert_old rows_of i xs there, s.counted);
        };
        rows = rows;
      }

  -- a row that is live was given back
  pub has-given : (vs : List ℕ) (i n : ℕ) → n ≡ suc spare → IsSoundPool ws w total next spare → IsSome (get rows_of i) → Changes w i ws vs → get_or vs (i * w) 0 ≡ next → Has vs w total i n (remove rows_of i)
  has-given vs i n one s there c link =
      let fs = chain ws w spare next in
      let u = is_used ws w fs total i there in
      let same : chain vs w n i ≡ i ∷ fs = ap (λ k. chain vs w k i) one ∙ ap (λ t. i ∷ t) (ap (chain vs w spare) link ∙ chain-other ws vs w spare next i s.wide u.used c) in
      let rows = ap (λ gs. live_rows vs w gs total) same ∙ live-given ws vs w fs total i u c in
      record {
        sound = record {
          wide = s.wide;
          sized = omega (arith, s.sized, c.size);
          short = s.short;
          free = ap (distinct_below total) same ∙ first_from total i fs (record { below = u.below; once = u.used; rest = s.free });
          counted = omega (arith, ap len rows, len-remove_old rows_of i there, s.counted, one);
        };
        rows = rows;
      }

  -- the words of the rows are the same
  pub has-same : (vs : List ℕ) → IsSoundPool ws w total next spare → total * w ≤ length vs → ((k d : ℕ) → k < total * w → get_or vs k d ≡ get_or ws k d) → Has vs w total next spare rows_of
  has-same vs s sized words =
      let fs = chain ws w spare next in
      let within : (q : ℕ) → q < total → q * w + w ≤ total * w = λ q l. row_within w q total l in
      let same = chain-same ws vs w spare next (λ q h. words (q * w) 0 (omega (arith, within q (has_below total q fs s.free h), s.wide))) in
      let rows = ap (λ gs. live_rows vs w gs total) same ∙ live-same ws vs w fs total (λ q l. row_in-at w q vs (row_in ws w q) (omega (arith, within q l)) (length-row_in w q ws (omega (arith, within q l, s.sized))) (λ k d h. words (q * w + k) d (omega (arith, within q l)) ∙ sym (get_or-row_in w q ws k d h))) in
      record {
        sound = record {
          wide = s.wide;
          sized = sized;
          short = s.short;
          free = ap (distinct_below total) same ∙ s.free;
          counted = omega (arith, ap len rows, s.counted);
        };
        rows = rows;
      }

  -- one more row, which is free
  pub has-added : (vs : List ℕ) (t n : ℕ) → t ≡ suc total → n ≡ suc spare → IsSoundPool ws w total next spare → t * w ≤ length ws → t < 2 ^ 32 → Changes w total ws vs → get_or vs (total * w) 0 ≡ next → Has vs w t total n rows_of
  has-added vs t n one_t one_n s sized short c link =
      let fs = chain ws w spare next in
      let unused = not_has_past total total fs s.free (omega arith) in
      let same : chain vs w n total ≡ total ∷ fs = ap (λ k. chain vs w k total) one_n ∙ ap (λ r. total ∷ r) (ap (chain vs w spare) link ∙ chain-other ws vs w spare next total s.wide unused c) in
      let rows = ap (λ gs. live_rows vs w gs t) same ∙ ap (live_rows vs w (total ∷ fs)) one_t ∙ live-added ws vs w fs total s.free c in
      record {
        sound = record {
          wide = s.wide;
          sized = omega (arith, sized, c.size);
          short = short;
          free = ap (distinct_below t) same ∙ first_from t total fs (record { below = omega arith; once = unused; rest = distinct_more total t fs (omega arith) s.free });
          counted = omega (arith, ap len rows, s.counted);
        };
        rows = rows;
      }

-- the first free row was taken and written
pub has-taken : (ws : List ℕ) (w total next spare n : ℕ) (vs xs : List ℕ) → spare ≡ suc n → IsSoundPool ws w total next spare → WritesRow w next ws vs xs → Has vs w total (get_or ws (next * w) 0) n (insert (live_rows ws w (chain ws w spare next) total) next xs) × (get (live_rows ws w (chain ws w spare next) total) next ≡ None)
has-taken ws w total next spare n vs xs one s c =
    let link = get_or ws (next * w) 0 in
    let fs = chain ws w n link in
    let split : chain ws w spare next ≡ next ∷ fs = ap (λ k. chain ws w k next) one in
    let first = first_is total next fs (sym (ap (distinct_below total) split) ∙ s.free) in
    let old = live_rows ws w (chain ws w spare next) total in
    let old_is : old ≡ live_rows ws w (next ∷ fs) total = ap (λ gs. live_rows ws w gs total) split in
    let new : get old next ≡ None = ap (λ m. get m next) old_is ∙ live-first ws w fs total next in
    let same = chain-other ws vs w n link next s.wide first.once c.changes in
    let rows : live_rows vs w (chain vs w n link) total ≡ insert old next xs =
    ap (λ gs. live_rows vs w gs total) same ∙ live-taken ws vs w fs total next xs first c.changes c.is ∙ ap (λ m. insert m next xs) (sym old_is) in (
      record {
        sound = record {
          wide = s.wide;
          sized = omega (arith, s.sized, c.changes.size);
          short = s.short;
          free = ap (distinct_below total) same ∙ first.rest;
          counted = omega (arith, ap len rows, len-insert_new old next xs new, s.counted, one);
        };
        rows = rows;
      },
      new,
    )

-- a pool with no rows
pub has-none : (ws : List ℕ) (w : ℕ) → 0 < w → Has ws w 0 0 0 empty
unfolding live_rows
has-none ws w wide = record { sound = record { wide = wide; sized = omega arith; short = omega arith; free = refl; counted = omega (arith, len-empty nat_cmp (List ℕ)) }; rows = refl }
