-- The same steps on the fields of a pool.
use Rattle.std.proofs.Common.{◌≡◌, ℕ, suc, ◌+◌, ◌-◌, ◌*◌, ◌^◌, ◌<◌, ◌≤◌, List, ◌++◌, length, get_or, set, Option, Some, None, IsSome, true, refl, sym, ap, ◌∙◌, subst, arith, inl, inr, length-append, length-set}
use Rattle.std.specs.FinMap.{get, insert, remove}
use Rattle.std.proofs.Math.Nat.{mul-le-mul_right}
use Rattle.std.proofs.lemmas.List.{get_or_append_left, get_or-set_same, get_or-set_other}
use Rattle.word_rows.specs.Words.{IsCommon}
use Rattle.row_pool.specs.Pools.{Pool, pool, IsLive, LiveRows, row_at, with_row}
use Rattle.row_pool.specs.Pools.{words_or_none}
use Rattle.row_pool.specs.inner.Layout.{row_in, chain, live_rows, Changes, WritesRow, Meets, IsSoundPool, IsPool, pool_of, distinct_below}
use Rattle.row_pool.specs.declared.pool.RowPool.TheInside.{Inside}
use Rattle.row_pool.proofs.RowLemmas.{row_within, first_is}
use Rattle.row_pool.proofs.LiveLemmas.{is_used, shows}
use Rattle.row_pool.proofs.SoundLemmas.{Has, has-written, has-given, has-taken, has-same, has-added}

abbrev pub rows_of : Inside → LiveRows
rows_of a = live_rows a.storage a.width (chain a.storage a.width a.spare a.next) a.total

pub live_in : (a : Inside) (p : Pool) (i id : ℕ) → pool_of a ≡ p → i ≡ id → IsLive p id → IsSome (get (rows_of a) i)
live_in a p i id is e live =
    let at_i : IsLive p i = subst (λ j. IsLive p j) (sym e) live in
    subst (λ q. IsLive q i) (sym is) at_i

pub within_live : (a : Inside) (i : ℕ) → IsPool a → IsSome (get (rows_of a) i) → i * a.width + a.width ≤ length a.storage
within_live a i s there =
    let u = is_used a.storage a.width (chain a.storage a.width a.spare a.next) a.total i there in
    omega (arith, row_within a.width i a.total u.below, s.sized)

next_below : (ws : List ℕ) (w total next k n : ℕ) → k ≡ suc n → distinct_below total (chain ws w k next) ≡ true → next < total
next_below ws w total next k n one d =
    let rest = chain ws w n (get_or ws (next * w) 0) in
    (first_is total next rest (sym (ap (λ j. distinct_below total (chain ws w j next)) one) ∙ d)).below

pub within_next : (a : Inside) → IsPool a → 0 < a.spare → (a.next < a.total) × (a.next * a.width + a.width ≤ length a.storage)
within_next a s some =
    let below = next_below a.storage a.width a.total a.next a.spare (a.spare - 1) (omega arith) s.free in
    (below, omega (arith, row_within a.width a.next a.total below, s.sized))

-- the same at an equal map
pub has_to : (vs : List ℕ) (w t n k : ℕ) (m o : LiveRows) → m ≡ o → Has vs w t n k m → Has vs w t n k o
has_to vs w t n k m o f h = record { sound = h.sound; rows = h.rows ∙ f }

-- the same at equal words and an equal map
pub has_at : (us vs : List ℕ) (w t n k : ℕ) (m o : LiveRows) → us ≡ vs → m ≡ o → Has vs w t n k m → Has us w t n k o
has_at us vs w t n k m o e f h = subst (λ ws. Has ws w t n k o) (sym e) (has_to vs w t n k m o f h)

pub written : (a : Inside) (p : Pool) (i id : ℕ) (vs xs : List ℕ) → pool_of a ≡ p → IsPool a → i ≡ id → IsLive p id → WritesRow a.width i a.storage vs xs → Has vs a.width a.total a.next a.spare (insert p.rows id xs)
written a p i id vs xs is s e live c =
    let there = live_in a p i id is e live in
    let rows : insert (rows_of a) i xs ≡ insert p.rows id xs = ap (λ q. insert q.rows i xs) is ∙ ap (λ j. insert p.rows j xs) e in
    has_to vs a.width a.total a.next a.spare _ _ rows (has-written a.storage a.width a.total a.next a.spare vs i xs s there c)

pub taken : (a : Inside) (p : Pool) (us vs xs : List ℕ) → pool_of a ≡ p → IsPool a → 0 < a.spare → us ≡ a.storage → WritesRow a.width a.next a.storage vs xs → Has vs a.width a.total (get_or us (a.next * a.width) 0) (a.spare - 1) (insert p.rows a.next xs) × (get p.rows a.next ≡ None)
taken a p us vs xs is s some start c =
    let h = has-taken a.storage a.width a.total a.next a.spare (a.spare - 1) vs xs (omega arith) s c in
    let link : get_or us (a.next * a.width) 0 ≡ get_or a.storage (a.next * a.width) 0 = ap (λ ws. get_or ws (a.next * a.width) 0) start in
    let there = has_to vs a.width a.total _ (a.spare - 1) _ _ (ap (λ q. insert q.rows a.next xs) is) h.0 in
    (subst (λ n. Has vs a.width a.total n (a.spare - 1) (insert p.rows a.next xs)) (sym link) there, ap (λ q. get q.rows a.next) (sym is) ∙ h.1)

-- the first word of a row is set
pub changes-set : (w i x : ℕ) (ws : List ℕ) → 0 < w → Changes w i ws (set ws (i * w) x)
changes-set w i x ws wide =
    record {
      size = length-set ws (i * w) x;
      others = λ k d apart. get_or-set_other ws (i * w) k x d (λ same. elim apart [ inl l ↦ omega arith | inr l ↦ omega arith ]);
    }

pub given : (a : Inside) (p : Pool) (i j id : ℕ) (vs : List ℕ) → pool_of a ≡ p → IsPool a → i ≡ id → j ≡ id → IsLive p id → vs ≡ set a.storage (i * a.width) a.next → Has vs a.width a.total j (a.spare + 1) (remove p.rows id)
given a p i j id vs is s e f live new =
    let there = live_in a p i id is e live in
    let c = changes-set a.width i a.next a.storage s.wide in
    let first = get_or-set_same a.storage (i * a.width) a.next 0 (omega (arith, within_live a i s there, s.wide)) in
    let rows : remove (rows_of a) i ≡ remove p.rows id = ap (λ q. remove q.rows i) is ∙ ap (λ j. remove p.rows j) e in
    let h = has-given a.storage a.width a.total a.next a.spare (set a.storage (i * a.width) a.next) i (a.spare + 1) (omega arith) s there c first in
    subst (λ n. Has vs a.width a.total n (a.spare + 1) (remove p.rows id)) (e ∙ sym f) (has_at vs _ a.width a.total i (a.spare + 1) _ _ new rows h)

pub pool_eq : (w v : ℕ) (m o : LiveRows) (k j : ℕ) → w ≡ v → m ≡ o → k ≡ j → pool w m k ≡ pool v o j
pool_eq w v m o k j e f g = ap (λ x. pool x m k) e ∙ ap (λ x. pool v x k) f ∙ ap (λ x. pool v o x) g

-- what the fields tell once a step has left these rows
pub seen : (a : Inside) (p : Pool) (us : List ℕ) (t n k j : ℕ) (m : LiveRows) → pool_of a ≡ p → Has us a.width t n k m → k ≡ j → pool a.width (live_rows us a.width (chain us a.width k n) t) k ≡ pool p.width m j
seen a p us t n k j m is h e = pool_eq _ _ _ _ _ _ (ap (λ q. q.width) is) h.rows e

pub seen_at : (a : Inside) (p : Pool) (us : List ℕ) (t n k j : ℕ) (m o : LiveRows) → pool_of a ≡ p → Has us a.width t n k m → m ≡ o → k ≡ j → pool a.width (live_rows us a.width (chain us a.width k n) t) k ≡ pool p.width o j
seen_at a p us t n k j m o is h f e = pool_eq _ _ _ _ _ _ (ap (λ q. q.width) is) (h.rows ∙ f) e

words_or_none_some : (o : Option (List ℕ)) (xs : List ℕ) → o ≡ Some xs → words_or_none o ≡ xs
words_or_none_some o xs e = ap words_or_none e

-- what `row` returns
pub row_is : (a : Inside) (p : Pool) (i id : ℕ) (us : List ℕ) → pool_of a ≡ p → i ≡ id → IsLive p id → us ≡ a.storage → row_in us a.width i ≡ row_at p id
unfolding row_at
row_is a p i id us is e live start =
    let fs = chain a.storage a.width a.spare a.next in
    let u = is_used a.storage a.width fs a.total i (live_in a p i id is e live) in
    let shown = (shows a.storage a.width fs a.total).live i u.below u.used in
    ap (λ ws. row_in ws a.width i) start
    ∙ sym (ap words_or_none shown)
    ∙ ap (λ q. words_or_none (get q.rows i)) is
    ∙ ap (λ j. words_or_none (get p.rows j)) e

-- what `meet_into` leaves: the row `to` is what lies there, and it is the meet of the other two
pub record MetInto (a : Inside) (p : Pool) (to at_a at_b : ℕ) (vs : List ℕ) : Type 0 where
  pub sound : IsSoundPool vs a.width a.total a.next a.spare
  pub pool_is : pool a.width (live_rows vs a.width (chain vs a.width a.spare a.next) a.total) a.spare ≡ with_row p to (row_in vs a.width to)
  pub met : IsCommon (row_at p at_a) (row_at p at_b) (row_in vs a.width to)

pub met_into : (a : Inside) (p : Pool) (i j k to at_a at_b : ℕ) (vs : List ℕ) → pool_of a ≡ p → IsPool a → i ≡ to → j ≡ at_a → k ≡ at_b → IsLive p to → IsLive p at_a → IsLive p at_b → Meets a.width i j k a.storage vs → MetInto a p to at_a at_b vs
met_into a p i j k to at_a at_b vs is s e f g live_to live_a live_b m =
    let h = written a p i to vs (row_in vs a.width i) is s e live_to (record { changes = m.changes; is = refl }) in
    let at_to = ap (λ n. insert p.rows to (row_in vs a.width n)) e in
    record {
      sound = h.sound;
      pool_is = seen_at a p vs _ _ _ _ _ _ is h at_to (ap (λ q. q.spare) is);
      met = subst (λ xs. IsCommon xs (row_at p at_b) (row_in vs a.width to)) (row_is a p j at_a a.storage is f live_a refl)
          (subst (λ ys. IsCommon (row_in a.storage a.width j) ys (row_in vs a.width to)) (row_is a p k at_b a.storage is g live_b refl)
          (subst (λ n. IsCommon (row_in a.storage a.width j) (row_in a.storage a.width k) (row_in vs a.width n)) e m.met));
    }

-- the block has grown
pub grown : (a : Inside) (p : Pool) (vs zs : List ℕ) → pool_of a ≡ p → IsPool a → vs ≡ a.storage ++ zs → Has vs a.width a.total a.next a.spare p.rows
grown a p vs zs is s e =
    let h = has-same a.storage a.width a.total a.next a.spare (a.storage ++ zs) s (omega (arith, s.sized, length-append a.storage zs)) (λ k d l. get_or_append_left a.storage zs d k (omega (arith, s.sized))) in
    has_at vs (a.storage ++ zs) a.width a.total a.next a.spare _ _ e (ap (λ q. q.rows) is) h

-- in a block with room for T rows, one more row is made
pub added : (ws vs : List ℕ) (w t n k j T : ℕ) (m : LiveRows) → Has ws w t n k m → vs ≡ set ws (t * w) n → j ≡ t → t < T → T < 2 ^ 32 → T * w ≤ length ws → Has vs w (t + 1) j (k + 1) m
added ws vs w t n k j T m h new same below short room =
    let s = h.sound in
    let c = changes-set w t n ws s.wide in
    let within : t * w + w ≤ length ws = omega (arith, row_within w t T below) in
    let one : t + 1 ≡ suc t = omega arith in
    let sized : (t + 1) * w ≤ length ws = omega (arith, mul-le-mul_right {m = t + 1} {n = T} w (omega arith)) in
    let first = get_or-set_same ws (t * w) n 0 (omega (arith, within, s.wide)) in
    let g = has-added ws w t n k (set ws (t * w) n) (t + 1) (k + 1) one (omega arith) s sized (omega arith) c first in
    subst (λ i. Has vs w (t + 1) i (k + 1) m) (sym same) (has_at vs _ w (t + 1) t (k + 1) _ _ new h.rows g)

pub made : (b : Inside) (p : Pool) (w k : ℕ) → b.width ≡ w → w ≡ p.width → Has b.storage w b.total b.next b.spare p.rows → b.spare ≡ k → pool_of b ≡ pool p.width p.rows k
made b p w k e f h g =
    let rows = ap (λ v. live_rows b.storage v (chain b.storage v b.spare b.next) b.total) e ∙ h.rows in
    pool_eq _ _ _ _ _ _ (e ∙ f) rows g
