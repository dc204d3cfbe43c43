use Rattle.std.proofs.Common.{◌≡◌, ◌∙◌, ◌+◌, ◌-◌, ◌*◌, ◌++◌, ◌<◌, ◌≤◌, ap, arith, length, List, ℕ, subst}
use Rattle.std.specs.List.{refill}
use Rattle.word_rows.specs.Words.{full_words as full}
use Rattle.row_pool.specs.inner.Layout.{row_in, WritesRow}
use Rattle.row_pool.proofs.RowLemmas.{row_within}
use Rattle.row_pool.proofs.WidthLemmas.{refill_same, widens_more}
use Rattle.row_pool.proofs.storage.Storage.widened.Goals as goal

more : (old new n rows : ℕ) (ws ws' vs vs' us : List ℕ) → n < rows → rows * new ≤ length vs → vs' ≡ vs → ws' ≡ ws → ((q : ℕ) → q < n → row_in vs new q ≡ row_in ws old q ++ full (new - old)) → WritesRow new n vs' us (row_in ws' old n ++ full (new - old)) → (rows * new ≤ length (refill (length vs) vs us)) × ((q : ℕ) → q < n + 1 → row_in (refill (length vs) vs us) new q ≡ row_in ws old q ++ full (new - old))
more old new n rows ws ws' vs vs' us below room e f before c =
    let c1 : WritesRow new n vs us (row_in ws' old n ++ full (new - old)) = subst (λ l. WritesRow new n l us (row_in ws' old n ++ full (new - old))) e c in
    let c2 : WritesRow new n vs us (row_in ws old n ++ full (new - old)) = subst (λ l. WritesRow new n vs us (row_in l old n ++ full (new - old))) f c1 in
    let same = refill_same vs us c2.changes.size in
    (omega (arith, room, ap length same, c2.changes.size), λ q l. ap (λ l. row_in l new q) same ∙ widens_more old new n ws vs us (omega (arith, row_within new n rows below)) before c2 q l)

pub rows-preserved : goal.rows-preserved
rows-preserved c =
    let m = more c.args.old c.args.new c.rows.row c.args.rows c.args.self.now _ c.rows.block _ _ c.rows-test.true c.rows.invariant.size c.as_mut_slice.ensures.value c.words.ensures c.rows.invariant.row c.widen_row.ensures in
    record { size = m.0; row = m.1 }
