use Rattle.std.proofs.Common.{◌≡◌, ◌≢◌, ◌<◌, ◌∷◌, ◌++◌, [], List, ℕ, ap, map, sym, subst, take, ◌∙◌}
use Rattle.std.specs.Prelude.{All}
use Rattle.trace_types.specs.NameOrder.{name_cmp}
use Rattle.trace_types.specs.Segments.{SegmentName}
use Rattle.judged_books.specs.inner.KeptRows.{name_mark}
use Rattle.judged_books.proofs.KeptDigestLemmas.{listed_before}
use Rattle.judged_books.proofs.MarkedLemmas.{one_row}
use Rattle.judged_books.proofs.kept_digest.name_rows.Goals as goal

pub mark_names-requires-clause-listed : goal.mark_names-requires-clause-listed
mark_names-requires-clause-listed c =
    let number : c.index-names-k.result.1 ≡ c.item.inside.number = sym (ap (λ (i : SegmentName × ℕ). i.1) c.item.view_is) in
    subst (λ (n : ℕ). All (λ (i : SegmentName × ℕ). (i.1 < c.args.count) × (i.1 ≢ n)) (take c.rows.k c.args.names.now)) number
    (listed_before name_cmp c.args.count c.args.names.now c.requires.listed c.rows.k c.index-names-k.result c.rows-test.true c.index-names-k.is)

pub rows-preserved : goal.rows-preserved
rows-preserved c =
    let items = c.args.names.now in
    let item = c.index-names-k.result in
    let number : c.item.inside.number ≡ item.1 = ap (λ (i : SegmentName × ℕ). i.1) c.item.view_is in
    let marks : c.in_ok-marks.marks.items ≡ map (λ (i : SegmentName × ℕ). name_mark c.args.words.now i.1 item.1) (take c.rows.k items) =
    c.in_ok-marks.ensures ∙ ap (λ (n : ℕ). map (λ (i : SegmentName × ℕ). name_mark c.args.words.now i.1 n) (take c.rows.k items)) number in
    let text : c.in_ok-name.name ≡ item.0 = c.in_ok-name.ensures ∙ ap (λ (i : SegmentName × ℕ). i.0) c.item.view_is in
    one_row (name_mark c.args.words.now) items c.rows.rows.items c.push.new.self.items c.rows.k item c.rows-test.true c.index-names-k.is c.rows.invariant
    (c.in_ok-push.ensures.items ∙ ap (λ (r : SegmentName × List ℕ). c.rows.rows.items ++ r ∷ []) (λ i. (text i, marks i)))
