use Rattle.std.proofs.Common.{◌≡◌, ◌∙◌, ◌<◌, ◌++◌, ◌∷◌, [], List, ℕ, ap, arith, get_or, length, subst}
use Rattle.digest_facts.specs.Tables.{Table}
use Rattle.segment_names.specs.Known.{Known, same_name, with_segments}
use Rattle.std.specs.Str.{bytes_eq}
use Rattle.trace_types.specs.Firsts.{firsts_of}
use Rattle.trace_types.specs.Segments.{SegmentName}
use Rattle.judged_books.proofs.GivenLemmas.{HasListed, listed_all, listed_more, name_of_row, rows_of_table}
use Rattle.judged_books.proofs.given_names.list_given.Goals as goal

pub rows-preserved : goal.rows-preserved
rows-preserved c given h =
    let rows : c.deref-row-items.result.now ≡ c.args.table.now.names = c.deref-row-items.ensures.value ∙ ap (λ (t : Table SegmentName (List ℕ)). t.names) c.table.view_is in
    let row = c.row-item.result in
    let k = c.rows.row-index in
    let within : k < length c.args.table.now.names = subst (λ (l : List (SegmentName × List ℕ)). k < length l) rows c.rows-test.true in
    let at : row ≡ get_or c.args.table.now.names k row = subst (λ (l : List (SegmentName × List ℕ)). row ≡ get_or l k row) rows c.row-item.is in
    let name : c.row.inside.name ≡ row.0 = ap (λ (r : SegmentName × List ℕ). r.0) c.row.view_is in
    let added : c.add.new.self ≡ with_segments c.rows.catalogue c.in_ok-trace.trace.segments = c.in-Ok.ensures.added in
    listed_more given h.coherent.form.names k c.rows.catalogue c.add.new.self row.0 (subst (λ (n : ℕ). k < n) (rows_of_table given c.args.table.now h) within)
    (name_of_row given c.args.table.now h k row within at) (c.rows.invariant given h)
    (ap (λ (u : Known). u.names) added ∙ ap (λ (l : List SegmentName). firsts_of same_name (c.rows.catalogue.names ++ l)) (c.in_ok-trace.ensures.names ∙ ap (λ (n : SegmentName). n ∷ []) name))
    (ap (λ (u : Known). u.tasks) added ∙ ap (λ (l : List (List ℕ)). firsts_of bytes_eq (c.rows.catalogue.tasks ++ l)) (c.in_ok-trace.ensures.tasks ∙ ap (λ (n : SegmentName). n.0 ∷ []) name))

pub returns : goal.returns
returns c given h =
    let rows : c.deref-row-items.result.now ≡ c.args.table.now.names = c.deref-row-items.ensures.value ∙ ap (λ (t : Table SegmentName (List ℕ)). t.names) c.table.view_is in
    let many : length c.deref-row-items.result.now ≡ length given.names = ap (λ (l : List (SegmentName × List ℕ)). length l) rows ∙ rows_of_table given c.args.table.now h in
    let whole : c.rows.row-index ≡ length given.names = omega (arith, c.rows.auto.row-index-end, c.rows-test.false, many) in
    listed_all given c.rows.catalogue h.coherent.form.tasks h.tasks (subst (λ (n : ℕ). HasListed given n c.rows.catalogue) whole (c.rows.invariant given h))
