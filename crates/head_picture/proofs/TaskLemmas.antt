-- The tasks of segments, one after another.
use Rattle.std.proofs.Common.{◌≡◌, ℕ, suc, ◌<◌, ◌≤◌, ◌+◌, List, ◌∷◌, length, drop, get_or, sym, ap, ◌∙◌, arith}
use Rattle.std.proofs.Math.Seq.{drop-cons}
use Rattle.std.proofs.lemmas.List.{drop_all}
use Rattle.page_rows.specs.declared.report_rows.SegmentRow.{SegmentRow}
use Rattle.head_picture.specs.Heads.{with_segments, with_task}

pub segments_next : (seen seen1 whole : List (List ℕ)) (segments : List SegmentRow) (i : ℕ) (segment : SegmentRow) → i < length segments → segment ≡ get_or segments i segment → seen1 ≡ with_task seen segment.name.0 → whole ≡ with_segments seen (drop i segments)
    → whole ≡ with_segments seen1 (drop (i + 1) segments)
segments_next seen seen1 whole segments i segment lt is step told =
    let next : i + 1 ≡ suc i = omega arith in
    let left : drop i segments ≡ segment ∷ drop (i + 1) segments = drop-cons segments i segment lt ∙ ap (λ (s : SegmentRow). s ∷ drop (suc i) segments) (sym is) ∙ ap (λ k. segment ∷ drop k segments) (sym next) in
    told ∙ ap (with_segments seen) left ∙ ap (λ (s : List (List ℕ)). with_segments s (drop (i + 1) segments)) (sym step)

pub segments_done : (seen whole : List (List ℕ)) (segments : List SegmentRow) (i : ℕ) → length segments ≤ i → whole ≡ with_segments seen (drop i segments) → seen ≡ whole
segments_done seen whole segments i le told = sym (told ∙ ap (with_segments seen) (drop_all i segments le))
