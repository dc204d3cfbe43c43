use Rattle.std.proofs.Common.{◌≡◌, ℕ, ◌*◌, map, replicate, ap, ◌∙◌, arith}
use Rattle.name_meetings.specs.Tables.{no_figures}
use Rattle.name_meetings.specs.inner.Pairs.{onward_of, turned_of}
use Rattle.name_meetings.proofs.StripLemmas.{none_more}
use Rattle.name_meetings.proofs.strip_table.new_strip.Goals as goal

pub entries-preserved : goal.entries-preserved
entries-preserved g c =
    let value = g.G.Gap.value in
    let items = c.in_ok-push.ensures.items in (
      ap (map (onward_of value)) items ∙ none_more (onward_of value) c.entries.strip.items c.entries.made c.none.result c.entries.invariant.0 c.none.ensures.onward,
      ap (map (turned_of value)) items ∙ none_more (turned_of value) c.entries.strip.items c.entries.made c.none.result c.entries.invariant.1 c.none.ensures.turned,
    )

pub returns : goal.returns
returns g c =
    let value = g.G.Gap.value in
    let made : c.entries.made ≡ c.width.result * 16 = omega (arith, c.entries-test.false, c.entries.auto.made-end) in
    let size = made ∙ ap (λ (n : ℕ). n * 16) c.width.ensures in
    record {
      onward = c.entries.invariant.0 ∙ ap (λ (n : ℕ). replicate n no_figures) size;
      turned = c.entries.invariant.1 ∙ ap (λ (n : ℕ). replicate n no_figures) size;
    }
