use Rattle.std.proofs.Common.{◌+◌, All, length, sym, ap, ◌∙◌, subst}
use Rattle.std.proofs.lemmas.List.{length_push}
use Rattle.std.proofs.lemmas.List.Elements.{All-push}
use Rattle.name_meetings.specs.inner.Noting.{AreNew}
use Rattle.name_meetings.proofs.strip_table.new_strips.Goals as goal

pub strips-preserved : goal.strips-preserved
strips-preserved g c =
    let is = c.in_ok-push.ensures.items in
    let old = c.strips.strips.items in
    let strip = c.in_ok-new_strip.field-0 in (
      ap length is ∙ length_push old strip ∙ ap (λ n. n + 1) c.strips.invariant.0,
      subst (All (λ s. AreNew g.G.Gap.value c.args.names s.items)) (sym is) (All-push (λ s. AreNew g.G.Gap.value c.args.names s.items) old strip c.strips.invariant.1 c.in_ok-new_strip.ensures),
    )
