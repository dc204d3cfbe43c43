use Rattle.std.proofs.Common.{◌<◌, ◌∙◌, All, get_or, length, sym, subst}
use Rattle.std.specs.Prelude.{slice_index}
use Rattle.std.proofs.lemmas.List.Elements.{All-map}
use Rattle.context_names.proofs.pieces.place_groups.Goals as goal

pub scatter-requires-clause-within : goal.scatter-requires-clause-within
scatter-requires-clause-within c =
    let groups = c.args.groups.now in
    let first = c.args.first.now in
    subst (All (λ g. g < length groups)) (sym (c.deref.ensures.value ∙ c.in_ok-places.ensures))
    (All-map (λ g. g < length groups) (slice_index groups) first (λ k d lt. c.requires.groups (get_or first k d) 0 (c.requires.within k d lt)))

pub scatter-requires-2-clause-within : goal.scatter-requires-2-clause-within
scatter-requires-2-clause-within c =
    let groups = c.args.groups.now in
    let first = c.args.first.now in
    subst (All (λ g. g < length groups)) (sym (c.deref-2.ensures.value ∙ c.in_ok-places.ensures))
    (All-map (λ g. g < length groups) (slice_index groups) first (λ k d lt. c.requires.groups (get_or first k d) 0 (c.requires.within k d lt)))
