use Rattle.std.proofs.Common.{◌≡◌, ◌∙◌, ◌++◌, List, ap, map, subst, sym}
use Rattle.std.proofs.lemmas.Result.{on_ok_weaker}
use Rattle.alike_groups.specs.Groups.{groups_of}
use Rattle.alike_groups.specs.declared.group.Group.{Group}
use Rattle.name_patterns.specs.Families.{AreFamilies}
use Rattle.name_quality.specs.Names.{all_names, different_names, first_of, name_pattern, names_under}
use Rattle.segment_names.specs.Known.{same_name}
use Rattle.trace_types.specs.Segments.{SegmentName}
use Rattle.inspect_run.proofs.NameRowLemmas.{names_told}
use Rattle.inspect_run.proofs.name_rows.push_names.Goals as goal

pub returns : goal.returns
returns c traces named each are =
    let names : List SegmentName = names_under c.args.texts.now c.args.names.now in
    let families = c.deref-5.result.now in
    let grouped : c.deref.result.now ≡ groups_of same_name (all_names named) = c.deref.ensures.value ∙ c.in_ok-groups.ensures.groups ∙ ap (groups_of same_name) are in
    let few = ap (map (first_of (all_names named))) c.deref-4.ensures.value ∙ c.in_ok-alone.ensures.alone traces named each grouped in
    let different = ap (map (first_of names)) c.deref-3.ensures.value ∙ c.in_ok-groups.ensures.different in
    on_ok_weaker c.push_name_list.result (λ e. record {
      families = families;
      told = subst (λ ns. AreFamilies (map name_pattern (different_names ns)) families) are (subst (λ (fs : List Group). AreFamilies (map name_pattern (different_names names)) fs) (sym c.deref-5.ensures.value) c.in_ok-families.ensures.families);
      appended = e ∙ ap (λ rows. c.args.text.now.items ++ rows) (names_told names named c.deref-3.result.now c.deref-4.result.now families are different few);
    }) c.push_name_list.ensures
