use Rattle.std.proofs.Common.{◌≡◌, ◌∙◌, ℕ, Vec, Global, ap, length, sym, subst}
use Rattle.std.specs.List.{range_with_len}
use Rattle.std.proofs.lemmas.List.FromFn.{length-range_with_len}
use Rattle.std.proofs.lemmas.Result.{IfOk-weaker}
use Rattle.linked_groups.specs.Groups.{AreLinksBelow, groups_of}
use Rattle.linked_groups.proofs.groups.find_groups.Goals as goal

pub group_all-requires-clause-first : goal.group_all-requires-clause-first
group_all-requires-clause-first c =
    let is = c.deref_mut.ensures.value ∙ c.in_ok-next.ensures in
    is ∙ ap (range_with_len 0) (sym (ap length is ∙ length-range_with_len 0 c.args.count))

pub group_all-requires-clause-links : goal.group_all-requires-clause-links
group_all-requires-clause-links c =
    let is = c.deref_mut.ensures.value ∙ c.in_ok-next.ensures in
    subst (λ m. AreLinksBelow m c.args.links.now) (sym (ap length is ∙ length-range_with_len 0 c.args.count)) c.requires

pub returns : goal.returns
returns c =
    let is = c.deref_mut.ensures.value ∙ c.in_ok-next.ensures in
    IfOk-weaker c.group_all.result _ _ (λ (v : Vec ℕ Global) (h : v.items ≡ groups_of (length c.deref_mut.result.now) c.args.links.now).
    h ∙ ap (λ m. groups_of m c.args.links.now) (ap length is ∙ length-range_with_len 0 c.args.count)) c.group_all.ensures
