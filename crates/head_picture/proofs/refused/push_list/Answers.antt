use Rattle.std.proofs.Common.{ℕ, List, ◌++◌, codes, length, ap, ◌∙◌}
use Rattle.std.specs.List.{flat_map}
use Rattle.head_picture.specs.Refusals.{reason_text, reasons_of, refused_list, refused_start}
use Rattle.head_picture.proofs.RefusedLemmas.{three_sent}
use Rattle.head_picture.proofs.refused.push_list.Goals as goal

pub returns : goal.returns
unfolding refused_list
returns c =
    let rows = c.args.rows.now in
    let all = ap (λ (reasons : List (List ℕ)). c.push_refused_start.new.bytes.items ++ flat_map (reason_text rows) reasons) (c.deref.ensures.value ∙ c.in_ok-reasons.ensures) in
    three_sent c.push_fixed.result _ _ _ _ (refused_start (length rows)) (flat_map (reason_text rows) (reasons_of rows)) (codes "</ul></div>") c.in_ok-push_refused_start.ensures (c.in_ok-push_reasons.ensures ∙ all) c.push_fixed.ensures
