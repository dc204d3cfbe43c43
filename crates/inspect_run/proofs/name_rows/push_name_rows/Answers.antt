use Rattle.std.proofs.Common.{◌≡◌, ◌∙◌}
use Rattle.std.proofs.lemmas.Result.{on_ok_weaker}
use Rattle.name_quality.specs.Names.{all_names, names_under}
use Rattle.inspect_run.proofs.NameRowLemmas.{both_told}
use Rattle.inspect_run.proofs.name_rows.push_name_rows.Goals as goal

pub returns : goal.returns
returns c =
    let traces = c.args.traces.now.traces in
    let is = c.in_ok-names.ensures in
    let first : names_under c.texts.result.now c.deref.result.now ≡ all_names is.named = (λ i. names_under (c.texts.ensures i) (c.deref.ensures.value i)) ∙ is.are in
    let second : names_under c.texts-2.result.now c.deref-2.result.now ≡ all_names is.named = (λ i. names_under (c.texts-2.ensures i) (c.deref-2.ensures.value i)) ∙ is.are in
    on_ok_weaker c.push_tasks.result
    (λ t. both_told traces is.named (names_under c.texts-2.result.now c.deref-2.result.now) c.args.text.now.items c.push_names.new.text.items c.push_tasks.new.text.items is.each second (c.in_ok-push_names.ensures traces is.named is.each first) t) c.push_tasks.ensures
