use Rattle.std.proofs.Common.{sym, ap, ◌∙◌, ◌∷◌}
use Rattle.import_run.specs.inner.ParsedLines.{asked_view}
use Rattle.import_run.proofs.OptionLemmas.{fold_step, none_step}
use Rattle.import_run.proofs.command_line.take_option.Goals as goal

pub returns-in-text : goal.returns-in-text
returns-in-text c = fold_step (asked_view c.args.asked) c.args.words.now c.in-Some.word.now c.in-Some.later.now c.in-Some.ensures.cases.0 (sym c.as_str.ensures ∙ c.in-text.is)

pub returns-in_default-as_str : goal.returns-in_default-as_str
returns-in_default-as_str c = none_step (asked_view c.args.asked) c.args.words.now c.as_str.result.now c.in-Some.later.now (c.in-Some.ensures.cases.0 ∙ ap (λ y. y ∷ c.in-Some.later.now) (sym c.as_str.ensures)) c.in_default-as_str.not-text c.in_default-as_str.not-text-2 c.in_default-as_str.not-text-3 c.take_none-in_default-as_str.result.count (asked_view c.take_none-in_default-as_str.result.asked) c.take_none-in_default-as_str.ensures.count
