use Rattle.std.proofs.Common.{◌≢◌, ◌∙◌, refl, rules}
use Rattle.segment_cut.specs.declared.trace_fault.TraceFault.TheVariants.{Memory}
use Rattle.batch_sheets.proofs.JudgeLemmas.{judges_refused, judges_valid}
use Rattle.batch_sheets.proofs.judging.judge.Goals as goal

pub returns-in_ok-push-in-Ok : goal.returns-in_ok-push-in-Ok
returns-in_ok-push-in-Ok c =
    let is = c.in-Ok.ensures in
    judges_valid c.args.raw.now.texts c.args.raw.now.trace c.args.judged.now (record { valid = c.push.new.self; refused = c.args.judged.now.refused }) c.in-Ok.trace is.ok is.texts is.few c.in_ok-push-in-Ok.ensures.items refl

pub returns-in_ok-push-in-Err : goal.returns-in_ok-push-in-Err
returns-in_ok-push-in-Err c =
    let other : c.in-Err.fault ≢ Memory = search rules in
    judges_refused c.args.raw.now.texts c.args.raw.now.trace c.args.judged.now (record { valid = c.args.judged.now.valid; refused = c.push-in-Err.new.self }) c.in_ok-request-in-Err.request c.in-Err.fault (c.in-Err.ensures.err other) (c.in_ok-request-in-Err.ensures ∙ c.request.ensures)
    refl c.in_ok-push-in-Err.ensures.items
