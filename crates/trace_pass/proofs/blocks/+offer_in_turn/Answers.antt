use Rattle.std.proofs.Common.{arith, ◌≡◌, ◌+◌, ◌/◌, ◌<◌, ◌++◌, ℕ, length, ap, subst, ◌∙◌}
use Rattle.word_rule.specs.Holdings.{together}
use Rattle.trace_pass.specs.inner.Parts.{PartState}
use Rattle.trace_pass.specs.inner.Working.{HasRecorded, HasStoppedAt}
use Rattle.trace_pass.proofs.PartLemmas.{block_kept_as, block_recorded_as, if_err_of, if_ok_both}
use Rattle.trace_pass.proofs.blocks.+offer_in_turn.Goals as goal

pub returns-clause-ok : goal.returns-clause-ok
returns-clause-ok g t c =
    let recorder = c.args.recorder.now in let every = c.args.every in let worker = c.args.worker in let old : PartState = c.args.part in
    let mine : PartState = c.halve-mine.result.0 in let theirs : PartState = c.halve-mine.result.1 in
    let several : 1 < old.pass.view.shares = subst (λ (n : ℕ). 1 < n) c.shares-shares.ensures.shares (let many = c.if-shares-lt2.false in omega arith) in
    let first = c.in-Ok.first in let second = c.in-Ok-offer_in_turn.second in
    let b : HasRecorded recorder every (worker + old.pass.view.shares / 2) theirs second.0 second.1.items =
    subst (λ (n : ℕ). HasRecorded recorder every (worker + n / 2) theirs second.0 second.1.items) c.shares-shares.ensures.shares c.in-Ok-offer_in_turn.ensures.ok in
    if_ok_both (λ r. r.0 ≡ together first.0 second.0) (λ r. r.1.items ≡ first.1.items ++ second.1.items) (λ r. HasRecorded recorder every worker old r.0 r.1.items) c.join_halves.result
    (λ r pass lines. block_recorded_as recorder every worker old mine theirs several c.halve-mine.ensures.halves c.halve-mine.ensures.cut r.0 first.0 second.0 r.1.items first.1.items second.1.items pass lines c.in-Ok.ensures.ok b)
    c.join_halves.ensures.pass c.join_halves.ensures.lines

pub returns-clause-fault : goal.returns-clause-fault
returns-clause-fault g t c =
    let recorder = c.args.recorder.now in let every = c.args.every in let worker = c.args.worker in let old : PartState = c.args.part in
    let mine : PartState = c.halve-mine.result.0 in let theirs : PartState = c.halve-mine.result.1 in
    let several : 1 < old.pass.view.shares = subst (λ (n : ℕ). 1 < n) c.shares-shares.ensures.shares (let many = c.if-shares-lt2.false in omega arith) in
    let first = c.in-Ok.first in let kept = length c.mine.inside.given.now in
    let long : kept ≡ length mine.given = ap (λ (p : PartState). length p.given) c.mine.view_is in
    if_err_of (λ f. (f.pass ≡ first.0) × (f.recorded ≡ kept)) (λ f. HasStoppedAt recorder old f.pass f.recorded) c.join_halves.result
    (λ f is. block_kept_as recorder every worker old mine theirs several c.halve-mine.ensures.halves c.halve-mine.ensures.cut f.pass first.0 f.recorded first.1.items is.0 (is.1 ∙ long) c.in-Ok.ensures.ok)
    c.join_halves.ensures.fault
