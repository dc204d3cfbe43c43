use Rattle.std.proofs.Common.{arith, ◌≡◌, ℕ, ◌+◌, ◌/◌, ◌<◌, ◌++◌, IfOk, length, subst}
use Rattle.word_rule.specs.Holdings.{together}
use Rattle.trace_pass.specs.inner.Parts.{PartState, part_of}
use Rattle.trace_pass.specs.inner.Working.{HasRecorded, HasStoppedAt}
use Rattle.trace_pass.proofs.PartLemmas.{block_kept, block_kept_as, block_recorded_as, cut_as, halves_as, if_err_of, if_ok_both}
use Rattle.trace_pass.proofs.blocks.+fn-offer_block-join+arg2+fn-offer_block-join+arg3+offer_block.Goals as goal

pub returns-in_default-clause-fault : goal.returns-in_default-clause-fault
returns-in_default-clause-fault g t c =
    let recorder = c.args.recorder.now in let every = c.args.every in let worker = c.args.worker in let old : PartState = c.args.part in
    let mine : PartState = part_of c.mine.inside.pass c.mine.inside.given.now c.mine.inside.recorded c.mine.inside.names in
    let theirs : PartState = part_of c.other.inside.pass c.other.inside.given.now c.other.inside.recorded c.other.inside.names in
    let several : 1 < old.pass.view.shares = subst (λ (n : ℕ). 1 < n) c.shares-shares.ensures.shares (let many = c.if-shares-lt2.false in omega arith) in
    let halves = halves_as recorder worker old mine theirs c.halve-mine.result.0 c.halve-mine.result.1 c.mine.view_is c.other.view_is c.halve-mine.ensures.halves in
    let cut = cut_as old mine theirs c.halve-mine.result.0 c.halve-mine.result.1 c.mine.view_is c.other.view_is c.halve-mine.ensures.cut in
    let first = c.in-Ok.first in
    let a : HasRecorded recorder every worker mine first.0 first.1.items =
    subst (λ r. IfOk r (λ r. HasRecorded recorder every worker mine r.0 r.1.items)) c.in-Ok.is c.join-first.ensures.first.0 in
    block_kept recorder every worker old mine theirs several halves cut first.0 first.1.items a

pub returns-clause-ok : goal.returns-clause-ok
returns-clause-ok g t c =
    let recorder = c.args.recorder.now in let every = c.args.every in let worker = c.args.worker in let old : PartState = c.args.part in
    let mine : PartState = part_of c.mine.inside.pass c.mine.inside.given.now c.mine.inside.recorded c.mine.inside.names in
    let theirs : PartState = part_of c.other.inside.pass c.other.inside.given.now c.other.inside.recorded c.other.inside.names in
    let several : 1 < old.pass.view.shares = subst (λ (n : ℕ). 1 < n) c.shares-shares.ensures.shares (let many = c.if-shares-lt2.false in omega arith) in
    let halves = halves_as recorder worker old mine theirs c.halve-mine.result.0 c.halve-mine.result.1 c.mine.view_is c.other.view_is c.halve-mine.ensures.halves in
    let cut = cut_as old mine theirs c.halve-mine.result.0 c.halve-mine.result.1 c.mine.view_is c.other.view_is c.halve-mine.ensures.cut in
    let first = c.in-Ok.first in
    let a : HasRecorded recorder every worker mine first.0 first.1.items =
    subst (λ r. IfOk r (λ r. HasRecorded recorder every worker mine r.0 r.1.items)) c.in-Ok.is c.join-first.ensures.first.0 in
    let second = c.in-Ok-second.second in
    let b : HasRecorded recorder every (worker + c.shares-shares.result / 2) theirs second.0 second.1.items =
    subst (λ r. IfOk r (λ r. HasRecorded recorder every (worker + c.shares-shares.result / 2) theirs r.0 r.1.items)) c.in-Ok-second.is c.join-first.ensures.second.0 in
    let next : HasRecorded recorder every (worker + old.pass.view.shares / 2) theirs second.0 second.1.items =
    subst (λ (n : ℕ). HasRecorded recorder every (worker + n / 2) theirs second.0 second.1.items) c.shares-shares.ensures.shares b in
    if_ok_both (λ r. r.0 ≡ together first.0 second.0) (λ r. r.1.items ≡ first.1.items ++ second.1.items) (λ r. HasRecorded recorder every worker old r.0 r.1.items) c.join_halves.result
    (λ r pass lines. block_recorded_as recorder every worker old mine theirs several halves cut r.0 first.0 second.0 r.1.items first.1.items second.1.items pass lines a next)
    c.join_halves.ensures.pass c.join_halves.ensures.lines

pub returns-clause-fault : goal.returns-clause-fault
returns-clause-fault g t c =
    let recorder = c.args.recorder.now in let every = c.args.every in let worker = c.args.worker in let old : PartState = c.args.part in
    let mine : PartState = part_of c.mine.inside.pass c.mine.inside.given.now c.mine.inside.recorded c.mine.inside.names in
    let theirs : PartState = part_of c.other.inside.pass c.other.inside.given.now c.other.inside.recorded c.other.inside.names in
    let several : 1 < old.pass.view.shares = subst (λ (n : ℕ). 1 < n) c.shares-shares.ensures.shares (let many = c.if-shares-lt2.false in omega arith) in
    let halves = halves_as recorder worker old mine theirs c.halve-mine.result.0 c.halve-mine.result.1 c.mine.view_is c.other.view_is c.halve-mine.ensures.halves in
    let cut = cut_as old mine theirs c.halve-mine.result.0 c.halve-mine.result.1 c.mine.view_is c.other.view_is c.halve-mine.ensures.cut in
    let first = c.in-Ok.first in
    let a : HasRecorded recorder every worker mine first.0 first.1.items =
    subst (λ r. IfOk r (λ r. HasRecorded recorder every worker mine r.0 r.1.items)) c.in-Ok.is c.join-first.ensures.first.0 in
    let kept = length c.mine.inside.given.now in
    if_err_of (λ f. (f.pass ≡ first.0) × (f.recorded ≡ kept)) (λ f. HasStoppedAt recorder old f.pass f.recorded) c.join_halves.result
    (λ f is. block_kept_as recorder every worker old mine theirs several halves cut f.pass first.0 f.recorded first.1.items is.0 is.1 a)
    c.join_halves.ensures.fault
