use Rattle.std.proofs.Common.{◌≡◌, ◌-◌, ◌/◌, ◌<◌, ◌≤◌, ℕ, length, ap, sym, subst, ◌∙◌}
use Rattle.word_rows.specs.Changes.{new_view}
use Rattle.word_rule.specs.Holdings.{Holding, with_view}
use Rattle.trace_rules.specs.Halving.{first_part}
use Rattle.trace_pass.specs.inner.Parts.{PartState, recording_of, rest_of}
use Rattle.trace_pass.specs.inner.Working.{AreHalves, CanOffer}
use Rattle.trace_pass.proofs.PartLemmas.{halved}
use Rattle.trace_pass.proofs.blocks.halve.Goals as goal

pub returns-clause-halves : goal.returns-clause-halves
returns-clause-halves c =
    let mine = c.part.inside in
    let recorder = c.args.recorder.now in let worker = c.args.worker in
    let seen : PartState = record { pass = mine.pass; given = mine.given.now; recorded = mine.recorded; names = mine.names } in
    let shares : c.shares-shares.result ≡ mine.pass.view.shares = c.shares-shares.ensures.shares ∙ sym (ap (λ (p : PartState). p.pass.view.shares) c.part.view_is) in
    let left : c.left.result ≡ length (rest_of seen) = c.left.ensures.left ∙ sym (ap (λ (p : PartState). length (rest_of p)) c.part.view_is) in
    let n = c.count_first-first.result in
    let part : n ≡ first_part (length (rest_of seen)) mine.pass.view.shares =
    c.count_first-first.ensures.part ∙ ap (λ (m : ℕ). first_part m c.shares-shares.result) left ∙ ap (first_part (length (rest_of seen))) shares in
    let within : n ≤ length (rest_of seen) = subst (λ (m : ℕ). n ≤ m) left c.count_first-first.ensures.within in
    let several : 1 < mine.pass.view.shares = subst (λ (p : PartState). 1 < p.pass.view.shares) (sym c.part.view_is) c.requires.several in
    let can : CanOffer recorder (recording_of seen) (rest_of seen) worker = subst (λ (p : PartState). CanOffer recorder (recording_of p) (rest_of p) worker) (sym c.part.view_is) c.requires.can in
    let k = c.shares-shares.result - c.shares-shares.result / 2 in
    let less : k ≡ mine.pass.view.shares - mine.pass.view.shares / 2 = ap (λ (m : ℕ). m - m / 2) shares in
    let halves = halved recorder worker n k seen c.split_at.result.0.now c.split_at.result.1.now part within c.split_at.ensures.front c.split_at.ensures.back less several can in
    let first_of : Holding → PartState = λ h. record { pass = h; given = c.split_at.result.0.now; recorded = mine.recorded; names = mine.names } in
    let other_of : Holding → PartState = λ h. record { pass = h; given = c.split_at.result.1.now; recorded = 0; names = mine.names } in
    let other_pass : Holding = with_view mine.pass (new_view k mine.pass.view) in
    let first : PartState = first_of c.split-other.new.pass in
    let other : PartState = other_of c.split-other.result in
    subst (λ (p : PartState). AreHalves recorder worker (recording_of p) (rest_of p) (recording_of first) (rest_of first) (recording_of other) (rest_of other)) c.part.view_is
    (subst (λ (h : Holding). AreHalves recorder worker (recording_of seen) (rest_of seen) (recording_of first) (rest_of first) (recording_of (other_of h)) (rest_of (other_of h))) (sym c.split-other.ensures.new)
    (subst (λ (h : Holding). AreHalves recorder worker (recording_of seen) (rest_of seen) (recording_of (first_of h)) (rest_of (first_of h)) (recording_of (other_of other_pass)) (rest_of (other_of other_pass))) (sym c.split-other.ensures.old) halves))
