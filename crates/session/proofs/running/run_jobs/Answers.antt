use Rattle.std.proofs.Common.{◌≡◌, List, [], ◌∷◌, ◌++◌, length, ap, refl, sym, subst, ◌∙◌, append-nil, append_assoc, arith, rules}
use Rattle.std.specs.Vec.Iter.{into_iter_items}
use Rattle.std.proofs.lemmas.Result.{err_from_is_err_and}
use Rattle.session.proofs.JobRunLemmas.{fault_ends, more_done, more_kept, none_done, none_kept, nothing_left, unbegun}
use Rattle.session.proofs.running.run_jobs.Goals as goal
use Rattle.session_rules.specs.JobTexts.{IsText}
use Rattle.session_rules.specs.declared.job.Job.{Job}
use Rattle.session.specs.Carrying.{kept_count}

pub returns-in_default-clause-fault : goal.returns-in_default-clause-fault
returns-in_default-clause-fault g c = λ digest table. unbegun c.args.workers digest c.args.jobs.items _

pub loop-job-init : goal.loop-job-init
loop-job-init g c = record {
  so_far = refl;
  left = search rules;
  done = λ digest table. none_done c.args.workers digest c.in-Ok.session _ (c.in-Ok.ensures.first digest table);
  few =
      let some = c.requires.table in
      none_kept some.0 c.in-Ok.session (c.in-Ok.ensures.first some.0 some.1);
  workers = c.in-Ok.ensures.workers;
  counted = refl;
}

pub loop-job-preserved : goal.loop-job-preserved
loop-job-preserved g c =
    let at = c.loop-job in
    let job = c.in-Some.job in
    let steps : into_iter_items at.job-iterator ≡ job ∷ into_iter_items c.next.new.self = c.in-Some.ensures.steps.0 in
    let call = c.in_ok-session.ensures in record {
      so_far = rw append_assoc (rw steps at at.invariant.so_far);
      left =
          let was = at.invariant.left in
          let gone = c.in-Some.ensures.steps.1 in
          let short = ap length steps in
          omega arith;
      done = λ digest table.
          let was = at.invariant.done digest table in
          more_done c.args.workers digest at.yielded job at.session c.in_ok-session.session _ _ _ was at.invariant.workers (call.carried was.last was.shows);
      few = more_kept at.yielded job (kept_count at.session) (kept_count c.in_ok-session.session) at.invariant.few call.kept;
      workers = call.workers ∙ at.invariant.workers;
      counted = rw call.counted at.invariant.counted;
    }

pub returns-in_err-session-clause-fault : goal.returns-in_err-session-clause-fault
returns-in_err-session-clause-fault g c =
    let at = c.loop-job in
    let job = c.in-Some.job in
    let steps : into_iter_items at.job-iterator ≡ job ∷ into_iter_items c.next.new.self = c.in-Some.ensures.steps.0 in
    let all : at.yielded ++ (job ∷ into_iter_items c.next.new.self) ≡ c.args.jobs.items = rw (← steps) at.invariant.so_far ∙ c.into_iter-job-iterator.ensures.into_iter_gives.0 in
    let p = err_from_is_err_and c.from_residual.result c.from_residual.ensures.1 in
    rw (p.1, p.2) (λ digest table.
    let was = at.invariant.done digest table in
    fault_ends c.args.workers digest at.yielded (into_iter_items c.next.new.self) job c.args.jobs.items at.session _ _ _ all was c.in_err-session.field-0.0 at.invariant.workers
    (c.in_err-session.ensures.cause was.last was.shows))

pub returns-clause-whole : goal.returns-clause-whole
returns-clause-whole g c = λ digest table.
    let at = c.loop-job in
    let none = c.in-None.ensures.steps in
    let empty : into_iter_items at.job-iterator ≡ [] = nothing_left _ (sym at.invariant.left ∙ none.0) in
    let all : at.yielded ≡ c.args.jobs.items = sym (append-nil at.yielded) ∙ rw empty at at.invariant.so_far ∙ c.into_iter-job-iterator.ensures.into_iter_gives.0 in
    let was = at.invariant.done digest table in
    (was.last, was.text, subst (λ (js : List Job). IsText c.args.workers digest js was.last was.text) all was.told, was.written)
