use Rattle.std.proofs.Common.{◌∙◌, ℕ, None, get_or, sym}
use Rattle.context_forks.specs.Forks.{callers_of}
use Rattle.context_forks.specs.Partners.{reaches_out}
use Rattle.context_forks.proofs.MarkLemmas.{marked_no, marked_yes}
use Rattle.context_forks.proofs.marks.mark_reaching.Goals as goal
use Rattle.context_forks.proofs.marks.mark_reaching.Goals.{then-reaches_out, else-reaches_out}

pub loop-at-preserved : goal.loop-at-preserved
loop-at-preserved c =
    let calls = c.args.calls.now in
    let numbers = c.args.numbers.now in
    let q = λ (i : ℕ). reaches_out calls c.args.grace (get_or (callers_of calls) i None) i in
    let old = c.args.forked.now in
    let mid = c.loop-at.forked in
    let new = c.if-reaches_out.forked in
    elim c.if-reaches_out.branch [
      | then-reaches_out w ↦ record {
        size = c.if-reaches_out.auto.forked ∙ c.loop-at.invariant.size;
        marked = marked_yes q numbers c.loop-at.at old mid new c.loop-at.invariant.marked c.loop-at.invariant.size (sym w.if-reaches_out.ensures) w.forked-is;
      }
      | else-reaches_out w ↦ record {
        size = c.if-reaches_out.auto.forked ∙ c.loop-at.invariant.size;
        marked = marked_no q numbers c.loop-at.at old mid new c.loop-at.invariant.marked (sym w.if-reaches_out.ensures) w.forked-is;
      }
    ]
