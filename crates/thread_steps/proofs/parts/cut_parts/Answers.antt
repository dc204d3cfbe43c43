use Rattle.std.proofs.Common.{◌≢◌, ◌<◌, ◌+◌, ◌++◌, Vec, Global, drop, map, get_or, length, nat_lt, subst, sym, ap, ◌∙◌, arith}
use Rattle.std.proofs.lemmas.Bool.{eqb-false}
use Rattle.std.proofs.lemmas.List.Elements.{All-get_or}
use Rattle.context_forks.specs.Partners.{end_of}
use Rattle.thread_steps.specs.Parts.{grouping_of, parts_of}
use Rattle.thread_steps.specs.inner.CutParts.{part_of}
use Rattle.thread_steps.specs.declared.parts.Part.{Part}
use Rattle.thread_steps.proofs.CutLemmas.{cut_begins, cut_off, cut_on, cut_with, one_of}
use Rattle.thread_steps.proofs.parts.cut_parts.Goals as goal
use Rattle.thread_steps.proofs.parts.cut_parts.Goals.{then-goes_on, else-goes_on+in_ok-push}

pub calls-init : goal.calls-init
calls-init c =
    let is = c.part_from-part.ensures in
    let filled : length c.args.below.now ≢ 0 = eqb-false (length c.args.below.now) 0 (sym c.is_empty.ensures ∙ c.if-is_empty.false) in
    let some : 0 < length c.args.below.now = omega (arith, filled) in
    let within : get_or c.args.below.now 0 0 < length c.args.calls.now = All-get_or (λ j. j < length c.args.calls.now) c.args.below.now 0 0 some c.requires.within in
    record {
      told = cut_begins c.args.calls.now (grouping_of c.args.forking) c.args.below.now c.new-parts.result.items c.part_from-part.result some c.new-parts.ensures.items is;
      first = subst (λ (p : Part). p.first < length c.args.calls.now) (sym is) within;
      last = subst (λ (p : Part). p.last < length c.args.calls.now) (sym is) within;
    }

pub calls-preserved : goal.calls-preserved
calls-preserved c =
    let calls = c.args.calls.now in
    let grouping = grouping_of c.args.forking in
    let below = c.args.below.now in
    let at = c.calls.at in
    let within : get_or below at 0 < length calls = All-get_or (λ j. j < length calls) below at 0 c.calls-test.true c.requires.within in
    elim c.if-goes_on.branch [
      | then-goes_on w ↦
          let is = w.part-is ∙ w.part_with-part.ensures in
          record {
            told = ap (λ (ps : Vec Part Global). ps.items ++ cut_with calls grouping c.if-goes_on.part (drop (at + 1) below)) w.parts-is ∙ cut_on calls grouping c.calls.parts.items (map (part_of calls) (parts_of calls grouping below)) c.calls.part c.if-goes_on.part below at c.calls-test.true (sym c.goes_on.ensures ∙ w.if-goes_on.true) is c.calls.invariant.told;
            first = subst (λ (p : Part). p.first < length calls) (sym is) c.calls.invariant.first;
            last = subst (λ (p : Part). p.last < length calls) (sym is) (one_of (λ j. j < length calls) (nat_lt (end_of calls c.calls.part.last) (end_of calls (get_or below at 0))) (get_or below at 0) c.calls.part.last within c.calls.invariant.last);
          }
      | else-goes_on+in_ok-push w ↦
          let is = w.part-is ∙ w.part_from-part-else-goes_on.ensures in
          record {
            told = cut_off calls grouping c.calls.parts.items c.if-goes_on.parts.items (map (part_of calls) (parts_of calls grouping below)) c.calls.part c.if-goes_on.part below at c.calls-test.true (sym c.goes_on.ensures ∙ w.if-goes_on.false) (ap (λ (ps : Vec Part Global). ps.items) w.parts-is ∙ w.in_ok-push.ensures.items) is c.calls.invariant.told;
            first = subst (λ (p : Part). p.first < length calls) (sym is) within;
            last = subst (λ (p : Part). p.last < length calls) (sym is) within;
          }
    ]
