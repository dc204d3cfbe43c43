use Rattle.std.proofs.Common.{MatchOption, Option, Bor, subst}
use Rattle.trace_types.specs.declared.segment.Segment.{Segment}
use Rattle.model_checks.proofs.RefuterLemmas.{IsNamed, HasNoneNamed, answer_of_two, answer_without_first, answer_without_second}
use Rattle.model_checks.proofs.refuted.refuted_by.Goals as goal

pub returns-in-Some-segment_of : goal.returns-in-Some-segment_of
returns-in-Some-segment_of c =
    let trace = c.args.trace.now in
    let own : IsNamed trace c.args.a.now c.in-Some.s.now = subst (λ (o : Option (Bor Segment)). MatchOption o (HasNoneNamed trace c.args.a.now) (λ x. IsNamed trace c.args.a.now x.now)) c.in-Some.is c.requires in
    answer_of_two trace c.args.a.now c.args.b.now c.in-Some.s.now c.in-Some-segment_of.t.now own c.in-Some-segment_of.ensures c.refuted_between.result
    c.refuted_between.ensures.apart (c.refuted_between.ensures.before trace) (c.refuted_between.ensures.after trace) c.refuted_between.ensures.exclusive

pub returns-in-None : goal.returns-in-None
returns-in-None c = answer_without_second c.args.trace.now c.args.a.now c.args.b.now c.in-None.ensures

pub returns-in_default : goal.returns-in_default
returns-in_default c =
    let trace = c.args.trace.now in
    answer_without_first trace c.args.a.now c.args.b.now
    (subst (λ (o : Option (Bor Segment)). MatchOption o (HasNoneNamed trace c.args.a.now) (λ x. IsNamed trace c.args.a.now x.now)) c.in_default.is c.requires)
