use Rattle.std.proofs.Common.{◌≡◌, ◌↔◌, Bool, true, sym, subst}
use Rattle.std.specs.Borrow.{Bor}
use Rattle.trace_types.specs.Parts.{by_number}
use Rattle.trace_types.specs.Refuting.{RefutesApart}
use Rattle.trace_types.specs.declared.named_segment.NamedSegment.{NamedSegment}
use Rattle.counterexamples.specs.inner.Named.{AreOf}
use Rattle.counterexamples.proofs.ElementLemmas.{told_by_some}
use Rattle.counterexamples.proofs.NameLemmas.{has_both}
use Rattle.counterexamples.proofs.names.refutes_apart.Goals as goal

pub returns : goal.returns
returns c =
    let trace = c.args.trace.now in
    subst (λ (b : Bool). (b ≡ true) ↔ RefutesApart by_number c.args.low c.args.high trace) (sym c.is_some.ensures)
    (told_by_some (λ (both : Bor NamedSegment × Bor NamedSegment). AreOf trace c.args.low c.args.high both.0.now both.1.now) (RefutesApart by_number c.args.low c.args.high trace) c.segments_of.result c.segments_of.ensures
    (λ both are. has_both (λ (x : NamedSegment) (y : NamedSegment). Unit {0}) trace c.args.low c.args.high both.0.now both.1.now are tt))
