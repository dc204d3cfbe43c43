use Rattle.std.proofs.Common.{length, refl, sym, ◌∙◌, subst}
use Rattle.std.proofs.lemmas.Bool.{false≢true}
use Rattle.std.proofs.lemmas.List.{take_all}
use Rattle.std.proofs.lemmas.List.Elements.{All-more}
use Rattle.std.proofs.lemmas.Option.{slice_get_read}
use Rattle.hypothesis_index.specs.Refuting.{Refutes}
use Rattle.trace_types.specs.Surviving.{Survives}
use Rattle.trace_types.specs.declared.named_trace.NamedTrace.{NamedTrace}
use Rattle.counterexamples.proofs.searching.find_among.Goals as goal

pub returns-then-refutes : goal.returns-then-refutes
returns-then-refutes c = record {
  trace = c.index-traces-index.result;
  here = slice_get_read c.args.traces.now (length c.args.traces.now) c.traces.index c.index-traces-index.result refl c.traces-test.true c.index-traces-index.is;
  refutes = c.refutes.ensures.0 c.if-refutes.true;
  none = c.traces.invariant;
}

pub traces-preserved : goal.traces-preserved
traces-preserved c =
    All-more (λ (t : NamedTrace). Refutes c.args.relation t → ⊥) c.args.traces.now c.traces.index c.index-traces-index.result c.traces-test.true c.traces.invariant
    (subst (λ (t : NamedTrace). Refutes c.args.relation t → ⊥) c.index-traces-index.is (λ h. false≢true (sym c.if-refutes.false ∙ c.refutes.ensures.1 h)))

pub returns : goal.returns
returns c = subst (Survives (Refutes c.args.relation)) (take_all c.traces.index c.args.traces.now c.traces-test.false) c.traces.invariant
