use Rattle.std.proofs.Common.{◌≡◌, ◌<◌, ◌+◌, ◌++◌, ◌∷◌, [], List, length, map, take, arith, sym, ap, ◌∙◌, subst, rules}
use Rattle.std.specs.Borrow.{Bor}
use Rattle.std.proofs.lemmas.List.{map-append, take_all, take_more}
use Rattle.std.proofs.lemmas.Slice.Zip.{AllZip-long}
use Rattle.model_meet.specs.ModelStates.{ModelState}
use Rattle.model_meet.specs.RelationBits.{KeepsExclusion}
use Rattle.trace_figures.specs.Measured.{IsMeasured}
use Rattle.trace_figures.specs.declared.trace_figures.TraceFigures.{TraceFigures}
use Rattle.trace_types.specs.declared.named_trace.NamedTrace.{NamedTrace}
use Rattle.gain_table.specs.GainRows.{AreGainRows}
use Rattle.gain_table.specs.declared.gain_row.GainRow.{GainRow}
use Rattle.gain_table.specs.inner.Growing.{HaveGrown}
use Rattle.gain_table.proofs.SumLemmas.{lent_at, more_half, more_none, rows_more, written}
use Rattle.gain_table.proofs.sums.sum_gains.Goals as goal

-- the figures of a lent trace
abbrev IsOf : ModelState → Bor NamedTrace → TraceFigures → Type 0
IsOf model t f = IsMeasured model t.now f

pub offset_bounds-figures-index : goal.offset_bounds-figures-index
offset_bounds-figures-index c =
    let long = AllZip-long (IsOf c.requires.measured.0) c.args.traces.now c.args.figures.now c.requires.measured.1 in
    let within : c.traces.index < length c.args.figures.now = omega (arith, long, c.traces-test.true) in
    search rules

pub bounds-figures-index : goal.bounds-figures-index
bounds-figures-index c =
    let long = AllZip-long (IsOf c.requires.measured.0) c.args.traces.now c.args.figures.now c.requires.measured.1 in
    omega (arith, long, c.traces-test.true)

pub add_gains-requires-clause-measured : goal.add_gains-requires-clause-measured
add_gains-requires-clause-measured c =
    let model = c.requires.measured.0 in
    (model, lent_at (IsOf model) c.args.traces.now c.args.figures.now c.traces.index c.index-traces-index.result c.index-figures-index.result c.requires.measured.1 c.traces-test.true c.index-traces-index.is c.index-figures-index.is)

pub traces-preserved : goal.traces-preserved
traces-preserved c =
    let old = c.traces.rows.items in
    let new = c.add_gains.new.rows in
    let kept : length new ≡ c.traces.rows.len = c.add_gains.auto.rows ∙ c.deref_mut.ensures.len in
    let same = written c.traces.rows.len new old kept in
    let grown : HaveGrown c.index-traces-index.result.now c.index-figures-index.result (length c.index-figures-index.result.order) old new = subst (λ (rs : List GainRow). HaveGrown c.index-traces-index.result.now c.index-figures-index.result (length c.index-figures-index.result.order) rs new) c.deref_mut.ensures.value c.add_gains.ensures in
    let count : length old ≡ c.args.names = c.traces.invariant.count in
    rw same (record {
      count = grown.rows ∙ count;
      none = λ name lt. more_none c.index-traces-index.result.now c.index-figures-index.result (length c.index-figures-index.result.order) old new c.traces.index name grown (omega arith) (c.traces.invariant.none name lt);
      half = λ name lt. more_half c.index-traces-index.result.now c.index-figures-index.result (length c.index-figures-index.result.order) old new c.traces.index name grown (omega arith) (c.traces.invariant.half name lt);
      sums = λ model all.
          let one = lent_at (IsOf model) c.args.traces.now c.args.figures.now c.traces.index c.index-traces-index.result c.index-figures-index.result all c.traces-test.true c.index-traces-index.is c.index-figures-index.is in
          let now = λ (t : Bor NamedTrace). t.now in
          let part : map now (take c.traces.index c.args.traces.now) ++ c.index-traces-index.result.now ∷ [] ≡ map now (take (c.traces.index + 1) c.args.traces.now) =
          sym (ap (map now) (take_more c.args.traces.now c.traces.index c.index-traces-index.result c.traces-test.true ∙ ap (λ (t : Bor NamedTrace). take c.traces.index c.args.traces.now ++ t ∷ []) (sym c.index-traces-index.is)) ∙ map-append now (take c.traces.index c.args.traces.now) (c.index-traces-index.result ∷ [])) in
          subst (λ (ts : List NamedTrace). AreGainRows (KeepsExclusion model.words) ts c.args.names new) part
          (rows_more model (map now (take c.traces.index c.args.traces.now)) c.index-traces-index.result.now c.index-figures-index.result c.args.names old new one (c.traces.invariant.sums model all) grown);
    })

pub returns : goal.returns
returns c = λ model all.
    subst (λ (ts : List (Bor NamedTrace)). AreGainRows (KeepsExclusion model.words) (map (λ (t : Bor NamedTrace). t.now) ts) c.args.names c.traces.rows.items)
    (take_all c.traces.index c.args.traces.now c.traces-test.false) (c.traces.invariant.sums model all)
