use Rattle.std.proofs.Common.{◌≡◌, ◌+◌, ◌*◌, ◌<◌, Bor, List, [], ◌∷◌, ◌++◌, length, length-take-le, map, take, get_or, replicate, rules, refl, sym, ap, ◌∙◌, subst, arith}
use Rattle.std.proofs.lemmas.List.{get_or-map, length-map, take_more}
use Rattle.evidence_rules.specs.declared.sharing.Sharing.{Sharing}
use Rattle.trace_types.specs.declared.named_trace.NamedTrace.{NamedTrace}
use Rattle.task_sharings.specs.inner.Tables.{IsTableSoFar}
use Rattle.task_sharings.proofs.PlaceLemmas.{table_none, written_back}
use Rattle.task_sharings.proofs.table.share_all.Goals as goal

pub traces-init : goal.traces-init
traces-init c =
    let all = length c.args.traces.now in
    let count = c.args.tasks * c.args.tasks in
    let items : c.in_ok-figures.figures.items ≡ replicate count (record { traces = 0; elements = 0; refuted = 0; first_refuted = all }) = search rules in
    subst (IsTableSoFar all c.args.tasks []) (sym items) (table_none all c.args.tasks count refl)

pub traces-preserved : goal.traces-preserved
traces-preserved c =
    let lent : List (Bor NamedTrace) = c.args.traces.now in
    let now = λ (t : Bor NamedTrace). t.now in
    let traces : List NamedTrace = map now lent in
    let all = length lent in
    let tasks = c.args.tasks in
    let at = c.traces.index in
    let x : Bor NamedTrace = c.index-traces-index.result in
    let old : List Sharing = c.traces.figures.items in
    let new : List Sharing = c.note_trace.new.figures in
    let long = length-map lent now in
    let inside : at < length lent = omega (arith, c.traces-test.true, c.traces.auto.index-end) in
    let within : at < length traces = omega (arith, inside, long) in
    let e : get_or traces at x.now ≡ x.now = get_or-map now lent at x x.now inside ∙ sym (ap now c.index-traces-index.is) in
    let many : length (take at traces) ≡ at = let l = length-take-le at traces (omega (arith, within)) in omega (arith, l) in
    let grown : take at traces ++ x.now ∷ [] ≡ take (at + 1) traces = ap (λ (t : NamedTrace). take at traces ++ t ∷ []) (sym e) ∙ sym (take_more traces at x.now within) in
    let table : IsTableSoFar all tasks (take at traces ++ x.now ∷ []) new = c.in_ok-note_trace.ensures all (take at traces) many (subst (IsTableSoFar all tasks (take at traces)) (sym c.as_mut_slice.ensures.value) c.traces.invariant) in
    subst (IsTableSoFar all tasks (take (at + 1) traces)) (sym (written_back c.traces.figures.len old new c.traces.figures.ok.0 (table.long ∙ sym c.traces.invariant.long)))
    (subst (λ (ts : List NamedTrace). IsTableSoFar all tasks ts new) grown table)
