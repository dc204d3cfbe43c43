use Rattle.std.proofs.Common.{refl, arith, sym}
use Rattle.std.proofs.lemmas.Option.{none-some, slice_get_within}
use Rattle.counterexamples.specs.Findings.{IsFirstRefuter}
use Rattle.counterexamples.specs.declared.finding.Finding.{Finding}
use Rattle.counterexamples.proofs.DayLemmas.{day_within, first_found, refuted_by_one, survives_all}
use Rattle.counterexamples.proofs.searching.find.Goals as goal

pub overflow_cast-result : goal.overflow_cast-result
overflow_cast-result c =
    let within = slice_get_within c.traces.result.now c.in-Some.index c.in-Some.ensures.trace c.in-Some.ensures.here in
    let part = day_within c.args.book.now.days c.days.place c.traces.result.now c.traces.ensures in
    let few = c.days-place-end.ensures.kept.counted in
    omega arith

pub returns-in-Some-clause-none : goal.returns-in-Some-clause-none
returns-in-Some-clause-none c =
    let f : Finding = record { place = c.days.place; index = c.in-Some.index } in
    let first : IsFirstRefuter c.args.book.now.days c.args.relation f = first_found c.args.relation c.args.book.now.days c.days.place c.in-Some.index c.traces.result.now c.traces.ensures c.in-Some.ensures c.days.invariant f refl refl in (
      (λ e. absurd (none-some f (sym e))),
      (λ alive. absurd (refuted_by_one c.args.relation c.args.book.now.days f first.trace first.stands first.refutes alive)),
    )

pub returns-in-Some-clause-first : goal.returns-in-Some-clause-first
returns-in-Some-clause-first c =
    first_found c.args.relation c.args.book.now.days c.days.place c.in-Some.index c.traces.result.now c.traces.ensures c.in-Some.ensures c.days.invariant (record { place = c.days.place; index = c.in-Some.index }) refl refl

pub returns-clause-none : goal.returns-clause-none
returns-clause-none c =
    let count = c.days-place-end.ensures.count in
    let all = c.days-test.false in (
      (λ e. survives_all c.args.relation c.args.book.now.days (λ k d within at. c.days.invariant k d (omega arith) at)),
      (λ alive. refl),
    )
