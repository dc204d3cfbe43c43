use Rattle.std.proofs.Common.{◌≡◌, ◌<◌, length, get_or, None, Option, Some, subst, arith, ◌∙◌}
use Rattle.std.specs.Prelude.{IfSome}
use Rattle.trace_quality.specs.Facts.{IsFacts}
use Rattle.trace_quality.specs.declared.trace_facts.TraceFacts.{TraceFacts}
use Rattle.trace_quality.proofs.FactLemmas.{facts_all, facts_more, some_at}
use Rattle.trace_quality.proofs.finding.list_found.Goals as goal

pub places-preserved : goal.places-preserved
places-preserved c =
    let traces = c.args.gathered.now.traces in
    let at = c.places.index in
    let inside : at < length traces = omega (arith, c.places-test.true, c.places.auto.index-end, c.requires.long) in
    let t = some_at traces at inside in
    let f : TraceFacts = c.in-Some.one in
    let found : get_or c.args.found.now at None ≡ Some f = c.in-Some.is in
    let is = subst (λ (o : Option TraceFacts). IfSome o (λ (g : TraceFacts). IsFacts t.0 g)) found (c.requires.each at None inside t.0 t.1) in
    facts_more traces c.places.facts.items at c.places.invariant t.0 f c.push.new.self.items t.1 is c.in_ok-push.ensures.items

pub returns : goal.returns
returns c = facts_all c.args.gathered.now.traces c.places.facts.items c.places.index c.places.invariant (omega (arith, c.places-test.false, c.places.auto.index-end, c.requires.long))
