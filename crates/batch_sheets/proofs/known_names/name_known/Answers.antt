use Rattle.std.proofs.Common.{refl}
use Rattle.batch_sheets.proofs.NameLemmas.{graced}
use Rattle.batch_sheets.proofs.known_names.name_known.Goals as goal

pub returns-in-Some-clause-named : goal.returns-in-Some-clause-named
returns-in-Some-clause-named c =
    let request = rw c.in-Some.is at c.in_ok-known.ensures.request in
    let day = rw c.in-Some.is at c.in_ok-known.ensures.day in
    let latency = rw c.in-Some.is at c.in_ok-known.ensures.latency in
    let named = rw c.in-Some.is at c.in_ok-known.ensures.named in
    let now = c.with_grace.ensures in
    graced c.name.new.self.known c.in-Some.named c.with_grace.result c.args.trace.trace c.args.grace named request day latency now.changed now.request now.day now.latency now.segments

pub returns-clause-named : goal.returns-clause-named
returns-clause-named c = (refl, rw c.in-None.is at c.in_ok-known.ensures.unknown)
