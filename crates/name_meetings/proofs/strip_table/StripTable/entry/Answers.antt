use Rattle.name_meetings.specs.inner.Pairs.{onward_of, turned_of}
use Rattle.name_meetings.proofs.StripLemmas.{entry_is}
use Rattle.name_meetings.proofs.strip_table.StripTable.entry.Goals as goal

pub returns-clause-onward : goal.returns-clause-onward
returns-clause-onward g c = entry_is (onward_of g.G.Gap.value) c.args.self.now.names c.args.self.now.strips.items c.args.one c.args.other c.args.self.now.whole c.requires.one c.requires.other c.requires.near
    c.index-strip.result.now c.index-strip.ensures c.width.result c.steps_between.result c.width.ensures c.steps_between.ensures.is c.index.result.now c.index.ensures

pub returns-clause-turned : goal.returns-clause-turned
returns-clause-turned g c = entry_is (turned_of g.G.Gap.value) c.args.self.now.names c.args.self.now.strips.items c.args.one c.args.other c.args.self.now.whole c.requires.one c.requires.other c.requires.near
    c.index-strip.result.now c.index-strip.ensures c.width.result c.steps_between.result c.width.ensures c.steps_between.ensures.is c.index.result.now c.index.ensures
