use Rattle.std.proofs.Common.{◌≡◌, map, set, sym, ap, ap₂, ◌∙◌, subst, rules}
use Rattle.std.proofs.lemmas.List.{get_or-map, map-set}
use Rattle.evidence_rules.specs.declared.between.Between.{Between}
use Rattle.evidence_rules.specs.declared.meeting.Meeting.{Meeting}
use Rattle.name_meetings.specs.Tables.{no_figures}
use Rattle.name_meetings.specs.inner.Adding.{IsCounted, turned_round, with_meeting}
use Rattle.name_meetings.specs.inner.Noting.{onward_meeting}
use Rattle.name_meetings.specs.inner.Pairs.{meeting_of, onward_of, turned_of}
use Rattle.name_meetings.proofs.noting.note_meeting.Goals as goal

pub note-requires-clause-counted : goal.note-requires-clause-counted
note-requires-clause-counted g c = λ κs live.
    let value = g.G.Gap.value in
    subst (λ (f : Between). IsCounted f 4294967294) (get_or-map (onward_of value) c.args.figures.now c.args.place c.index-figures-place.result no_figures c.requires.within) c.requires.few

pub returns-clause-onward : goal.returns-clause-onward
returns-clause-onward g c =
    let value = g.G.Gap.value in
    let figures = c.args.figures.now in
    let place = c.args.place in
    let met : Meeting = onward_meeting c.args.index c.args.trace.now c.args.one.now c.args.other.now in
    let same : meeting_of value (record { trace = c.args.index; grace = c.args.trace.now.grace; gap = c.between.result; back = c.between-2.result }) ≡ met = search rules in
    map-set (onward_of value) figures place c.note.new.self
    ∙ ap (λ (f : Between). set (map (onward_of value) figures) place f)
    (c.note.ensures.onward ∙ ap₂ with_meeting (sym (get_or-map (onward_of value) figures place c.index-figures-place.result no_figures c.requires.within)) same)

pub returns-clause-turned : goal.returns-clause-turned
returns-clause-turned g c =
    let value = g.G.Gap.value in
    let figures = c.args.figures.now in
    let place = c.args.place in
    let met : Meeting = onward_meeting c.args.index c.args.trace.now c.args.one.now c.args.other.now in
    let same : meeting_of value (record { trace = c.args.index; grace = c.args.trace.now.grace; gap = c.between.result; back = c.between-2.result }) ≡ met = search rules in
    map-set (turned_of value) figures place c.note.new.self
    ∙ ap (λ (f : Between). set (map (turned_of value) figures) place f)
    (c.note.ensures.turned ∙ ap₂ (λ (f : Between) (m : Meeting). with_meeting f (turned_round m)) (sym (get_or-map (turned_of value) figures place c.index-figures-place.result no_figures c.requires.within)) same)
