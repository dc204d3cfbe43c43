use Rattle.std.proofs.Common.{◌≡◌, ◌+◌, ◌<◌, ◌≤◌, List, length, get_or, sym, ap, ◌∙◌, subst, arith}
use Rattle.std.proofs.lemmas.List.{take_all}
use Rattle.std.proofs.lemmas.List.Elements.{All-get_or}
use Rattle.trace_types.specs.declared.named_segment.NamedSegment.{NamedSegment}
use Rattle.name_meetings.specs.inner.Noting.{IsRowAlone, IsRowAtMost, IsTimed, Meetings, TellsBoth, and_then, meetings_among, meetings_with, onward_meeting, onwards, turned_meeting}
use Rattle.name_meetings.proofs.TableLemmas.{TraceSoFar, trace_few, trace_more, trace_none, trace_skip, trace_some}
use Rattle.name_meetings.proofs.noting.note_trace.Goals.{then-first-one+then-one-first, else-first-one, else-first-one-via-then-first-one+else-one-first, else-first-one-via-else-first-one}
use Rattle.name_meetings.proofs.noting.note_trace.Goals as goal

pub ones-init : goal.ones-init
ones-init g c = trace_none c.args.names c.args.first g.G.Gap.value c.args.index c.args.trace.now c.args.figures.now c.requires.few

pub note_row-requires-clause-told : goal.note_row-requires-clause-told
note_row-requires-clause-told g c = λ κs live.
    let segments : List NamedSegment = c.args.trace.now.segments in
    let x : NamedSegment = c.index-segments-at.result in
    let inside : c.ones.at < length segments = omega (arith, c.ones-test.true, c.ones.auto.at-end, ap length c.items-segments.ensures) in
    trace_some c.args.names c.args.first g.G.Gap.value c.args.index c.args.trace.now c.args.figures.now c.ones.at inside c.ones.figures c.ones.invariant x c.requires.told

pub note_row-requires-clause-one_timed : goal.note_row-requires-clause-one_timed
note_row-requires-clause-one_timed g c = λ κs live.
    let segments : List NamedSegment = c.args.trace.now.segments in
    let at = c.ones.at in
    let x : NamedSegment = c.index-segments-at.result in
    let e : get_or segments at x ≡ x = sym (c.index-segments-at.is ∙ ap (λ (l : List NamedSegment). get_or l at x) c.items-segments.ensures) in
    let inside : at < length segments = omega (arith, c.ones-test.true, c.ones.auto.at-end, ap length c.items-segments.ensures) in
    subst (λ (t : NamedSegment). IsTimed g.G.Gap.fits t) e (All-get_or (λ (t : NamedSegment). IsTimed g.G.Gap.fits t) segments at x inside c.requires.timed)

pub note_row-requires-clause-few : goal.note_row-requires-clause-few
note_row-requires-clause-few g c = λ κs live.
    let segments : List NamedSegment = c.args.trace.now.segments in
    let at = c.ones.at in
    let x : NamedSegment = c.index-segments-at.result in
    let e : get_or segments at x ≡ x = sym (c.index-segments-at.is ∙ ap (λ (l : List NamedSegment). get_or l at x) c.items-segments.ensures) in
    let inside : at < length segments = omega (arith, c.ones-test.true, c.ones.auto.at-end, ap length c.items-segments.ensures) in
    subst (λ (t : NamedSegment). IsRowAtMost c.args.names c.args.first t.name (onwards g.G.Gap.value c.ones.figures) c.args.index) e
    (trace_few c.args.names c.args.first g.G.Gap.value c.args.index c.args.trace.now c.args.figures.now at inside c.ones.figures c.ones.invariant x c.requires.few)

pub ones-preserved : goal.ones-preserved
ones-preserved g c =
    let value = g.G.Gap.value in
    let trace = c.args.trace.now in
    let segments : List NamedSegment = trace.segments in
    let names = c.args.names in
    let first = c.args.first in
    let old = c.args.figures.now in
    let at = c.ones.at in
    let figures = c.ones.figures in
    let x : NamedSegment = c.index-segments-at.result in
    let e : get_or segments at x ≡ x = sym (c.index-segments-at.is ∙ ap (λ (l : List NamedSegment). get_or l at x) c.items-segments.ensures) in
    let inside : at < length segments = omega (arith, c.ones-test.true, c.ones.auto.at-end, ap length c.items-segments.ensures) in
    let skip : (first ≤ x.name → x.name < first + 16 → ⊥) → TraceSoFar names first value c.args.index trace old (at + 1) figures =
    λ outside. trace_skip names first value c.args.index trace old at inside figures c.ones.invariant x (subst (λ (t : NamedSegment). first ≤ t.name → t.name < first + 16 → ⊥) (sym e) outside) in
    elim c.if-first-one.branch [
      | then-first-one+then-one-first w ↦
          let after = w.note_row.new.figures in
          subst (TraceSoFar names first value c.args.index trace old (at + 1)) (sym w.figures-is)
          (trace_more names first value c.args.index trace old at inside figures c.ones.invariant x trace.names_differ after
          (subst (λ (t : NamedSegment). (met back : Meetings) → TellsBoth value names first figures met back → TellsBoth value names first after (and_then met (meetings_with (onward_meeting c.args.index trace) t segments)) (and_then back (meetings_with (turned_meeting c.args.index trace) t segments))) (sym e) w.note_row.ensures.told)
          (subst (λ (t : NamedSegment). IsRowAtMost names first t.name (onwards value after) (c.args.index + 1)) (sym e) w.note_row.ensures.few)
          (subst (λ (t : NamedSegment). IsRowAlone names first t.name (onwards value figures) (onwards value after)) (sym e) w.note_row.ensures.alone))
      | else-first-one w ↦
          subst (TraceSoFar names first value c.args.index trace old (at + 1)) (sym w.figures-is)
          (skip (λ from to. elim w.else-first-one.branch [
            | else-first-one-via-then-first-one+else-one-first v ↦ (let l = v.if-one-first.false in omega (arith, l, to))
            | else-first-one-via-else-first-one v ↦ (let l = v.if-first-one.false in omega (arith, l, from))
          ]))
    ]

pub returns-clause-told : goal.returns-clause-told
returns-clause-told g c = λ met back t.
    let segments : List NamedSegment = c.args.trace.now.segments in
    let trace = c.args.trace.now in
    subst (λ (l : List NamedSegment). TellsBoth g.G.Gap.value c.args.names c.args.first c.ones.figures (and_then met (meetings_among (onward_meeting c.args.index trace) l segments)) (and_then back (meetings_among (turned_meeting c.args.index trace) l segments)))
    (take_all c.ones.at segments (omega (arith, c.ones-test.false, c.ones.auto.at-end, ap length c.items-segments.ensures))) (c.ones.invariant.told met back t)
