use Rattle.std.proofs.Common.{◌≡◌, ℕ, ◌+◌, ◌-◌, ◌*◌, ◌<◌, List, length, get_or, set, sym, ap, ap₂, ◌∙◌, subst, arith}
use Rattle.std.proofs.lemmas.List.{length-map, take_all}
use Rattle.std.proofs.lemmas.List.Elements.{All-get_or}
use Rattle.trace_types.specs.declared.named_segment.NamedSegment.{NamedSegment}
use Rattle.name_meetings.specs.inner.Adding.{IsCounted, with_meeting}
use Rattle.name_meetings.specs.inner.Circles.{HasEntry, steps_between, place}
use Rattle.name_meetings.specs.inner.Noting.{IsTimed, TellsBoth, and_then, entry, meetings_with, onward_meeting, onwards, turned_meeting, turneds}
use Rattle.name_meetings.specs.inner.Pairs.{onward_of}
use Rattle.name_meetings.proofs.CircleLemmas.{near_kept, not_kept}
use Rattle.name_meetings.proofs.TableLemmas.{RowSoFar, row_counted, row_more, row_none, row_place, row_skip}
use Rattle.name_meetings.proofs.noting.note_row.Goals.{then-is_in_row, else-is_in_row}
use Rattle.name_meetings.proofs.noting.note_row.Goals as goal

pub others-init : goal.others-init
others-init g c = row_none c.args.names c.args.first g.G.Gap.value c.args.index c.args.trace.now c.args.one.now c.args.figures.now c.requires.few

pub note_meeting-requires-clause-within : goal.note_meeting-requires-clause-within
note_meeting-requires-clause-within g c = λ κs live.
    let segments : List NamedSegment = c.args.trace.now.segments in
    let names = c.args.names in
    let one = c.args.one.now in
    let at = c.others.at in
    let x : NamedSegment = c.index-segments-at.result in
    let e : get_or segments at x ≡ x = sym (c.index-segments-at.is ∙ ap (λ (l : List NamedSegment). get_or l at x) c.items-segments.ensures) in
    let inside : at < length segments = omega (arith, c.others-test.true, c.others.auto.at-end, ap length c.items-segments.ensures) in
    let below : x.name < names = subst (λ (t : NamedSegment). t.name < names) e (All-get_or (λ (t : NamedSegment). t.name < names) segments at x inside c.requires.below) in
    let kept : HasEntry names c.args.first one.name x.name = near_kept names c.args.first one.name x.name c.requires.from c.requires.to c.requires.one below (sym c.is_in_row.ensures ∙ c.if-is_in_row.true) in
    let kept_there : HasEntry names c.args.first one.name (get_or segments at x).name = subst (λ (t : NamedSegment). HasEntry names c.args.first one.name t.name) (sym e) kept in
    let l : place names c.args.first one.name (get_or segments at x).name < length (onwards g.G.Gap.value c.others.figures) =
    row_place names c.args.first g.G.Gap.value c.args.index c.args.trace.now one c.args.figures.now at inside c.others.figures c.others.invariant x c.requires.told c.args.trace.now.names_differ c.requires.few kept_there in
    let long = length-map c.others.figures (onward_of g.G.Gap.value) in
    let spot : place names c.args.first one.name (get_or segments at x).name ≡ (one.name - c.args.first) * c.width.result + c.steps_between.result =
    ap₂ (λ (w d : ℕ). (one.name - c.args.first) * w + d) (sym c.width.ensures) (ap (λ (t : NamedSegment). steps_between names one.name t.name) e ∙ sym c.steps_between.ensures.is) in
    omega (arith, l, long, spot)

pub note_meeting-requires-clause-few : goal.note_meeting-requires-clause-few
note_meeting-requires-clause-few g c = λ κs live.
    let segments : List NamedSegment = c.args.trace.now.segments in
    let names = c.args.names in
    let one = c.args.one.now in
    let at = c.others.at in
    let x : NamedSegment = c.index-segments-at.result in
    let e : get_or segments at x ≡ x = sym (c.index-segments-at.is ∙ ap (λ (l : List NamedSegment). get_or l at x) c.items-segments.ensures) in
    let inside : at < length segments = omega (arith, c.others-test.true, c.others.auto.at-end, ap length c.items-segments.ensures) in
    let below : x.name < names = subst (λ (t : NamedSegment). t.name < names) e (All-get_or (λ (t : NamedSegment). t.name < names) segments at x inside c.requires.below) in
    let kept : HasEntry names c.args.first one.name x.name = near_kept names c.args.first one.name x.name c.requires.from c.requires.to c.requires.one below (sym c.is_in_row.ensures ∙ c.if-is_in_row.true) in
    let kept_there : HasEntry names c.args.first one.name (get_or segments at x).name = subst (λ (t : NamedSegment). HasEntry names c.args.first one.name t.name) (sym e) kept in
    let spot : place names c.args.first one.name (get_or segments at x).name ≡ (one.name - c.args.first) * c.width.result + c.steps_between.result =
    ap₂ (λ (w d : ℕ). (one.name - c.args.first) * w + d) (sym c.width.ensures) (ap (λ (t : NamedSegment). steps_between names one.name t.name) e ∙ sym c.steps_between.ensures.is) in
    subst (λ (n : ℕ). IsCounted (entry (onwards g.G.Gap.value c.others.figures) n) 4294967294) spot
    (row_counted names c.args.first g.G.Gap.value c.args.index c.args.trace.now one c.args.figures.now at inside c.others.figures c.others.invariant x c.requires.told c.args.trace.now.names_differ c.requires.few kept_there 4294967294 (let i = c.requires.index in omega (arith, i)))

pub note_meeting-requires-clause-other : goal.note_meeting-requires-clause-other
note_meeting-requires-clause-other g c = λ κs live.
    let segments : List NamedSegment = c.args.trace.now.segments in
    let at = c.others.at in
    let x : NamedSegment = c.index-segments-at.result in
    let e : get_or segments at x ≡ x = sym (c.index-segments-at.is ∙ ap (λ (l : List NamedSegment). get_or l at x) c.items-segments.ensures) in
    let inside : at < length segments = omega (arith, c.others-test.true, c.others.auto.at-end, ap length c.items-segments.ensures) in
    subst (λ (t : NamedSegment). IsTimed g.G.Gap.fits t) e (All-get_or (λ (t : NamedSegment). IsTimed g.G.Gap.fits t) segments at x inside c.requires.timed)

pub others-preserved : goal.others-preserved
others-preserved g c =
    let value = g.G.Gap.value in
    let trace = c.args.trace.now in
    let segments : List NamedSegment = trace.segments in
    let names = c.args.names in
    let first = c.args.first in
    let one = c.args.one.now in
    let at = c.others.at in
    let figures = c.others.figures in
    let x : NamedSegment = c.index-segments-at.result in
    let e : get_or segments at x ≡ x = sym (c.index-segments-at.is ∙ ap (λ (l : List NamedSegment). get_or l at x) c.items-segments.ensures) in
    let inside : at < length segments = omega (arith, c.others-test.true, c.others.auto.at-end, ap length c.items-segments.ensures) in
    let below : x.name < names = subst (λ (t : NamedSegment). t.name < names) e (All-get_or (λ (t : NamedSegment). t.name < names) segments at x inside c.requires.below) in
    elim c.if-is_in_row.branch [
      | then-is_in_row w ↦
          let kept : HasEntry names first one.name x.name = near_kept names first one.name x.name c.requires.from c.requires.to c.requires.one below (sym c.is_in_row.ensures ∙ w.if-is_in_row.true) in
          let kept_there : HasEntry names first one.name (get_or segments at x).name = subst (λ (t : NamedSegment). HasEntry names first one.name t.name) (sym e) kept in
          let spot : (one.name - first) * c.width.result + w.steps_between.result ≡ place names first one.name x.name =
          ap₂ (λ (y d : ℕ). (one.name - first) * y + d) c.width.ensures w.steps_between.ensures.is in
          let after = w.note_meeting.new.figures in
          let onward_is = subst (λ (n : ℕ). onwards value after ≡ set (onwards value figures) n (with_meeting (entry (onwards value figures) n) (onward_meeting c.args.index trace one x))) spot w.note_meeting.ensures.onward in
          let turned_is = subst (λ (n : ℕ). turneds value after ≡ set (turneds value figures) n (with_meeting (entry (turneds value figures) n) (turned_meeting c.args.index trace one x))) spot w.note_meeting.ensures.turned in
          subst (RowSoFar names first value c.args.index trace one c.args.figures.now (at + 1)) (sym w.figures-is)
          (row_more names first value c.args.index trace one c.args.figures.now at inside figures c.others.invariant x c.requires.told trace.names_differ c.requires.few kept_there after
          (subst (λ (t : NamedSegment). onwards value after ≡ set (onwards value figures) (place names first one.name t.name) (with_meeting (entry (onwards value figures) (place names first one.name t.name)) (onward_meeting c.args.index trace one t))) (sym e) onward_is)
          (subst (λ (t : NamedSegment). turneds value after ≡ set (turneds value figures) (place names first one.name t.name) (with_meeting (entry (turneds value figures) (place names first one.name t.name)) (turned_meeting c.args.index trace one t))) (sym e) turned_is))
      | else-is_in_row w ↦
          subst (RowSoFar names first value c.args.index trace one c.args.figures.now (at + 1)) (sym w.figures-is)
          (row_skip names first value c.args.index trace one c.args.figures.now at inside figures c.others.invariant x
          (subst (λ (t : NamedSegment). HasEntry names first one.name t.name → ⊥) (sym e) (not_kept names first one.name x.name (sym c.is_in_row.ensures ∙ w.if-is_in_row.false))))
    ]

pub returns-clause-told : goal.returns-clause-told
returns-clause-told g c = λ met back t.
    let segments : List NamedSegment = c.args.trace.now.segments in
    let names = c.args.names in
    let trace = c.args.trace.now in
    subst (λ (l : List NamedSegment). TellsBoth g.G.Gap.value names c.args.first c.others.figures (and_then met (meetings_with (onward_meeting c.args.index trace) c.args.one.now l)) (and_then back (meetings_with (turned_meeting c.args.index trace) c.args.one.now l)))
    (take_all c.others.at segments (omega (arith, c.others-test.false, c.others.auto.at-end, ap length c.items-segments.ensures))) (c.others.invariant.told met back t)
