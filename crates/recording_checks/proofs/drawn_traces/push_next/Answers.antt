use Rattle.std.proofs.Common.{◌≡◌, ◌∙◌, ◌-◌, ◌++◌, ◌∷◌, [], List, Some, None, length, slice_get, sym, ap, subst}
use Rattle.trace_types.specs.declared.named_segment.NamedSegment.{NamedSegment}
use Rattle.recording_checks.specs.inner.Drawn.{AreDrawn}
use Rattle.recording_checks.proofs.DrawnLemmas.{drawn_first, drawn_next}
use Rattle.recording_checks.proofs.drawn_traces.push_next.Goals as goal
use Rattle.recording_checks.proofs.drawn_traces.push_next.Goals.{in-Some, in-None}

pub returns-in_ok-push : goal.returns-in_ok-push
returns-in_ok-push c =
    let xs : List NamedSegment = c.args.segments.now.items in
    let s : NamedSegment = c.args.segment in
    let all : AreDrawn (xs ++ s ∷ []) = elim c.match-last.branch [
      | in-Some w ↦ drawn_next xs w.in-Some.last.now s c.requires.drawn
          (w.in-Some.ensures.value ∙ ap (λ (l : List NamedSegment). slice_get l (length l - 1)) c.deref.ensures.value)
          (w.may_follow-follows.ensures (sym w.follows-is ∙ c.if-follows.true)) c.requires.plain
      | in-None w ↦ drawn_first xs s c.requires.drawn (w.in-None.ensures.value ∙ ap (λ (l : List NamedSegment). slice_get l (length l - 1)) c.deref.ensures.value) c.requires.plain
    ] in
    subst AreDrawn (sym c.in_ok-push.ensures.items) all
