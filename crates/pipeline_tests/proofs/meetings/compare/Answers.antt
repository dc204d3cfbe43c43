use Rattle.std.proofs.Common.{◌≡◌, ◌+◌, ◌++◌, ◌∷◌, [], ◌<◌, ℕ, List, take, get_or, sym, ap, ◌∙◌, subst}
use Rattle.std.proofs.lemmas.List.{take_more}
use Rattle.std.specs.List.{Contains}
use Rattle.pipeline_tests.proofs.MeetingLemmas.{begins_later, meets_none, meets_found, meets_skip}
use Rattle.pipeline_tests.specs.declared.meetings.Sharing.{Sharing}
use Rattle.pipeline_tests.specs.declared.stays.Stay.{Stay}
use Rattle.pipeline_tests.specs.inner.Meetings.{AreMeetings, IsSharing, Meeting}
use Rattle.pipeline_tests.proofs.meetings.compare.Goals as goal
use Rattle.pipeline_tests.proofs.meetings.compare.Goals.{in-Some, in_default}

pub loop-stay-init : goal.loop-stay-init
loop-stay-init c = ([], meets_none c.args.high.now, c.none-sharing.ensures c.args.grace)

pub loop-stay-preserved : goal.loop-stay-preserved
loop-stay-preserved c =
    let low : List Stay = c.args.low.now in
    let high : List Stay = c.args.high.now in
    let k = c.loop-stay.stay-index in
    let x : Stay = c.stay-item.result in
    let v = c.loop-stay.invariant in
    let met : List Meeting = v.0 in
    let front : take (k + 1) low ≡ take k low ++ x ∷ [] = take_more low k x c.loop-stay-test.true ∙ ap (λ (s : Stay). take k low ++ s ∷ []) (sym c.stay-item.is) in
    let P : List Stay → Sharing → Type 0 = λ l s. (all : List Meeting) × AreMeetings l high all × IsSharing c.args.grace all s in
    subst (λ (l : List Stay). P l c.match-find_stay.sharing) (sym front)
    (elim c.match-find_stay.branch [
      | in-Some w ↦
          let y : Stay = w.index-high-at.result in
          let there : Contains high y = (w.in-Some.at, w.in-Some.ensures.within, sym w.index-high-at.is) in
          let same : y.element ≡ x.element = ap (λ (s : Stay). s.element) w.index-high-at.is ∙ w.in-Some.ensures.element y in
          let m : Meeting = record { low = x; high = y } in
          subst (P (take k low ++ x ∷ [])) (sym w.sharing-is) (
            met ++ m ∷ [],
            meets_found (take k low) high x met v.1 y c.requires.differ there same,
            w.add.ensures met v.2 (λ n o. begins_later low k x c.requires.rise c.loop-stay-test.true c.stay-item.is n.low (v.1.lows n o)),
          )
      | in_default w ↦ subst (P (take k low ++ x ∷ [])) (sym w.sharing-is) (met, meets_skip (take k low) high x met v.1 w.in_default.ensures, v.2)
    ])
