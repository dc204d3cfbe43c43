use Rattle.std.proofs.Common.{◌∙◌, ◌+◌, sym, ap, subst}
use Rattle.std.proofs.lemmas.Bool.{iff_false}
use Rattle.day_partitions.specs.inner.Slots.{place_in_days, IsDayAt}
use Rattle.day_partitions.proofs.ShownLemmas.{shown_extended, shown_inserted, kept_at, not_kept, spare_kept, spare_taken, changes_extended, changes_inserted}
use Rattle.day_partitions.proofs.placing.take_in.Goals as goal

pub open-requires-clause-spare : goal.open-requires-clause-spare
open-requires-clause-spare g c =
    let ds = c.args.days.now.items in
    let at = c.find_place-place.ensures.place ∙ ap (place_in_days c.args.day) c.deref.ensures.value in
    let no : IsDayAt ds c.find_place-place.result c.args.day → ⊥ = λ h. iff_false c.is_day_at.ensures c.if-is_day_at.false (subst (λ l. IsDayAt l c.find_place-place.result c.args.day) (sym c.deref-2.ensures.value) h) in
    (c.requires.room.new (not_kept c.args.day c.find_place-place.result ds at c.requires.rising no)).0

pub open-requires-clause-few : goal.open-requires-clause-few
open-requires-clause-few g c =
    let ds = c.args.days.now.items in
    let at = c.find_place-place.ensures.place ∙ ap (place_in_days c.args.day) c.deref.ensures.value in
    let no : IsDayAt ds c.find_place-place.result c.args.day → ⊥ = λ h. iff_false c.is_day_at.ensures c.if-is_day_at.false (subst (λ l. IsDayAt l c.find_place-place.result c.args.day) (sym c.deref-2.ensures.value) h) in
    (c.requires.room.new (not_kept c.args.day c.find_place-place.result ds at c.requires.rising no)).1

pub returns-then-is_day_at-clause-days : goal.returns-then-is_day_at-clause-days
returns-then-is_day_at-clause-days g c =
    let ds = c.args.days.now.items in
    let at = c.find_place-place.ensures.place ∙ ap (place_in_days c.args.day) c.deref.ensures.value in
    let yes : IsDayAt ds c.find_place-place.result c.args.day = subst (λ l. IsDayAt l c.find_place-place.result c.args.day) c.deref-2.ensures.value (c.is_day_at.ensures.0 c.if-is_day_at.true) in
    shown_extended c.args.day c.find_place-place.result ds c.extend.new.days.items c.args.sheet.traces at yes c.extend.ensures.extended

pub returns-then-is_day_at-clause-spare : goal.returns-then-is_day_at-clause-spare
returns-then-is_day_at-clause-spare g c =
    let ds = c.args.days.now.items in
    let at = c.find_place-place.ensures.place ∙ ap (place_in_days c.args.day) c.deref.ensures.value in
    let yes : IsDayAt ds c.find_place-place.result c.args.day = subst (λ l. IsDayAt l c.find_place-place.result c.args.day) c.deref-2.ensures.value (c.is_day_at.ensures.0 c.if-is_day_at.true) in
    c.extend.ensures.spare ∙ spare_kept _ _ _ (kept_at c.args.day c.find_place-place.result ds at yes)

pub returns-then-is_day_at-clause-steps : goal.returns-then-is_day_at-clause-steps
returns-then-is_day_at-clause-steps g c =
    let ds = c.args.days.now.items in
    let at = c.find_place-place.ensures.place ∙ ap (place_in_days c.args.day) c.deref.ensures.value in
    let yes : IsDayAt ds c.find_place-place.result c.args.day = subst (λ l. IsDayAt l c.find_place-place.result c.args.day) c.deref-2.ensures.value (c.is_day_at.ensures.0 c.if-is_day_at.true) in
    c.extend.ensures.steps ∙ ap (λ n. c.args.steps.now + n) (spare_kept _ _ _ (kept_at c.args.day c.find_place-place.result ds at yes))

pub returns-then-is_day_at-clause-others : goal.returns-then-is_day_at-clause-others
returns-then-is_day_at-clause-others g c =
    let ds = c.args.days.now.items in
    let yes : IsDayAt ds c.find_place-place.result c.args.day = subst (λ l. IsDayAt l c.find_place-place.result c.args.day) c.deref-2.ensures.value (c.is_day_at.ensures.0 c.if-is_day_at.true) in
    changes_extended c.args.day c.find_place-place.result ds c.extend.new.days.items c.args.sheet.traces yes c.extend.ensures.extended

pub returns-else-is_day_at-clause-days : goal.returns-else-is_day_at-clause-days
returns-else-is_day_at-clause-days g c =
    let ds = c.args.days.now.items in
    let at = c.find_place-place.ensures.place ∙ ap (place_in_days c.args.day) c.deref.ensures.value in
    let no : IsDayAt ds c.find_place-place.result c.args.day → ⊥ = λ h. iff_false c.is_day_at.ensures c.if-is_day_at.false (subst (λ l. IsDayAt l c.find_place-place.result c.args.day) (sym c.deref-2.ensures.value) h) in
    shown_inserted c.args.day c.find_place-place.result ds c.open.new.days.items c.args.sheet.traces at no c.open.ensures.inserted

pub returns-else-is_day_at-clause-spare : goal.returns-else-is_day_at-clause-spare
returns-else-is_day_at-clause-spare g c =
    let ds = c.args.days.now.items in
    let at = c.find_place-place.ensures.place ∙ ap (place_in_days c.args.day) c.deref.ensures.value in
    let no : IsDayAt ds c.find_place-place.result c.args.day → ⊥ = λ h. iff_false c.is_day_at.ensures c.if-is_day_at.false (subst (λ l. IsDayAt l c.find_place-place.result c.args.day) (sym c.deref-2.ensures.value) h) in
    c.open.ensures.spare ∙ spare_taken _ _ _ (not_kept c.args.day c.find_place-place.result ds at c.requires.rising no)

pub returns-else-is_day_at-clause-steps : goal.returns-else-is_day_at-clause-steps
returns-else-is_day_at-clause-steps g c =
    let ds = c.args.days.now.items in
    let at = c.find_place-place.ensures.place ∙ ap (place_in_days c.args.day) c.deref.ensures.value in
    let no : IsDayAt ds c.find_place-place.result c.args.day → ⊥ = λ h. iff_false c.is_day_at.ensures c.if-is_day_at.false (subst (λ l. IsDayAt l c.find_place-place.result c.args.day) (sym c.deref-2.ensures.value) h) in
    c.open.ensures.steps ∙ ap (λ n. c.args.steps.now + n) (spare_taken _ _ _ (not_kept c.args.day c.find_place-place.result ds at c.requires.rising no))

pub returns-else-is_day_at-clause-others : goal.returns-else-is_day_at-clause-others
returns-else-is_day_at-clause-others g c = changes_inserted c.args.day c.find_place-place.result c.args.days.now.items c.open.new.days.items c.args.sheet.traces c.open.ensures.inserted
