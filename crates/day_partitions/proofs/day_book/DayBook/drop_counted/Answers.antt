use Rattle.std.proofs.Common.{◌≡◌, ◌∙◌, sym, ap, subst, arith, length, [], true, false}
use Rattle.std.proofs.lemmas.Bool.{iff_false}
use Rattle.day_partitions.specs.Books.{BookState, IsBook, has_day, traces_kept_on, with_fewer, days_without}
use Rattle.day_partitions.specs.inner.Slots.{place_in_days, shown_days, IsDayAt}
use Rattle.day_partitions.proofs.ShownLemmas.{absent, kept_at, not_kept, spare_kept, spare_taken}
use Rattle.day_partitions.proofs.DropLemmas.{without_absent, traces_absent, traces_within, book_without, view_dropped, view_stays, dropped_count}
use Rattle.day_partitions.proofs.day_book.DayBook.drop_counted.Goals as goal

pub returns-then-not-is_day_at-clause-dropped : goal.returns-then-not-is_day_at-clause-dropped
returns-then-not-is_day_at-clause-dropped g c =
    let a = c.self.inside in let ds = a.days.items in
    let at = c.find_place-place.ensures.place ∙ ap (place_in_days c.args.day) c.deref.ensures.value in
    let gone : IsDayAt ds c.find_place-place.result c.args.day → ⊥ = λ h. iff_false c.is_day_at.ensures c.if-not-is_day_at.true (subst (λ l. IsDayAt l c.find_place-place.result c.args.day) (sym c.deref-2.ensures.value) h) in
    let same = without_absent c.args.day (shown_days ds) c.self.invariant.kept.rising (absent c.args.day c.find_place-place.result ds at gone) in
    view_stays c.args.self.now (days_without c.args.day c.args.self.now.days) (subst (λ (b : BookState). days_without c.args.day b.days ≡ b.days) c.self.view_is same)

pub returns-then-not-is_day_at-clause-count : goal.returns-then-not-is_day_at-clause-count
returns-then-not-is_day_at-clause-count g c =
    let a = c.self.inside in let ds = a.days.items in
    let at = c.find_place-place.ensures.place ∙ ap (place_in_days c.args.day) c.deref.ensures.value in
    let gone : IsDayAt ds c.find_place-place.result c.args.day → ⊥ = λ h. iff_false c.is_day_at.ensures c.if-not-is_day_at.true (subst (λ l. IsDayAt l c.find_place-place.result c.args.day) (sym c.deref-2.ensures.value) h) in
    let none = traces_absent c.args.day (shown_days ds) c.self.invariant.kept.rising (absent c.args.day c.find_place-place.result ds at gone) in
    sym (ap length (subst (λ (b : BookState). traces_kept_on b.days c.args.day ≡ []) c.self.view_is none))

pub returns-then-not-is_day_at-clause-steps : goal.returns-then-not-is_day_at-clause-steps
returns-then-not-is_day_at-clause-steps g c =
    let a = c.self.inside in let ds = a.days.items in
    let at = c.find_place-place.ensures.place ∙ ap (place_in_days c.args.day) c.deref.ensures.value in
    let gone : IsDayAt ds c.find_place-place.result c.args.day → ⊥ = λ h. iff_false c.is_day_at.ensures c.if-not-is_day_at.true (subst (λ l. IsDayAt l c.find_place-place.result c.args.day) (sym c.deref-2.ensures.value) h) in
    let no = subst (λ (b : BookState). has_day b.days c.args.day ≡ false) c.self.view_is (not_kept c.args.day c.find_place-place.result ds at c.self.invariant.kept.rising gone) in
    omega (arith, spare_taken (has_day c.args.self.now.days c.args.day) 6 0 no)

pub overflow_cast-result : goal.overflow_cast-result
overflow_cast-result g c =
    let a = c.self.inside in let ds = a.days.items in
    let at = c.find_place-place.ensures.place ∙ ap (place_in_days c.args.day) c.deref.ensures.value in
    let there : IsDayAt ds c.find_place-place.result c.args.day = subst (λ l. IsDayAt l c.find_place-place.result c.args.day) c.deref-2.ensures.value (c.is_day_at.ensures.0 c.if-not-is_day_at.false) in
    omega (arith, dropped_count c.args.day c.find_place-place.result c.drop_at.result ds at there c.drop_at.ensures.count, traces_within (shown_days ds) c.args.day, c.self.invariant.kept.counted)

pub invariant_of-self : goal.invariant_of-self
invariant_of-self g c =
    let a = c.self.inside in let ds = a.days.items in
    let at = c.find_place-place.ensures.place ∙ ap (place_in_days c.args.day) c.deref.ensures.value in
    let there : IsDayAt ds c.find_place-place.result c.args.day = subst (λ l. IsDayAt l c.find_place-place.result c.args.day) c.deref-2.ensures.value (c.is_day_at.ensures.0 c.if-not-is_day_at.false) in
    record {
      width = c.drop_at.ensures.width ∙ c.self.invariant.width;
      slots = c.drop_at.ensures.slots;
      kept = subst (λ b. IsBook b) (sym (view_dropped a.names c.args.day c.find_place-place.result a.tree c.drop_at.new.tree ds c.drop_at.new.days.items at c.self.invariant.kept.rising there c.drop_at.ensures.days c.drop_at.ensures.spare)) (book_without _ c.args.day c.self.invariant.kept);
      capacity = omega (arith, c.self.invariant.capacity, c.drop_at.ensures.capacity);
    }

pub returns-clause-dropped : goal.returns-clause-dropped
returns-clause-dropped g c =
    let a = c.self.inside in let ds = a.days.items in
    let at = c.find_place-place.ensures.place ∙ ap (place_in_days c.args.day) c.deref.ensures.value in
    let there : IsDayAt ds c.find_place-place.result c.args.day = subst (λ l. IsDayAt l c.find_place-place.result c.args.day) c.deref-2.ensures.value (c.is_day_at.ensures.0 c.if-not-is_day_at.false) in
    view_dropped a.names c.args.day c.find_place-place.result a.tree c.drop_at.new.tree ds c.drop_at.new.days.items at c.self.invariant.kept.rising there c.drop_at.ensures.days c.drop_at.ensures.spare
    ∙ ap (λ b. with_fewer b (days_without c.args.day b.days)) c.self.view_is

pub returns-clause-count : goal.returns-clause-count
returns-clause-count g c =
    let a = c.self.inside in let ds = a.days.items in
    let at = c.find_place-place.ensures.place ∙ ap (place_in_days c.args.day) c.deref.ensures.value in
    let there : IsDayAt ds c.find_place-place.result c.args.day = subst (λ l. IsDayAt l c.find_place-place.result c.args.day) c.deref-2.ensures.value (c.is_day_at.ensures.0 c.if-not-is_day_at.false) in
    dropped_count c.args.day c.find_place-place.result c.drop_at.result ds at there c.drop_at.ensures.count ∙ ap (λ (b : BookState). length (traces_kept_on b.days c.args.day)) c.self.view_is

pub returns-clause-steps : goal.returns-clause-steps
returns-clause-steps g c =
    let a = c.self.inside in let ds = a.days.items in
    let at = c.find_place-place.ensures.place ∙ ap (place_in_days c.args.day) c.deref.ensures.value in
    let there : IsDayAt ds c.find_place-place.result c.args.day = subst (λ l. IsDayAt l c.find_place-place.result c.args.day) c.deref-2.ensures.value (c.is_day_at.ensures.0 c.if-not-is_day_at.false) in
    let yes = subst (λ (b : BookState). has_day b.days c.args.day ≡ true) c.self.view_is (kept_at c.args.day c.find_place-place.result ds at there) in
    omega (arith, c.drop_at.ensures.steps, spare_kept (has_day c.args.self.now.days c.args.day) 6 0 yes)
