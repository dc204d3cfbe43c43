use Rattle.std.proofs.Common.{◌≡◌, ◌+◌, ◌≤◌, ◌++◌, ◌∷◌, [], ℕ, Some, List, take, arith, subst, sym, ◌∙◌}
use Rattle.std.specs.List.{slice_get}
use Rattle.std.specs.Option.{option_map}
use Rattle.std.proofs.lemmas.Bool.{false≢true}
use Rattle.day_partitions.specs.Books.{BookState, KeptDay}
use Rattle.view_rows.specs.inner.Gathered.{CountsOthers, days_in}
use Rattle.view_rows.proofs.GatheredLemmas.{day_fresh, days_next, others_more, others_skip}
use Rattle.view_rows.proofs.gathering.count_new_days.Goals as goal
use Rattle.view_rows.proofs.gathering.count_new_days.Goals.{then-not-is_listed, else-not-is_listed}

pub loop-place-preserved : goal.loop-place-preserved
loop-place-preserved c =
    let days = c.args.book.now.book.days in
    let listed = c.args.listed.now in
    let place = c.loop-place.place in
    let day = c.day.result in
    let before : List ℕ = days_in (take place days) in
    let got : option_map (λ (k : KeptDay). k.day) (slice_get days place) ≡ Some day =
    subst (λ (b : BookState). option_map (λ (k : KeptDay). k.day) (slice_get b.days place) ≡ Some day) c.day_book-days.ensures.book c.day.ensures in
    let fresh = day_fresh c.args.book.now.book c.day_book-days.ensures.kept.book place day got in
    let so_far = c.loop-place.invariant.so_far in
    let few = c.loop-place.invariant.few in
    let told : CountsOthers listed (before ++ day ∷ []) c.if-not-is_listed.count = elim c.if-not-is_listed.branch [
      | then-not-is_listed w ↦ subst (CountsOthers listed (before ++ day ∷ [])) (sym w.count-is) (others_more listed before day c.loop-place.count (λ f. false≢true (sym w.if-not-is_listed.true ∙ c.is_listed.ensures.1 f)) fresh so_far)
      | else-not-is_listed w ↦ subst (CountsOthers listed (before ++ day ∷ [])) (sym w.count-is) (others_skip listed before day c.loop-place.count (c.is_listed.ensures.0 w.if-not-is_listed.false) so_far)
    ] in
    let most : c.if-not-is_listed.count ≤ place + 1 = elim c.if-not-is_listed.branch [
      | then-not-is_listed w ↦ let e = w.count-is in omega arith
      | else-not-is_listed w ↦ let e = w.count-is in omega arith
    ] in
    record {
      so_far = subst (λ (l : List ℕ). CountsOthers listed l c.if-not-is_listed.count) (sym (days_next days place day got)) told;
      few = most;
    }
