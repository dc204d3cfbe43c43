use Rattle.std.proofs.Common.{◌≡◌, ◌∷◌, ◌++◌, [], List, ℕ, Some, ap, sym, ◌∙◌}
use Rattle.std.specs.Prelude.{slice_get}
use Rattle.std.specs.Option.{option_map}
use Rattle.day_partitions.specs.Books.{BookState, KeptDay}
use Rattle.judged_books.proofs.KeptDigestLemmas.{one_day}
use Rattle.judged_books.proofs.kept_digest.list_days.Goals as goal

pub days-preserved : goal.days-preserved
days-preserved c =
    let told : option_map (λ (x : KeptDay). x.day) (slice_get c.args.book.now.book.days c.days.place) ≡ Some c.day.result =
    ap (λ (b : BookState). option_map (λ (x : KeptDay). x.day) (slice_get b.days c.days.place)) (sym c.day_book.ensures.book) ∙ c.day.ensures in
    c.in_ok-push.ensures.items ∙ ap (λ (l : List ℕ). l ++ c.day.result ∷ []) c.days.invariant ∙ sym (one_day c.args.book.now.book.days c.days.place c.day.result told)
