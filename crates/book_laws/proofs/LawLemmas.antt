-- The laws, from what books and lists of kept traces do alike.
use Rattle.std.proofs.Common.{◌≡◌, not, ◌==◌, nat_lt, nat_le, nat_eq, if◌then◌else◌, List, [], ◌∷◌, length, filter, refl, sym, ap, ◌∙◌}
use Rattle.std.proofs.lemmas.List.{length-map}
use Rattle.trace_types.specs.declared.named_trace.NamedTrace.{NamedTrace}
use Rattle.trace_types.specs.Firsts.{firsts_of}
use Rattle.day_partitions.specs.Books.{BookState, IsBook, KeptDay, all_traces}
use Rattle.day_partitions.specs.Batches.{with_all}
use Rattle.segment_names.specs.Known.{Known}
use Rattle.session_rules.specs.KeptTraces.{Kept, day_of, days_of, taken_in, traces_on, with_taken}
use Rattle.trace_types.proofs.ZipLemmas.{zip_filter, zip_length, zip_mapped}
use Rattle.book_laws.specs.Shown.{AreShown, IsShown}
use Rattle.book_laws.specs.BookLaws.{DropShows, NewestShow, SheetsShow, DaysAreCounted}
use Rattle.book_laws.proofs.BookLemmas.{above, all_newest, all_of_day, all_without, book_days, days_are, days_in, is_new, named_day}
use Rattle.book_laws.proofs.SheetLemmas.{are_of_days, count_days, with_all_days, with_sheets}
use Rattle.book_laws.proofs.TakenLemmas.{put_all, put_in, zip_put_all}

same_day : (known : Known) (t : NamedTrace) (k : Kept) → IsShown known t k → named_day t ≡ day_of k
same_day known t k h = h.day

pub drop_shows : DropShows
drop_shows known b kept day h shown =
    let days = book_days b h in (
      rw (all_without day b.days days) (zip_filter (IsShown known) (λ (t : NamedTrace). not (t.day == day)) (λ k. not (day_of k == day)) (λ t k r. ap (λ d. not (d == day)) r.day) (all_traces b.days) kept shown),
      ap length (sym (all_of_day day b.days days)) ∙ zip_length (IsShown known) (filter (λ (t : NamedTrace). t.day == day) (all_traces b.days)) (traces_on day kept) (zip_filter (IsShown known) (λ (t : NamedTrace). t.day == day) (λ k. day_of k == day) (λ t k r. ap (λ d. d == day) r.day) (all_traces b.days) kept shown),
    )

days_alike : (known : Known) (b : BookState) (kept : List Kept) → IsBook b → AreShown known (all_traces b.days) kept → days_of kept ≡ days_in b.days
days_alike known b kept h shown = ap (firsts_of nat_eq) (sym (zip_mapped (IsShown known) named_day day_of (same_day known) (all_traces b.days) kept shown)) ∙ days_are b.days (book_days b h)

pub newest_show : NewestShow
newest_show known b kept n h shown =
    let days = days_alike known b kept h shown in
    rw (all_newest n b.days (book_days b h)) (zip_filter (IsShown known) (λ (t : NamedTrace). is_new b.days n t.day) (λ k. nat_lt (above (days_of kept) (day_of k)) n)
    (λ t k r. ap (λ d. nat_lt (above (days_in b.days) d) n) r.day ∙ ap (λ ds. nat_lt (above ds (day_of k)) n) (sym days)) (all_traces b.days) kept shown)

taken_is : (kept : List Kept) (t : Kept) → taken_in kept t ≡ put_in day_of kept t
taken_is [] t = refl
taken_is (k ∷ kept) t = ap (λ l. if nat_le (day_of k) (day_of t) then k ∷ l else t ∷ k ∷ kept) (taken_is kept t)

pub with_is : (kept more : List Kept) → with_taken kept more ≡ put_all day_of kept more
with_is kept [] = refl
with_is kept (t ∷ ts) = ap (λ l. with_taken l ts) (taken_is kept t) ∙ with_is (put_in day_of kept t) ts

pub sheets_show : SheetsShow
sheets_show known b kept more sheets named h shown others parts =
    rw (with_sheets b sheets named (book_days b h) parts, with_is kept more) (zip_put_all (IsShown known) named_day day_of (same_day known) (all_traces b.days) kept named more shown others)

pub days_counted : DaysAreCounted
days_counted known b kept more sheets named h shown others parts =
    let days = book_days b h in
    let of_days = are_of_days sheets named parts in
    let after = sheets_show known b kept more sheets named h shown others parts in
    let days_then : days_of (with_taken kept more) ≡ days_in (with_all b sheets).days = ap (firsts_of nat_eq) (sym (zip_mapped (IsShown known) named_day day_of (same_day known) (all_traces (with_all b sheets).days) (with_taken kept more) after)) ∙ days_are (with_all b sheets).days (with_all_days b sheets days of_days) in
    sym (ap length days_then ∙ length-map (with_all b sheets).days (λ (k : KeptDay). k.day) ∙ count_days b sheets days of_days parts.rising)
