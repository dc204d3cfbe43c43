-- A book and its journal.
use Rattle.std.proofs.Common.{◌≡◌, ℕ, zero, suc, ◌+◌, ◌<◌, true, false, ◌==◌, List, [], ◌∷◌, ◌++◌, length, get_or, take, sym, ap, ◌∙◌, subst}
use Rattle.std.specs.Prelude.{Option, Some, None, slice_get}
use Rattle.std.specs.Option.{option_map}
use Rattle.std.proofs.lemmas.Bool.{eq-eqb, or_from}
use Rattle.std.proofs.lemmas.List.Folds.{list_any_at, list_any_more}
use Rattle.day_partitions.specs.Books.{BookState, KeptDay, has_day}
use Rattle.day_partitions.specs.Kept.{days_after}
use Rattle.live_journal.specs.declared.entry.Entry.{Entry}
use Rattle.live_journal.specs.Replays.{HasTraceCount, IsJournal, command_of, replay}
use Rattle.live_journal.specs.inner.Fields.{IsReplay}
use Rattle.live_journal.proofs.ReplayLemmas.{journal_more, replay_more}

-- a book that did what the entry says is the replay of one entry more
pub grown : (book new : BookState) (es fs : List Entry) (e : Entry) → IsReplay book es → new.days ≡ days_after book.days (command_of e) → fs ≡ es ++ e ∷ [] → length es < 10000 → HasTraceCount e → IsReplay new fs
grown book new es fs e h did is few counted = record {
  days = did ∙ ap (λ (ks : List KeptDay). days_after ks (command_of e)) h.days ∙ sym (replay_more es e) ∙ ap replay (sym is);
  journal = subst IsJournal (sym is) (journal_more es e h.journal few counted);
}

-- ---- the day at a place
day_is : (ks : List KeptDay) (n x : ℕ) (d : KeptDay) → option_map (λ (k : KeptDay). k.day) (slice_get ks n) ≡ Some x → (get_or ks n d).day ≡ x
day_is [] n x d e = absurd (let f : ◌≡◌ {A = Option ℕ} None (Some x) = e in cc)
day_is (k ∷ ks) zero x d e = let f : ◌≡◌ {A = Option ℕ} (Some k.day) (Some x) = e in cc
day_is (k ∷ ks) (suc n) x d e = day_is ks n x d e

pub day_found : (ks : List KeptDay) (n x day : ℕ) (d : KeptDay) → n < length ks → option_map (λ (k : KeptDay). k.day) (slice_get ks n) ≡ Some x → x ≡ day → has_day ks day ≡ true
day_found ks n x day d inside e same = list_any_at (λ (k : KeptDay). k.day == day) ks n d inside (eq-eqb _ _ (day_is ks n x d e ∙ same))

pub day_else : (ks : List KeptDay) (n x day : ℕ) (d : KeptDay) → n < length ks → option_map (λ (k : KeptDay). k.day) (slice_get ks n) ≡ Some x → (x == day) ≡ false → has_day (take n ks) day ≡ false → has_day (take (n + 1) ks) day ≡ false
day_else ks n x day d inside e other before =
    list_any_more (λ (k : KeptDay). k.day == day) ks n d inside ∙ or_from (has_day (take n ks) day) ((get_or ks n d).day == day) before (ap (λ (m : ℕ). m == day) (day_is ks n x d e) ∙ other)
