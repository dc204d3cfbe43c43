-- Journals and their replays.
use Rattle.std.proofs.Common.{◌≡◌, ℕ, zero, suc, ◌+◌, ◌-◌, ◌*◌, ◌^◌, ◌<◌, ◌≤◌, List, [], ◌∷◌, ◌++◌, length, All, refl, ap, arith, length-append}
use Rattle.std.proofs.lemmas.List.Elements.{All-append}
use Rattle.std.proofs.lemmas.List.Sums.{sum_by-take-drop}
use Rattle.day_partitions.specs.Books.{KeptDay, all_traces, newest_days}
use Rattle.day_partitions.specs.Kept.{DayCommand, AddsSome, AreKept, CallsKeep, NothingIsKept, days_after}
use Rattle.day_partitions.proofs.DayLemmas.{traces_in, traces_sum, with_count, without_count}
use Rattle.live_journal.specs.declared.entry.Entry.{Entry}
use Rattle.live_journal.specs.declared.entry.Entry.TheVariants.{Rolled, Dropped, Kept}
use Rattle.live_journal.specs.Replays.{HasTraceCount, IsJournal, command_of, commands_from, days_from, replay}

-- ---- one entry more
days_more : (days : List KeptDay) (es : List Entry) (e : Entry) → days_from days (es ++ e ∷ []) ≡ days_after (days_from days es) (command_of e)
days_more days [] e = refl
days_more days (x ∷ es) e = days_more (days_after days (command_of x)) es e

pub replay_more : (es : List Entry) (e : Entry) → replay (es ++ e ∷ []) ≡ days_after (replay es) (command_of e)
replay_more es e = days_more [] es e

one_is : (e : Entry) → HasTraceCount e → All HasTraceCount (e ∷ [])
one_is e h zero d l = h
one_is e h (suc k) d l = absurd (omega arith)

pub journal_more : (es : List Entry) (e : Entry) → IsJournal es → length es < 10000 → HasTraceCount e → IsJournal (es ++ e ∷ [])
journal_more es e h few counted = record {
  few = omega (arith, length-append es (e ∷ []));
  counted = All-append HasTraceCount es (e ∷ []) h.counted (one_is e counted);
}

-- ---- how many traces a replay has
newest_count : (n : ℕ) (ks : List KeptDay) → length (all_traces (newest_days n ks)) ≤ length (all_traces ks)
newest_count n ks = omega (arith, traces_sum (newest_days n ks), traces_sum ks, sum_by-take-drop traces_in ks (length ks - n))

after_count : (ks : List KeptDay) (e : Entry) → HasTraceCount e → length (all_traces (days_after ks (command_of e))) ≤ length (all_traces ks) + 429496
after_count ks (Rolled day ts) h = omega (arith, with_count day ts ks)
after_count ks (Dropped day) h = omega (arith, without_count day ks)
after_count ks (Kept n) h = omega (arith, newest_count n ks)

tail_is : (e : Entry) (es : List Entry) → All HasTraceCount (e ∷ es) → All HasTraceCount es
tail_is e es h k d l = h (suc k) d (omega arith)

from_count : (ks : List KeptDay) (es : List Entry) → All HasTraceCount es → length (all_traces (days_from ks es)) ≤ length (all_traces ks) + 429496 * length es
from_count ks [] h = omega arith
from_count ks (e ∷ es) h =
    let a = from_count (days_after ks (command_of e)) es (tail_is e es h) in let b = after_count ks e (h 0 e (omega arith)) in omega arith

-- a journal that is not full leaves room for the traces of one entry more
pub room_for : (days : List KeptDay) (es : List Entry) (n : ℕ) → days ≡ replay es → IsJournal es → length es < 10000 → n ≤ 429496 → length (all_traces days) + n < 2 ^ 32
room_for days es n same h few most = let a = from_count [] es h.counted in let b = ap (λ (ks : List KeptDay). length (all_traces ks)) same in omega arith

-- ---- the kept traces
adds_some : (e : Entry) → HasTraceCount e → AddsSome (command_of e)
adds_some (Rolled day ts) h = h.0
adds_some (Dropped day) h = tt
adds_some (Kept n) h = tt

from_kept : CallsKeep → (ks : List KeptDay) (cs : List DayCommand) (es : List Entry) → All HasTraceCount es → AreKept ks cs → AreKept (days_from ks es) (commands_from cs es)
from_kept calls ks cs [] h kept = kept
from_kept calls ks cs (e ∷ es) h kept =
    from_kept calls (days_after ks (command_of e)) (command_of e ∷ cs) es (tail_is e es h) (calls ks cs (command_of e) (adds_some e (h 0 e (omega arith))) kept)

pub replay_kept : NothingIsKept → CallsKeep → (es : List Entry) → IsJournal es → AreKept (replay es) (commands_from [] es)
replay_kept nothing calls es h = from_kept calls [] [] es h.counted nothing
