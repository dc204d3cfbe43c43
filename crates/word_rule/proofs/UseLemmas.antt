-- What two passes that offered and read say of one history.
use Rattle.std.proofs.Common.{◌≡◌, ℕ, ◌<◌, true, ◌||◌, ◌&&◌, ◌==◌, nat_lt, IsTrue, List, [], ◌∷◌, ◌++◌, length, slice_index, sym, ap, ◌∙◌, subst}
use Rattle.std.proofs.lemmas.Bool.{and_from, eq-eqb, lt-ltb, or_left, or_right}
use Rattle.std.proofs.lemmas.List.Folds.{list_any-append}
use Rattle.word_rows.specs.declared.entries.Entry.{Entry}
use Rattle.word_rows.specs.declared.views.View.{View}
use Rattle.word_rows.specs.declared.views.Reading.{Reading}
use Rattle.word_rows.specs.declared.events.StepEvent.{StepEvent}
use Rattle.word_rows.specs.declared.events.StepEvent.TheVariants.{Load as load}
use Rattle.word_rows.specs.declared.replies.Reply.TheVariants.{Loaded}
use Rattle.word_rows.specs.Rows.{clears, is_row, rows_clear}
use Rattle.word_rows.specs.Words.{IsMeet, bit_of, full_words}
use Rattle.word_rows.specs.Accounts.{AreZero, LackOnly, lacks}
use Rattle.word_rows.specs.Changes.{is_idle, first_view, left_view, new_view, readings_from, with_done, with_readings}
use Rattle.word_rows.specs.Meeting.{BlockLacks, LacksAppend}
use Rattle.word_rule.specs.Holdings.{Holding, Opened, together}
use Rattle.word_rule.specs.Histories.{HasStep, IsClearBetween, IsLoadBetween, IsOnePast, KnowsMore, EndsWith, offered_until, read_until}
use Rattle.word_rule.specs.Shown.{shows}
use Rattle.word_rule.specs.Uses.{HasOfferedAndRead, NotBothMiss, HasLoad, ReadInOneHistory, OfferedInOneHistory}
use Rattle.word_rule.proofs.PastLemmas.{of_left, of_right}

has_load : (width all word value : ℕ) (pasts : List (List StepEvent)) (v : View) (history : List StepEvent) → HasStep width all pasts v (λ seat. load seat word) (Loaded value) history → HasLoad width all history word value
has_load width all word value pasts v history r = record { events = r.events; seat = r.seat; stands = r.stands; replied = r.replied }

-- the words lack the row that the view had done before
own_row : (v w : View) (row : List Entry) (words : List ℕ) → w ≡ with_done v row → AreZero words (shows w) → AreZero words (clears row)
own_row v w row words is shown i b h l t = shown i b h l (or_left _ _ (or_left _ _ (ap (λ (u : View). rows_clear u.done i b) is ∙ (list_any-append (λ (r : List Entry). clears r i b) v.done (row ∷ []) ∙ or_right _ _ (or_left _ _ t)))))

-- a pass that offers and then reads
pub has_offered : (table : Opened) (before mid now : Holding) (row : List Entry) (words : List ℕ)
    → mid.table_id ≡ before.table_id → mid.view ≡ with_done before.view row
    → ((k : ℕ) → k < length row → IsClearBetween table.width table.all before.pasts (offered_until before.view row k) row mid.pasts) → IsOnePast mid.pasts
    → now.table_id ≡ mid.table_id → now.view ≡ with_readings mid.view (readings_from 0 words) → AreZero words (shows mid.view)
    → ((i : ℕ) → i < length words → IsLoadBetween table.width table.all mid.pasts (read_until mid.view words i) i (slice_index words i) now.pasts) → KnowsMore mid.pasts now.pasts
    → HasOfferedAndRead table before row words now
has_offered table before mid now row words same done cleared one same' read shown loaded more = record {
  table_id = same' ∙ same;
  view = read ∙ ap (λ (v : View). with_readings v (readings_from 0 words)) done;
  own = own_row before.view mid.view row words done shown;
  between = mid.pasts;
  one = one;
  cleared = cleared;
  loaded = λ i h. subst (λ (v : View). IsLoadBetween table.width table.all mid.pasts (read_until v words i) i (slice_index words i) now.pasts) done (loaded i h);
  more = more;
}

-- a reading lacks a bit that is 0 in its words
reading_lacks : BlockLacks → (words : List ℕ) (i b : ℕ) → i < length words → bit_of words i b ≡ 0 → lacks (readings_from 0 words) i b ≡ true
reading_lacks block words i b h z = block words i b ∙ and_from _ _ (lt-ltb i (length words) h) (eq-eqb (bit_of words i b) 0 z)

-- two passes that had no row and no reading before, and are one when the table closes
pub both_offered : NotBothMiss → BlockLacks → LacksAppend → (table : Opened) (one other one' other' : Holding) (row row' : List Entry) (first second words : List ℕ)
    → one.view ≡ left_view 1 (first_view 2) → other.view ≡ new_view 1 (first_view 2) → IsTrue (is_row row) → IsTrue (is_row row')
    → HasOfferedAndRead table one row first one' → HasOfferedAndRead table other row' second other'
    → EndsWith table.width table.all (together one' other').pasts (together one' other').view words
    → IsMeet (full_words table.width) (together one' other').view.done words
    → LackOnly (together one' other').view.readings (together one' other').view.done
    → OfferedInOneHistory table.width table.all row row' first second words
both_offered miss block append table one other one' other' row row' first second words is is' form form' f g e met lack =
    let w = table.width in let a = table.all in
    let left = of_left one'.pasts other'.pasts e.history e.goes_on in
    let right = of_right one'.pasts other'.pasts e.history e.goes_on in
    let done : (together one' other').view.done ≡ row ∷ row' ∷ [] = (λ j. (f.view j).done ++ (g.view j).done) ∙ (λ j. ((is j).done ++ row ∷ []) ++ ((is' j).done ++ row' ∷ [])) in
    let readings : (together one' other').view.readings ≡ readings_from 0 first ++ readings_from 0 second = (λ j. (f.view j).readings ++ (g.view j).readings) ∙ (λ j. ((is j).readings ++ readings_from 0 first) ++ ((is' j).readings ++ readings_from 0 second)) in
    let only : LackOnly (readings_from 0 first ++ readings_from 0 second) (row ∷ row' ∷ []) = subst (λ (rs : List Reading). LackOnly rs (row ∷ row' ∷ [])) readings (subst (LackOnly (together one' other').view.readings) done lack) in
    let both : (i b : ℕ) → lacks (readings_from 0 first ++ readings_from 0 second) i b ≡ (lacks (readings_from 0 first) i b || lacks (readings_from 0 second) i b) = append (readings_from 0 first) (readings_from 0 second) in
    record {
      read = record {
        history = e.history;
        rows = e.rows;
        of_first = λ i h. has_load w a i (slice_index first i) f.between _ e.history (f.loaded i h e.history left);
        of_second = λ i h. has_load w a i (slice_index second i) g.between _ e.history (g.loaded i h e.history right);
        seat = e.seat;
        replied = e.replied;
      };
      own_first = f.own;
      own_second = g.own;
      not_both_miss = miss table one other one' other' row row' first second e.history (ap is_idle is) form (ap is_idle is') form' f g left right;
      only_first = λ i b h l z. only i b l (both i b ∙ or_left _ _ (reading_lacks block first i b h z));
      only_second = λ i b h l z. only i b l (both i b ∙ or_right _ _ (reading_lacks block second i b h z));
      ends = subst (λ (rows : List (List Entry)). IsMeet (full_words w) rows words) done met;
    }
