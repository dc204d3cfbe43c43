-- Of two passes that each offer a row and then read, not both miss the other's row.
use Rattle.std.proofs.Common.{◌≡◌, ℕ, ◌+◌, ◌-◌, ◌<◌, true, false, List, [], ◌∷◌, ◌++◌, length, slice_index, sym, refl, ap, ◌∙◌, subst, ⊎_elim, ◌⊎◌, inl, inr, arith}
use Rattle.std.specs.Prelude.{Option, Some, None, Ok}
use Rattle.std.proofs.lemmas.Bool.{false≢true, or_left, or_right, cases_eq}
use Rattle.std.proofs.lemmas.List.Folds.{list_any-append}
use Rattle.std.specs.Int.{bit_at}
use mathlib.Core.Option.{some}
use mathlib.Core.List.{IsPrefix}
use lib.ListN.{get_elem?}
use Rattle.word_rows.specs.declared.entries.Entry.{Entry}
use Rattle.word_rows.specs.declared.views.View.{View}
use Rattle.word_rows.specs.declared.events.StepEvent.{StepEvent}
use Rattle.word_rows.specs.declared.events.StepEvent.TheVariants.{Clear as clear, Load as load}
use Rattle.word_rows.specs.declared.replies.Reply.TheVariants.{Cleared}
use Rattle.word_rows.specs.Rows.{clears, is_row}
use Rattle.word_rows.specs.Words.{bit_of}
use Rattle.word_rows.specs.Accounts.{AreZero, view_clears}
use Rattle.word_rows.specs.Changes.{is_idle, next_view, empty_view, with_done}
use Rattle.word_rows.specs.Machine.{StepState, Fault, after, opening_state, fault_of, outcome, next_state, view_at}
use Rattle.word_rows.specs.Meeting.{RowIsSame}
use Rattle.word_rows.specs.Keeping.{EventsKeepSound, WidthStays, ZerosStay}
use Rattle.word_rows.proofs.HistoryLemmas.{steps_snoc}
use Rattle.word_rows.proofs.ViewLemmas.{put_here}
use Rattle.word_rule.specs.Histories.{ArePrefixes, HasStep, IsClearBetween, IsLoadBetween, offered_until, read_until}
use Rattle.word_rule.specs.Uses.{NotBothMiss}
use Rattle.word_rule.proofs.ListLemmas.{at_or}
use Rattle.word_rule.proofs.StepLemmas.{rows_snoc, loaded_by}
use Rattle.word_rule.proofs.OfferLemmas.{next, ends}
use Rattle.word_rule.proofs.PastLemmas.{prefix_itself, prefix_longer}

-- ---- of two prefixes of one list one is a prefix of the other
abbrev head_of : StepEvent → List StepEvent → StepEvent
head_of d [] = d
head_of d (e ∷ es) = e

abbrev tail_of : List StepEvent → List StepEvent
tail_of [] = []
tail_of (e ∷ es) = es

abbrev has_one : List StepEvent → Type 0
has_one [] = ⊥
has_one (e ∷ es) = Unit {0}

pub in_line : (p q r : List StepEvent) → IsPrefix p r → IsPrefix q r → IsPrefix p q ⊎ IsPrefix q p
in_line [] q r f g = inl (q, refl)
in_line (x ∷ xs) [] r f g = inr (x ∷ xs, refl)
in_line (x ∷ xs) (y ∷ ys) [] f g = absurd (subst has_one f.1 tt)
in_line (x ∷ xs) (y ∷ ys) (z ∷ zs) f g =
    let same : x ≡ y = ap (head_of x) f.1 ∙ sym (ap (head_of y) g.1) in
    let rest = in_line xs ys zs (f.0, ap tail_of f.1) (g.0, ap tail_of g.1) in ⊎_elim
    (λ (h : IsPrefix xs ys). inl (h.0, λ j. same j ∷ h.1 j))
    (λ (h : IsPrefix ys xs). inr (h.0, λ j. sym same j ∷ h.1 j))
    rest

-- ---- a row whose last entry is cleared
is_clear : (s : StepState) (seat : ℕ) (row : List Entry) (old : ℕ) (fault : Option Fault) → fault_of s (clear seat row) ≡ fault → (outcome s (clear seat row) fault).1 ≡ Ok (Cleared old) → fault_of s (clear seat row) ≡ None
is_clear s seat row old None is r = is
is_clear s seat row old (Some fault) is r = cc

none_clears : (row : List Entry) (i b : ℕ) → (0 < length row → ⊥) → clears row i b ≡ false
none_clears [] i b n = refl
none_clears (e ∷ es) i b n = absurd (n (omega arith))

module _ (sound : EventsKeepSound) (same_row : RowIsSame) (width_stays : WidthStays) (zeros_stay : ZerosStay) (width all : ℕ) where
  -- after the step of the last entry the row is done, so its bits are 0
  module _ (v : View) (row : List Entry) (rests : is_idle v ≡ true) (form : is_row row ≡ true) (some_entry : 0 < length row) where
    abbrev last : ℕ
    last = length row - 1

    last_in : last < length row
    last_in = omega arith

    abbrev full : View
    full = record v { done = v.done ++ row ∷ [] }

    becomes : next_view (offered_until v row last) row ≡ full
    becomes = (next same_row v row rests last last_in).more ∙ ends same_row v row rests (last + 1) some_entry (omega arith)

    full_clears : (i b : ℕ) → clears row i b ≡ true → view_clears full i b ≡ true
    full_clears i b t = or_left _ _ (list_any-append (λ (r : List Entry). clears r i b) v.done (row ∷ []) ∙ or_right _ _ (or_left _ _ t))

    at_step : (before : List (List StepEvent)) (old : ℕ) (history : List StepEvent) → HasStep width all before (offered_until v row last) (λ seat. clear seat row) (Cleared old) history
        → (i b : ℕ) → i < width → b < 64 → clears row i b ≡ true → bit_of (after width all history).0.words i b ≡ 0
    at_step before old history r i b h l t =
        let s : StepState = (after width all r.events).0 in let e : StepEvent = clear r.seat row in
        let none : fault_of s e ≡ None = is_clear s r.seat row old _ refl r.replied in
        let then : StepState = (after width all (r.events ++ e ∷ [])).0 in
        let is : then ≡ next_state s e = steps_snoc (opening_state width all) r.events e ∙ ap (λ (f : Option Fault). (outcome s e f).0) none in
        let there : view_at s r.seat ≡ offered_until v row last = at_or s.views r.seat (offered_until v row last) empty_view r.has in
        let now : next_view (view_at s r.seat) row ≡ full = ap (λ (u : View). next_view u row) there ∙ becomes in
        let has : get_elem? then.views r.seat ≡ some full = ap (λ (m : StepState). get_elem? m.views r.seat) is
        ∙ put_here s.views r.seat (offered_until v row last) (next_view (view_at s r.seat) row) r.has ∙ ap (λ (u : View). some u) now in
        let ok = (sound width all (r.events ++ e ∷ []) (rows_snoc r.events e r.rows form)).sound in
        let zero_then : bit_of then.words i b ≡ 0 = ok.cleared r.seat full has i b (subst (λ (n : ℕ). i < n) (sym (width_stays width all (r.events ++ e ∷ []))) h) l (full_clears i b t) in
        ap (λ (es : List StepEvent). bit_of (after width all es).0.words i b) (sym r.stands.1) ∙ zeros_stay width all (r.events ++ e ∷ []) r.stands.0 i b h zero_then

  -- after a past that is known once the row was offered, its bits are 0
  offered_zero : (v : View) (row : List Entry) → is_idle v ≡ true → is_row row ≡ true → (before between : List (List StepEvent)) (past : List StepEvent)
      → ((k : ℕ) → k < length row → IsClearBetween width all before (offered_until v row k) row between) → ArePrefixes between past
      → (i b : ℕ) → i < width → b < 64 → clears row i b ≡ true → bit_of (after width all past).0.words i b ≡ 0
  offered_zero v row rests form before between past stands begins i b h l t =
      ⊎_elim
      (λ (z : length row ≡ 0). absurd (false≢true (sym (none_clears row i b (λ m. omega arith)) ∙ t)))
      (λ (n : length row ≡ 0 → ⊥). let some_entry : 0 < length row = omega arith in let o = stands (length row - 1) (omega arith) in
      at_step v row rests form some_entry before o.0 past (o.1 past begins) i b h l t)
      (cases_eq (length row) 0)

  -- a load after such a past finds them 0
  later_lacks : (row : List Entry) (past : List StepEvent) (between now : List (List StepEvent)) (v : View) (words : List ℕ) (history : List StepEvent)
      → ((i b : ℕ) → i < width → b < 64 → clears row i b ≡ true → bit_of (after width all past).0.words i b ≡ 0)
      → ((events : List StepEvent) → ArePrefixes between events → IsPrefix past events)
      → ((i : ℕ) → i < length words → IsLoadBetween width all between (read_until v words i) i (slice_index words i) now)
      → ArePrefixes now history → AreZero words (clears row)
  later_lacks row past between now v words history zero_at goes loaded begins i b h l t =
      let r = loaded i h history begins in
      let is = loaded_by (after width all r.events).0 r.seat i (slice_index words i) _ refl r.replied in
      let inside : i < width = subst (λ (n : ℕ). i < n) (width_stays width all r.events) is.0 in
      let p = goes r.events r.goes_on in
      let there : bit_of (after width all r.events).0.words i b ≡ 0 = ap (λ (es : List StepEvent). bit_of (after width all es).0.words i b) (sym p.1) ∙ zeros_stay width all past p.0 i b inside (zero_at i b inside l t) in
      ap (λ (n : ℕ). bit_at n b) (sym is.1) ∙ there

pub not_both_miss : EventsKeepSound → RowIsSame → WidthStays → ZerosStay → NotBothMiss
not_both_miss sound same_row width_stays zeros_stay table one other one' other' row row' words words' history rests form rests' form' f g begins begins' =
    let w = table.width in let a = table.all in
    let p : List StepEvent = f.one.0 in let q : List StepEvent = g.one.0 in
    let at_p : ArePrefixes f.between p = subst (λ (ps : List (List StepEvent)). ArePrefixes ps p) (sym f.one.2) (prefix_itself p, tt) in
    let at_q : ArePrefixes g.between q = subst (λ (ps : List (List StepEvent)). ArePrefixes ps q) (sym g.one.2) (prefix_itself q, tt) in
    let under : (events : List StepEvent) → ArePrefixes f.between events → IsPrefix p events = λ events h. (subst (λ (ps : List (List StepEvent)). ArePrefixes ps events) f.one.2 h).0 in
    let under' : (events : List StepEvent) → ArePrefixes g.between events → IsPrefix q events = λ events h. (subst (λ (ps : List (List StepEvent)). ArePrefixes ps events) g.one.2 h).0 in ⊎_elim
    (λ (h : IsPrefix p q). inl (later_lacks sound same_row width_stays zeros_stay w a row p g.between other'.pasts (with_done other.view row') words' history
    (offered_zero sound same_row width_stays zeros_stay w a one.view row rests form one.pasts f.between p f.cleared at_p)
    (λ events k. prefix_longer p q events h (under' events k)) g.loaded begins'))
    (λ (h : IsPrefix q p). inr (later_lacks sound same_row width_stays zeros_stay w a row' q f.between one'.pasts (with_done one.view row) words history
    (offered_zero sound same_row width_stays zeros_stay w a other.view row' rests' form' other.pasts g.between q g.cleared at_q)
    (λ events k. prefix_longer q p events h (under events k)) f.loaded begins))
    (in_line p q history (under history (f.more history begins)) (under' history (g.more history begins')))
