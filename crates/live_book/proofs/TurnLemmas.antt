-- What a caller has after a turn, and after a join.
use Rattle.std.proofs.Common.{◌≡◌, ℕ, ◌-◌, ◌<◌, List, [], ◌∷◌, ◌++◌, length, take, refl, sym, ap, ◌∙◌, subst, arith, length-append}
use Rattle.std.specs.Prelude.{Option}
use Rattle.std.proofs.lemmas.List.{take-append-le, take_all}
use mathlib.Core.List.{IsPrefix}
use Rattle.atomic_table.specs.Seated.{TableId}
use Rattle.live_journal.specs.declared.entry.Entry.{Entry}
use Rattle.live_journal.specs.Journals.{JournalState}
use Rattle.live_journal.specs.Replays.{IsJournal}
use Rattle.live_book.specs.declared.rule.Knowledge.{Knowledge}
use Rattle.live_book.specs.Callers.{AddsEntry, AddsNothing, CallerState, HasTurn, TakesIn, all_but_last, caller_of}
use Rattle.live_book.specs.Histories.{AreOfOneHistory, turn}
use Rattle.live_book.specs.Plays.{Tells}
use Rattle.live_book.specs.Rule.{CallerSeat}
use Rattle.live_book.specs.Views.{committed_view, joined_caller_view, passed_view, told_view}
use Rattle.live_book.specs.inner.Turns.{IsInTurn, turn_view}
use Rattle.live_book.proofs.PrefixLemmas.{begins_longer}

but_last : (found entries : List Entry) (e : Entry) → entries ≡ found ++ e ∷ [] → all_but_last entries ≡ found
but_last found entries e is =
    let n : length (found ++ e ∷ []) - 1 ≡ length found = omega (arith, length-append found (e ∷ [])) in
    ap all_but_last is ∙ ap (λ (m : ℕ). take m (found ++ e ∷ [])) n ∙ take-append-le (length found) found (e ∷ []) (omega arith) ∙ take_all (length found) found (omega arith)

-- in its turn a caller found these entries and added this one
pub record Commits (e : Entry) (found : List Entry) (before now : CallerState) : Type 0 where
  pub turn : HasTurn before now
  pub added : AddsEntry e before now
  pub found_is : all_but_last now.front ≡ found

module _ (t : TableId) (k : Knowledge) (ticket : ℕ) (found entries : List Entry) (e : Entry) (some_turn : 0 < k.turns) (begins : IsPrefix k.front found) (is : entries ≡ found ++ e ∷ []) (journal : IsJournal entries) where
  abbrev then_knows : Knowledge
  then_knows = passed_view (committed_view (turn_view k ticket found) entries)

  commits_here : AreOfOneHistory then_knows.history → Commits e found (caller_of t k) (caller_of t then_knows)
  commits_here one = let last = but_last found entries e is in record {
    turn = record { same = refl; turn = omega arith; pass = refl; begins = begins_longer k.front found entries begins (e ∷ [], sym is); journal = journal };
    added = record {
      finds = record {
        ticket = ticket;
        turn_is = ap (λ (l : List Entry). k.history ++ turn ticket l entries ∷ []) (sym last);
        one_history = one;
        begins = subst (λ (l : List Entry). IsPrefix k.front l) (sym last) begins;
      };
      front = is ∙ ap (λ (l : List Entry). l ++ e ∷ []) (sym last);
      positions = ap (λ (l : List Entry). k.positions ++ length l ∷ []) (sym last);
    };
    found_is = last;
  }

pub commits : (e : Entry) (found entries : List Entry) (before now : CallerState) (t u : TableId) (k : Knowledge) (seat me : CallerSeat)
    → before ≡ caller_of t k → now ≡ caller_of u me.0 → u ≡ t → IsInTurn k seat found → me ≡ (passed_view (committed_view seat.0 entries), []) → 0 < k.turns → entries ≡ found ++ e ∷ [] → IsJournal entries
    → AreOfOneHistory me.0.history → Commits e found before now
commits e found entries before now t u k seat me was here same in_turn then some_turn is journal one =
    let knows : me.0 ≡ then_knows t k in_turn.ticket found entries e some_turn in_turn.begins is journal =
    ap (λ (x : CallerSeat). x.0) then ∙ ap (λ (x : CallerSeat). passed_view (committed_view x.0 entries)) in_turn.seat in
    let now_is : now ≡ caller_of t (then_knows t k in_turn.ticket found entries e some_turn in_turn.begins is journal) = here ∙ (λ j. caller_of (same j) (knows j)) in
    subst (λ (x : CallerState). Commits e found x now) (sym was) (subst (λ (x : CallerState). Commits e found (caller_of t k) x) (sym now_is)
    (commits_here t k in_turn.ticket found entries e some_turn in_turn.begins is journal (subst (λ (x : Knowledge). AreOfOneHistory x.history) knows one)))

-- ---- in its turn a caller found these entries and added nothing
pub record Refuses (found : List Entry) (before now : CallerState) : Type 0 where
  pub turn : HasTurn before now
  pub nothing : AddsNothing before now
  pub found_is : now.front ≡ found

module _ (t : TableId) (k : Knowledge) (ticket : ℕ) (found : List Entry) (some_turn : 0 < k.turns) (begins : IsPrefix k.front found) (journal : IsJournal found) where
  abbrev still_knows : Knowledge
  still_knows = passed_view (turn_view k ticket found)

  refuses_here : AreOfOneHistory still_knows.history → Refuses found (caller_of t k) (caller_of t still_knows)
  refuses_here one = record {
    turn = record { same = refl; turn = omega arith; pass = refl; begins = begins; journal = journal };
    nothing = record { finds = record { ticket = ticket; turn_is = refl; one_history = one; begins = begins }; positions = refl };
    found_is = refl;
  }

pub refuses : (found : List Entry) (before now : CallerState) (t u : TableId) (k : Knowledge) (seat me : CallerSeat)
    → before ≡ caller_of t k → now ≡ caller_of u me.0 → u ≡ t → IsInTurn k seat found → me ≡ (passed_view seat.0, []) → 0 < k.turns
    → AreOfOneHistory me.0.history → Refuses found before now
refuses found before now t u k seat me was here same in_turn then some_turn one =
    let knows : me.0 ≡ still_knows t k in_turn.ticket found some_turn in_turn.begins in_turn.journal =
    ap (λ (x : CallerSeat). x.0) then ∙ ap (λ (x : CallerSeat). passed_view x.0) in_turn.seat in
    let now_is : now ≡ caller_of t (still_knows t k in_turn.ticket found some_turn in_turn.begins in_turn.journal) = here ∙ (λ j. caller_of (same j) (knows j)) in
    subst (λ (x : CallerState). Refuses found x now) (sym was) (subst (λ (x : CallerState). Refuses found (caller_of t k) x) (sym now_is)
    (refuses_here t k in_turn.ticket found some_turn in_turn.begins in_turn.journal (subst (λ (x : Knowledge). AreOfOneHistory x.history) knows one)))

-- ---- a caller that takes in another
takes_in_here : (t v : TableId) (k l : Knowledge) (slots : List (ℕ × Option JournalState)) (me : CallerSeat) → Tells (joined_caller_view k l, slots) me → TakesIn (caller_of t k) (caller_of v l) (caller_of t (told_view (joined_caller_view k l)))
takes_in_here t v k l slots me told = record { seat = refl; own = told.heard.0; others = told.heard.1.0; once = told.once; most = told.turns; one_history = told.history }

pub takes_in : (before other now : CallerState) (t u v : TableId) (k l : Knowledge) (slots : List (ℕ × Option JournalState)) (middle me : CallerSeat)
    → before ≡ caller_of t k → other ≡ caller_of v l → now ≡ caller_of u me.0 → u ≡ t → middle ≡ (joined_caller_view k l, slots) → Tells middle me → TakesIn before other now
takes_in before other now t u v k l slots middle me was joins here same is tells =
    let told : Tells (joined_caller_view k l, slots) me = subst (λ (x : CallerSeat). Tells x me) is tells in
    let knows : me.0 ≡ told_view (joined_caller_view k l) = ap (λ (x : CallerSeat). x.0) told.seat in
    let now_is : now ≡ caller_of t (told_view (joined_caller_view k l)) = here ∙ (λ j. caller_of (same j) (knows j)) in
    subst (λ (x : CallerState). TakesIn x other now) (sym was) (subst (λ (x : CallerState). TakesIn (caller_of t k) x now) (sym joins) (subst (λ (x : CallerState). TakesIn (caller_of t k) (caller_of v l) x) (sym now_is) (takes_in_here t v k l slots me told)))
