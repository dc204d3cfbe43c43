-- What each step asks of the rule.
use Rattle.std.proofs.Common.{◌≡◌, ◌≢◌, ℕ, zero, suc, ◌+◌, ◌%◌, ◌^◌, ◌<◌, ◌≤◌, Bool, true, false, ◌==◌, List, [], ◌∷◌, length, set, slice_index, sym, refl, ap, ◌∙◌, subst, ⊎_elim, inl, arith}
use Rattle.std.specs.Prelude.{Option, Some, MatchBool, cond}
use Rattle.std.proofs.lemmas.Bool.{eqb-true, le-ltb}
use Rattle.std.proofs.lemmas.List.{set-get_or}
use Rattle.atomic_table.specs.Table.{Act, Valid, carried_after, step as base_step, stepped, keeps, takes, gives, put_back, Allows, Splits, Joins, opening}
use Rattle.atomic_table.proofs.Lists.{at_set}
use mathlib.Core.Option.{Option as Home, none, some, some-injective, some-ne-none}
use mathlib.Core.List.{IsPrefix}
use lib.ListN.{get_elem?}
use Rattle.live_journal.specs.declared.entry.Entry.{Entry}
use Rattle.live_journal.specs.Journals.{JournalState, journal}
use Rattle.live_book.specs.declared.rule.Plan.{Plan}
use Rattle.live_book.specs.declared.rule.Knowledge.{Knowledge}
use Rattle.live_book.specs.declared.rule.Stage.TheVariants.{Resting, Waiting, InTurn, Seeing}
use Rattle.live_book.specs.Plays.{CommitPlay, PassPlay, SeePlay, TakesBook, TellTurnsPlay, TicketPlay, WatchPlay}
use Rattle.live_book.specs.Histories.{AllStand}
use Rattle.live_book.specs.Rule.{EachCaller, IsLiveBook, IsOpened, CallerSeat, BookTable}
use Rattle.live_book.specs.Views.{committed_view, empty_caller_view, first_caller_view, found_in, in_turn_view, joined_caller_view, left_caller_view, new_caller_view, passed_view, seeing_view, ticket_in, told_view, waiting_view}
use Rattle.live_book.specs.inner.Seats.{HasHeard}
use Rattle.live_book.proofs.PrefixLemmas.{all_shorter}
use Rattle.live_book.proofs.SeatLemmas.{join_keeps, split_keeps}
use Rattle.live_book.proofs.StepLemmas.{come_keeps, commit_keeps, draw_keeps, pass_keeps, pass_tells, see_keeps, seeing_stage, slot_home, tell_history, tell_keeps, tell_once, turns_most, unchanged}

mod_small : (n : ℕ) → n + 1 < 2 ^ 64 → (n + 1) % 2 ^ 64 ≡ n + 1
mod_small n l = omega arith

one_home : {A : Type 0} (l : List A) (a : A) → length l ≡ 1 → set l 0 a ≡ a ∷ []
one_home [] a e = absurd (omega arith)
one_home (x ∷ []) a e = refl
one_home (x ∷ y ∷ l) a e = absurd (omega arith)

module _ (plan : Plan) (slots id : ℕ) (me : CallerSeat) (names : me.0.names ≡ plan.names) (all : me.0.all ≡ plan.turns) where
  -- the table after a load
  loaded : (s : BookTable) (word : ℕ) (homes : List (Home (Option JournalState))) (w : Knowledge) → IsLiveBook plan (record { words = s.words; homes = homes; views = set s.views id w })
      → IsLiveBook plan (record { words = set s.words word (slice_index s.words word); homes = homes; views = set s.views id w })
  loaded s word homes w h = subst (λ (ws : List ℕ). IsLiveBook plan (record { words = ws; homes = homes; views = set s.views id w })) (sym (set-get_or s.words word 0)) h

  pub draw_allowed : me.0.stage ≡ Resting → 0 < me.0.turns → Allows (IsLiveBook plan) slots id me 0 (λ n. (n + 1) % 2 ^ 64) (TicketPlay (base_step slots 0 1 0 none) me)
  draw_allowed st some_turn s h homes at small =
      let value : ℕ = slice_index s.words 0 in
      let found : value ≡ h.drawn = ap (λ (ws : List ℕ). slice_index ws 0) h.words in
      let fits : h.drawn + 1 < 2 ^ 64 = (let most = turns_most plan s h id me.0 at in let f = h.fits in omega arith) in
      let words : set s.words 0 ((value + 1) % 2 ^ 64) ≡ (h.drawn + 1) ∷ h.served ∷ length h.longest ∷ [] =
      ap (λ (ws : List ℕ). set ws 0 ((slice_index ws 0 + 1) % 2 ^ 64)) h.words ∙ ap (λ (n : ℕ). n ∷ h.served ∷ length h.longest ∷ []) (mod_small h.drawn fits) in
      let now : IsLiveBook plan (record { words = set s.words 0 ((value + 1) % 2 ^ 64); homes = s.homes; views = set s.views id (waiting_view me.0 value) }) =
      subst (λ (ws : List ℕ). IsLiveBook plan (record { words = ws; homes = s.homes; views = set s.views id (waiting_view me.0 value) })) (sym words)
      (subst (λ (n : ℕ). IsLiveBook plan (record { words = (h.drawn + 1) ∷ h.served ∷ length h.longest ∷ []; homes = s.homes; views = set s.views id (waiting_view me.0 n) })) (sym found)
      (draw_keeps plan s h id me.0 at st some_turn names all)) in
      (waiting_view me.0 value, keeps, tt, now, refl)

  pub watch_allowed : me.0.stage ≡ Waiting (ticket_in me.0.stage) → Allows (IsLiveBook plan) slots id me 1 (λ n. n) (WatchPlay (base_step slots 1 0 0 none) me)
  watch_allowed st s h homes at small = by_test (value == ticket_in me.0.stage) refl
    where
      value : ℕ
      value = slice_index s.words 1

      by_test : (b : Bool) → (value == ticket_in me.0.stage) ≡ b
          → (w : Knowledge) × (a : Act (Option JournalState)) × Valid s.homes me.1 a × IsLiveBook plan (stepped s 1 value id me.1 w a) × WatchPlay (base_step slots 1 0 0 none) me value (w, carried_after me.1 a)
      by_test true t =
          let found : value ≡ h.served = ap (λ (ws : List ℕ). slice_index ws 1) h.words in
          let served : ticket_in me.0.stage ≡ h.served = sym (eqb-true value (ticket_in me.0.stage) t) ∙ found in
          let w : Knowledge = in_turn_view me.0 h.longest in
          let book : Option JournalState = Some (journal me.0.names h.longest) in (
            w,
            takes 0 book,
            ap (λ (hs : List (Home (Option JournalState))). get_elem? hs 0) (slot_home plan s h id me.0 at st served names all) ∙ (λ j. some (some (Some (journal (sym names j) h.longest)))),
            loaded s 1 (set s.homes 0 none) w (come_keeps plan s h id me.0 at st served names all (set s.homes 0 none)),
            subst (λ (b : Bool). MatchBool b (TakesBook me (w, (0, book) ∷ me.1)) (◌≡◌ {A = CallerSeat} (w, (0, book) ∷ me.1) me)) (sym t) (record { found = h.longest; seat = refl; begins = h.fronts id me.0 at }),
          )
      by_test false t = (
        me.0,
        keeps,
        tt,
        subst (IsLiveBook plan) (sym (unchanged s 1 id me.0 at)) h,
        subst (λ (b : Bool). MatchBool b (TakesBook me me) (me ≡ me)) (sym t) refl,
      )

  pub see_allowed : me.0.stage ≡ InTurn (ticket_in me.0.stage) (found_in me.0.stage) → Allows (IsLiveBook plan) slots id me 2 (λ n. n) (SeePlay (base_step slots 2 0 0 none) me)
  see_allowed st s h homes at small =
      (seeing_view me.0, keeps, tt, loaded s 2 s.homes (seeing_view me.0) (see_keeps plan s h id me.0 at st names all), refl)

  module _ (st : me.0.stage ≡ Seeing (ticket_in me.0.stage) (found_in me.0.stage)) where
    pub commit_allowed : found_in me.0.stage ≡ me.0.front → (entries : List Entry) → IsPrefix me.0.front entries → length entries ≡ length me.0.front + 1 → length entries ≤ 10000
        → Allows (IsLiveBook plan) slots id me 2 (λ n. (n + 1) % 2 ^ 64) (CommitPlay entries (base_step slots 2 1 0 none) me)
    commit_allowed fresh entries more one few s h homes at small =
        let long : length me.0.front ≡ length h.longest = ap (λ (l : List Entry). length l) (seeing_stage plan s h id me.0 at st names all).3 in
        let next : (length h.longest + 1) % 2 ^ 64 ≡ length entries = mod_small (length h.longest) (omega arith) ∙ omega arith in
        let words : set s.words 2 ((slice_index s.words 2 + 1) % 2 ^ 64) ≡ h.drawn ∷ h.served ∷ length entries ∷ [] =
        ap (λ (ws : List ℕ). set ws 2 ((slice_index ws 2 + 1) % 2 ^ 64)) h.words ∙ ap (λ (n : ℕ). h.drawn ∷ h.served ∷ n ∷ []) next in
        let w : Knowledge = committed_view me.0 entries in
        (w, keeps, tt, subst (λ (ws : List ℕ). IsLiveBook plan (record { words = ws; homes = s.homes; views = set s.views id w })) (sym words) (commit_keeps plan s h id me.0 at st names all fresh entries more one), refl)

    pub pass_allowed : slots ≡ 1 → me.1 ≡ (0, Some (journal me.0.names me.0.front)) ∷ [] → Allows (IsLiveBook plan) slots id me 1 (λ n. (n + 1) % 2 ^ 64) (PassPlay (base_step slots 1 1 0 none) me)
    pass_allowed one slot s h homes at small =
        let book : Option JournalState = Some (journal me.0.names me.0.front) in
        let stage = seeing_stage plan s h id me.0 at st names all in
        let fits : h.served + 1 < 2 ^ 64 = (let a = stage.0 in let b = stage.1 in let most = turns_most plan s h id me.0 at in let f = h.fits in omega arith) in
        let words : set s.words 1 ((slice_index s.words 1 + 1) % 2 ^ 64) ≡ h.drawn ∷ (h.served + 1) ∷ length h.longest ∷ [] =
        ap (λ (ws : List ℕ). set ws 1 ((slice_index ws 1 + 1) % 2 ^ 64)) h.words ∙ ap (λ (n : ℕ). h.drawn ∷ n ∷ length h.longest ∷ []) (mod_small h.served fits) in
        let home : put_back s.homes me.1 ≡ some book ∷ [] = ap (λ (c : List (ℕ × Option JournalState)). put_back s.homes c) slot ∙ one_home s.homes (some book) (homes ∙ one) in
        let w : Knowledge = passed_view me.0 in (
          w,
          gives,
          tt,
          subst (λ (ws : List ℕ). IsLiveBook plan (record { words = ws; homes = put_back s.homes me.1; views = set s.views id w })) (sym words)
              (subst (λ (hs : List (Home (Option JournalState))). IsLiveBook plan (record { words = h.drawn ∷ (h.served + 1) ∷ length h.longest ∷ []; homes = hs; views = set s.views id w })) (sym home)
              (pass_keeps plan s h id me.0 at st names all)),
          record {
            served = ap (λ (ws : List ℕ). slice_index ws 1) h.words ∙ sym stage.0;
            passes = record { seat = refl; history = pass_tells plan s h id me.0 at st names all };
          },
        )

  pub tell_allowed : HasHeard me.0 → Allows (IsLiveBook plan) slots id me 0 (λ n. n) (TellTurnsPlay (base_step slots 0 0 0 none) me)
  tell_allowed short s h homes at small = (
    told_view me.0,
    keeps,
    tt,
    loaded s 0 s.homes (told_view me.0) (tell_keeps plan s h id me.0 at names all),
    record {
      seat = refl;
      turns = let most = turns_most plan s h id me.0 at in omega arith;
      fits = let most = turns_most plan s h id me.0 at in let f = h.fits in omega arith;
      once = tell_once plan s h id me.0 at names all;
      history = tell_history plan s h id me.0 at names all;
      heard = all_shorter me.0.heard me.0.front h.longest (h.fronts id me.0 at) short (h.heard id me.0 at);
    },
  )

module _ (plan : Plan) (id : ℕ) (k : Knowledge) (names : k.names ≡ plan.names) (all : k.all ≡ plan.turns) (st : k.stage ≡ Resting) where
  pub split_allowed : (n : ℕ) → n ≤ k.turns → Splits (IsLiveBook plan) id k (left_caller_view n k) (new_caller_view n k)
  split_allowed n most s h at = split_keeps plan s h id k at st names all n most

  pub join_allowed : (other : ℕ) (l : Knowledge) → l.stage ≡ Resting → Joins (IsLiveBook plan) id k other l (joined_caller_view k l) empty_caller_view
  join_allowed other l st' s h at apart there =
      let there' : get_elem? s.views other ≡ some l = ⊎_elim (λ (t : (other ≡ id) × (joined_caller_view k l ≡ l)). absurd (apart t.0)) (λ (t : (other ≢ id) × (get_elem? s.views other ≡ some l)). t.1) (at_set s.views id other (joined_caller_view k l) l there) in
      join_keeps plan s h id k at st names all other l there' apart st'

-- ---- the table as it opens
only : (F : Knowledge → Type 0) (u : Knowledge) → F u → EachCaller F (u ∷ [])
only F u f zero v e = subst F (some-injective u v e) f
only F u f (suc j) v e = absurd (some-ne-none v (sym e))

pub book_opens : (plan : Plan) → plan.turns < 2 ^ 64 → IsLiveBook plan (opening (0 ∷ 0 ∷ 0 ∷ []) (Some (journal plan.names []) ∷ []) (first_caller_view plan))
book_opens plan fits = record {
  drawn = 0;
  served = 0;
  settled = [];
  longest = [];
  words = refl;
  history = record {
    history = [];
    leads = refl;
    count = refl;
    stand = only (λ x. AllStand [] x.history) (first_caller_view plan) tt;
    once = λ n. ap (λ (b : Bool). cond b 1 0) (sym (le-ltb n 0 (omega arith)));
  };
  quiet = λ _. refl;
  turns = omega arith;
  fits = fits;
  opened = only (IsOpened plan) (first_caller_view plan) (inl (refl, refl));
  passes = refl;
  differ = λ n. omega arith;
  held = refl;
  stages = only _ (first_caller_view plan) tt;
  fronts = only (λ x. IsPrefix x.front []) (first_caller_view plan) ([], refl);
  heard = only _ (first_caller_view plan) tt;
  is_front = record { id = 0; caller = first_caller_view plan; has = refl; front = refl };
  once = λ p. omega arith;
  below = λ p l. refl;
  home = λ _. refl;
}
