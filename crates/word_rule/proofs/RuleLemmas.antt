-- Each step keeps the rule, since it is a step of the step machine or changes nothing.
use Rattle.std.proofs.Common.{◌≡◌, ◌≢◌, ℕ, zero, suc, ◌+◌, ◌^◌, ◌<◌, ◌≤◌, Bool, true, false, not, ◌||◌, ◌==◌, List, [], ◌∷◌, ◌++◌, length, map, set, get_or, take, bit_and, bit_xor, slice_index, sym, refl, ap, ◌∙◌, subst, ⊎_elim, inl, inr, arith, length-set}
use Rattle.std.specs.Prelude.{Result, Ok, MatchBool}
use Rattle.std.proofs.lemmas.Bool.{eqb-true, cond_both, not_from_false, ne_eqb, or_cases, or_left}
use Rattle.std.proofs.lemmas.List.{map-set, map-append, set-get_or, length-replicate}
use Rattle.std.proofs.lemmas.List.Sums.{get_or-le-sum_by}
use Rattle.std.specs.Int.{bit_at, bit_not, w64}
use Rattle.std.specs.Int.Bits.{xor_zero_r}
use mathlib.Core.Option.{some, none, some-injective, some-ne-none}
use lib.ListN.{get_elem?}
use Rattle.atomic_table.specs.Table.{State, Me, Act, Valid, carried_after, step as base_step, stepped, keeps, Allows, Splits, Joins, Seen, Final, opening}
use Rattle.atomic_table.proofs.Lists.{at_set, at_snoc, set_again}
use Rattle.word_rows.specs.declared.entries.Entry.{Entry}
use Rattle.word_rows.specs.declared.views.View.{View}
use Rattle.word_rows.specs.declared.events.StepEvent.{StepEvent}
use Rattle.word_rows.specs.declared.events.StepEvent.TheVariants.{Clear as clear, Load as load, Split as split, Join as join, Close as close}
use Rattle.word_rows.specs.declared.replies.Reply.{Reply}
use Rattle.word_rows.specs.declared.replies.Reply.TheVariants.{Cleared, Loaded, Split, Joined, Closed}
use Rattle.word_rows.specs.Rows.{is_row, below, clears, rows_clear}
use Rattle.word_rows.specs.Words.{IsMeet, full_words, without, without_entry}
use Rattle.word_rows.specs.Accounts.{Each, lacks}
use Rattle.word_rows.specs.Changes.{is_idle, first_view, empty_view, finished_view, midway_view, next_view, with_reading, left_view, new_view, joined_view}
use Rattle.word_rows.specs.Sound.{IsSound}
use Rattle.word_rows.specs.Machine.{StepState, Fault, IsSoundState, HasRow, can_clear, is_live, entry_at, opening_state, after, step}
use Rattle.word_rows.specs.Meeting.{ComplementClears}
use Rattle.word_rows.specs.Keeping.{EventsKeepSound, WholeShareKnowsAll, KnowsAll}
use Rattle.word_rows.proofs.ViewLemmas.{each_set, each_snoc}
use Rattle.word_rows.proofs.HistoryLemmas.{steps_snoc}
use Rattle.word_rule.specs.declared.rule.Plan.{Plan}
use Rattle.word_rule.specs.declared.rule.Knowledge.{Knowledge}
use Rattle.word_rule.specs.Shown.{shows}
use Rattle.word_rule.specs.Histories.{ArePrefixes, IsStepBetween, KnowsMore, IsOnePast, EndsWith}
use Rattle.word_rule.specs.Rule.{view_of, is_seated, machine_state, HasHistory}
use Rattle.word_rule.specs.Plays.{Clears, ClearPlay, SkipPlay, LoadPlay, TellPlay, left_knowledge, new_knowledge, joined_knowledge, no_knowledge}
use Rattle.word_rule.proofs.ListLemmas.{at_or, at_inside}
use Rattle.word_rule.proofs.StepLemmas.{rows_snoc, clear_step, load_step, split_step, join_step, close_step}
use Rattle.word_rule.proofs.PastLemmas.{all_more, all_both, all_longer, prefix_through, prefix_itself}

-- ---- views, and which seats are live
pub view_here : (ks : List Knowledge) (id : ℕ) (k : Knowledge) → get_elem? ks id ≡ some k → get_elem? (map view_of ks) id ≡ some k.view
view_here [] id k e = absurd (some-ne-none k (sym e))
view_here (x ∷ xs) zero k e = ap (λ (y : Knowledge). some y.view) (some-injective x k e)
view_here (x ∷ xs) (suc id) k e = view_here xs id k e

seated : (v : View) → 0 < v.all → is_seated v ≡ true
seated v h = not_from_false _ (ne_eqb v.all 0 (λ z. omega arith))

seated_at : (views : List View) (id : ℕ) (v : View) → get_elem? views id ≡ some v → get_or (map is_seated views) id false ≡ is_seated v
seated_at [] id v e = absurd (some-ne-none v (sym e))
seated_at (u ∷ us) zero v e = ap is_seated (some-injective u v e)
seated_at (u ∷ us) (suc id) v e = seated_at us id v e

-- a view that carries the same number leaves the live seats as they are
seated_set : (views : List View) (id : ℕ) (v w : View) → get_elem? views id ≡ some v → w.all ≡ v.all → map is_seated (set views id w) ≡ map is_seated views
seated_set [] id v w e same = absurd (some-ne-none v (sym e))
seated_set (u ∷ us) zero v w e same = ap (λ (b : Bool). b ∷ map is_seated us) (ap (λ (n : ℕ). not (n == 0)) same ∙ sym (ap is_seated (some-injective u v e)))
seated_set (u ∷ us) (suc id) v w e same = ap (λ (bs : List Bool). is_seated u ∷ bs) (seated_set us id v w e same)

abbrev shares_of : View → ℕ
shares_of v = v.shares

-- an entry more does not change the number of all shares
pub next_all : (v : View) (row : List Entry) → (next_view v row).all ≡ v.all
next_all v row = cond_both (v.cleared + 1 == length row) (finished_view v row) (midway_view v row (v.cleared + 1)) (λ (u : View). u.all ≡ v.all) (λ _. refl) (λ _. refl)

-- a word that has no bit of the mask loses none
without_none : (n mask : ℕ) → bit_and n mask ≡ 0 → without n mask ≡ n
without_none n mask z = ap (λ (k : ℕ). bit_xor n k) z ∙ xor_zero_r n

-- a load that leaves the seat as it is leaves the table as it is
pub unchanged : (s : State (Unit {0}) Knowledge) (word id : ℕ) (k : Knowledge) → get_elem? s.views id ≡ some k → record { words = set s.words word (slice_index s.words word); homes = s.homes; views = set s.views id k } ≡ s
unchanged s word id k at i = record { words = set-get_or s.words word 0 i; homes = s.homes; views = set_again s.views id k at i }

module _ (plan : Plan) (s : State (Unit {0}) Knowledge) (h : HasHistory plan s) where
  abbrev views : List View
  views = map view_of s.views

  abbrev live : List Bool
  live = map is_seated views

  abbrev here : StepState
  here = machine_state plan s

  pub sound_here : EventsKeepSound → IsSoundState here
  sound_here sound = subst IsSoundState h.stands (sound plan.width plan.all h.events h.rows)

  -- a seat that has a share is live, carries the number of all shares and has no more
  module _ (id : ℕ) (k : Knowledge) (at : get_elem? s.views id ≡ some k) where
    at_view : get_elem? views id ≡ some k.view
    at_view = view_here s.views id k at

    pub carries : EventsKeepSound → 0 < k.view.shares → (k.view.all ≡ plan.all) × (k.view.shares ≤ k.view.all)
    carries sound share =
        let all : k.view.all ≡ plan.all = ⊎_elim (λ (t : k.view.all ≡ plan.all). t) (λ (t : k.view ≡ empty_view). let z : k.view.shares ≡ 0 = ap shares_of t in absurd (omega arith)) (h.carried id k.view at_view) in
        let mine : (get_or views id k.view).shares ≡ k.view.shares = ap shares_of (at_or views id k.view k.view at_view) in
        let less = get_or-le-sum_by shares_of views id k.view (at_inside views id k.view at_view) in let total = (sound_here sound).sound.shared_out in (all, omega arith)

    pub lives : EventsKeepSound → 0 < k.view.shares → is_live here id ≡ true
    lives sound share = let c = carries sound share in let l = c.1 in seated_at views id k.view at_view ∙ seated k.view (omega arith)

    -- the table as the machine has it after a step of this seat
    pub machine_next : (l : Knowledge) (ws : List ℕ) → l.view.all ≡ k.view.all
        → ◌≡◌ {A = StepState} (record { words = ws; all = plan.all; views = set views id l.view; live = live }) (machine_state plan (record { words = ws; homes = s.homes; views = set s.views id l }))
    machine_next l ws same =
        let alone : set views id l.view ≡ map view_of (set s.views id l) = sym (map-set view_of s.views id l) in
        let seats : live ≡ map is_seated (map view_of (set s.views id l)) = sym (seated_set views id k.view l.view at_view same) ∙ ap (map is_seated) alone in
        λ j. record { words = ws; all = plan.all; views = alone j; live = seats j }

    -- the seat after an event, with this view
    abbrev pub told : StepEvent → View → Knowledge
    told e w = record { view = w; pasts = (h.events ++ e ∷ []) ∷ [] }

    -- its event is the next of the history
    pub seat_steps : (e : StepEvent) (ws : List ℕ) (w : View) (reply : Result Reply Fault) → HasRow e → length ws ≡ length s.words → w.all ≡ k.view.all → k.view.all ≡ plan.all
        → step here e ≡ (record { words = ws; all = plan.all; views = set views id w; live = live }, reply)
        → HasHistory plan (record { words = ws; homes = s.homes; views = set s.views id (told e w) })
    seat_steps e ws w reply has long same all is = record {
      events = h.events ++ e ∷ [];
      rows = rows_snoc h.events e h.rows has;
      stands = steps_snoc (opening_state plan.width plan.all) h.events e ∙ ap (λ (m : StepState). (step m e).0) h.stands ∙ ap (λ (p : StepState × Result Reply Fault). p.0) is ∙ machine_next (told e w) ws same;
      known = λ j u o. ⊎_elim
          (λ (t : (j ≡ id) × (told e w ≡ u)). subst (λ (x : Knowledge). ArePrefixes x.pasts (h.events ++ e ∷ [])) t.1 (prefix_itself (h.events ++ e ∷ []), tt))
          (λ (t : (j ≢ id) × (get_elem? s.views j ≡ some u)). all_more u.pasts h.events e (h.known j u t.1))
          (at_set s.views id j (told e w) u o);
      width = long ∙ h.width;
      fits = h.fits;
      carried = subst (Each _) (sym (map-set view_of s.views id (told e w))) (each_set _ views id w (inl (same ∙ all)) h.carried);
    }

    -- what the step tells
    pub seat_tells : (ask : ℕ → StepEvent) (t : StepState) (reply : Reply) → step here (ask id) ≡ (t, Ok reply) → IsStepBetween plan.width plan.all k.pasts k.view ask reply ((h.events ++ ask id ∷ []) ∷ [])
    seat_tells ask t reply is history begins = record {
      events = h.events;
      rows = h.rows;
      seat = id;
      goes_on = h.known id k at;
      has = ap (λ (m : StepState). get_elem? m.views id) h.stands ∙ at_view;
      replied = ap (λ (m : StepState). (step m (ask id)).1) h.stands ∙ ap (λ (p : StepState × Result Reply Fault). p.1) is;
      stands = begins.0;
    }

    pub seat_more : (e : StepEvent) → KnowsMore k.pasts ((h.events ++ e ∷ []) ∷ [])
    seat_more e history begins = all_longer k.pasts h.events history (prefix_through h.events e history begins.0) (h.known id k at)

    pub seat_one : (e : StepEvent) → HasRow e → IsOnePast ((h.events ++ e ∷ []) ∷ [])
    seat_one e has = (h.events ++ e ∷ [], rows_snoc h.events e h.rows has, refl)

    module _ (sound : EventsKeepSound) (share : 0 < k.view.shares) where
      -- the machine's step of the next entry
      module _ (row : List Entry) (e : Entry) (can : can_clear k.view row ≡ true) (named : below plan.width row ≡ true) (is : entry_at row k.view.cleared ≡ e) where
        cleared_with : (ws : List ℕ) → without_entry s.words e ≡ ws → step here (clear id row) ≡ (record { words = ws; all = plan.all; views = set views id (next_view k.view row); live = live }, Ok (Cleared (slice_index s.words e.word)))
        cleared_with ws same = clear_step here id k.view at_view (lives sound share) row share can (ap (λ (n : ℕ). below n row) h.width ∙ named)
            ∙ λ j. (record { words = (ap (without_entry s.words) is ∙ same) j; all = plan.all; views = set views id (next_view k.view row); live = live }, Ok (Cleared (slice_index s.words (is j).word)))

        pub clear_is : ComplementClears → e.mask < 2 ^ 64 → slice_index s.words e.word < 2 ^ 64
            → step here (clear id row) ≡ (record { words = set s.words e.word (bit_and (slice_index s.words e.word) (bit_not w64 e.mask)); all = plan.all; views = set views id (next_view k.view row); live = live }, Ok (Cleared (slice_index s.words e.word)))
        clear_is complement fits small = cleared_with _ (ap (λ (n : ℕ). set s.words e.word n) (sym (complement (slice_index s.words e.word) e.mask small fits)))

        pub skip_is : bit_and (slice_index s.words e.word) e.mask ≡ 0
            → step here (clear id row) ≡ (record { words = set s.words e.word (slice_index s.words e.word); all = plan.all; views = set views id (next_view k.view row); live = live }, Ok (Cleared (slice_index s.words e.word)))
        skip_is free = cleared_with _ (ap (λ (n : ℕ). set s.words e.word n) (without_none (slice_index s.words e.word) e.mask free))

      pub load_is : (word : ℕ) → is_idle k.view ≡ true → word < plan.width
          → step here (load id word) ≡ (record { words = set s.words word (slice_index s.words word); all = plan.all; views = set views id (with_reading k.view word (slice_index s.words word)); live = live }, Ok (Loaded (slice_index s.words word)))
      load_is word idle inside = load_step here id k.view at_view (lives sound share) word idle (subst (λ (n : ℕ). word < n) (sym h.width) inside)
          ∙ λ j. (record { words = sym (set-get_or s.words word 0) j; all = plan.all; views = set views id (with_reading k.view word (slice_index s.words word)); live = live }, Ok (Loaded (slice_index s.words word)))

      -- the machine's split
      module _ (n : ℕ) (less : n < k.view.shares) (idle : is_idle k.view ≡ true) where
        abbrev pub split_seats : List Knowledge
        split_seats = set s.views id (left_knowledge n k) ++ new_knowledge n k ∷ []

        pub split_views : set views id (left_view n k.view) ++ new_view n k.view ∷ [] ≡ map view_of split_seats
        split_views = sym (map-append view_of (set s.views id (left_knowledge n k)) (new_knowledge n k ∷ []) ∙ ap (λ (l : List View). l ++ new_view n k.view ∷ []) (map-set view_of s.views id (left_knowledge n k)))

        split_live : live ++ true ∷ [] ≡ map is_seated (map view_of split_seats)
        split_live = let c = carries sound share in let new : is_seated (new_view n k.view) ≡ true = seated (new_view n k.view) (let l = c.1 in omega arith) in
            sym (map-append is_seated (set views id (left_view n k.view)) (new_view n k.view ∷ []) ∙ λ j. seated_set views id k.view (left_view n k.view) at_view refl j ++ new j ∷ []) ∙ ap (map is_seated) split_views

        pub split_is : step here (split id n) ≡ (machine_state plan (record { words = s.words; homes = s.homes; views = split_seats }), Ok (Split (length views)))
        split_is = split_step here id k.view at_view (lives sound share) n idle less ∙ λ j. (record { words = s.words; all = plan.all; views = split_views j; live = split_live j }, Ok (Split (length views)))

      -- the machine's join
      module _ (other : ℕ) (l : Knowledge) (there : get_elem? s.views other ≡ some l) (carried : l.view.all ≡ plan.all) (apart : other ≢ id) (idle : is_idle k.view ≡ true) (idle' : is_idle l.view ≡ true) where
        abbrev pub joined_seats : List Knowledge
        joined_seats = set (set s.views id (joined_knowledge k l)) other no_knowledge

        pub joined_views : set (set views id (joined_view k.view l.view)) other empty_view ≡ map view_of joined_seats
        joined_views = sym (map-set view_of (set s.views id (joined_knowledge k l)) other no_knowledge ∙ ap (λ (m : List View). set m other empty_view) (map-set view_of s.views id (joined_knowledge k l)))

        joined_live : set live other false ≡ map is_seated (map view_of joined_seats)
        joined_live = sym (map-set is_seated (set views id (joined_view k.view l.view)) other empty_view ∙ ap (λ (m : List Bool). set m other false) (seated_set views id k.view (joined_view k.view l.view) at_view refl)) ∙ ap (map is_seated) joined_views

        pub join_is : step here (join id other) ≡ (machine_state plan (record { words = s.words; homes = s.homes; views = joined_seats }), Ok Joined)
        join_is =
            let c = carries sound share in let at' = view_here s.views other l there in
            let lives' : is_live here other ≡ true = seated_at views other l.view at' ∙ seated l.view (let a = c.0 in let m = c.1 in omega arith) in
            join_step here id k.view at_view (lives sound share) other l.view at' lives' apart idle idle'
            ∙ λ j. (record { words = s.words; all = plan.all; views = joined_views j; live = joined_live j }, Ok Joined)

      pub close_is : is_idle k.view ≡ true → plan.all ≤ k.view.shares → step here (close id) ≡ (record { words = s.words; all = plan.all; views = views; live = map (λ (_ : Bool). false) live }, Ok (Closed s.words))
      close_is idle whole = close_step here id k.view at_view (lives sound share) idle whole

      -- what the view shows to be cleared is 0
      pub shown_zero : (word : ℕ) → word < plan.width → (b : ℕ) → b < 64 → shows k.view word b ≡ true → bit_at (slice_index s.words word) b ≡ 0
      shown_zero word inside b l t =
          let v : View = k.view in
          let inside' : word < length s.words = subst (λ (n : ℕ). word < n) (sym h.width) inside in
          let is_sound : IsSound s.words plan.all views = (sound_here sound).sound in ⊎_elim
          (λ (o : (rows_clear v.done word b || rows_clear v.seen word b) ≡ true). ⊎_elim
          (λ (d : rows_clear v.done word b ≡ true). is_sound.cleared id v at_view word b inside' l (or_left _ (clears (take v.cleared v.row) word b) d))
          (λ (d : rows_clear v.seen word b ≡ true). is_sound.seen id v at_view word b inside' l d)
          (or_cases _ _ o))
          (λ (o : lacks v.readings word b ≡ true). is_sound.kept id v at_view word b inside' l o)
          (or_cases _ _ t)

-- ---- what a step asks of the rule
module _ (sound : EventsKeepSound) (plan : Plan) where
  pub load_allowed : (slots id : ℕ) (me : Me (Unit {0}) Knowledge) (word : ℕ) → 0 < me.0.view.shares → is_idle me.0.view ≡ true → word < plan.width → Allows (HasHistory plan) slots id me word (λ n. n) (LoadPlay plan (base_step slots word 0 0 none) me)
  load_allowed slots id me word share idle inside s h homes at small =
      let value : ℕ = slice_index s.words word in let w : View = with_reading me.0.view word value in
      let is = load_is plan s h id me.0 at sound share word idle inside in (
        told plan s h id me.0 at (load id word) w,
        keeps,
        tt,
        seat_steps plan s h id me.0 at (load id word) (set s.words word value) w _ tt (length-set s.words word value) refl (carries plan s h id me.0 at sound share).0 is,
        record {
          view = refl;
          held = refl;
          shown = shown_zero plan s h id me.0 at sound share word inside;
          stands = seat_tells plan s h id me.0 at (λ seat. load seat word) _ (Loaded value) is;
          more = seat_more plan s h id me.0 at (load id word);
          one = seat_one plan s h id me.0 at (load id word) tt;
        },
      )

  -- the next entry of the row is cleared, where the machine does it
  module _ (s : State (Unit {0}) Knowledge) (h : HasHistory plan s) (id : ℕ) (me : Me (Unit {0}) Knowledge) (at : get_elem? s.views id ≡ some me.0) (row : List Entry) (form : is_row row ≡ true) (share : 0 < me.0.view.shares)
      (word new value : ℕ) (is : step (machine_state plan s) (clear id row) ≡ (record { words = set s.words word new; all = plan.all; views = set (map view_of s.views) id (next_view me.0.view row); live = map is_seated (map view_of s.views) }, Ok (Cleared value))) where
    abbrev cleared_seat : Knowledge
    cleared_seat = told plan s h id me.0 at (clear id row) (next_view me.0.view row)

    cleared_keeps : HasHistory plan (stepped s word new id me.1 cleared_seat keeps)
    cleared_keeps = seat_steps plan s h id me.0 at (clear id row) (set s.words word new) (next_view me.0.view row) _ form (length-set s.words word new) (next_all me.0.view row) (carries plan s h id me.0 at sound share).0 is

    cleared_tells : Clears plan row me (cleared_seat, me.1)
    cleared_tells = record {
      view = refl;
      held = refl;
      stands = (value, seat_tells plan s h id me.0 at (λ seat. clear seat row) _ (Cleared value) is);
      more = seat_more plan s h id me.0 at (clear id row);
      one = seat_one plan s h id me.0 at (clear id row) form;
    }

  pub clear_allowed : ComplementClears → (slots id : ℕ) (me : Me (Unit {0}) Knowledge) (row : List Entry) (e : Entry) → entry_at row me.0.view.cleared ≡ e → e.mask < 2 ^ 64
      → is_row row ≡ true → can_clear me.0.view row ≡ true → 0 < me.0.view.shares → below plan.width row ≡ true
      → Allows (HasHistory plan) slots id me e.word (λ n. bit_and n (bit_not w64 e.mask)) (ClearPlay plan row (base_step slots e.word (bit_not w64 e.mask) 0 none) me)
  clear_allowed complement slots id me row e next fits form can share named s h homes at small =
      let is = clear_is plan s h id me.0 at sound share row e can named next complement fits small in
      (cleared_seat s h id me at row form share _ _ _ is, keeps, tt, cleared_keeps s h id me at row form share _ _ _ is, cleared_tells s h id me at row form share _ _ _ is)

  pub skip_allowed : (slots id : ℕ) (me : Me (Unit {0}) Knowledge) (row : List Entry) (e : Entry) → entry_at row me.0.view.cleared ≡ e
      → is_row row ≡ true → can_clear me.0.view row ≡ true → 0 < me.0.view.shares → below plan.width row ≡ true
      → Allows (HasHistory plan) slots id me e.word (λ n. n) (SkipPlay plan row (base_step slots e.word 0 0 none) me)
  skip_allowed slots id me row e next form can share named s h homes at small = by_test (bit_and value (entry_at row me.0.view.cleared).mask == 0) refl
    where
      value : ℕ
      value = slice_index s.words e.word

      by_test : (b : Bool) → (bit_and value (entry_at row me.0.view.cleared).mask == 0) ≡ b
          → (k : Knowledge) × (a : Act (Unit {0})) × Valid s.homes me.1 a × HasHistory plan (stepped s e.word value id me.1 k a) × SkipPlay plan row (base_step slots e.word 0 0 none) me value (k, carried_after me.1 a)
      by_test true t =
          let free : bit_and value e.mask ≡ 0 = ap (λ (x : Entry). bit_and value x.mask) (sym next) ∙ eqb-true _ _ t in
          let is = skip_is plan s h id me.0 at sound share row e can named next free in
          let k : Knowledge = cleared_seat s h id me at row form share _ _ _ is in (
            k,
            keeps,
            tt,
            cleared_keeps s h id me at row form share _ _ _ is,
            subst (λ (b : Bool). MatchBool b (Clears plan row me (k, me.1)) (◌≡◌ {A = Me (Unit {0}) Knowledge} (k, me.1) me)) (sym t) (cleared_tells s h id me at row form share _ _ _ is),
          )
      by_test false t = (
        me.0,
        keeps,
        tt,
        subst (HasHistory plan) (sym (unchanged s e.word id me.0 at)) h,
        subst (λ (b : Bool). MatchBool b (Clears plan row me me) (me ≡ me)) (sym t) refl,
      )

  pub tell_allowed : (slots id : ℕ) (me : Me (Unit {0}) Knowledge) (word : ℕ) → 0 < me.0.view.shares → Allows (HasHistory plan) slots id me word (λ n. n) (TellPlay plan (base_step slots word 0 0 none) me)
  tell_allowed slots id me word share s h homes at small =
      let mine = carries plan s h id me.0 at sound share in (
        me.0,
        keeps,
        tt,
        subst (HasHistory plan) (sym (unchanged s word id me.0 at)) h,
        record {
          same = refl;
          most = mine.1;
          fits = let all = mine.0 in let fits = h.fits in omega arith;
          one = record {
            history = h.events;
            rows = h.rows;
            goes_on = h.known id me.0 at;
            seat = id;
            has = ap (λ (m : StepState). get_elem? m.views id) h.stands ∙ view_here s.views id me.0 at;
          };
        },
      )

  pub split_allowed : (id : ℕ) (k : Knowledge) (n : ℕ) → n < k.view.shares → is_idle k.view ≡ true → Splits (HasHistory plan) id k (left_knowledge n k) (new_knowledge n k)
  split_allowed id k n less idle s h at =
      let share : 0 < k.view.shares = omega arith in let mine = carries plan s h id k at sound share in
      let vs : List View = map view_of s.views in let e : StepEvent = split id n in let left : Knowledge = left_knowledge n k in let new : Knowledge = new_knowledge n k in
      let is = split_is plan s h id k at sound share n less idle in record {
        events = h.events ++ e ∷ [];
        rows = rows_snoc h.events e h.rows tt;
        stands = steps_snoc (opening_state plan.width plan.all) h.events e ∙ ap (λ (m : StepState). (step m e).0) h.stands ∙ ap (λ (p : StepState × Result Reply Fault). p.0) is;
        known = λ j u o. ⊎_elim
            (λ (t : get_elem? (set s.views id left) j ≡ some u). ⊎_elim
            (λ (q : (j ≡ id) × (left ≡ u)). subst (λ (x : Knowledge). ArePrefixes x.pasts (h.events ++ e ∷ [])) q.1 (all_more k.pasts h.events e (h.known id k at)))
            (λ (q : (j ≢ id) × (get_elem? s.views j ≡ some u)). all_more u.pasts h.events e (h.known j u q.1))
            (at_set s.views id j left u t))
            (λ (t : new ≡ u). subst (λ (x : Knowledge). ArePrefixes x.pasts (h.events ++ e ∷ [])) t (all_more k.pasts h.events e (h.known id k at)))
            (at_snoc (set s.views id left) new u j o);
        width = h.width;
        fits = h.fits;
        carried = subst (Each _) (split_views plan s h id k at sound share n less idle) (each_snoc _ (set vs id (left_view n k.view)) (new_view n k.view) (each_set _ vs id (left_view n k.view) (inl mine.0) h.carried) (inl mine.0));
      }

  pub join_allowed : (id : ℕ) (k : Knowledge) (other : ℕ) (l : Knowledge) → 0 < k.view.shares → is_idle k.view ≡ true → is_idle l.view ≡ true → l.view.all ≡ plan.all → Joins (HasHistory plan) id k other l (joined_knowledge k l) no_knowledge
  join_allowed id k other l share idle idle' carried s h at apart there =
      let both : Knowledge = joined_knowledge k l in
      let at' : get_elem? s.views other ≡ some l = ⊎_elim (λ (t : (other ≡ id) × (both ≡ l)). absurd (apart t.0)) (λ (t : (other ≢ id) × (get_elem? s.views other ≡ some l)). t.1) (at_set s.views id other both l there) in
      let mine = carries plan s h id k at sound share in
      let vs : List View = map view_of s.views in let e : StepEvent = join id other in
      let is = join_is plan s h id k at sound share other l at' carried apart idle idle' in record {
        events = h.events ++ e ∷ [];
        rows = rows_snoc h.events e h.rows tt;
        stands = steps_snoc (opening_state plan.width plan.all) h.events e ∙ ap (λ (m : StepState). (step m e).0) h.stands ∙ ap (λ (p : StepState × Result Reply Fault). p.0) is;
        known = λ j u o. ⊎_elim
            (λ (t : (j ≡ other) × (no_knowledge ≡ u)). subst (λ (x : Knowledge). ArePrefixes x.pasts (h.events ++ e ∷ [])) t.1 tt)
            (λ (t : (j ≢ other) × (get_elem? (set s.views id both) j ≡ some u)). ⊎_elim
            (λ (q : (j ≡ id) × (both ≡ u)). subst (λ (x : Knowledge). ArePrefixes x.pasts (h.events ++ e ∷ [])) q.1 (all_more (k.pasts ++ l.pasts) h.events e (all_both k.pasts l.pasts h.events (h.known id k at) (h.known other l at'))))
            (λ (q : (j ≢ id) × (get_elem? s.views j ≡ some u)). all_more u.pasts h.events e (h.known j u q.1))
            (at_set s.views id j both u t.1))
            (at_set (set s.views id both) other j no_knowledge u o);
        width = h.width;
        fits = h.fits;
        carried = subst (Each _) (joined_views plan s h id k at sound share other l at' carried apart idle idle') (each_set _ (set vs id (joined_view k.view l.view)) other empty_view (inr refl) (each_set _ vs id (joined_view k.view l.view) (inl mine.0) h.carried));
      }

  -- ---- what the pass that has all shares knows as it ends the table
  module _ (id : ℕ) (k : Knowledge) (words : List ℕ) (slots : List (Unit {0})) (f : Final (Seen (HasHistory plan) id k) words slots) (share : 0 < k.view.shares) (idle : is_idle k.view ≡ true) (whole : plan.all ≤ k.view.shares) where
    pub known_all : WholeShareKnowsAll → KnowsAll words plan.all k.view
    known_all knows = let s = f.0 in let h = f.1.0 in let at = f.1.1 in
        subst (λ (ws : List ℕ). KnowsAll ws plan.all k.view) f.2 (knows s.words plan.all (map view_of s.views) id k.view (sound_here plan s h sound).sound (view_here s.views id k at) idle whole)

    pub known_met : WholeShareKnowsAll → IsMeet (full_words plan.width) k.view.done words
    known_met knows = subst (λ (n : ℕ). IsMeet (full_words n) k.view.done words) (ap (λ (ws : List ℕ). length ws) (sym f.2) ∙ f.1.0.width) (known_all knows).met

    pub ends_with : EndsWith plan.width plan.all k.pasts k.view words
    ends_with = let s = f.0 in let h = f.1.0 in let at = f.1.1 in let m : StepState = (after plan.width plan.all h.events).0 in record {
      history = h.events;
      rows = h.rows;
      seat = id;
      goes_on = h.known id k at;
      has = ap (λ (m : StepState). get_elem? m.views id) h.stands ∙ view_here s.views id k at;
      replied = ap (λ (m : StepState). (step m (close id)).1) h.stands ∙ ap (λ (p : StepState × Result Reply Fault). p.1) (close_is plan s h id k at sound share idle whole)
          ∙ λ j. Ok (Closed (f.2 j));
      sound = subst (λ (ws : List ℕ). IsSound ws plan.all m.views) (ap (λ (x : StepState). x.words) h.stands ∙ f.2)
          (subst (λ (n : ℕ). IsSound m.words n m.views) (ap (λ (x : StepState). x.all) h.stands) (sound plan.width plan.all h.events h.rows).sound);
    }

-- ---- the table as it opens
only_one : (u v : View) (j : ℕ) → get_elem? (u ∷ []) j ≡ some v → v ≡ u
only_one u v zero e = sym (some-injective u v e)
only_one u v (suc j) e = absurd (some-ne-none v (sym e))

only_none : (k u : Knowledge) (j : ℕ) → k.pasts ≡ [] → get_elem? (k ∷ []) j ≡ some u → ArePrefixes u.pasts []
only_none k u zero z e = subst (λ (x : Knowledge). ArePrefixes x.pasts []) (some-injective k u e) (subst (λ (ps : List (List StepEvent)). ArePrefixes ps []) (sym z) tt)
only_none k u (suc j) z e = absurd (some-ne-none u (sym e))

pub table_opens : (plan : Plan) → 0 < plan.all → plan.all < 2 ^ 32 → HasHistory plan (opening (full_words plan.width) [] (record { view = first_view plan.all; pasts = [] }))
table_opens plan share fits = record {
  events = [];
  rows = tt;
  stands = λ j. record { words = full_words plan.width; all = plan.all; views = first_view plan.all ∷ []; live = sym (seated (first_view plan.all) share) j ∷ [] };
  known = λ j u o. only_none (record { view = first_view plan.all; pasts = [] }) u j refl o;
  width = length-replicate plan.width 18446744073709551615;
  fits = fits;
  carried = λ j v e. inl (ap (λ (u : View). u.all) (only_one (first_view plan.all) v j e));
}
