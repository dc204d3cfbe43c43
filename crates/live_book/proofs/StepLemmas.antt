-- EachCaller step of a seat keeps the rule.
use Rattle.std.proofs.Common.{◌≡◌, ◌≢◌, ℕ, ◌+◌, ◌-◌, ◌<◌, ◌≤◌, Bool, true, false, ◌==◌, List, [], ◌∷◌, length, set, slice_index, sym, refl, ap, ◌∙◌, subst, ⊎_elim, inl, arith}
use Rattle.std.specs.Prelude.{Option, Some, cond, count_by}
use Rattle.std.proofs.lemmas.Bool.{cases_Bool, cases_eq, eq-eqb, eqb-true}
use Rattle.std.proofs.lemmas.List.{set-get_or}
use Rattle.std.proofs.lemmas.List.Sums.{sum_by_push}
use Rattle.atomic_table.proofs.Lists.{set_again, set_here}
use mathlib.Core.Option.{Option as Home, some}
use mathlib.Core.List.{IsPrefix}
use lib.ListN.{get_elem?}
use Rattle.live_journal.specs.declared.entry.Entry.{Entry}
use Rattle.live_journal.specs.Journals.{JournalState, journal}
use Rattle.live_book.proofs.SeatLemmas.{turns_of, passes_of, holder, ticketed, rests}
use Rattle.live_book.specs.declared.rule.Plan.{Plan}
use Rattle.live_book.specs.declared.rule.Knowledge.{Knowledge}
use Rattle.live_book.specs.declared.rule.Stage.{Stage}
use Rattle.live_book.specs.declared.rule.Stage.TheVariants.{Resting, Waiting, InTurn, Seeing}
use Rattle.live_book.specs.Histories.{AddsAtMostOne, AreOfOneHistory}
use Rattle.live_book.specs.Rule.{AllBegin, EachCaller, HasTurnHistory, IsLiveBook, IsOpened, IsStage, BookTable, callers_with, total}
use Rattle.live_book.specs.Views.{committed_view, found_in, has_ticket, holds, in_turn_view, is_in_turn, passed_view, seeing_view, ticket_in, position_count, turn_in, told_view, waiting_view}
use Rattle.live_book.proofs.HistoryLemmas.{history_pass, history_set, of_one_history}
use Rattle.live_book.proofs.PrefixLemmas.{all_longer, begins_itself, begins_longer, begins_same}
use Rattle.live_book.proofs.StageLemmas.{rests_if, stage_below, stage_drawn, stage_else, stage_next}
use Rattle.live_book.proofs.TotalLemmas.{alone, at_inside, at_one, each_back, each_set, front_set, total_at, total_none, total_same, total_set}

-- the found journal without an entry more
adds_none : (found : List Entry) → AddsAtMostOne found found
adds_none found = record { begins = begins_itself found; one = omega arith }

-- a load that leaves the seat as it is leaves the table as it is
pub unchanged : (s : BookTable) (word id : ℕ) (k : Knowledge) → get_elem? s.views id ≡ some k → record { words = set s.words word (slice_index s.words word); homes = s.homes; views = set s.views id k } ≡ s
unchanged s word id k at i = record { words = set-get_or s.words word 0 i; homes = s.homes; views = set_again s.views id k at i }

module _ (plan : Plan) (s : BookTable) (h : IsLiveBook plan s) (id : ℕ) (k : Knowledge) (at : get_elem? s.views id ≡ some k) where
  abbrev views : List Knowledge
  views = s.views

  -- the view is not past what was planned
  pub turns_most : k.turns + h.drawn ≤ plan.turns
  turns_most = let a = total_at turns_of views id k at in let b = h.turns in omega arith

  -- ---- a turn less, and a ticket
  module _ (st : k.stage ≡ Resting) (some_turn : 0 < k.turns) (names : k.names ≡ plan.names) (all : k.all ≡ plan.turns) where
    abbrev drawn_next : Knowledge
    drawn_next = waiting_view k h.drawn

    drawn_differ : (n : ℕ) → callers_with (λ x. holds n x.stage) (set views id drawn_next) ≤ 1
    drawn_differ n =
        let before : holder n k ≡ 0 = ap (λ (x : Stage). cond (holds n x) 1 0) st in
        let t : total (holder n) (set views id drawn_next) + holder n k ≡ total (holder n) views + holder n drawn_next = total_set (holder n) views id k drawn_next at in
        let one : total (holder n) views ≤ 1 = h.differ n in ⊎_elim
        (λ (e : (h.drawn == n) ≡ true).
        let same = eqb-true h.drawn n e in
        let nobody : total (holder n) views ≡ 0 = total_none (holder n) views (λ j u o. ap (λ (b : Bool). cond b 1 0) (stage_below h.drawn h.served h.settled h.longest u.front u.stage n (h.stages j u o) (omega arith))) in
        let now : holder n drawn_next ≡ 1 = ap (λ (b : Bool). cond b 1 0) e in omega arith)
        (λ (e : (h.drawn == n) ≡ false). let now : holder n drawn_next ≡ 0 = ap (λ (b : Bool). cond b 1 0) e in omega arith)
        (cases_Bool (h.drawn == n))

    pub draw_keeps : IsLiveBook plan (record { words = (h.drawn + 1) ∷ h.served ∷ length h.longest ∷ []; homes = s.homes; views = set views id drawn_next })
    draw_keeps = record {
      drawn = h.drawn + 1;
      served = h.served;
      settled = h.settled;
      longest = h.longest;
      words = refl;
      history = history_set h.served h.settled views h.history id k drawn_next at refl;
      quiet = λ all_rest. h.quiet (each_back rests views id k drawn_next at (ap is_in_turn st) all_rest);
      turns = let t : total turns_of (set views id drawn_next) + k.turns ≡ total turns_of views + (k.turns - 1) = total_set turns_of views id k drawn_next at in let a : total turns_of views + h.drawn ≡ plan.turns = h.turns in omega arith;
      fits = h.fits;
      opened = each_set (IsOpened plan) views id drawn_next (inl (names, all)) (λ j u o _. h.opened j u o);
      passes = total_same passes_of views id k drawn_next at refl ∙ h.passes;
      differ = drawn_differ;
      held =
          let before : ticketed k ≡ 0 = ap (λ (x : Stage). cond (has_ticket x) 1 0) st in
          let t : total ticketed (set views id drawn_next) + ticketed k ≡ total ticketed views + 1 = total_set ticketed views id k drawn_next at in
          let a : h.served + total ticketed views ≡ h.drawn = h.held in omega arith;
      stages = each_set (λ x. IsStage (h.drawn + 1) h.served h.settled h.longest x.front x.stage) views id drawn_next
          (let a : h.served + total ticketed views ≡ h.drawn = h.held in (omega arith, omega arith))
          (λ j u o _. stage_drawn h.drawn h.served h.settled h.longest u.front u.stage (h.stages j u o));
      fronts = each_set (λ x. IsPrefix x.front h.longest) views id drawn_next (h.fronts id k at) (λ j u o _. h.fronts j u o);
      heard = each_set (λ x. AllBegin x.heard h.longest) views id drawn_next (h.heard id k at) (λ j u o _. h.heard j u o);
      is_front = front_set views h.longest id k drawn_next at (λ e. e) h.is_front;
      once = λ p. subst (λ (n : ℕ). n ≤ 1) (sym (total_same (position_count p) views id k drawn_next at refl)) (h.once p);
      below = λ p l. total_same (position_count p) views id k drawn_next at refl ∙ h.below p l;
      home = λ all_rest. h.home (each_back rests views id k drawn_next at (ap is_in_turn st) all_rest);
    }

  -- ---- what a step keeps that changes neither turns, passes, positions nor words
  module _ (l : Knowledge) (same_turns : l.turns ≡ k.turns) (same_passes : l.passes ≡ k.passes) (same_positions : l.positions ≡ k.positions)
      (same_names : l.names ≡ plan.names) (same_all : l.all ≡ plan.turns) (same_heard : l.heard ≡ k.heard) (same_history : l.history ≡ k.history)
      (same_holds : (n : ℕ) → holds n l.stage ≡ holds n k.stage) (same_has : has_ticket l.stage ≡ has_ticket k.stage)
      (stage : IsStage h.drawn h.served h.settled h.longest l.front l.stage) (begins : IsPrefix l.front h.longest) (front : k.front ≡ h.longest → l.front ≡ h.longest) where
    pub moved_keeps : (homes : List (Home (Option JournalState))) → (EachCaller rests (set views id l) → h.settled ≡ h.longest) → (EachCaller rests (set views id l) → homes ≡ some (Some (journal plan.names h.longest)) ∷ [])
        → IsLiveBook plan (record { words = s.words; homes = homes; views = set views id l })
    moved_keeps homes quiet home = record {
      drawn = h.drawn;
      served = h.served;
      settled = h.settled;
      longest = h.longest;
      words = h.words;
      history = history_set h.served h.settled views h.history id k l at same_history;
      quiet = quiet;
      turns = ap (λ (n : ℕ). n + h.drawn) (total_same turns_of views id k l at same_turns) ∙ h.turns;
      fits = h.fits;
      opened = each_set (IsOpened plan) views id l (inl (same_names, same_all)) (λ j u o _. h.opened j u o);
      passes = total_same passes_of views id k l at same_passes ∙ h.passes;
      differ = λ n. subst (λ (m : ℕ). m ≤ 1) (sym (total_same (holder n) views id k l at (ap (λ (b : Bool). cond b 1 0) (same_holds n)))) (h.differ n);
      held = ap (λ (n : ℕ). h.served + n) (total_same ticketed views id k l at (ap (λ (b : Bool). cond b 1 0) same_has)) ∙ h.held;
      stages = each_set (λ x. IsStage h.drawn h.served h.settled h.longest x.front x.stage) views id l stage (λ j u o _. h.stages j u o);
      fronts = each_set (λ x. IsPrefix x.front h.longest) views id l begins (λ j u o _. h.fronts j u o);
      heard = each_set (λ x. AllBegin x.heard h.longest) views id l (subst (λ (fs : List (List Entry)). AllBegin fs h.longest) (sym same_heard) (h.heard id k at)) (λ j u o _. h.heard j u o);
      is_front = front_set views h.longest id k l at front h.is_front;
      once = λ p. subst (λ (n : ℕ). n ≤ 1) (sym (total_same (position_count p) views id k l at (ap (λ (ps : List ℕ). count_by (λ (q : ℕ). q == p) ps) same_positions))) (h.once p);
      below = λ p m. total_same (position_count p) views id k l at (ap (λ (ps : List ℕ). count_by (λ (q : ℕ). q == p) ps) same_positions) ∙ h.below p m;
      home = home;
    }

  -- ---- the ticket held is the one served
  module _ (mine : holds h.served k.stage ≡ true) where
    pub others_else : (j : ℕ) (u : Knowledge) → get_elem? views j ≡ some u → j ≢ id → holds h.served u.stage ≡ true → ⊥
    others_else j u o apart t = alone h.served views (h.differ h.served) id j k u at o apart mine t

    -- where this view is not in its turn, nobody is
    pub all_rest : is_in_turn k.stage ≡ false → EachCaller rests views
    all_rest me j u o = ⊎_elim
        (λ (t : j ≡ id). subst rests (sym (at_one views id j k u at o t)) me)
        (λ (t : j ≢ id). rests_if h.drawn h.served h.settled h.longest u.front u.stage (h.stages j u o) (others_else j u o t))
        (cases_eq j id)

    -- a view in its turn
    module _ (l : Knowledge) (turn : is_in_turn l.stage ≡ true) where
      pub not_home : {A : Type 0} → EachCaller rests (set views id l) → A
      not_home rest = let rest_here : is_in_turn l.stage ≡ false = rest id l (set_here views id l (at_inside views id k at)) in absurd (let e : true ≡ false = sym turn ∙ rest_here in cc)

  -- ---- the turn has come
  module _ (st : k.stage ≡ Waiting (ticket_in k.stage)) (served : ticket_in k.stage ≡ h.served) (names : k.names ≡ plan.names) (all : k.all ≡ plan.turns) where
    abbrev come : Knowledge
    come = in_turn_view k h.longest

    waits_served : holds h.served k.stage ≡ true
    waits_served = ap (holds h.served) st ∙ eq-eqb (ticket_in k.stage) h.served served

    pub slot_home : s.homes ≡ some (Some (journal plan.names h.longest)) ∷ []
    slot_home = h.home (all_rest waits_served (ap is_in_turn st))

    waits_stage : IsStage h.drawn h.served h.settled h.longest k.front (Waiting (ticket_in k.stage))
    waits_stage = subst (IsStage h.drawn h.served h.settled h.longest k.front) st (h.stages id k at)

    pub come_keeps : (homes : List (Home (Option JournalState))) → IsLiveBook plan (record { words = s.words; homes = homes; views = set views id come })
    come_keeps homes = moved_keeps come refl refl refl names all refl refl (λ n. sym (ap (holds n) st)) (sym (ap has_ticket st))
        (served, waits_stage.1, sym (h.quiet (all_rest waits_served (ap is_in_turn st))), refl) (h.fronts id k at) (λ e. e) homes (not_home waits_served come refl) (not_home waits_served come refl)

  -- ---- the whole journal is seen
  module _ (st : k.stage ≡ InTurn (ticket_in k.stage) (found_in k.stage)) (names : k.names ≡ plan.names) (all : k.all ≡ plan.turns) where
    abbrev seen : Knowledge
    seen = seeing_view k

    turn_stage : IsStage h.drawn h.served h.settled h.longest k.front (InTurn (ticket_in k.stage) (found_in k.stage))
    turn_stage = subst (IsStage h.drawn h.served h.settled h.longest k.front) st (h.stages id k at)

    turn_served : holds h.served k.stage ≡ true
    turn_served = ap (holds h.served) st ∙ eq-eqb (ticket_in k.stage) h.served turn_stage.0

    pub see_keeps : IsLiveBook plan (record { words = s.words; homes = s.homes; views = set views id seen })
    see_keeps = moved_keeps seen refl refl refl names all refl refl (λ n. sym (ap (holds n) st)) (sym (ap has_ticket st))
        (turn_stage.0, turn_stage.1, turn_stage.2, turn_stage.3, adds_none (found_in k.stage)) (begins_same (found_in k.stage) h.longest turn_stage.3) (λ _. turn_stage.3) s.homes (not_home turn_served seen refl) (not_home turn_served seen refl)

  -- ---- in its turn, after the see
  module _ (st : k.stage ≡ Seeing (ticket_in k.stage) (found_in k.stage)) (names : k.names ≡ plan.names) (all : k.all ≡ plan.turns) where
    pub seeing_stage : IsStage h.drawn h.served h.settled h.longest k.front (Seeing (ticket_in k.stage) (found_in k.stage))
    seeing_stage = subst (IsStage h.drawn h.served h.settled h.longest k.front) st (h.stages id k at)

    seeing_served : holds h.served k.stage ≡ true
    seeing_served = ap (holds h.served) st ∙ eq-eqb (ticket_in k.stage) h.served seeing_stage.0

    -- one entry more
    module _ (fresh : found_in k.stage ≡ k.front) (entries : List Entry) (more : IsPrefix k.front entries) (one : length entries ≡ length k.front + 1) where
      abbrev committed : Knowledge
      committed = committed_view k entries

      longest_more : IsPrefix h.longest entries
      longest_more = subst (λ (l : List Entry). IsPrefix l entries) seeing_stage.3 more

      adds_one : AddsAtMostOne (found_in k.stage) entries
      adds_one = subst (λ (l : List Entry). AddsAtMostOne l entries) (sym fresh) (record { begins = more; one = omega arith })

      now_times : (p : ℕ) → position_count p committed ≡ position_count p k + cond (length k.front == p) 1 0
      now_times p = sum_by_push (λ (q : ℕ). cond (q == p) 1 0) k.positions (length k.front)

      commit_times : (p : ℕ) → total (position_count p) (set views id committed) + position_count p k ≡ total (position_count p) views + position_count p committed
      commit_times p = total_set (position_count p) views id k committed at

      pub commit_keeps : IsLiveBook plan (record { words = h.drawn ∷ h.served ∷ length entries ∷ []; homes = s.homes; views = set views id committed })
      commit_keeps =
          let long : length k.front ≡ length h.longest = ap (λ (l : List Entry). length l) seeing_stage.3 in record {
            drawn = h.drawn;
            served = h.served;
            settled = h.settled;
            longest = entries;
            words = refl;
            history = history_set h.served h.settled views h.history id k committed at refl;
            quiet = not_home seeing_served committed (ap is_in_turn st);
            turns = ap (λ (n : ℕ). n + h.drawn) (total_same turns_of views id k committed at refl) ∙ h.turns;
            fits = h.fits;
            opened = each_set (IsOpened plan) views id committed (inl (names, all)) (λ j u o _. h.opened j u o);
            passes = total_same passes_of views id k committed at refl ∙ h.passes;
            differ = λ n. subst (λ (m : ℕ). m ≤ 1) (sym (total_same (holder n) views id k committed at refl)) (h.differ n);
            held = ap (λ (n : ℕ). h.served + n) (total_same ticketed views id k committed at refl) ∙ h.held;
            stages = each_set (λ x. IsStage h.drawn h.served h.settled entries x.front x.stage) views id committed
                (subst (IsStage h.drawn h.served h.settled entries entries) (sym st) (seeing_stage.0, seeing_stage.1, seeing_stage.2, refl, adds_one))
                (λ j u o apart. stage_else h.drawn h.served h.settled h.longest entries u.front u.stage (h.stages j u o) (others_else seeing_served j u o apart));
            fronts = each_set (λ x. IsPrefix x.front entries) views id committed (begins_itself entries) (λ j u o _. begins_longer u.front h.longest entries (h.fronts j u o) longest_more);
            heard = each_set (λ x. AllBegin x.heard entries) views id committed (all_longer k.heard h.longest entries longest_more (h.heard id k at)) (λ j u o _. all_longer u.heard h.longest entries longest_more (h.heard j u o));
            is_front = record { id = id; caller = committed; has = set_here views id committed (at_inside views id k at); front = refl };
            once = λ p.
                let a : total (position_count p) (set views id committed) + position_count p k ≡ total (position_count p) views + position_count p committed = commit_times p in
                let b : position_count p committed ≡ position_count p k + cond (length k.front == p) 1 0 = now_times p in
                let c : total (position_count p) views ≤ 1 = h.once p in ⊎_elim
                (λ (e : (length k.front == p) ≡ true).
                let here = eqb-true (length k.front) p e in
                let none : total (position_count p) views ≡ 0 = h.below p (omega arith) in
                let d : position_count p committed ≡ position_count p k + 1 = b ∙ ap (λ (x : Bool). position_count p k + cond x 1 0) e in omega arith)
                (λ (e : (length k.front == p) ≡ false). let d : position_count p committed ≡ position_count p k + 0 = b ∙ ap (λ (x : Bool). position_count p k + cond x 1 0) e in omega arith)
                (cases_Bool (length k.front == p));
            below = λ p past.
                let a : total (position_count p) (set views id committed) + position_count p k ≡ total (position_count p) views + position_count p committed = commit_times p in
                let b : position_count p committed ≡ position_count p k + cond (length k.front == p) 1 0 = now_times p in
                let none : total (position_count p) views ≡ 0 = h.below p (omega arith) in ⊎_elim
                (λ (e : (length k.front == p) ≡ true). let here = eqb-true (length k.front) p e in absurd (omega arith))
                (λ (e : (length k.front == p) ≡ false). let d : position_count p committed ≡ position_count p k + 0 = b ∙ ap (λ (x : Bool). position_count p k + cond x 1 0) e in omega arith)
                (cases_Bool (length k.front == p));
            home = not_home seeing_served committed (ap is_in_turn st);
          }

    -- the turn is passed on
    abbrev passed : Knowledge
    passed = passed_view k

    pass_history : HasTurnHistory (h.served + 1) k.front (set views id passed)
    pass_history = history_pass h.served h.settled views h.history id k passed (turn_in k.stage k.front) at refl seeing_stage.0 seeing_stage.2 seeing_stage.4

    pub pass_keeps : IsLiveBook plan (record { words = h.drawn ∷ (h.served + 1) ∷ length h.longest ∷ []; homes = some (Some (journal k.names k.front)) ∷ []; views = set views id passed })
    pass_keeps = record {
      drawn = h.drawn;
      served = h.served + 1;
      settled = k.front;
      longest = h.longest;
      words = refl;
      history = pass_history;
      quiet = λ _. seeing_stage.3;
      turns = ap (λ (n : ℕ). n + h.drawn) (total_same turns_of views id k passed at refl) ∙ h.turns;
      fits = h.fits;
      opened = each_set (IsOpened plan) views id passed (inl (names, all)) (λ j u o _. h.opened j u o);
      passes = let t : total passes_of (set views id passed) + k.passes ≡ total passes_of views + (k.passes + 1) = total_set passes_of views id k passed at in let a : total passes_of views ≡ h.served = h.passes in omega arith;
      differ = λ n. let t : total (holder n) (set views id passed) + holder n k ≡ total (holder n) views + 0 = total_set (holder n) views id k passed at in let a : total (holder n) views ≤ 1 = h.differ n in omega arith;
      held =
          let before : ticketed k ≡ 1 = ap (λ (x : Stage). cond (has_ticket x) 1 0) st in
          let t : total ticketed (set views id passed) + ticketed k ≡ total ticketed views + 0 = total_set ticketed views id k passed at in
          let a : h.served + total ticketed views ≡ h.drawn = h.held in omega arith;
      stages = each_set (λ x. IsStage h.drawn (h.served + 1) k.front h.longest x.front x.stage) views id passed tt
          (λ j u o apart. stage_next h.drawn h.served h.settled k.front h.longest u.front u.stage (h.stages j u o) (others_else seeing_served j u o apart));
      fronts = each_set (λ x. IsPrefix x.front h.longest) views id passed (h.fronts id k at) (λ j u o _. h.fronts j u o);
      heard = each_set (λ x. AllBegin x.heard h.longest) views id passed (h.heard id k at) (λ j u o _. h.heard j u o);
      is_front = front_set views h.longest id k passed at (λ e. e) h.is_front;
      once = λ p. subst (λ (n : ℕ). n ≤ 1) (sym (total_same (position_count p) views id k passed at refl)) (h.once p);
      below = λ p l. total_same (position_count p) views id k passed at refl ∙ h.below p l;
      home = λ _. λ j. some (Some (journal (names j) (seeing_stage.3 j))) ∷ [];
    }

    -- its turns are of one history
    pub pass_tells : AreOfOneHistory passed.history
    pass_tells = of_one_history (h.served + 1) k.front (set views id passed) pass_history id passed (set_here views id passed (at_inside views id k at))

  -- ---- what a load tells
  module _ (names : k.names ≡ plan.names) (all : k.all ≡ plan.turns) where
    abbrev told : Knowledge
    told = told_view k

    pub tell_keeps : IsLiveBook plan (record { words = s.words; homes = s.homes; views = set views id told })
    tell_keeps = record {
      drawn = h.drawn;
      served = h.served;
      settled = h.settled;
      longest = h.longest;
      words = h.words;
      history = history_set h.served h.settled views h.history id k told at refl;
      quiet = λ all_rest. h.quiet (each_back rests views id k told at (all_rest id told (set_here views id told (at_inside views id k at))) all_rest);
      turns = ap (λ (n : ℕ). n + h.drawn) (total_same turns_of views id k told at refl) ∙ h.turns;
      fits = h.fits;
      opened = each_set (IsOpened plan) views id told (inl (names, all)) (λ j u o _. h.opened j u o);
      passes = total_same passes_of views id k told at refl ∙ h.passes;
      differ = λ n. subst (λ (m : ℕ). m ≤ 1) (sym (total_same (holder n) views id k told at refl)) (h.differ n);
      held = ap (λ (n : ℕ). h.served + n) (total_same ticketed views id k told at refl) ∙ h.held;
      stages = each_set (λ x. IsStage h.drawn h.served h.settled h.longest x.front x.stage) views id told (h.stages id k at) (λ j u o _. h.stages j u o);
      fronts = each_set (λ x. IsPrefix x.front h.longest) views id told (h.fronts id k at) (λ j u o _. h.fronts j u o);
      heard = each_set (λ x. AllBegin x.heard h.longest) views id told tt (λ j u o _. h.heard j u o);
      is_front = front_set views h.longest id k told at (λ e. e) h.is_front;
      once = λ p. subst (λ (n : ℕ). n ≤ 1) (sym (total_same (position_count p) views id k told at refl)) (h.once p);
      below = λ p l. total_same (position_count p) views id k told at refl ∙ h.below p l;
      home = λ all_rest. h.home (each_back rests views id k told at (all_rest id told (set_here views id told (at_inside views id k at))) all_rest);
    }

    pub tell_history : AreOfOneHistory k.history
    tell_history = of_one_history h.served h.settled views h.history id k at

    pub tell_once : (p : ℕ) → position_count p k ≤ 1
    tell_once p = let a = total_at (position_count p) views id k at in let b : total (position_count p) views ≤ 1 = h.once p in omega arith
