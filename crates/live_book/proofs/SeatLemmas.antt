-- Seats that are split and joined keep the rule.
use Rattle.std.proofs.Common.{◌≡◌, ◌≢◌, ℕ, ◌+◌, ◌-◌, ◌≤◌, false, ◌==◌, List, [], ◌∷◌, ◌++◌, set, sym, refl, ap, ◌∙◌, subst, ⊎_elim, inl, inr, arith}
use Rattle.std.specs.Prelude.{cond}
use Rattle.std.proofs.lemmas.Bool.{cases_eq}
use Rattle.std.proofs.lemmas.List.Sums.{sum_by-append}
use Rattle.atomic_table.proofs.Lists.{at_longer, set_else, set_here}
use mathlib.Core.Option.{some}
use mathlib.Core.List.{IsPrefix}
use lib.ListN.{get_elem?}
use Rattle.live_book.specs.declared.rule.Plan.{Plan}
use Rattle.live_book.specs.declared.rule.Knowledge.{Knowledge}
use Rattle.live_book.specs.declared.rule.Stage.{Stage}
use Rattle.live_book.specs.declared.rule.Stage.TheVariants.{Resting}
use Rattle.live_book.specs.Rule.{AllBegin, EachCaller, IsFront, IsLiveBook, IsOpened, IsStage, BookTable, total}
use Rattle.live_book.specs.Views.{empty_caller_view, has_ticket, holds, is_in_turn, joined_caller_view, left_caller_view, longer, new_caller_view, position_count}
use Rattle.live_book.proofs.HistoryLemmas.{history_join, history_new, history_set}
use Rattle.live_book.proofs.PrefixLemmas.{longer_either, longer_is}
use Rattle.live_book.proofs.TotalLemmas.{at_inside, at_one, each_back, each_set, each_snoc, front_set, total_same, total_set, total_snoc}

abbrev pub turns_of : Knowledge → ℕ
turns_of k = k.turns

abbrev pub passes_of : Knowledge → ℕ
passes_of k = k.passes

abbrev pub holder : ℕ → Knowledge → ℕ
holder n k = cond (holds n k.stage) 1 0

abbrev pub ticketed : Knowledge → ℕ
ticketed k = cond (has_ticket k.stage) 1 0

abbrev pub rests : Knowledge → Type 0
rests k = is_in_turn k.stage ≡ false

module _ (plan : Plan) (s : BookTable) (h : IsLiveBook plan s) (id : ℕ) (k : Knowledge) (at : get_elem? s.views id ≡ some k) where
  abbrev views : List Knowledge
  views = s.views

  -- ---- turns are split off
  module _ (st : k.stage ≡ Resting) (names : k.names ≡ plan.names) (all : k.all ≡ plan.turns) (n : ℕ) (most : n ≤ k.turns) where
    abbrev left : Knowledge
    left = left_caller_view n k

    abbrev new : Knowledge
    new = new_caller_view n k

    abbrev split_seats : List Knowledge
    split_seats = set views id left ++ new ∷ []

    -- what neither of the two has is what was there
    split_same : (f : Knowledge → ℕ) → f left ≡ f k → f new ≡ 0 → total f split_seats ≡ total f views
    split_same f a b = let t = total_same f views id k left at a in let u = total_snoc f (set views id left) new in omega arith

    split_each : (F : Knowledge → Type 0) → F left → F new → EachCaller F views → EachCaller F split_seats
    split_each F a b c = each_snoc F (set views id left) new (each_set F views id left a (λ j u o _. c j u o)) b

    split_rest : EachCaller rests split_seats → EachCaller rests views
    split_rest all_rest = each_back rests views id k left at (ap is_in_turn st) (λ j u o. all_rest j u (at_longer (set views id left) (new ∷ []) j u o))

    pub split_keeps : IsLiveBook plan (record { words = s.words; homes = s.homes; views = split_seats })
    split_keeps = record {
      drawn = h.drawn;
      served = h.served;
      settled = h.settled;
      longest = h.longest;
      words = h.words;
      history = history_new h.served h.settled (set views id left) (history_set h.served h.settled views h.history id k left at refl) new refl;
      quiet = λ all_rest. h.quiet (split_rest all_rest);
      turns =
          let t : total turns_of (set views id left) + k.turns ≡ total turns_of views + (k.turns - n) = total_set turns_of views id k left at in
          let u : total turns_of split_seats ≡ total turns_of (set views id left) + n = total_snoc turns_of (set views id left) new in
          let a : total turns_of views + h.drawn ≡ plan.turns = h.turns in omega arith;
      fits = h.fits;
      opened = split_each (IsOpened plan) (inl (names, all)) (inl (names, all)) h.opened;
      passes = split_same passes_of refl refl ∙ h.passes;
      differ = λ m. subst (λ (x : ℕ). x ≤ 1) (sym (split_same (holder m) refl refl)) (h.differ m);
      held = ap (λ (m : ℕ). h.served + m) (split_same ticketed refl refl) ∙ h.held;
      stages = split_each (λ x. IsStage h.drawn h.served h.settled h.longest x.front x.stage) (h.stages id k at) tt h.stages;
      fronts = split_each (λ x. IsPrefix x.front h.longest) (h.fronts id k at) (h.fronts id k at) h.fronts;
      heard = split_each (λ x. AllBegin x.heard h.longest) (h.heard id k at) tt h.heard;
      is_front = let f = front_set views h.longest id k left at (λ e. e) h.is_front in record { id = f.id; caller = f.caller; has = at_longer (set views id left) (new ∷ []) f.id f.caller f.has; front = f.front };
      once = λ p. subst (λ (m : ℕ). m ≤ 1) (sym (split_same (position_count p) refl refl)) (h.once p);
      below = λ p l. split_same (position_count p) refl refl ∙ h.below p l;
      home = λ all_rest. h.home (split_rest all_rest);
    }

  -- ---- another caller is taken in
  module _ (st : k.stage ≡ Resting) (names : k.names ≡ plan.names) (all : k.all ≡ plan.turns)
      (other : ℕ) (l : Knowledge) (there : get_elem? views other ≡ some l) (apart : other ≢ id) (st' : l.stage ≡ Resting) where
    abbrev both : Knowledge
    both = joined_caller_view k l

    abbrev joined_seats : List Knowledge
    joined_seats = set (set views id both) other empty_caller_view

    there_still : get_elem? (set views id both) other ≡ some l
    there_still = set_else views id other both apart ∙ there

    joined_sum : (f : Knowledge → ℕ) → f both ≡ f k + f l → f empty_caller_view ≡ 0 → total f joined_seats ≡ total f views
    joined_sum f a b =
        let t = total_set f views id k both at in
        let u = total_set f (set views id both) other l empty_caller_view there_still in omega arith

    joined_each : (F : Knowledge → Type 0) → F both → F empty_caller_view → EachCaller F views → EachCaller F joined_seats
    joined_each F a b c = each_set F (set views id both) other empty_caller_view b (λ j u o _. each_set F views id both a (λ i v p _. c i v p) j u o)

    kept_front : longer k.front l.front ≡ h.longest → IsFront joined_seats h.longest
    kept_front e = record {
      id = id;
      caller = both;
      has = set_else (set views id both) other id empty_caller_view (λ (t : id ≡ other). apart (sym t)) ∙ set_here views id both (at_inside views id k at);
      front = e;
    }

    joined_front : IsFront joined_seats h.longest
    joined_front = let f = h.is_front in
        let is = longer_is k.front l.front h.longest (h.fronts id k at) (h.fronts other l there) in ⊎_elim
        (λ (t : f.id ≡ id). kept_front (is (inl (ap (λ (x : Knowledge). x.front) (sym (at_one views id f.id k f.caller at f.has t)) ∙ f.front))))
        (λ (t : f.id ≢ id). ⊎_elim
        (λ (q : f.id ≡ other). kept_front (is (inr (ap (λ (x : Knowledge). x.front) (sym (at_one views other f.id l f.caller there f.has q)) ∙ f.front))))
        (λ (q : f.id ≢ other). record { id = f.id; caller = f.caller; has = set_else (set views id both) other f.id empty_caller_view q ∙ set_else views id f.id both t ∙ f.has; front = f.front })
        (cases_eq f.id other))
        (cases_eq f.id id)

    joined_rest : EachCaller rests joined_seats → EachCaller rests views
    joined_rest all_rest = each_back rests views id k both at (ap is_in_turn st) (each_back rests (set views id both) other l empty_caller_view there_still (ap is_in_turn st') all_rest)

    joined_times : (p : ℕ) → position_count p both ≡ position_count p k + position_count p l
    joined_times p = sum_by-append (λ (q : ℕ). cond (q == p) 1 0) k.positions l.positions

    pub join_keeps : IsLiveBook plan (record { words = s.words; homes = s.homes; views = joined_seats })
    join_keeps = record {
      drawn = h.drawn;
      served = h.served;
      settled = h.settled;
      longest = h.longest;
      words = h.words;
      history = history_join h.served h.settled views h.history id other k l both at there there_still refl;
      quiet = λ all_rest. h.quiet (joined_rest all_rest);
      turns = ap (λ (n : ℕ). n + h.drawn) (joined_sum turns_of refl refl) ∙ h.turns;
      fits = h.fits;
      opened = joined_each (IsOpened plan) (inl (names, all)) (inr refl) h.opened;
      passes = joined_sum passes_of refl refl ∙ h.passes;
      differ = λ n. subst (λ (m : ℕ). m ≤ 1) (sym (joined_sum (holder n) (let a : holder n l ≡ 0 = ap (λ (x : Stage). cond (holds n x) 1 0) st' in omega arith) refl)) (h.differ n);
      held = ap (λ (n : ℕ). h.served + n) (joined_sum ticketed (let a : ticketed l ≡ 0 = ap (λ (x : Stage). cond (has_ticket x) 1 0) st' in omega arith) refl) ∙ h.held;
      stages = joined_each (λ x. IsStage h.drawn h.served h.settled h.longest x.front x.stage) (subst (IsStage h.drawn h.served h.settled h.longest both.front) (sym st) tt) tt h.stages;
      fronts = joined_each (λ x. IsPrefix x.front h.longest) (longer_either k.front l.front (λ f. IsPrefix f h.longest) (h.fronts id k at) (h.fronts other l there)) (h.longest, refl) h.fronts;
      heard = joined_each (λ x. AllBegin x.heard h.longest) (h.fronts id k at, (h.fronts other l there, tt)) tt h.heard;
      is_front = joined_front;
      once = λ p. subst (λ (m : ℕ). m ≤ 1) (sym (joined_sum (position_count p) (joined_times p) refl)) (h.once p);
      below = λ p m. joined_sum (position_count p) (joined_times p) refl ∙ h.below p m;
      home = λ all_rest. h.home (joined_rest all_rest);
    }
