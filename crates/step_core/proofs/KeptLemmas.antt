-- What the machine keeps, from one step to the next.
use Rattle.std.proofs.Common.{◌≡◌, ℕ, ◌+◌, ◌≤◌, List, [], ◌∷◌, ◌++◌, length, set, sym, refl, ap, ◌∙◌, subst, arith, length-set, length-append}
use Rattle.std.specs.Prelude.{Option, Some, None, Result, Ok}
use Rattle.std.specs.Option.{option_map}
use Rattle.std.proofs.lemmas.List.{length-map}
use Rattle.word_rows.specs.declared.events.StepEvent.{StepEvent}
use Rattle.word_rows.specs.declared.events.StepEvent.TheVariants.{Clear as clear, Load as load, Split as split, Join as join, Close as close}
use Rattle.word_rows.specs.declared.replies.Reply.{Reply}
use Rattle.word_rows.specs.declared.views.View.{View}
use Rattle.word_rows.specs.Changes.{next_view, left_view, new_view, joined_view, empty_view}
use Rattle.word_rows.specs.Keeping.{StepKeepsSound}
use Rattle.word_rows.specs.Machine.{StepState, IsSoundState, Fault, no_seat, row_open, bad_share, bad_word, shares_out, HasRow, fault_of, reply_of, next_state, outcome, view_at, step, after, opening_state}
use Rattle.word_rows.proofs.HistoryLemmas.{steps_snoc}
use Rattle.step_core.specs.declared.step_fault.StepFault.{StepFault}
use Rattle.step_core.specs.StepFaults.{HasStepFault}
use Rattle.step_core.specs.inner.Briefs.{brief_view, brief_state, Follows, IsSteady, AreBriefOf}
use Rattle.step_core.specs.inner.Naming.{step_fault}
use Rattle.step_core.proofs.BriefLemmas.{fault_brief, reply_brief, steady_brief}

-- a fault by its name in the program
named : (s : StepState) (e : StepEvent) (fault : Fault) → fault_of s e ≡ Some fault → HasStepFault s e (step_fault fault)
named s e (no_seat n) is = ap (outcome s e) is
named s e (row_open n) is = ap (outcome s e) is
named s e (bad_share n m) is = ap (outcome s e) is
named s e (bad_word n m) is = ap (outcome s e) is
named s e (shares_out n m) is = ap (outcome s e) is

told : (s : StepState) (e : StepEvent) (f : StepFault) (o : Option Fault) → fault_of s e ≡ o → Some f ≡ option_map step_fault o → HasStepFault s e f
told s e f None is q = absurd (cc)
told s e f (Some fault) is q = let same : step_fault fault ≡ f = cc in subst (HasStepFault s e) same (named s e fault is)

none_told : (o : Option Fault) → ◌≡◌ {A = Option StepFault} None (option_map step_fault o) → o ≡ None
none_told None q = refl
none_told (Some fault) q = absurd (cc)

-- a step makes one seat at most
next_seats : (s : StepState) (e : StepEvent) → length (next_state s e).views ≤ length s.views + 1
next_seats s (clear seat row) = omega (arith, length-set s.views seat (next_view (view_at s seat) row))
next_seats s (load seat word) = omega (arith, length-set {A = View})
next_seats s (split seat n) = omega (arith, length-set s.views seat (left_view n (view_at s seat)), length-append (set s.views seat (left_view n (view_at s seat))) (new_view n (view_at s seat) ∷ []))
next_seats s (join seat other) = omega (arith, length-set s.views seat (joined_view (view_at s seat) (view_at s other)), length-set (set s.views seat (joined_view (view_at s seat) (view_at s other))) other empty_view)
next_seats s (close seat) = omega arith

module _ (width all : ℕ) (es : List StepEvent) (t : StepState) (k : AreBriefOf t (after width all es).0) (e : StepEvent) where
  abbrev s : StepState
  s = (after width all es).0

  fault_is : fault_of t e ≡ fault_of s e
  fault_is = ap (λ (u : StepState). fault_of u e) k.brief ∙ fault_brief s e

  pub kept_steady : IsSteady t
  kept_steady = subst IsSteady (sym k.brief) (steady_brief s k.sound)

  pub kept_seats : length t.views ≡ length s.views
  kept_seats = ap (λ (u : StepState). length u.views) k.brief ∙ length-map s.views brief_view

  pub kept_fault : (f : StepFault) → Some f ≡ option_map step_fault (fault_of t e) → HasStepFault s e f
  kept_fault f q = told s e f (fault_of s e) refl (q ∙ ap (option_map step_fault) fault_is)

  -- where the tables find no fault, and these are the events then
  module _ (q : ◌≡◌ {A = Option StepFault} None (option_map step_fault (fault_of t e))) (more : List StepEvent) (is : more ≡ es ++ e ∷ []) where
    stepped : step s e ≡ (next_state s e, Ok (reply_of s e))
    stepped = ap (outcome s e) (sym fault_is ∙ none_told (fault_of t e) q)

    after_step : (after width all more).0 ≡ (step s e).0
    after_step = ap (λ (l : List StepEvent). (after width all l).0) is ∙ steps_snoc (opening_state width all) es e

    next_is : (after width all more).0 ≡ next_state s e
    next_is = after_step ∙ ap (λ (p : StepState × Result Reply Fault). p.0) stepped

    pub kept_next : StepKeepsSound → HasRow e → (new : StepState) → Follows t e new → AreBriefOf new (after width all more).0
    kept_next law row new f = record {
      brief = f s k.brief ∙ ap brief_state (sym next_is);
      sound = subst IsSoundState (sym after_step) (law s e k.sound row);
    }

    pub kept_step : (r : Reply) → r ≡ reply_of t e → step s e ≡ ((after width all more).0, Ok r)
    kept_step r same = let reply : reply_of s e ≡ r = sym (same ∙ ap (λ (u : StepState). reply_of u e) k.brief ∙ reply_brief s e) in
        stepped ∙ (λ j. (sym next_is j, Ok (reply j)))

    pub kept_count : length (after width all more).0.views ≤ length s.views + 1
    kept_count = subst (λ (u : StepState). length u.views ≤ length s.views + 1) (sym next_is) (next_seats s e)
