-- The brief of a state has its faults and its replies, and is steady where the state is sound.
use Rattle.std.proofs.Common.{◌≡◌, ◌≢◌, ℕ, zero, suc, ◌+◌, ◌<◌, ◌≤◌, List, [], ◌∷◌, length, get_or, set, sym, refl, ap, subst, arith, length-set, get_or-set_other}
use Rattle.std.proofs.lemmas.List.{length-map}
use Rattle.std.proofs.lemmas.List.Sums.{sum_by-set, get_or-le-sum_by}
use mathlib.Core.Option.{some}
use lib.ListN.{get_elem?}
use Rattle.word_rows.specs.declared.events.StepEvent.{StepEvent}
use Rattle.word_rows.specs.declared.events.StepEvent.TheVariants.{Clear as clear, Load as load, Split as split, Join as join, Close as close}
use Rattle.word_rows.specs.declared.replies.Reply.TheVariants.{Split as SplitOff}
use Rattle.word_rows.specs.declared.views.View.{View}
use Rattle.word_rows.specs.Accounts.{total_shares}
use Rattle.word_rows.specs.Changes.{empty_view}
use Rattle.word_rows.specs.Sound.{IsPartWay}
use Rattle.word_rows.specs.Machine.{StepState, IsSoundState, fault_of, reply_of, view_at}
use Rattle.step_core.specs.inner.Briefs.{brief_view, brief_state, IsSteady}
use Rattle.step_core.proofs.AllowedLemmas.{inside}
use Rattle.step_core.proofs.FollowLemmas.{view_brief}

pub fault_brief : (s : StepState) (e : StepEvent) → fault_of (brief_state s) e ≡ fault_of s e
fault_brief s (clear seat row) = rw (view_brief s seat)
fault_brief s (load seat word) = rw (view_brief s seat)
fault_brief s (split seat shares) = rw (view_brief s seat)
fault_brief s (join seat other) = simp (view_brief s seat, view_brief s other)
fault_brief s (close seat) = rw (view_brief s seat)

pub reply_brief : (s : StepState) (e : StepEvent) → reply_of (brief_state s) e ≡ reply_of s e
reply_brief s (clear seat row) = rw (view_brief s seat)
reply_brief s (load seat word) = refl
reply_brief s (split seat shares) = ap SplitOff (length-map s.views brief_view)
reply_brief s (join seat other) = refl
reply_brief s (close seat) = refl

at_index : (l : List View) (i : ℕ) (d : View) → i < length l → get_elem? l i ≡ some (get_or l i d)
at_index [] i d h = absurd (omega arith)
at_index (x ∷ xs) zero d h = refl
at_index (x ∷ xs) (suc i) d h = at_index xs i d (omega arith)

abbrev shares_of : View → ℕ
shares_of v = v.shares

-- two views have no more shares than all together
two_shares : (views : List View) (i j : ℕ) → i ≢ j → i < length views → j < length views → (get_or views i empty_view).shares + (get_or views j empty_view).shares ≤ total_shares views
two_shares views i j apart h k =
    let a = sum_by-set shares_of views i empty_view empty_view h in
    let other : j ≢ i = λ e. apart (sym e) in
    let b : (get_or views j empty_view).shares ≡ (get_or (set views i empty_view) j empty_view).shares = ap shares_of (sym (get_or-set_other views i j empty_view empty_view other)) in
    let c = get_or-le-sum_by shares_of (set views i empty_view) j empty_view (omega (arith, length-set views i empty_view)) in
    omega arith

pub steady_brief : (s : StepState) → IsSoundState s → IsSteady (brief_state s)
steady_brief s f = record {
  progress = λ seat t. subst IsPartWay (sym (view_brief s seat)) (f.sound.progress seat (view_at s seat) (at_index s.views seat empty_view (inside s seat f.seats t)));
  shares = λ seat other apart t u.
      let a = two_shares s.views seat other apart (inside s seat f.seats t) (inside s other f.seats u) in
      let p = ap shares_of (view_brief s seat) in let q = ap shares_of (view_brief s other) in let all = f.sound.shared_out in
      omega arith;
}
