-- What a trace refutes is of names and tasks that it has, and these have a partner under the other
-- reading.
use Rattle.std.proofs.Common.{◌≡◌, ℕ, Some, List, Contains, subst, inl, inr}
use Rattle.std.specs.List.{slice_get}
use Rattle.trace_types.specs.Parts.{Parts}
use Rattle.trace_types.specs.Pipelines.{HandlesAt, RefutesPipe, RefutesUnshared}
use Rattle.trace_types.specs.Refuting.{HasBoth}
use Rattle.trace_types.specs.Renaming.{IsSegmentRenamed, IsTraceRenamed}
use Rattle.trace_types.proofs.MatchLemmas.{partner_at}
use Rattle.book_laws.proofs.ListLemmas.{at_index, zip_flip}

-- a segment of the trace has this name
pub record HasName {A S N T E : Type 0} (p : Parts A S N T E) (trace : A) (a : N) : Type 0 where
  pub index : ℕ
  pub segment : S
  pub there : slice_get (p.segments trace) index ≡ Some segment
  pub named : p.name segment ≡ a

-- a segment of the trace is of this task
pub record HasTask {A S N T E : Type 0} (p : Parts A S N T E) (trace : A) (t : T) : Type 0 where
  pub index : ℕ
  pub segment : S
  pub there : slice_get (p.segments trace) index ≡ Some segment
  pub tasked : p.task segment ≡ t

module _ {A S N T E : Type 0} (p : Parts A S N T E) (trace : A) where
  pub both_named : (a b : N) (R : S → S → Type 0) → HasBoth p a b R trace → HasName p trace a × HasName p trace b
  both_named a b R h =
      let k = at_index (p.segments trace) h.0 h.2 in
      let l = at_index (p.segments trace) h.1 h.3 in (
        record { index = k.0; segment = h.0; there = k.1; named = h.4 },
        record { index = l.0; segment = h.1; there = l.1; named = h.5 },
      )

  handled : (t : T) (e : E) (k : ℕ) (s : S) → HandlesAt p trace t e k s → HasTask p trace t
  handled t e k s h = record { index = k; segment = s; there = h.segment; tasked = h.task }

  pub pipe_tasked : (t u : T) → RefutesPipe p t u trace → HasTask p trace t × HasTask p trace u
  pipe_tasked t u h = elim h [
    | inl early ↦ (handled t early.element early.giver early.given early.ends.handles, handled u early.element early.taker early.taken early.starts.handles)
    | inr turned ↦ (
      handled t turned.one turned.in_order.earlier turned.in_order.s turned.in_order.first.handles,
      handled u turned.other turned.turned.earlier turned.turned.s turned.turned.first.handles,
    )
  ]

  pub unshared_tasked : (t u : T) → RefutesUnshared p t u trace → HasTask p trace t × HasTask p trace u
  unshared_tasked t u h = (handled t h.element h.k h.s h.one, handled u h.element h.l h.r h.other)

-- ---- the partners
module _ {A S N T E B X M U F : Type 0} (p : Parts A S N T E) (q : Parts B X M U F) (names : List (N × M)) (tasks : List (T × U)) (trace : A) (other : B) (m : IsTraceRenamed p q names tasks trace other) where
  pub name_to : (a : N) → HasName p trace a → (c : M) × Contains names (a, c)
  name_to a h =
      let r = partner_at (IsSegmentRenamed p q names tasks m.elements) (p.segments trace) (q.segments other) m.segments h.index h.segment h.there in
      (q.name r.0, subst (λ (n : N). Contains names (n, q.name r.0)) h.named r.2.name)

  pub task_to : (t : T) → HasTask p trace t → (u : U) × Contains tasks (t, u)
  task_to t h =
      let r = partner_at (IsSegmentRenamed p q names tasks m.elements) (p.segments trace) (q.segments other) m.segments h.index h.segment h.there in
      (q.task r.0, subst (λ (v : T). Contains tasks (v, q.task r.0)) h.tasked r.2.task)

  pub name_back : (c : M) → HasName q other c → (a : N) × Contains names (a, c)
  name_back c h =
      let r = partner_at (λ (x : X) (s : S). IsSegmentRenamed p q names tasks m.elements s x) (q.segments other) (p.segments trace)
      (zip_flip (IsSegmentRenamed p q names tasks m.elements) (p.segments trace) (q.segments other) m.segments) h.index h.segment h.there in
      (p.name r.0, subst (λ (n : M). Contains names (p.name r.0, n)) h.named r.2.name)

  pub task_back : (u : U) → HasTask q other u → (t : T) × Contains tasks (t, u)
  task_back u h =
      let r = partner_at (λ (x : X) (s : S). IsSegmentRenamed p q names tasks m.elements s x) (q.segments other) (p.segments trace)
      (zip_flip (IsSegmentRenamed p q names tasks m.elements) (p.segments trace) (q.segments other) m.segments) h.index h.segment h.there in
      (p.task r.0, subst (λ (v : U). Contains tasks (p.task r.0, v)) h.tasked r.2.task)
