-- Threads of contexts, one after another.
use Rattle.std.proofs.Common.{◌≡◌, ◌⊎◌, inl, inr, ℕ, ◌+◌, ◌<◌, ◌≤◌, List, [], ◌∷◌, ◌++◌, Bool, true, false, Option, Some, None, length, get_or, slice_get, refl, sym, ap, ◌∙◌, arith}
use Rattle.std.specs.Prelude.{IfSome}
use Rattle.std.proofs.lemmas.Bool.{cases_order}
use Rattle.std.proofs.lemmas.List.{get_or-map, get_or_append_left, get_or_push, length-append, length-map}
use Rattle.std.proofs.lemmas.Option.{slice_get-get_or, slice_get_within}
use Rattle.call_contexts.specs.declared.context.Context.{Context}
use Rattle.call_contexts.specs.Contexts.{Frame, HaveAbove, frame_of, frames_of}
use Rattle.call_contexts.specs.Threads.{AreThreads, thread_by}
use Rattle.call_contexts.proofs.ListLemmas.{some_inj}

-- the frame of the context at an index
pub frame_is : (contexts : List Context) (i : ℕ) (d : Context) → i < length contexts → slice_get (frames_of contexts) i ≡ Some (frame_of (get_or contexts i d))
frame_is contexts i d lt =
    slice_get-get_or (frames_of contexts) i (frame_of d) (omega (arith, lt, length-map contexts frame_of))
    ∙ ap (λ (f : Frame). Some f) (get_or-map frame_of contexts i d (frame_of d) lt)

-- the threads of the first contexts
pub record AreThreadsTo (contexts : List Frame) (forked : List Bool) (at : ℕ) (threads : List ℕ) : Type 0 where
  pub size : length threads ≡ at
  pub own : (i : ℕ) (f : Frame) → i < at → slice_get contexts i ≡ Some f → get_or threads i 0 ≡ thread_by threads i f.above (get_or forked i false)

module _ (contexts : List Frame) (forked : List Bool) (above : HaveAbove contexts) (at : ℕ) (threads : List ℕ) (f : Frame) (here : slice_get contexts at ≡ Some f) (h : AreThreadsTo contexts forked at threads) where
  pub above_within : IfSome f.above (λ a. a < length threads)
  above_within = by f.above refl
    where
      by : (o : Option ℕ) → f.above ≡ o → IfSome o (λ a. a < length threads)
      by None e = tt
      by (Some a) e = omega (arith, above at a f here e, h.size)

  -- the thread of a context that is known stays the same with one more
  thread_same : (g : Frame) (i t : ℕ) (b : Bool) → i ≤ at → slice_get contexts i ≡ Some g → thread_by threads i g.above b ≡ thread_by (threads ++ t ∷ []) i g.above b
  thread_same g i t b le is = by g.above b refl
    where
      by : (o : Option ℕ) (b : Bool) → g.above ≡ o → thread_by threads i o b ≡ thread_by (threads ++ t ∷ []) i o b
      by None b e = refl
      by (Some a) true e = refl
      by (Some a) false e = sym (get_or_append_left threads (t ∷ []) 0 a (omega (arith, above i a g is e, le, h.size)))

  pub threads_more : (t : ℕ) (new : List ℕ) → t ≡ thread_by threads at f.above (get_or forked at false) → new ≡ threads ++ t ∷ [] → AreThreadsTo contexts forked (at + 1) new
  threads_more t new own step = record {
    size = omega (arith, ap length step, length-append threads (t ∷ []), h.size);
    own = λ i g low is. by i g low is (cases_order i at);
  }
    where
      by : (i : ℕ) (g : Frame) → i < at + 1 → slice_get contexts i ≡ Some g → (i ≡ at) ⊎ ((i < at) ⊎ (at < i)) → get_or new i 0 ≡ thread_by new i g.above (get_or forked i false)
      by i g low is (inl e) =
          let g_is : f ≡ g = some_inj (sym here ∙ ap (slice_get contexts) (sym e) ∙ is) in
          ap (λ j. get_or new j 0) e ∙ ap (λ (ts : List ℕ). get_or ts at 0) step ∙ get_or_push threads t 0 at h.size ∙ own
          ∙ thread_same f at t (get_or forked at false) (omega arith) here ∙ ap (λ (x : Frame). thread_by (threads ++ t ∷ []) at x.above (get_or forked at false)) g_is
          ∙ ap (λ (ts : List ℕ). thread_by ts at g.above (get_or forked at false)) (sym step) ∙ ap (λ j. thread_by new j g.above (get_or forked j false)) (sym e)
      by i g low is (inr (inl less)) =
          ap (λ (ts : List ℕ). get_or ts i 0) step ∙ get_or_append_left threads (t ∷ []) 0 i (omega (arith, less, h.size)) ∙ h.own i g less is
          ∙ thread_same g i t (get_or forked i false) (omega (arith, less)) is ∙ ap (λ (ts : List ℕ). thread_by ts i g.above (get_or forked i false)) (sym step)
      by i g low is (inr (inr more)) = absurd (omega (arith, more, low))

pub threads_none : (contexts : List Frame) (forked : List Bool) (threads : List ℕ) → threads ≡ [] → AreThreadsTo contexts forked 0 threads
threads_none contexts forked threads e = record { size = ap length e; own = λ i f lt is. absurd (omega (arith, lt)) }

pub threads_all : (contexts : List Frame) (forked : List Bool) (at : ℕ) (threads : List ℕ) → at ≡ length contexts → AreThreadsTo contexts forked at threads → AreThreads contexts forked threads
threads_all contexts forked at threads is h = record {
  size = h.size ∙ is;
  own = λ i f there. h.own i f (omega (arith, is, slice_get_within contexts i f there)) there;
}
