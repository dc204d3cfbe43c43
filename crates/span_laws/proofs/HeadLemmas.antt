-- Which calls begin threads, and which stand in them.
use Rattle.std.proofs.Common.{◌≡◌, ◌⊎◌, inl, inr, ⊎_elim, ℕ, zero, suc, ◌+◌, ◌<◌, ◌≤◌, ◌==◌, List, [], ◌∷◌, ◌++◌, Bool, true, false, cond, length, filter, flat_map, count_by, Option, Some, None, is_none, get_or, slice_get, refl, sym, ap, ◌∙◌, arith, eq-eqb, eqb-true}
use Rattle.std.proofs.lemmas.List.{get_or-map}
use Rattle.std.proofs.lemmas.List.FromFn.{get_or-map-range_with_len}
use Rattle.std.proofs.lemmas.Option.{slice_get-get_or, slice_get_within}
use Rattle.span_calls.specs.Calls.{AreBefore}
use Rattle.span_calls.specs.declared.call.Call.{Call}
use Rattle.call_contexts.specs.Contexts.{AreContexts, Frame, above_by, frame_at, ordinals_among}
use Rattle.call_contexts.specs.Threads.{thread_by}
use Rattle.context_forks.specs.Forks.{callers_of}
use Rattle.context_names.specs.Machines.{MachineNames}
use Rattle.thread_steps.proofs.TableLemmas.{caller_before}
use Rattle.thread_steps.specs.Parts.{Grouping, forks}
use Rattle.thread_steps.specs.ThreadLaws.{all_steps, caller_within, count_of, thread_heads, thread_steps}
use Rattle.thread_steps.specs.declared.step.Step.{Step}
use Rattle.span_lines.specs.Mappings.{Mapping, begins_thread}
use Rattle.span_lines.specs.Requests.{request_calls, request_size}
use Rattle.span_lines.specs.SpanLines.{AreThreaded, Placing, Threading, group_numbers, mapping_of}
use Rattle.span_laws.proofs.ApartLemmas.{In, Once, in_filter, in_range, once_range, pairs_filter}

pub filter_agree_in : {X : Type 0} (p q : X → Bool) (xs : List X) → ((x : X) → In xs x → p x ≡ q x) → filter p xs ≡ filter q xs
filter_agree_in p q [] f = refl
filter_agree_in p q (x ∷ xs) f = (λ i. cond (f x (inl refl) i) (x ∷ filter_agree_in p q xs (λ y h. f y (inr h)) i) (filter_agree_in p q xs (λ y h. f y (inr h)) i))

pub flat_agree_in : {X Y : Type 0} (f g : X → List Y) (xs : List X) → ((x : X) → In xs x → f x ≡ g x) → flat_map f xs ≡ flat_map g xs
flat_agree_in f g [] e = refl
flat_agree_in f g (x ∷ xs) e = (λ i. e x (inl refl) i ++ flat_agree_in f g xs (λ y h. e y (inr h)) i)

pub same_or : (a b : ℕ) → (a ≡ b) ⊎ (a ≡ b → ⊥)
same_or a b = pick (a == b) refl
  where
    pick : (x : Bool) → (a == b) ≡ x → (a ≡ b) ⊎ (a ≡ b → ⊥)
    pick true e = inl (eqb-true a b e)
    pick false e = inr (λ f. let w : false ≡ true = sym e ∙ eq-eqb a b f in cc)

module _ (grace : ℕ) (calls : List Call) (before : AreBefore calls) (d : Call) (p : Placing) (placed : AreContexts calls p.numbers p.contexts)
    (t : Threading) (threaded : AreThreaded grace calls p.numbers p.contexts t) (machines : MachineNames) where
  abbrev pub m : Mapping
  m = mapping_of calls p t machines

  abbrev pub grouping : Grouping
  grouping = record { numbers = p.numbers; forked = t.forked; groups = t.groups }

  abbrev pub steps_of : ℕ → List Step
  steps_of h = get_or m.steps h []

  abbrev pub ctx : ℕ → ℕ
  ctx i = get_or p.numbers i 0

  abbrev pub thread_at : ℕ → ℕ
  thread_at x = get_or t.threads x 0

  pub steps_are : (h : ℕ) → h < length calls → steps_of h ≡ thread_steps calls grouping (group_numbers p t) h
  steps_are h lt = get_or-map-range_with_len (thread_steps calls grouping (group_numbers p t)) 0 (length calls) h h [] lt (omega arith)

  pub caller_at : (i : ℕ) → i < length calls → get_or (callers_of calls) i None ≡ (get_or calls i d).caller
  caller_at i l = get_or-map (λ (c : Call). c.caller) calls i d None l

  abbrev pub frame : ℕ → Frame
  frame i = frame_at p.numbers (get_or (ordinals_among calls) i 0) (get_or calls i d)

  pub frame_there : (i : ℕ) → i < length calls → slice_get p.contexts (ctx i) ≡ Some (frame i)
  frame_there i lt = placed.own i (get_or calls i d) (slice_get-get_or calls i d lt)

  pub frame_above : (i : ℕ) → i < length calls → (frame i).above ≡ above_by p.numbers (get_or (callers_of calls) i None)
  frame_above i lt = ap (above_by p.numbers) (sym (caller_at i lt))

  pub ctx_within : (i : ℕ) → i < length calls → ctx i < length p.contexts
  ctx_within i lt = slice_get_within p.contexts (ctx i) (frame i) (frame_there i lt)

  own_thread : (i : ℕ) → i < length calls → thread_at (ctx i) ≡ thread_by t.threads (ctx i) (above_by p.numbers (get_or (callers_of calls) i None)) (forks grouping i)
  own_thread i lt = threaded.run.own (ctx i) (frame i) (frame_there i lt) ∙ ap (λ a. thread_by t.threads (ctx i) a (forks grouping i)) (frame_above i lt)

  -- a call without a caller, or that is forked, begins a thread; any other one is in the thread of its caller
  pub none_begins : (i : ℕ) → i < length calls → get_or (callers_of calls) i None ≡ None → thread_at (ctx i) ≡ ctx i
  none_begins i lt e = own_thread i lt ∙ ap (λ o. thread_by t.threads (ctx i) (above_by p.numbers o) (forks grouping i)) e

  pub forked_begins : (i c : ℕ) → i < length calls → get_or (callers_of calls) i None ≡ Some c → forks grouping i ≡ true → thread_at (ctx i) ≡ ctx i
  forked_begins i c lt e f = own_thread i lt ∙ (λ k. thread_by t.threads (ctx i) (above_by p.numbers (e k)) (f k))

  pub goes_with : (i c : ℕ) → i < length calls → get_or (callers_of calls) i None ≡ Some c → forks grouping i ≡ false → thread_at (ctx i) ≡ thread_at (ctx c)
  goes_with i c lt e f = own_thread i lt ∙ (λ k. thread_by t.threads (ctx i) (above_by p.numbers (e k)) (f k))

  low_by : (n i : ℕ) → i < n → i < length calls → thread_at (ctx i) ≤ ctx i
  low_by zero i l lt = absurd (omega (arith, l))
  low_by (suc n) i l lt = by (get_or (callers_of calls) i None) refl (forks grouping i) refl
      (λ c e. low_by n c (let h = caller_before calls before c i e in omega (arith, h, l)) (let h = caller_before calls before c i e in omega (arith, h, lt)))
    where
      by : (o : Option ℕ) → get_or (callers_of calls) i None ≡ o → (b : Bool) → forks grouping i ≡ b → ((c : ℕ) → get_or (callers_of calls) i None ≡ Some c → thread_at (ctx c) ≤ ctx c) → thread_at (ctx i) ≤ ctx i
      by None e b f more = let h = none_begins i lt e in omega (arith, h)
      by (Some c) e true f more = let h = forked_begins i c lt e f in omega (arith, h)
      by (Some c) e false f more =
          let h = goes_with i c lt e f in
          let k = more c e in
          let s = placed.before (ctx i) (ctx c) (frame i) (frame_there i lt) (frame_above i lt ∙ ap (above_by p.numbers) e) in
          omega (arith, h, k, s)

  pub begins_is : (i : ℕ) → i < length calls → begins_thread m i ≡ is_none (caller_within calls grouping i)
  begins_is i lt = by (get_or (callers_of calls) i None) refl (forks grouping i) refl
    where
      yes : thread_at (ctx i) ≡ ctx i → (thread_at (ctx i) == ctx i) ≡ true
      yes e = eq-eqb (thread_at (ctx i)) (ctx i) e

      no_eq : (b : Bool) → (thread_at (ctx i) == ctx i) ≡ b → (thread_at (ctx i) ≡ ctx i → ⊥) → b ≡ false
      no_eq true e f = absurd (f (eqb-true (thread_at (ctx i)) (ctx i) e))
      no_eq false e f = refl

      by : (o : Option ℕ) → get_or (callers_of calls) i None ≡ o → (b : Bool) → forks grouping i ≡ b → (thread_at (ctx i) == ctx i) ≡ is_none (cond (forks grouping i) None (get_or (callers_of calls) i None))
      by None e true f = yes (none_begins i lt e) ∙ sym (λ k. is_none (cond (f k) None (e k)))
      by None e false f = yes (none_begins i lt e) ∙ sym (λ k. is_none (cond (f k) None (e k)))
      by (Some c) e true f = yes (forked_begins i c lt e f) ∙ sym (λ k. is_none (cond (f k) None (e k)))
      by (Some c) e false f =
          let h = goes_with i c lt e f in
          let cb = caller_before calls before c i e in
          let k = low_by (suc c) c (omega arith) (omega (arith, cb, lt)) in
          let s = placed.before (ctx i) (ctx c) (frame i) (frame_there i lt) (frame_above i lt ∙ ap (above_by p.numbers) e) in
          no_eq (thread_at (ctx i) == ctx i) refl (λ q. omega (arith, h, k, s, q)) ∙ sym (λ k. is_none (cond (f k) None (e k)))

  pub begins_own : (h : ℕ) → begins_thread m h ≡ true → thread_at (ctx h) ≡ ctx h
  begins_own h e = eqb-true (thread_at (ctx h)) (ctx h) e

  -- a call that starts, or that ends, in a thread is of the thread of the call that begins it
  module _ (is_of : ℕ → Step → Bool)
      (with_callers : (head i : ℕ) → head < length calls → i < length calls → (i ≡ head → ⊥) → count_by (is_of i) (thread_steps calls grouping (group_numbers p t) head) ≡ count_of calls grouping (group_numbers p t) is_of (caller_within calls grouping i) head)
      (h : ℕ) (within : h < length calls) where
    abbrev count : ℕ → ℕ
    count i = count_by (is_of i) (thread_steps calls grouping (group_numbers p t) h)

    thread_by_fuel : (n i : ℕ) → i < n → i < length calls → 0 < count i → thread_at (ctx i) ≡ thread_at (ctx h)
    thread_by_fuel zero i l lt s = absurd (omega (arith, l))
    thread_by_fuel (suc n) i l lt s = ⊎_elim (λ e. ap (λ k. thread_at (ctx k)) e)
        (λ apart. by (get_or (callers_of calls) i None) refl (forks grouping i) refl (with_callers h i within lt apart)
        (λ c e. thread_by_fuel n c (let q = caller_before calls before c i e in omega (arith, q, l)) (let q = caller_before calls before c i e in omega (arith, q, lt))))
        (same_or i h)
      where
        by : (o : Option ℕ) → get_or (callers_of calls) i None ≡ o → (b : Bool) → forks grouping i ≡ b
            → count i ≡ count_of calls grouping (group_numbers p t) is_of (cond (forks grouping i) None (get_or (callers_of calls) i None)) h
            → ((c : ℕ) → get_or (callers_of calls) i None ≡ Some c → 0 < count c → thread_at (ctx c) ≡ thread_at (ctx h))
            → thread_at (ctx i) ≡ thread_at (ctx h)
        by o e true f same more = let z = same ∙ ap (λ b. count_of calls grouping (group_numbers p t) is_of (cond b None (get_or (callers_of calls) i None)) h) f in absurd (omega (arith, z, s))
        by None e false f same more = let z = same ∙ (λ k. count_of calls grouping (group_numbers p t) is_of (cond (f k) None (e k)) h) in absurd (omega (arith, z, s))
        by (Some c) e false f same more = let z = same ∙ (λ k. count_of calls grouping (group_numbers p t) is_of (cond (f k) None (e k)) h) in goes_with i c lt e f ∙ more c e (omega (arith, z, s))

    pub stands_in_thread : (i : ℕ) → i < length calls → 0 < count i → thread_at (ctx i) ≡ thread_at (ctx h)
    stands_in_thread i lt s = thread_by_fuel (suc i) i (omega arith) lt s

  -- the threads of a request
  module _ (r : ℕ) (bound : r + request_size calls r ≤ length calls) where
    abbrev pub heads : List ℕ
    heads = filter (begins_thread m) (request_calls calls r)

    pub head_in : (h : ℕ) → In heads h → (r ≤ h) × (h < r + request_size calls r)
    head_in h i = in_range r (request_size calls r) h (in_filter (begins_thread m) (request_calls calls r) h i).0

    pub head_begins : (h : ℕ) → In heads h → thread_at (ctx h) ≡ ctx h
    head_begins h i = begins_own h (in_filter (begins_thread m) (request_calls calls r) h i).1

    pub heads_once : Once heads
    heads_once = pairs_filter (λ a b. a ≡ b → ⊥) (begins_thread m) (request_calls calls r) (once_range r (request_size calls r))

    pub heads_are : heads ≡ thread_heads calls grouping r (request_size calls r)
    heads_are = filter_agree_in (begins_thread m) (λ i. is_none (caller_within calls grouping i)) (request_calls calls r) (λ i h. begins_is i (let w = (in_range r (request_size calls r) i h).1 in omega (arith, w, bound)))

    pub all_are : flat_map steps_of heads ≡ all_steps calls grouping (group_numbers p t) r (request_size calls r)
    all_are = flat_agree_in steps_of (thread_steps calls grouping (group_numbers p t)) heads (λ h i. steps_are h (let w = (head_in h i).1 in omega (arith, w, bound))) ∙ ap (flat_map (thread_steps calls grouping (group_numbers p t))) heads_are
