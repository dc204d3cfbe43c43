-- The steps outward from the reference: how they start, how each goes on, and where they end.
use Rattle.std.proofs.Common.{◌≡◌, ℕ, zero, suc, ◌+◌, ◌<◌, ◌≤◌, ℤ, pos, Option, Some, None, List, [], ◌∷◌, length, get_or, set, replicate, arith, refl, sym, subst, ap, ◌∙◌, ⊎_elim, inl, inr}
use Rattle.std.proofs.lemmas.Bool.{cases_eq, cases_lt}
use Rattle.std.proofs.lemmas.Int.{ints}
use Rattle.std.proofs.lemmas.List.{get_or-replicate, get_or_past, length-replicate, length-set, get_or-set_same, get_or-set_other, length-map}
use Rattle.std.proofs.lemmas.List.Sums.{count_by-le-length}
use Rattle.std.proofs.lemmas.Option.{slice_get-get_or, same_Some}
use Rattle.std.specs.Option.{is_none}
use Rattle.trace_types.specs.declared.event.Event.{Event}
use Rattle.clock_offsets.specs.Machines.{IsReference}
use Rattle.trace_types.specs.Events.{machines_of, machine_at}
use Rattle.clock_offsets.specs.Depths.{IsReachedIn, HasDepth}
use Rattle.clock_offsets.specs.inner.Links.{AreNumbers, IsNumber}
use Rattle.clock_offsets.specs.inner.Search.{depth_at, AreVisitedTo, IsFrontier, Visits, unvisited, HasOffset, HaveOffsetsTo, AreMachineOffsets, AreDepths}
use Rattle.clock_offsets.proofs.SearchLemmas.{option_cases, none_further}
use Rattle.clock_offsets.proofs.VisitLemmas.{unvisited_set}

none_in : (n v : ℕ) → depth_at (replicate n None) v ≡ None
none_in n v = ⊎_elim
    (λ (lt : v < n). get_or-replicate n v None None lt)
    (λ (le : n ≤ v). let each : length (replicate {A = Option ℕ} n None) ≡ n = length-replicate n None in get_or_past (replicate n None) v None (omega arith))
    (cases_lt v n)

-- the machine of the first event is the reference
pub reference_is : (events : List Event) (m : List ℕ) → 0 < length events → m ≡ machine_at events 0 → IsReference events m
reference_is events m some is =
    let each : length (machines_of events) ≡ length events = length-map events (λ (e : Event). e.machine) in
    slice_get-get_or (machines_of events) 0 [] (omega arith) ∙ ap Some (sym is)

-- and it alone
pub reference_at : (events : List Event) (m : List ℕ) → 0 < length events → IsReference events m → machine_at events 0 ≡ m
reference_at events m some is =
    let each : length (machines_of events) ≡ length events = length-map events (λ (e : Event). e.machine) in
    let here = slice_get-get_or (machines_of events) 0 [] (omega arith) in
    same_Some (machine_at events 0) m (sym here ∙ is)

-- at first the reference alone has been found
pub visited_start : (events : List Event) (numbers : List ℕ) (n r : ℕ) → AreNumbers events numbers → 0 < length events → n ≡ length events → r ≡ get_or numbers 0 0 → AreVisitedTo events numbers 0 (set (replicate n None) r (Some 0))
visited_start events numbers n r a some all is = record {
  each = length-set (replicate n None) r (Some 0) ∙ (length-replicate n None ∙ all);
  right = λ v j h. ⊎_elim
      (λ (same : v ≡ r).
      let there : depth_at (set (replicate n None) r (Some 0)) v ≡ Some 0 = at_r v same in
      let j_is : j ≡ 0 = cc in (
        subst (λ (i : ℕ). IsNumber numbers i) (sym same) number,
        omega arith,
        subst (λ (i : ℕ). HasDepth events i (machine_at events v)) (sym j_is)
            (reference_is events (machine_at events v) some (ap (machine_at events) same ∙ own), λ i l. omega arith),
      ))
      (λ (apart : v ≡ r → ⊥). let away : depth_at (set (replicate n None) r (Some 0)) v ≡ None = get_or-set_other (replicate n None) r v (Some 0) None apart ∙ none_in n v in cc)
      (cases_eq v r);
  all = λ v j num none le leads.
      let j_is : j ≡ 0 = omega arith in
      let at_0 : machine_at events 0 ≡ machine_at events v = reference_at events (machine_at events v) some (subst (λ (i : ℕ). IsReachedIn events i (machine_at events v)) j_is leads) in
      let v_lt : v < length numbers = num.0 in
      let same_number = a.one v 0 (omega arith) some (sym at_0) in
      let there : depth_at (set (replicate n None) r (Some 0)) v ≡ Some 0 = at_r v (sym num.1 ∙ (same_number ∙ sym is)) in
      cc;
}
  where
    each : length numbers ≡ length events
    each = a.each

    within : r < length events
    within = subst (λ (i : ℕ). i < length events) (sym is) (a.within 0 some)

    own : machine_at events r ≡ machine_at events 0
    own = ap (machine_at events) is ∙ a.same 0 some

    number : IsNumber numbers r
    number = (let lt : r < length events = within in let e : length numbers ≡ length events = each in omega arith, a.one r 0 within some own ∙ sym is)

    at_r : (v : ℕ) → v ≡ r → depth_at (set (replicate n None) r (Some 0)) v ≡ Some 0
    at_r v same =
        let lt : r < length events = within in
        let len : length (replicate {A = Option ℕ} n None) ≡ n = length-replicate n None in
        ap (depth_at (set (replicate n None) r (Some 0))) same ∙ get_or-set_same (replicate n None) r (Some 0) None (omega arith)

pub frontier_start : (n r : ℕ) → r < n → IsFrontier 0 (set (replicate n None) r (Some 0)) (r ∷ [])
frontier_start n r lt = record {
  right = λ v (k, below, is). at_r v (one k v below is);
  all = λ v h. ⊎_elim
      (λ (same : v ≡ r). (0, omega arith, sym same))
      (λ (apart : v ≡ r → ⊥). let away : depth_at (set (replicate n None) r (Some 0)) v ≡ None = get_or-set_other (replicate n None) r v (Some 0) None apart ∙ none_in n v in absurd (cc))
      (cases_eq v r);
}
  where
    one : (k v : ℕ) → k < length (r ∷ []) → get_or (r ∷ []) k v ≡ v → v ≡ r
    one zero v below is = sym is
    one (suc k) v below is = absurd (omega arith)

    at_r : (v : ℕ) → v ≡ r → depth_at (set (replicate n None) r (Some 0)) v ≡ Some 0
    at_r v same =
        let len : length (replicate {A = Option ℕ} n None) ≡ n = length-replicate n None in
        ap (depth_at (set (replicate n None) r (Some 0))) same ∙ get_or-set_same (replicate n None) r (Some 0) None (omega arith)

pub offsets_start : (events : List Event) (numbers : List ℕ) (n : ℕ) (depths : List (Option ℕ)) → 0 < length events → n ≡ length events → AreVisitedTo events numbers 0 depths → HaveOffsetsTo events 0 depths (replicate n (pos 0))
offsets_start events numbers n depths some all found = record {
  each = length-replicate n (pos 0) ∙ all;
  right = λ v j h le.
      let at = (found.right v j h).2 in
      let j_is : j ≡ 0 = omega arith in
      let leads : IsReachedIn events 0 (machine_at events v) = subst (λ (i : ℕ). IsReachedIn events i (machine_at events v)) j_is at.0 in
      subst (λ (i : ℕ). HasOffset events i v (get_or (replicate n (pos 0)) v (pos 0))) (sym j_is)
      (subst (λ (o : ℤ). HasOffset events 0 v o) (sym (zero_in v)) (record { adds = (leads, refl); low = omega (arith, ints); high = omega (arith, ints) }));
  zero = λ v h. zero_in v;
}
  where
    zero_in : (v : ℕ) → get_or (replicate n (pos 0)) v (pos 0) ≡ pos 0
    zero_in v = ⊎_elim
        (λ (lt : v < n). get_or-replicate n v (pos 0) (pos 0) lt)
        (λ (le : n ≤ v). let each : length (replicate n (pos 0)) ≡ n = length-replicate n (pos 0) in get_or_past (replicate n (pos 0)) v (pos 0) (omega arith))
        (cases_lt v n)

pub unvisited_start : (n r : ℕ) → r < n → unvisited (set (replicate n None) r (Some 0)) < n
unvisited_start n r lt =
    let len : length (replicate {A = Option ℕ} n None) ≡ n = length-replicate n None in
    let less : unvisited (set (replicate n None) r (Some 0)) + 1 ≡ unvisited (replicate n None) = unvisited_set (replicate n None) r 0 (omega arith) (none_in n r) in
    let most : unvisited (replicate n None) ≤ length (replicate {A = Option ℕ} n None) = count_by-le-length is_none (replicate {A = Option ℕ} n None) in
    omega arith

-- machines that were found keep their offsets
pub offsets_kept : (T : ℕ → Type 0) (events : List Event) (k : ℕ) (old new : List (Option ℕ)) (offsets : List ℤ) → HaveOffsetsTo events k old offsets → Visits T (suc k) old new → HaveOffsetsTo events k new offsets
offsets_kept T events k old new offsets s w = record {
  each = s.each;
  right = λ v j h le. ⊎_elim
      (λ (was : depth_at old v ≡ Some j). s.right v j was le)
      (λ (n : (depth_at old v ≡ None) × (j ≡ suc k) × T v). let j_is : j ≡ suc k = n.1 in absurd (omega arith))
      (w.fresh v j h);
  zero = λ v none. ⊎_elim
      (λ (was : depth_at old v ≡ None). s.zero v was)
      (λ (h : (i : ℕ) × (depth_at old v ≡ Some i)). let kept : depth_at new v ≡ Some h.0 = w.kept v h.0 h.1 in absurd (cc))
      (option_cases (depth_at old v));
}

-- where the frontier is empty each machine has its offset
pub offsets_end : (events : List Event) (numbers : List ℕ) (k : ℕ) (depths : List (Option ℕ)) (offsets : List ℤ) → AreNumbers events numbers → AreVisitedTo events numbers k depths → IsFrontier k depths [] → HaveOffsetsTo events k depths offsets → AreMachineOffsets events numbers offsets
offsets_end events numbers k depths offsets n found f s = record {
  each = s.each;
  value = λ v num. ⊎_elim
      (λ (none : depth_at depths v ≡ None). inr (λ j leads. none_further events numbers k depths n found f j v num none leads, s.zero v none))
      (λ (h : (j : ℕ) × (depth_at depths v ≡ Some j)). inl (h.0, (s.right v h.0 h.1 (found.right v h.0 h.1).1).adds))
      (option_cases (depth_at depths v));
}

-- where the frontier is empty each machine has its depth
pub depths_end : (events : List Event) (numbers : List ℕ) (k : ℕ) (depths : List (Option ℕ)) → AreNumbers events numbers → AreVisitedTo events numbers k depths → IsFrontier k depths [] → AreDepths events numbers depths
depths_end events numbers k depths n found f = record {
  each = found.each;
  right = λ v j h. let r = found.right v j h in (r.0, r.2);
  none = λ v num none j leads. none_further events numbers k depths n found f j v num none leads;
}
