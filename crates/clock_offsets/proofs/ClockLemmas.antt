-- What a search tells of the clocks of machines.
use Rattle.std.proofs.Common.{◌≡◌, ℕ, zero, suc, ◌+◌, ◌<◌, ◌≤◌, ℤ, ◌+ℤ◌, Option, Some, None, List, [], ◌∷◌, ◌++◌, All, Contains, length, get_or, arith, refl, sym, subst, ap, ◌∙◌, ⊎_elim, Vec}
use Rattle.std.specs.declared.alloc.Global.{Global}
use Rattle.std.specs.List.Sorted.{IsStrictlyIncreasing}
use Rattle.std.specs.BTreeMap.{BTreeMap}
use Rattle.std.proofs.lemmas.Bool.{cases_eq, cases_lt}
use Rattle.std.proofs.lemmas.List.{get_or_append_left, get_or_at, length-append, map_push}
use Rattle.std.proofs.lemmas.List.Elements.{All-append, All-cons, All-nil, Contains-append_left, Contains-push}
use Rattle.std.proofs.lemmas.Option.{get_or_from_slice_get}
use Rattle.trace_types.specs.declared.event.Event.{Event}
use Rattle.trace_types.specs.Events.{machines_of, machine_at}
use Rattle.clock_offsets.specs.declared.link.Link.{Link}
use Rattle.clock_offsets.specs.declared.machine_clock.MachineClock.{MachineClock}
use Rattle.clock_offsets.specs.Depths.{IsReachedIn, HasDepth}
use Rattle.clock_offsets.specs.MachineClocks.{AreMachineClocks, IsClock, IsFirstOfOther, IsMachineClock, IsRoundTrip, firsts_in}
use Rattle.clock_offsets.specs.Messages.{ArePaired, IsLeastDelay}
use Rattle.clock_offsets.specs.Machines.{IsNotAfter}
use Rattle.clock_offsets.specs.Offsets.{IsParent}
use Rattle.clock_offsets.specs.inner.Delays.{AreLeastDelays, least_in}
use Rattle.clock_offsets.specs.inner.Links.{AreLinks, AreNumbers, IsNumber, links_at}
use Rattle.clock_offsets.specs.inner.Search.{AreDepths, HasNone, IsBest, depth_at}
use Rattle.clock_offsets.proofs.SearchLemmas.{number_of_paired, option_cases, paired_back, paired_from_against}
use Rattle.clock_offsets.proofs.UniqueLemmas.{depth_unique}

-- ---- round trips

-- the least delays of a way and of the way back
pub round_is : (events : List Event) (numbers : List ℕ) (least : BTreeMap (ℕ × ℕ) ℤ) (v w : ℕ) (d e r : ℤ) → AreLeastDelays events numbers least → least_in least v w ≡ Some d → least_in least w v ≡ Some e → r ≡ d +ℤ e → IsRoundTrip events (machine_at events v) (machine_at events w) r
round_is events numbers least v w d e r a there back is =
    let t = a.some v w d there in
    let b = a.some w v e back in
    let there_least : IsLeastDelay events (machine_at events v) (machine_at events w) d = (t.0.2, λ x delay. t.1 x (t.0.0, t.0.1, delay)) in
    let back_least : IsLeastDelay events (machine_at events w) (machine_at events v) e = (b.0.2, λ x delay. b.1 x (b.0.0, b.0.1, delay)) in
    (d, e, there_least, back_least, is)

-- paired machines have delays both ways
pub some_there : (events : List Event) (numbers : List ℕ) (least : BTreeMap (ℕ × ℕ) ℤ) (v w : ℕ) → AreLeastDelays events numbers least → IsNumber numbers v → IsNumber numbers w → ArePaired events (machine_at events v) (machine_at events w) → least_in least v w ≡ None → ⊥
some_there events numbers least v w a num_v num_w (d, e, there, back) none = a.none v w d none (num_v, num_w, there)

pub some_back : (events : List Event) (numbers : List ℕ) (least : BTreeMap (ℕ × ℕ) ℤ) (v w : ℕ) → AreLeastDelays events numbers least → IsNumber numbers v → IsNumber numbers w → ArePaired events (machine_at events v) (machine_at events w) → least_in least w v ≡ None → ⊥
some_back events numbers least v w a num_v num_w (d, e, there, back) none = a.none w v e none (num_w, num_v, back)

-- ---- parents

module _ (events : List Event) (numbers : List ℕ) (depths : List (Option ℕ)) (n : AreNumbers events numbers) (found : AreDepths events numbers depths) where
  pub number_below : (v : ℕ) → IsNumber numbers v → v < length events
  number_below v num = let within : v < length numbers = num.0 in let each : length numbers ≡ length events = n.each in omega arith

  -- a machine other than the reference has a depth above 0
  pub depth_above : (v k : ℕ) → 0 < v → depth_at depths v ≡ Some k → 0 < k
  depth_above v zero other at =
      let r = found.right v 0 at in
      let own : get_or numbers v 0 ≡ v = r.0.1 in
      let same : machine_at events 0 ≡ machine_at events v = get_or_from_slice_get (machines_of events) 0 (machine_at events v) [] r.1.0 in
      absurd (n.first 0 v (number_below v r.0) (omega arith) same)
  depth_above v (suc k) other at = omega arith

  module _ (links : List (Vec Link Global)) (a : AreLinks events numbers links) where
    -- a machine of depth k that is paired with one of depth k + 1 has a link from it
    link_to : (k v : ℕ) (q : List ℕ) → IsNumber numbers v → HasDepth events k q → ArePaired events q (machine_at events v) → (l : Link) × Contains (links_at links v) l × (depth_at depths l.to ≡ Some k) × (machine_at events l.to ≡ q)
    link_to k v q num depth pair =
        let p = number_of_paired events numbers q (machine_at events v) n pair in
        let u : ℕ = p.0 in
        let depth_u : HasDepth events k (machine_at events u) = subst (λ (x : List ℕ). HasDepth events k x) (sym p.2) depth in
        let pair_u : ArePaired events (machine_at events v) (machine_at events u) = paired_back events (machine_at events u) (machine_at events v) (subst (λ (x : List ℕ). ArePaired events x (machine_at events v)) (sym p.2) pair) in
        let l = a.all v u num p.1 pair_u in
        let at : depth_at depths u ≡ Some k = ⊎_elim
        (λ (away : depth_at depths u ≡ None). absurd (found.none u p.1 away k depth_u.0))
        (λ (h : (i : ℕ) × (depth_at depths u ≡ Some i)). h.1 ∙ ap Some (depth_unique events h.0 k (machine_at events u) (found.right u h.0 h.1).1 depth_u))
        (option_cases (depth_at depths u)) in
        (l.0, l.1, ap (depth_at depths) l.2 ∙ at, ap (machine_at events) l.2 ∙ p.2)

    -- so one with a depth above 0 has a link to a machine of the depth before
    pub some_before : (k v : ℕ) → depth_at depths v ≡ Some (suc k) → HasNone depths k (links_at links v) → ⊥
    some_before k v at none =
        let r = found.right v (suc k) at in
        by r.0 r.1 r.1.0
      where
        by : IsNumber numbers v → HasDepth events (suc k) (machine_at events v) → IsReachedIn events (suc k) (machine_at events v) → ⊥
        by num depth (q, leads, pair) =
            let least_q : (j : ℕ) → IsReachedIn events j q → k ≤ j = λ j h. let le : suc k ≤ suc j = depth.1 (suc j) (q, h, pair) in omega arith in
            let l = link_to k v q num (leads, least_q) pair in
            none l.0 l.1 l.2

    -- the link to the least name leads to the parent
    pub parent_is : (k v : ℕ) (b : Link) → depth_at depths v ≡ Some (suc k) → IsBest events depths k (links_at links v) b → IsParent events k (machine_at events b.to) (machine_at events v)
    parent_is k v b at best =
        let r = found.right v (suc k) at in
        let against = a.right v b (number_below v r.0) best.among in
        record {
          child = r.1;
          depth = (found.right b.to k best.depth).1;
          paired = paired_from_against events (machine_at events b.to) (machine_at events v) b.offset against.2;
          least = λ q depth_q pair_q.
              let l = link_to k v q r.0 depth_q pair_q in
              subst (λ (x : List ℕ). IsNotAfter (machine_at events b.to) x) l.3 (best.least l.0 l.1 l.2);
        }

-- ---- lists of clocks

-- a rising list with a greater number at its end rises
rising_push : (xs : List ℕ) (b : ℕ) → IsStrictlyIncreasing xs → All (λ x. x < b) xs → IsStrictlyIncreasing (xs ++ b ∷ [])
rising_push xs b rises below k h = ⊎_elim
    (λ (l : k + 1 < length xs).
    let lower : k < length xs = omega arith in
    let here = get_or_append_left xs (b ∷ []) 0 k lower in
    let next = get_or_append_left xs (b ∷ []) 0 (k + 1) l in
    let r = rises k l in
    omega arith)
    (λ (l : length xs ≤ k + 1).
    let n = length-append xs (b ∷ []) in
    let e : length xs ≡ k + 1 = omega arith in
    let lower : k < length xs = omega arith in
    let here = get_or_append_left xs (b ∷ []) 0 k lower in
    let next = get_or_at xs b [] 0 (k + 1) e in
    let r = below k 0 lower in
    omega arith)
    (cases_lt (k + 1) (length xs))

-- the clocks of the machines whose first events are among the first n
pub record AreClocksTo (events : List Event) (n : ℕ) (clocks : List MachineClock) : Type 0 where
  pub few : length clocks < n
  pub each : All (IsMachineClock events) clocks
  pub below : All (λ k. k < n) (firsts_in clocks)
  pub rising : IsStrictlyIncreasing (firsts_in clocks)
  pub all : (k : ℕ) → k < n → IsFirstOfOther events k → Contains (firsts_in clocks) k

all_less : (xs : List ℕ) (n m : ℕ) → n ≤ m → All (λ k. k < n) xs → All (λ k. k < m) xs
all_less xs n m le h i d lt = let less : get_or xs i d < n = h i d lt in omega arith

pub clocks_start : (events : List Event) → AreClocksTo events 1 []
clocks_start events = record {
  few = omega arith;
  each = All-nil (IsMachineClock events);
  below = All-nil (λ k. k < 1);
  rising = λ k h. absurd (omega arith);
  all = λ k lt first. let later : 0 < k = first.later in absurd (omega arith);
}

-- the event at n is not the first of its machine
pub clocks_skip : (events : List Event) (numbers : List ℕ) (n : ℕ) (clocks : List MachineClock) → AreNumbers events numbers → n < length events → (get_or numbers n 0 ≡ n → ⊥) → AreClocksTo events n clocks → AreClocksTo events (n + 1) clocks
clocks_skip events numbers n clocks a lt not_own c = record {
  few = let less = c.few in omega arith;
  each = c.each;
  below = all_less (firsts_in clocks) n (n + 1) (omega arith) c.below;
  rising = c.rising;
  all = λ k within first. ⊎_elim
      (λ (same : k ≡ n). absurd (again (subst (IsFirstOfOther events) same first)))
      (λ (apart : k ≡ n → ⊥). c.all k (⊎_elim (λ (l : k < n). l) (λ (ge : n ≤ k). absurd (apart (omega arith))) (cases_lt k n)) first)
      (cases_eq k n);
}
  where
    again : IsFirstOfOther events n → ⊥
    again first = ⊎_elim
        (λ (l : get_or numbers n 0 < n). first.first (get_or numbers n 0) l (a.same n lt))
        (λ (ge : n ≤ get_or numbers n 0). ⊎_elim
        (λ (above : n < get_or numbers n 0). a.first n n lt above refl)
        (λ (le : get_or numbers n 0 ≤ n). not_own (omega arith))
        (cases_lt n (get_or numbers n 0)))
        (cases_lt (get_or numbers n 0) n)

-- it is, and this is what is told of the machine
pub clocks_push : (events : List Event) (numbers : List ℕ) (n : ℕ) (clocks : List MachineClock) (x : MachineClock) → AreNumbers events numbers → n < length events → 0 < n → get_or numbers n 0 ≡ n → x.first ≡ n → IsClock events (machine_at events n) x.clock → AreClocksTo events n clocks → AreClocksTo events (n + 1) (clocks ++ x ∷ [])
clocks_push events numbers n clocks x a lt some own is told c = record {
  few = let less = c.few in let long = length-append clocks (x ∷ []) in omega arith;
  each = All-append (IsMachineClock events) clocks (x ∷ []) c.each (All-cons (IsMachineClock events) x [] here (All-nil (IsMachineClock events)));
  below = subst (All (λ k. k < n + 1)) (sym pushed) (All-append (λ k. k < n + 1) (firsts_in clocks) (n ∷ []) (all_less (firsts_in clocks) n (n + 1) (omega arith) c.below) (All-cons (λ k. k < n + 1) n [] (omega arith) (All-nil (λ k. k < n + 1))));
  rising = subst IsStrictlyIncreasing (sym pushed) (rising_push (firsts_in clocks) n c.rising c.below);
  all = λ k within f. subst (λ (ks : List ℕ). Contains ks k) (sym pushed) (⊎_elim
      (λ (same : k ≡ n). subst (λ (i : ℕ). Contains (firsts_in clocks ++ n ∷ []) i) (sym same) (Contains-push (firsts_in clocks) n))
      (λ (apart : k ≡ n → ⊥). Contains-append_left (firsts_in clocks) (n ∷ []) k (c.all k (⊎_elim (λ (l : k < n). l) (λ (ge : n ≤ k). absurd (apart (omega arith))) (cases_lt k n)) f))
      (cases_eq k n));
}
  where
    pushed : firsts_in (clocks ++ x ∷ []) ≡ firsts_in clocks ++ n ∷ []
    pushed = map_push (λ (c : MachineClock). c.first) clocks x ∙ ap (λ k. firsts_in clocks ++ k ∷ []) is

    first : IsFirstOfOther events n
    first = record { within = lt; later = some; first = λ j l. a.first j n lt (subst (λ (i : ℕ). j < i) (sym own) l) }

    here : IsMachineClock events x
    here = record {
      first = subst (IsFirstOfOther events) (sym is) first;
      clock = subst (λ (i : ℕ). IsClock events (machine_at events i) x.clock) (sym is) told;
    }

-- all events have been looked at
pub clocks_done : (events : List Event) (n : ℕ) (clocks : List MachineClock) → length events ≤ n → AreClocksTo events n clocks → AreMachineClocks events clocks
clocks_done events n clocks le c = record {
  each = c.each;
  rising = c.rising;
  all = λ k first. c.all k (let within : k < length events = first.within in omega arith) first;
}
