-- Going outward from the reference finds each machine at its depth.
use Rattle.std.proofs.Common.{◌≡◌, ℕ, zero, suc, ◌<◌, ◌≤◌, ℤ, Option, Some, None, IsSome, List, [], length, get_or, arith, refl, sym, subst, ap, ◌∙◌, ⊎_elim, inl, inr, ◌⊎◌, Contains, Vec}
use Rattle.std.specs.declared.alloc.Global.{Global}
use Rattle.std.proofs.lemmas.Bool.{cases_lt}
use Rattle.std.proofs.lemmas.List.{get_or-map}
use Rattle.trace_types.specs.declared.event.Event.{Event}
use Rattle.clock_offsets.specs.declared.link.Link.{Link}
use Rattle.trace_types.specs.Events.{machine_at}
use Rattle.clock_offsets.specs.Messages.{ArePaired, IsRelativeOffset}
use Rattle.clock_offsets.specs.Depths.{IsReachedIn, HasDepth}
use Rattle.clock_offsets.specs.inner.Links.{AreNumbers, IsNumber, AreLinks}
use Rattle.clock_offsets.specs.inner.Search.{depth_at, AreVisitedTo, IsFrontier, FrontierLinksTo, Visits}

-- a value is there or not
pub option_cases : {X : Type 0} (o : Option X) → (o ≡ None) ⊎ ((x : X) × (o ≡ Some x))
option_cases None = inl refl
option_cases (Some x) = inr (x, refl)

pub not_none : {X : Type 0} (o : Option X) → IsSome o → o ≡ None → ⊥
not_none None h e = cc
not_none (Some x) h e = cc

-- each event's machine has a number
pub machine_number : (events : List Event) (numbers : List ℕ) (e : Event) → AreNumbers events numbers → Contains events e → (u : ℕ) × IsNumber numbers u × (machine_at events u ≡ e.machine)
machine_number events numbers e n (k, l, is) =
    let u : ℕ = get_or numbers k 0 in
    let within : get_or numbers k 0 < length events = n.within k l in
    let each : length numbers ≡ length events = n.each in
    let own : machine_at events u ≡ machine_at events k = n.same k l in
    (u, (omega arith, n.one u k within l own), own ∙ (get_or-map (λ (x : Event). x.machine) events k e [] l ∙ ap (λ (x : Event). x.machine) is))

pub paired_from_against : (events : List Event) (m n : List ℕ) (o : ℤ) → IsRelativeOffset events m n o → ArePaired events m n
paired_from_against events m n o (f, g, lf, lg, h) = (f, g, lf.0, lg.0)

pub paired_back : (events : List Event) (m n : List ℕ) → ArePaired events m n → ArePaired events n m
paired_back events m n (d, e, there, back) = (e, d, back, there)

-- the first of two paired machines has a number
pub number_of_paired : (events : List Event) (numbers : List ℕ) (m n : List ℕ) → AreNumbers events numbers → ArePaired events m n → (u : ℕ) × IsNumber numbers u × (machine_at events u ≡ m)
number_of_paired events numbers m n a (d, e, there, back) =
    let found = machine_number events numbers there.sender a there.sends in
    (found.0, found.1, found.2 ∙ there.from)

-- a machine paired with one to which k pairings lead is found where that one is below depth k, or at depth k with a link
next_to : (events : List Event) (numbers : List ℕ) (k : ℕ) (depths : List (Option ℕ)) (j : ℕ) (u : ℕ) → AreVisitedTo events numbers k depths → IsNumber numbers u → j ≤ k → IsReachedIn events j (machine_at events u)
    → (i : ℕ) × (depth_at depths u ≡ Some i) × (i ≤ j) × HasDepth events i (machine_at events u)
next_to events numbers k depths j u found num le leads =
    ⊎_elim
    (λ none. absurd (found.all u j num none le leads))
    (λ (h : (i : ℕ) × (depth_at depths u ≡ Some i)). let depth = (found.right u h.0 h.1).2 in (h.0, h.1, depth.1 j leads, depth))
    (option_cases (depth_at depths u))

-- what the frontier's links lead to is paired with a machine of the frontier
frontier_pairs : (events : List Event) (numbers : List ℕ) (links : List (Vec Link Global)) (k : ℕ) (depths : List (Option ℕ)) (frontier : List ℕ) (v : ℕ)
    → AreNumbers events numbers → AreLinks events numbers links → AreVisitedTo events numbers k depths → IsFrontier k depths frontier → FrontierLinksTo links frontier v
    → IsNumber numbers v × IsReachedIn events (suc k) (machine_at events v)
frontier_pairs events numbers links k depths frontier v n a found f (u, member, (l, linked, to)) =
    let at_k = found.right u k (f.right u member) in
    let each : length numbers ≡ length events = n.each in
    let num_u : IsNumber numbers u = at_k.0 in
    let below : u < length events = omega (arith, num_u.0) in
    let r = a.right u l below linked in
    let pair : ArePaired events (machine_at events u) (machine_at events l.to) = paired_back events _ _ (paired_from_against events (machine_at events l.to) (machine_at events u) l.offset r.2) in
    subst (λ (w : ℕ). IsNumber numbers w × IsReachedIn events (suc k) (machine_at events w)) to (r.1, (machine_at events u, at_k.2.0, pair))

pub visited_further : (events : List Event) (numbers : List ℕ) (links : List (Vec Link Global)) (k : ℕ) (depths new : List (Option ℕ)) (frontier : List ℕ)
    → AreNumbers events numbers → AreLinks events numbers links → AreVisitedTo events numbers k depths → IsFrontier k depths frontier
    → Visits (FrontierLinksTo links frontier) (suc k) depths new → AreVisitedTo events numbers (suc k) new
visited_further events numbers links k depths new frontier n a found f w = record {
  each = w.each ∙ found.each;
  right = λ v j h. ⊎_elim
      (λ old. let r = found.right v j old in let le : j ≤ k = r.1 in (r.0, omega arith, r.2))
      (λ (fresh : (depth_at depths v ≡ None) × (j ≡ suc k) × FrontierLinksTo links frontier v).
      let p = frontier_pairs events numbers links k depths frontier v n a found f fresh.2 in
      let least : (i : ℕ) → IsReachedIn events i (machine_at events v) → suc k ≤ i = λ i leads. ⊎_elim (λ (le : i < suc k). absurd (found.all v i p.0 fresh.0 (omega arith) leads)) (λ (ge : suc k ≤ i). ge) (cases_lt i (suc k)) in
      let at : j ≡ suc k = fresh.1 in
      (p.0, omega arith, subst (λ (i : ℕ). HasDepth events i (machine_at events v)) (sym at) (p.1, least)))
      (w.fresh v j h);
  all = λ v j num none le leads. ⊎_elim
      (λ (old : depth_at depths v ≡ None). ⊎_elim
      (λ (below : j < suc k). found.all v j num old (omega arith) leads)
      (λ (above : suc k ≤ j). let same : j ≡ suc k = omega arith in last v num none old (subst (λ (i : ℕ). IsReachedIn events i (machine_at events v)) same leads))
      (cases_lt j (suc k)))
      (λ (old : (i : ℕ) × (depth_at depths v ≡ Some i)). let kept : depth_at new v ≡ Some old.0 = w.kept v old.0 old.1 in cc)
      (option_cases (depth_at depths v));
}
  where
    last : (v : ℕ) → IsNumber numbers v → depth_at new v ≡ None → depth_at depths v ≡ None → IsReachedIn events (suc k) (machine_at events v) → ⊥
    last v num none old (m, leads, pair) =
        let p = number_of_paired events numbers m (machine_at events v) n pair in
        let u : ℕ = p.0 in
        let leads_u : IsReachedIn events k (machine_at events u) = subst (λ (x : List ℕ). IsReachedIn events k x) (sym p.2) leads in
        let pair_u : ArePaired events (machine_at events u) (machine_at events v) = subst (λ (x : List ℕ). ArePaired events x (machine_at events v)) (sym p.2) pair in
        let q = next_to events numbers k depths k u found p.1 (omega arith) leads_u in
        let i : ℕ = q.0 in
        ⊎_elim
        (λ (below : i < k). found.all v (suc i) num old (omega arith) (machine_at events u, q.3.0, pair_u))
        (λ (above : k ≤ i). let low : i ≤ k = q.2 in let same : i ≡ k = omega arith in
        let l = a.all u v p.1 num pair_u in
        let linked : FrontierLinksTo links frontier v = (u, f.all u (subst (λ (x : ℕ). depth_at depths u ≡ Some x) same q.1), l) in
        not_none (depth_at new v) (w.found v linked) none)
        (cases_lt i k)

-- where no machine has depth k, no list of pairings leads to one that has not been found
pub none_further : (events : List Event) (numbers : List ℕ) (k : ℕ) (depths : List (Option ℕ)) → AreNumbers events numbers → AreVisitedTo events numbers k depths → IsFrontier k depths []
    → (j v : ℕ) → IsNumber numbers v → depth_at depths v ≡ None → IsReachedIn events j (machine_at events v) → ⊥
none_further events numbers k depths n found f zero v num none leads = found.all v 0 num none (omega arith) leads
none_further events numbers k depths n found f (suc j) v num none (m, leads, pair) =
    let p = number_of_paired events numbers m (machine_at events v) n pair in
    let u : ℕ = p.0 in
    let leads_u : IsReachedIn events j (machine_at events u) = subst (λ (x : List ℕ). IsReachedIn events j x) (sym p.2) leads in
    let pair_u : ArePaired events (machine_at events u) (machine_at events v) = subst (λ (x : List ℕ). ArePaired events x (machine_at events v)) (sym p.2) pair in
    ⊎_elim
    (λ (away : depth_at depths u ≡ None). none_further events numbers k depths n found f j u p.1 away leads_u)
    (λ (h : (i : ℕ) × (depth_at depths u ≡ Some i)).
    let r = found.right u h.0 h.1 in
    let low : h.0 ≤ k = r.1 in
    ⊎_elim
    (λ (below : h.0 < k). found.all v (suc h.0) num none (omega arith) (machine_at events u, r.2.0, pair_u))
    (λ (above : k ≤ h.0). let same : h.0 ≡ k = omega arith in
    let c = f.all u (subst (λ (x : ℕ). depth_at depths u ≡ Some x) same h.1) in let bad : c.0 < 0 = c.1 in absurd (omega arith))
    (cases_lt h.0 k))
    (option_cases (depth_at depths u))
