-- Parents found link by link, and offsets given machine by machine.
use Rattle.std.proofs.Common.{◌≡◌, ℕ, suc, ◌*◌, ◌^◌, ◌<◌, ◌≤◌, ℤ, pos, negsuc, neg_ℤ, ◌+ℤ◌, ◌≤ℤ◌, Bool, true, false, not, eqb, Option, Some, None, MatchOption, List, [], ◌∷◌, ◌++◌, length, get_or, set, arith, refl, sym, subst, ap, ◌∙◌, ⊎_elim, Contains, Vec}
use Rattle.std.specs.declared.alloc.Global.{Global}
use Rattle.std.specs.Prelude.{FitsSigned}
use Rattle.std.specs.Option.{option_eq}
use lib.Signed.{mag}
use mir.Syntax.{w64, w128}
use mir.Val.{to_z, of_z}
use Rattle.clock_offsets.proofs.TimeLemmas.{mag_within}
use Rattle.std.proofs.lemmas.Bool.Decides.{Decides-eqb}
use Rattle.std.specs.Cmp.Lexicographic.{slice_cmp}
use Rattle.std.specs.Ordering.{nat_cmp, is_lt, is_gt, ordering_reverse}
use Rattle.std.specs.declared.cmp.Ordering.{Ordering}
use Rattle.std.specs.declared.cmp.Ordering.TheVariants.{Less, Equal, Greater}
use Rattle.std.proofs.lemmas.Bool.{cases_eq, cases_lt, false≢true}
use Rattle.std.proofs.lemmas.Cmp.{nat_list_cmp_total, upto, tied_itself}
use Rattle.std.proofs.lemmas.Int.{ints, to_z-of_z}
use Rattle.std.proofs.lemmas.List.{length-set, get_or-set_same, get_or-set_other, get_or_past, get_or-map}
use Rattle.std.proofs.lemmas.List.Elements.{Contains-append_left, Contains-push, Contains-push_cases}
use Rattle.trace_types.specs.declared.event.Event.{Event}
use Rattle.clock_offsets.specs.declared.link.Link.{Link}
use Rattle.clock_offsets.specs.Machines.{IsNotAfter}
use Rattle.trace_types.specs.Events.{machine_at}
use Rattle.clock_offsets.specs.Messages.{ArePaired}
use Rattle.clock_offsets.specs.Depths.{IsReachedIn, HasDepth}
use Rattle.clock_offsets.specs.inner.Links.{AreNumbers, IsNumber, AreLinks, links_at, LeadBelow}
use Rattle.clock_offsets.specs.inner.Search.{depth_at, AreVisitedTo, IsFrontier, IsBest, HasNone, HasOffset, HaveOffsetsTo}
use Rattle.clock_offsets.proofs.UniqueLemmas.{depth_unique}
use Rattle.clock_offsets.proofs.SearchLemmas.{option_cases, number_of_paired, paired_from_against, paired_back}

less_not_after : (o : Ordering) → is_lt o ≡ true → is_gt o ≡ false
less_not_after Less h = refl
less_not_after Equal h = refl
less_not_after Greater h = absurd (false≢true h)

not_less_after : (o p : Ordering) → p ≡ ordering_reverse o → is_lt o ≡ false → is_gt p ≡ false
not_less_after Less p e h = absurd (false≢true (sym h))
not_less_after Equal p e h = ap is_gt e
not_less_after Greater p e h = ap is_gt e

-- the best link so far
abbrev pub IsBestOf : List Event → List (Option ℕ) → ℕ → List Link → Option Link → Type 0
IsBestOf events depths k links best = MatchOption best (HasNone depths k links) (IsBest events depths k links)

-- a link to a machine of another depth changes nothing
pub best_skip : (events : List Event) (depths : List (Option ℕ)) (k : ℕ) (links : List Link) (x : Link) (best : Option Link) → IsBestOf events depths k links best → (depth_at depths x.to ≡ Some k → ⊥) → IsBestOf events depths k (links ++ x ∷ []) best
best_skip events depths k links x None none other = λ l h at. ⊎_elim
    (λ (old : Contains links l). none l old at)
    (λ (new : x ≡ l). other (ap (λ (y : Link). depth_at depths y.to) new ∙ at))
    (Contains-push_cases links x l h)
best_skip events depths k links x (Some b) best other = record {
  among = Contains-append_left links (x ∷ []) b best.among;
  depth = best.depth;
  least = λ l h at. ⊎_elim
      (λ (old : Contains links l). best.least l old at)
      (λ (new : x ≡ l). absurd (other (ap (λ (y : Link). depth_at depths y.to) new ∙ at)))
      (Contains-push_cases links x l h);
}

-- what the test tells, whether the link's machine has a lesser name than the best so far
abbrev pub IsTold : List Event → Link → Option Link → Bool → Type 0
IsTold events x None less = less ≡ true
IsTold events x (Some b) less = less ≡ is_lt (slice_cmp nat_cmp (machine_at events x.to) (machine_at events b.to))

-- a link to a machine of the depth is the best where it is less
pub best_step : (events : List Event) (depths : List (Option ℕ)) (k : ℕ) (links : List Link) (x : Link) (best : Option Link) (less : Bool) → IsBestOf events depths k links best → depth_at depths x.to ≡ Some k → IsTold events x best less
    → (less ≡ true → IsBestOf events depths k (links ++ x ∷ []) (Some x)) × (less ≡ false → IsBestOf events depths k (links ++ x ∷ []) best)
best_step events depths k links x None less none at told = (
  λ yes. record {
    among = Contains-push links x;
    depth = at;
    least = λ l h at_l. ⊎_elim
        (λ (old : Contains links l). absurd (none l old at_l))
        (λ (new : x ≡ l). subst (λ (y : Link). IsNotAfter (machine_at events x.to) (machine_at events y.to)) new (itself (machine_at events x.to)))
        (Contains-push_cases links x l h);
  },
  λ no. absurd (false≢true (sym no ∙ told)),
)
  where
    itself : (m : List ℕ) → IsNotAfter m m
    itself m = ap is_gt (tied_itself nat_list_cmp_total m)
best_step events depths k links x (Some b) less best at told = (
  λ yes.
      let before : IsNotAfter (machine_at events x.to) (machine_at events b.to) = less_not_after (slice_cmp nat_cmp (machine_at events x.to) (machine_at events b.to)) (sym told ∙ yes) in
      record {
        among = Contains-push links x;
        depth = at;
        least = λ l h at_l. ⊎_elim
            (λ (old : Contains links l). upto nat_list_cmp_total (machine_at events x.to) (machine_at events b.to) (machine_at events l.to) before (best.least l old at_l))
            (λ (new : x ≡ l). subst (λ (y : Link). IsNotAfter (machine_at events x.to) (machine_at events y.to)) new (itself (machine_at events x.to)))
            (Contains-push_cases links x l h);
      },
  λ no.
      let after : IsNotAfter (machine_at events b.to) (machine_at events x.to) = not_less_after (slice_cmp nat_cmp (machine_at events x.to) (machine_at events b.to)) (slice_cmp nat_cmp (machine_at events b.to) (machine_at events x.to)) (nat_list_cmp_total.antisymm (machine_at events b.to) (machine_at events x.to)) (sym told ∙ no) in
      record {
        among = Contains-append_left links (x ∷ []) b best.among;
        depth = best.depth;
        least = λ l h at_l. ⊎_elim
            (λ (old : Contains links l). best.least l old at_l)
            (λ (new : x ≡ l). subst (λ (y : Link). IsNotAfter (machine_at events b.to) (machine_at events y.to)) new after)
            (Contains-push_cases links x l h);
      },
)
  where
    itself : (m : List ℕ) → IsNotAfter m m
    itself m = ap is_gt (tied_itself nat_list_cmp_total m)

-- the machines up to depth k have their offsets, and so have these of the next depth
pub record AreSetTo (events : List Event) (k : ℕ) (depths : List (Option ℕ)) (done : List ℕ) (offsets : List ℤ) : Type 0 where
  pub to : HaveOffsetsTo events k depths offsets
  pub frontier : (v : ℕ) → Contains done v → HasOffset events (suc k) v (get_or offsets v (pos 0))

-- a machine of depth k that is paired with one of depth k + 1 has a link from it
paired_link : (events : List Event) (numbers : List ℕ) (links : List (Vec Link Global)) (k : ℕ) (depths : List (Option ℕ)) (v : ℕ) (q : List ℕ)
    → AreNumbers events numbers → AreLinks events numbers links → AreVisitedTo events numbers (suc k) depths → IsNumber numbers v → HasDepth events k q → ArePaired events q (machine_at events v)
    → (l : Link) × Contains (links_at links v) l × (depth_at depths l.to ≡ Some k) × (machine_at events l.to ≡ q)
paired_link events numbers links k depths v q n a found num depth pair =
    let p = number_of_paired events numbers q (machine_at events v) n pair in
    let u : ℕ = p.0 in
    let level_u : HasDepth events k (machine_at events u) = subst (λ (x : List ℕ). HasDepth events k x) (sym p.2) depth in
    let pair_u : ArePaired events (machine_at events v) (machine_at events u) = paired_back events (machine_at events u) (machine_at events v) (subst (λ (x : List ℕ). ArePaired events x (machine_at events v)) (sym p.2) pair) in
    let l = a.all v u num p.1 pair_u in
    let at : depth_at depths u ≡ Some k = ⊎_elim
    (λ (away : depth_at depths u ≡ None). absurd (found.all u k p.1 away (omega arith) level_u.0))
    (λ (h : (i : ℕ) × (depth_at depths u ≡ Some i)). h.1 ∙ ap Some (depth_unique events h.0 k (machine_at events u) (found.right u h.0 h.1).2 level_u))
    (option_cases (depth_at depths u)) in
    (l.0, l.1, ap (depth_at depths) l.2 ∙ at, ap (machine_at events) l.2 ∙ p.2)

-- a machine of the next depth has a link to its parent
pub some_parent : (events : List Event) (numbers : List ℕ) (links : List (Vec Link Global)) (k : ℕ) (depths : List (Option ℕ)) (v : ℕ)
    → AreNumbers events numbers → AreLinks events numbers links → AreVisitedTo events numbers (suc k) depths → depth_at depths v ≡ Some (suc k) → HasNone depths k (links_at links v) → ⊥
some_parent events numbers links k depths v n a found at none =
    let r = found.right v (suc k) at in
    by r.0 r.2 r.2.0
  where
    by : IsNumber numbers v → HasDepth events (suc k) (machine_at events v) → IsReachedIn events (suc k) (machine_at events v) → ⊥
    by num depth (q, leads, pair) =
        let least_q : (j : ℕ) → IsReachedIn events j q → k ≤ j = λ j h. let le : suc k ≤ suc j = depth.1 (suc j) (q, h, pair) in omega arith in
        let l = paired_link events numbers links k depths v q n a found num (leads, least_q) pair in
        none l.0 l.1 l.2

-- the parent's offset and the machine's own against it make the machine's
offset_by : (events : List Event) (numbers : List ℕ) (links : List (Vec Link Global)) (k : ℕ) (depths : List (Option ℕ)) (offsets : List ℤ) (v : ℕ) (b : Link)
    → AreNumbers events numbers → AreLinks events numbers links → AreVisitedTo events numbers (suc k) depths → HaveOffsetsTo events k depths offsets → v < length events → depth_at depths v ≡ Some (suc k) → IsBest events depths k (links_at links v) b
    → neg_ℤ (pos (2 ^ 63)) ≤ℤ b.offset → b.offset ≤ℤ pos (2 ^ 63) → HasOffset events (suc k) v (get_or offsets b.to (pos 0) +ℤ b.offset)
offset_by events numbers links k depths offsets v b n a found settled lt at best low high =
    let r = found.right v (suc k) at in
    let p = found.right b.to k best.depth in
    let against = a.right v b lt best.among in
    let parent = settled.right b.to k best.depth (omega arith) in
    let low_p : neg_ℤ (pos (k * 2 ^ 63)) ≤ℤ get_or offsets b.to (pos 0) = parent.low in
    let high_p : get_or offsets b.to (pos 0) ≤ℤ pos (k * 2 ^ 63) = parent.high in
    record {
      adds = (
        machine_at events b.to,
        get_or offsets b.to (pos 0),
        b.offset,
        record {
          child = r.2;
          depth = p.2;
          paired = paired_from_against events (machine_at events b.to) (machine_at events v) b.offset against.2;
          least = λ q level_q pair_q.
              let l = paired_link events numbers links k depths v q n a found r.0 level_q pair_q in
              subst (λ (x : List ℕ). IsNotAfter (machine_at events b.to) x) l.3 (best.least l.0 l.1 l.2);
        },
        parent.adds,
        against.2,
        refl,
      );
      low = omega (arith, ints);
      high = omega (arith, ints);
    }

-- a machine of the next depth more has its offset
pub set_step : (events : List Event) (numbers : List ℕ) (links : List (Vec Link Global)) (k : ℕ) (depths : List (Option ℕ)) (done : List ℕ) (offsets : List ℤ) (v : ℕ) (b : Link)
    → AreNumbers events numbers → AreLinks events numbers links → AreVisitedTo events numbers (suc k) depths → AreSetTo events k depths done offsets → v < length events → depth_at depths v ≡ Some (suc k) → IsBest events depths k (links_at links v) b
    → neg_ℤ (pos (2 ^ 63)) ≤ℤ b.offset → b.offset ≤ℤ pos (2 ^ 63) → AreSetTo events k depths (done ++ v ∷ []) (set offsets v (get_or offsets b.to (pos 0) +ℤ b.offset))
set_step events numbers links k depths done offsets v b n a found s lt at best low high = record {
  to = record {
    each = length-set offsets v new ∙ s.to.each;
    right = λ w j h le. subst (λ (o : ℤ). HasOffset events j w o) (sym (get_or-set_other offsets v w new (pos 0) (apart w j h le))) (s.to.right w j h le);
    zero = λ w h. get_or-set_other offsets v w new (pos 0) (λ same. let e : depth_at depths w ≡ depth_at depths v = ap (depth_at depths) same in cc) ∙ s.to.zero w h;
  };
  frontier = λ w h. ⊎_elim
      (λ (same : w ≡ v). here w same)
      (λ (other : w ≡ v → ⊥). ⊎_elim
      (λ (old : Contains done w). subst (λ (o : ℤ). HasOffset events (suc k) w o) (sym (get_or-set_other offsets v w new (pos 0) other)) (s.frontier w old))
      (λ (same : v ≡ w). absurd (other (sym same)))
      (Contains-push_cases done v w h))
      (cases_eq w v);
}
  where
    new : ℤ
    new = get_or offsets b.to (pos 0) +ℤ b.offset

    apart : (w j : ℕ) → depth_at depths w ≡ Some j → j ≤ k → w ≡ v → ⊥
    apart w j h le same =
        let e : depth_at depths w ≡ depth_at depths v = ap (depth_at depths) same in
        let is : j ≡ suc k = cc in
        absurd (omega arith)

    here : (w : ℕ) → w ≡ v → HasOffset events (suc k) w (get_or (set offsets v new) w (pos 0))
    here w same =
        let each : length offsets ≡ length events = s.to.each in
        subst (λ (i : ℕ). HasOffset events (suc k) i (get_or (set offsets v new) i (pos 0))) (sym same)
        (subst (λ (o : ℤ). HasOffset events (suc k) v o) (sym (get_or-set_same offsets v new (pos 0) (omega arith)))
        (offset_by events numbers links k depths offsets v b n a found s.to lt at best low high))

-- where the whole frontier has its offsets, so have the machines up to the next depth
pub offsets_done : (events : List Event) (k : ℕ) (depths : List (Option ℕ)) (frontier : List ℕ) (offsets : List ℤ) → AreSetTo events k depths frontier offsets → IsFrontier (suc k) depths frontier → HaveOffsetsTo events (suc k) depths offsets
offsets_done events k depths frontier offsets s f = record {
  each = s.to.each;
  right = λ v j h le. ⊎_elim
      (λ (below : j < suc k). s.to.right v j h (omega arith))
      (λ (above : suc k ≤ j). let same : j ≡ suc k = omega arith in
      subst (λ (i : ℕ). HasOffset events i v (get_or offsets v (pos 0))) (sym same) (s.frontier v (f.all v (h ∙ ap Some same))))
      (cases_lt j (suc k));
  zero = s.to.zero;
}

-- a depth that is there is within the list
pub depth_below : (depths : List (Option ℕ)) (v k : ℕ) → depth_at depths v ≡ Some k → v < length depths
depth_below depths v k at = ⊎_elim
    (λ (lt : v < length depths). lt)
    (λ (past : length depths ≤ v). let none : depth_at depths v ≡ None = get_or_past depths v None past in cc)
    (cases_lt v (length depths))

-- what the test of an option against a number tells
pub option_apart : (o : Option ℕ) (k : ℕ) (b : Bool) → b ≡ not (option_eq eqb o (Some k)) → b ≡ true → o ≡ Some k → ⊥
option_apart None k b e h is = cc
option_apart (Some i) k b e h is =
    let same : i ≡ k = cc in
    false≢true (sym (ap not ((Decides-eqb i k).1 same)) ∙ (sym e ∙ h))

pub option_same : (o : Option ℕ) (k : ℕ) (b : Bool) → b ≡ not (option_eq eqb o (Some k)) → b ≡ false → o ≡ Some k
option_same None k b e h = absurd (false≢true (sym h ∙ e))
option_same (Some i) k b e h = by (eqb i k) refl (sym e ∙ h)
  where
    by : (t : Bool) → eqb i k ≡ t → not (eqb i k) ≡ false → Some i ≡ Some k
    by true is n = ap Some ((Decides-eqb i k).0 is)
    by false is n = absurd (false≢true (sym n ∙ ap not is))

-- a machine of the frontier is a number of the trace
pub frontier_below : (events : List Event) (numbers : List ℕ) (k : ℕ) (depths : List (Option ℕ)) (frontier : List ℕ) (v : ℕ) → AreNumbers events numbers → AreVisitedTo events numbers k depths → IsFrontier k depths frontier → Contains frontier v → v < length events
frontier_below events numbers k depths frontier v n found f h =
    let num = (found.right v k (f.right v h)).0 in
    let within : v < length numbers = num.0 in
    let each : length numbers ≡ length events = n.each in
    omega arith

-- and its links lead to such numbers
pub links_below : (events : List Event) (numbers : List ℕ) (links : List (Vec Link Global)) (v : ℕ) → AreNumbers events numbers → AreLinks events numbers links → v < length events → LeadBelow (length events) (links_at links v)
links_below events numbers links v n a lt = λ l h.
    let num = (a.right v l lt h).1 in
    let within : l.to < length numbers = num.0 in
    let each : length numbers ≡ length events = n.each in
    omega arith

-- the links of a machine, as they were read
pub links_read : (links : List (Vec Link Global)) (v : ℕ) (w : Vec Link Global) → v < length links → w ≡ get_or links v w → links_at links v ≡ w.items
links_read links v w lt is = get_or-map (λ (x : Vec Link Global). x.items) links v w [] lt ∙ ap (λ (x : Vec Link Global). x.items) (sym is)

-- a number that fits 64 bits is between the two ends
pub fits_low : (z : ℤ) → FitsSigned w64 z → neg_ℤ (pos (2 ^ 63)) ≤ℤ z
fits_low (pos n) f = omega (arith, ints)
fits_low (negsuc n) f = let lt : n < 2 ^ 63 = f.sfits in omega (arith, ints)

pub fits_high : (z : ℤ) → FitsSigned w64 z → z ≤ℤ pos (2 ^ 63)
fits_high (pos n) f = let lt : n < 2 ^ 63 = f.sfits in omega (arith, ints)
fits_high (negsuc n) f = omega (arith, ints)

-- an offset and one more against it fit 128 bits
pub sum_fits : (k : ℕ) (a b : ℤ) → k < 2 ^ 32 → neg_ℤ (pos (k * 2 ^ 63)) ≤ℤ a → a ≤ℤ pos (k * 2 ^ 63) → neg_ℤ (pos (2 ^ 63)) ≤ℤ b → b ≤ℤ pos (2 ^ 63) → FitsSigned w128 (a +ℤ b)
sum_fits k a b few low_a high_a low_b high_b = record { sfits = let m : mag (a +ℤ b) ≤ 2 ^ 96 = mag_within (2 ^ 96) (a +ℤ b) (omega (arith, ints)) (omega (arith, ints)) in omega arith }

-- an offset of a depth fits 128 bits
pub offset_fits : (k : ℕ) (a : ℤ) → k < 2 ^ 32 → neg_ℤ (pos (k * 2 ^ 63)) ≤ℤ a → a ≤ℤ pos (k * 2 ^ 63) → FitsSigned w128 a
offset_fits k a few low high = record { sfits = let m : mag a ≤ 2 ^ 96 = mag_within (2 ^ 96) a (omega (arith, ints)) (omega (arith, ints)) in omega arith }

-- what the code reads of an offset and of a link's is the two
read_sum : (k : ℕ) (a b r : ℤ) → k < 2 ^ 32 → neg_ℤ (pos (k * 2 ^ 63)) ≤ℤ a → a ≤ℤ pos (k * 2 ^ 63) → FitsSigned w64 b → r ≡ to_z w64 (of_z w64 b) → to_z w128 (of_z w128 a) +ℤ to_z w128 (of_z w128 r) ≡ a +ℤ b
read_sum k a b r few low high fits is =
    let b_is : r ≡ b = is ∙ to_z-of_z w64 b fits in
    let wide : FitsSigned w128 b = record { sfits = let m : mag b < 2 ^ 63 = fits.sfits in omega arith } in
    ap (λ x. x +ℤ to_z w128 (of_z w128 r)) (to_z-of_z w128 a (offset_fits k a few low high)) ∙ ap (λ x. a +ℤ x) (ap (λ x. to_z w128 (of_z w128 x)) b_is ∙ to_z-of_z w128 b wide)

pub read_sum_fits : (k : ℕ) (a b r : ℤ) → k < 2 ^ 32 → neg_ℤ (pos (k * 2 ^ 63)) ≤ℤ a → a ≤ℤ pos (k * 2 ^ 63) → FitsSigned w64 b → r ≡ to_z w64 (of_z w64 b) → FitsSigned w128 (to_z w128 (of_z w128 a) +ℤ to_z w128 (of_z w128 r))
read_sum_fits k a b r few low high fits is = subst (λ (z : ℤ). FitsSigned w128 z) (sym (read_sum k a b r few low high fits is)) (sum_fits k a b few low high (fits_low b fits) (fits_high b fits))

pub read_sum_is : (k : ℕ) (a b r : ℤ) → k < 2 ^ 32 → neg_ℤ (pos (k * 2 ^ 63)) ≤ℤ a → a ≤ℤ pos (k * 2 ^ 63) → FitsSigned w64 b → r ≡ to_z w64 (of_z w64 b) → to_z w128 (of_z w128 (to_z w128 (of_z w128 a) +ℤ to_z w128 (of_z w128 r))) ≡ a +ℤ b
read_sum_is k a b r few low high fits is = to_z-of_z w128 (to_z w128 (of_z w128 a) +ℤ to_z w128 (of_z w128 r)) (read_sum_fits k a b r few low high fits is) ∙ read_sum k a b r few low high fits is
