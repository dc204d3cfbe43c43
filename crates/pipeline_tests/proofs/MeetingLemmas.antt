-- One more stay of the lower task: it meets the stay of the other with the same element, or none.
use Rattle.std.proofs.Common.{◌≡◌, ◌≢◌, ℕ, ◌<◌, ◌≤◌, max, Bool, true, not, ◌||◌, ◌==◌, nat_lt, List, [], ◌∷◌, ◌++◌, length, get_or, take, All, sym, ap, ◌∙◌, subst, ⊎_elim, ◌⊎◌, inl, inr, length-append, arith}
use Rattle.std.proofs.lemmas.Bool.{and_parts, and_from, cases_lt, lt-ltb, ltb-true, ne_eqb, or_cases, or_left, or_right}
use Rattle.std.proofs.lemmas.List.{get_or_default, get_or-take, length-take-le}
use Rattle.std.proofs.lemmas.List.Elements.{All-contains, Contains-append_left, Contains-push, Contains-push_cases}
use Rattle.std.proofs.lemmas.List.Folds.{Any-from_list_any, list_any_at, list_any-append}
use Rattle.std.specs.List.{Contains, list_any}
use Rattle.trace_types.proofs.TruthLemmas.{by_truth}
use Rattle.word_rows.proofs.ViewLemmas.{or_false}
use Rattle.pipeline_tests.specs.declared.meetings.Sharing.{Sharing}
use Rattle.pipeline_tests.specs.declared.stays.Stay.{Stay}
use Rattle.pipeline_tests.specs.inner.Meetings.{AreMeetings, IsSharing, Meeting, takes_early, turned, turns}
use Rattle.pipeline_tests.specs.inner.Stays.{ElementsDiffer, StaysRise}

-- ---- the meetings

pub meets_none : (high : List Stay) → AreMeetings [] high []
meets_none high = record {
  lows = λ m c. absurd (let l : c.0 < 0 = c.1 in omega arith);
  highs = λ m c. absurd (let l : c.0 < 0 = c.1 in omega arith);
  same = λ m c. absurd (let l : c.0 < 0 = c.1 in omega arith);
  complete = λ x y c d e. absurd (let l : c.0 < 0 = c.1 in omega arith);
}

module _ (low high : List Stay) (x : Stay) (met : List Meeting) (a : AreMeetings low high met) where
  -- it meets a stay of the other task
  pub meets_found : (y : Stay) → ElementsDiffer high → Contains high y → y.element ≡ x.element → AreMeetings (low ++ x ∷ []) high (met ++ record { low = x; high = y } ∷ [])
  meets_found y differ there same =
      let m : Meeting = record { low = x; high = y } in record {
        lows = λ n c. ⊎_elim
            (λ (o : Contains met n). Contains-append_left low (x ∷ []) n.low (a.lows n o))
            (λ (o : m ≡ n). subst (λ (q : Meeting). Contains (low ++ x ∷ []) q.low) o (Contains-push low x))
            (Contains-push_cases met m n c);
        highs = λ n c. ⊎_elim
            (λ (o : Contains met n). a.highs n o)
            (λ (o : m ≡ n). subst (λ (q : Meeting). Contains high q.high) o there)
            (Contains-push_cases met m n c);
        same = λ n c. ⊎_elim
            (λ (o : Contains met n). a.same n o)
            (λ (o : m ≡ n). subst (λ (q : Meeting). q.low.element ≡ q.high.element) o (sym same))
            (Contains-push_cases met m n c);
        complete = λ u v c d e. ⊎_elim
            (λ (o : Contains low u). Contains-append_left met (m ∷ []) (record { low = u; high = v }) (a.complete u v o d e))
            (λ (o : x ≡ u). let z : y ≡ v = differ y v there d (same ∙ ap (λ (s : Stay). s.element) o ∙ e) in
            subst (λ (q : Meeting). Contains (met ++ m ∷ []) q) (λ j. record { low = o j; high = z j }) (Contains-push met m))
            (Contains-push_cases low x u c);
      }

  -- the other task does not handle its element
  pub meets_skip : All (λ (s : Stay). s.element ≢ x.element) high → AreMeetings (low ++ x ∷ []) high met
  meets_skip none = record {
    lows = λ n c. Contains-append_left low (x ∷ []) n.low (a.lows n c);
    highs = a.highs;
    same = a.same;
    complete = λ u v c d e. ⊎_elim
        (λ (o : Contains low u). a.complete u v o d e)
        (λ (o : x ≡ u). absurd (All-contains (λ (s : Stay). s.element ≢ x.element) high v none d (sym (ap (λ (s : Stay). s.element) o ∙ e))))
        (Contains-push_cases low x u c);
  }

-- a stay begins after those before it
pub begins_later : (low : List Stay) (k : ℕ) (x : Stay) → StaysRise low → k < length low → x ≡ get_or low k x → (s : Stay) → Contains (take k low) s → s.begin < x.begin
begins_later low k x rise l at s c =
    let long : length (take k low) ≡ k = length-take-le k low (omega arith) in
    let h : c.0 < k = let b : c.0 < length (take k low) = c.1 in omega arith in
    let here : get_or low c.0 s ≡ s = sym (get_or-take k low c.0 s h) ∙ c.2 in
    let there : get_or low k s ≡ x = get_or_default low k s x l ∙ sym at in
    let r : (get_or low c.0 s).begin < (get_or low k s).begin = rise c.0 k s h l in
    let p = ap (λ (y : Stay). y.begin) here in let q = ap (λ (y : Stay). y.begin) there in omega arith

-- ---- what they show

pub some_meeting : (p : Meeting → Bool) (met : List Meeting) → list_any p met ≡ true → (m : Meeting) × Contains met m × (p m ≡ true)
some_meeting p met h = let a = Any-from_list_any p met h in (a.1, (a.0, a.2, a.3), a.4)

pub by_meeting : (p : Meeting → Bool) (met : List Meeting) (m : Meeting) → Contains met m → p m ≡ true → list_any p met ≡ true
by_meeting p met m c h = list_any_at p met c.0 m c.1 (subst (λ (n : Meeting). p n ≡ true) (sym c.2) h)

any_more : (p : Meeting → Bool) (met : List Meeting) (m : Meeting) (old new : Bool) → old ≡ list_any p met → new ≡ (old || p m) → new ≡ list_any p (met ++ m ∷ [])
any_more p met m old new e f = f ∙ ap (λ (b : Bool). b || p m) e ∙ sym (list_any-append p met (m ∷ []) ∙ ap (λ (b : Bool). list_any p met || b) (or_false (p m)))

module _ (grace : ℕ) (met : List Meeting) (old : Sharing) (s : IsSharing grace met old) (x : Meeting) (later : (m : Meeting) → Contains met m → m.low.begin < x.low.begin) where
  abbrev all : List Meeting
  all = met ++ x ∷ []

  -- the new element is started on in another order than one before
  abbrev turns_here : Bool
  turns_here = nat_lt x.high.begin old.latest

  turned_before : turns met ≡ true → turns all ≡ true
  turned_before h =
      let a = some_meeting (λ (m : Meeting). list_any (λ (n : Meeting). turned m n) met) met h in
      let b = some_meeting (λ (n : Meeting). turned a.0 n) met a.2 in
      by_meeting (λ (m : Meeting). list_any (λ (n : Meeting). turned m n) all) all a.0 (Contains-append_left met (x ∷ []) a.0 a.1)
      (by_meeting (λ (n : Meeting). turned a.0 n) all b.0 (Contains-append_left met (x ∷ []) b.0 b.1) b.2)

  turned_here : turns_here ≡ true → turns all ≡ true
  turned_here h = let l = ltb-true x.high.begin old.latest h in ⊎_elim
      (λ (z : old.latest ≡ 0). absurd (omega arith))
      (λ (r : (m : Meeting) × Contains met m × (m.high.begin ≡ old.latest)).
      let m : Meeting = r.0 in let e : m.high.begin ≡ old.latest = r.2 in
      by_meeting (λ (m : Meeting). list_any (λ (n : Meeting). turned m n) all) all m (Contains-append_left met (x ∷ []) m r.1)
      (by_meeting (λ (n : Meeting). turned m n) all x (Contains-push met x)
      (and_from (nat_lt m.low.begin x.low.begin) (nat_lt x.high.begin m.high.begin) (lt-ltb m.low.begin x.low.begin (later m r.1)) (lt-ltb x.high.begin m.high.begin (omega arith)))))
      s.reached

  turned_from : turns all ≡ true → (turns met || turns_here) ≡ true
  turned_from h =
      let a = some_meeting (λ (m : Meeting). list_any (λ (n : Meeting). turned m n) all) all h in
      let m : Meeting = a.0 in
      let b = some_meeting (λ (n : Meeting). turned m n) all a.2 in
      let n : Meeting = b.0 in
      let w = and_parts (nat_lt m.low.begin n.low.begin) (nat_lt n.high.begin m.high.begin) b.2 in
      let up = ltb-true m.low.begin n.low.begin w.0 in
      let down = ltb-true n.high.begin m.high.begin w.1 in
      ⊎_elim
      (λ (o : Contains met m). ⊎_elim
      (λ (p : Contains met n). or_left (turns met) turns_here (by_meeting (λ (m : Meeting). list_any (λ (n : Meeting). turned m n) met) met m o (by_meeting (λ (n : Meeting). turned m n) met n p b.2)))
      (λ (p : x ≡ n). or_right (turns met) turns_here (lt-ltb x.high.begin old.latest (let most = s.most m o in let q = ap (λ (k : Meeting). k.high.begin) p in omega arith)))
      (Contains-push_cases met x n b.1))
      (λ (o : x ≡ m). absurd (⊎_elim
      (λ (p : Contains met n). let l = later n p in let q = ap (λ (k : Meeting). k.low.begin) o in omega arith)
      (λ (p : x ≡ n). let q = ap (λ (k : Meeting). k.low.begin) o in let r = ap (λ (k : Meeting). k.low.begin) p in omega arith)
      (Contains-push_cases met x n b.1)))
      (Contains-push_cases met x m a.1)

  turns_more : (turns met || turns_here) ≡ turns all
  turns_more = by_truth (turns met || turns_here) (turns all)
      (λ h. ⊎_elim turned_before turned_here (or_cases (turns met) turns_here h))
      turned_from

  some_met : not (length all == 0) ≡ true
  some_met = ap not (ne_eqb (length all) 0 (λ z. let l = length-append met (x ∷ []) in omega arith))

  -- one more element
  pub sharing_more : (new : Sharing) → new.shared ≡ true → new.turned ≡ (old.turned || nat_lt x.high.begin old.latest)
      → new.upward ≡ (old.upward || takes_early grace x.low x.high) → new.downward ≡ (old.downward || takes_early grace x.high x.low)
      → new.latest ≡ max old.latest x.high.begin → IsSharing grace all new
  sharing_more new es et eu ed el = record {
    shared = es ∙ sym some_met;
    turned = et ∙ ap (λ (b : Bool). b || turns_here) s.turned ∙ turns_more;
    upward = any_more (λ (m : Meeting). takes_early grace m.low m.high) met x old.upward new.upward s.upward eu;
    downward = any_more (λ (m : Meeting). takes_early grace m.high m.low) met x old.downward new.downward s.downward ed;
    most = λ m c. ⊎_elim
        (λ (o : Contains met m). let l = s.most m o in omega arith)
        (λ (o : x ≡ m). let q = ap (λ (k : Meeting). k.high.begin) o in omega arith)
        (Contains-push_cases met x m c);
    reached = ⊎_elim
        (λ (l : old.latest < x.high.begin). let r : (new.latest ≡ 0) ⊎ ((m : Meeting) × Contains all m × (m.high.begin ≡ new.latest)) = inr (x, Contains-push met x, omega arith) in r)
        (λ (l : x.high.begin ≤ old.latest). let same : old.latest ≡ new.latest = omega arith in ⊎_elim
        (λ (z : old.latest ≡ 0). inl (sym same ∙ z))
        (λ (r : (m : Meeting) × Contains met m × (m.high.begin ≡ old.latest)). inr (r.0, Contains-append_left met (x ∷ []) r.0 r.1, r.2 ∙ same))
        s.reached)
        (cases_lt old.latest x.high.begin);
  }
