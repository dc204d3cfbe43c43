-- The one history of a book, and the turns of its callers in it.
use Rattle.std.proofs.Common.{◌≡◌, ◌≢◌, ℕ, ◌+◌, ◌<◌, ◌≤◌, Bool, true, false, nat_lt, ◌==◌, List, [], ◌∷◌, ◌++◌, length, set, sym, refl, ap, ◌∙◌, subst, ⊎_elim, arith, length-append}
use Rattle.std.specs.Prelude.{cond}
use Rattle.std.proofs.lemmas.Bool.{cases_eq, cases_lt, eq-eqb, le-ltb, lt-ltb, ne_eqb}
use Rattle.std.proofs.lemmas.List.Sums.{sum_by_push, sum_by-append}
use Rattle.atomic_table.proofs.Lists.{at_last, at_longer}
use mathlib.Core.Option.{some}
use lib.ListN.{get_elem?}
use Rattle.live_journal.specs.declared.entry.Entry.{Entry}
use Rattle.live_book.specs.declared.rule.Knowledge.{Knowledge}
use Rattle.live_book.specs.declared.rule.Turn.{Turn}
use Rattle.live_book.specs.Histories.{AddsAtMostOne, AllStand, AreOfOneHistory, TurnsLead, turns_with}
use Rattle.live_book.specs.Rule.{HasTurnHistory, total}
use Rattle.live_book.specs.Views.{empty_caller_view, had}
use Rattle.live_book.proofs.TotalLemmas.{each_set, each_snoc, total_at, total_same, total_set, total_snoc}

-- one turn more, which found what the last one left
leads_more : (n : ℕ) (a : List Entry) (ts : List Turn) (b : List Entry) (t : Turn) → TurnsLead n a ts b → t.ticket ≡ n + length ts → t.found ≡ b → AddsAtMostOne t.found t.left → TurnsLead n a (ts ++ t ∷ []) t.left
leads_more n a [] b t h at found one = (omega arith, found ∙ sym h, one, refl)
leads_more n a (x ∷ ts) b t h at found one = (h.0, h.1, h.2, leads_more (n + 1) x.left ts b t h.3 (omega arith) found one)

stand_longer : (past more ts : List Turn) → AllStand past ts → AllStand (past ++ more) ts
stand_longer past more [] h = tt
stand_longer past more (t ∷ ts) h = (at_longer past more t.ticket t h.0, stand_longer past more ts h.1)

pub stand_both : (past xs ys : List Turn) → AllStand past xs → AllStand past ys → AllStand past (xs ++ ys)
stand_both past [] ys h g = g
stand_both past (x ∷ xs) ys h g = (h.0, stand_both past xs ys h.1 g)

pub one_most : (b : Bool) → cond b 1 0 ≤ 1
one_most true = omega arith
one_most false = omega arith

abbrev pub one_if : Bool → ℕ
one_if b = cond b 1 0

pub had_both : (n : ℕ) (xs ys : List Turn) → turns_with n (xs ++ ys) ≡ turns_with n xs + turns_with n ys
had_both n xs ys = sum_by-append (λ (t : Turn). cond (t.ticket == n) 1 0) xs ys

-- one ticket more is served
lt_next : (n s : ℕ) → one_if (nat_lt n (s + 1)) ≡ one_if (nat_lt n s) + one_if (s == n)
lt_next n s = ⊎_elim
    (λ (t : n < s).
    let a : one_if (nat_lt n (s + 1)) ≡ 1 = ap one_if (lt-ltb n (s + 1) (omega arith)) in
    let b : one_if (nat_lt n s) ≡ 1 = ap one_if (lt-ltb n s t) in
    let c : one_if (s == n) ≡ 0 = ap one_if (ne_eqb s n (λ e. omega arith)) in omega arith)
    (λ (t : s ≤ n).
    let b : one_if (nat_lt n s) ≡ 0 = ap one_if (le-ltb n s t) in ⊎_elim
    (λ (e : s ≡ n).
    let a : one_if (nat_lt n (s + 1)) ≡ 1 = ap one_if (lt-ltb n (s + 1) (omega arith)) in
    let c : one_if (s == n) ≡ 1 = ap one_if (eq-eqb s n e) in omega arith)
    (λ (e : s ≢ n).
    let a : one_if (nat_lt n (s + 1)) ≡ 0 = ap one_if (le-ltb n (s + 1) (omega arith)) in
    let c : one_if (s == n) ≡ 0 = ap one_if (ne_eqb s n e) in omega arith)
    (cases_eq s n))
    (cases_lt n s)

module _ (served : ℕ) (settled : List Entry) (ks : List Knowledge) (h : HasTurnHistory served settled ks) where
  -- a step that changes no history
  pub history_set : (id : ℕ) (k l : Knowledge) → get_elem? ks id ≡ some k → l.history ≡ k.history → HasTurnHistory served settled (set ks id l)
  history_set id k l at same = record {
    history = h.history;
    leads = h.leads;
    count = h.count;
    stand = each_set (λ x. AllStand h.history x.history) ks id l (subst (AllStand h.history) (sym same) (h.stand id k at)) (λ j u o _. h.stand j u o);
    once = λ n. total_same (had n) ks id k l at (ap (turns_with n) same) ∙ h.once n;
  }

  -- a caller without turns
  pub history_new : (l : Knowledge) → l.history ≡ [] → HasTurnHistory served settled (ks ++ l ∷ [])
  history_new l none = record {
    history = h.history;
    leads = h.leads;
    count = h.count;
    stand = each_snoc (λ x. AllStand h.history x.history) ks l h.stand (subst (AllStand h.history) (sym none) tt);
    once = λ n.
        let t : total (had n) (ks ++ l ∷ []) ≡ total (had n) ks + had n l = total_snoc (had n) ks l in
        let z : had n l ≡ 0 = ap (turns_with n) none in
        t ∙ ap (λ (m : ℕ). total (had n) ks + m) z ∙ omega arith ∙ h.once n;
  }

  -- a turn is passed on
  pub history_pass : (id : ℕ) (k l : Knowledge) (t : Turn) → get_elem? ks id ≡ some k → l.history ≡ k.history ++ t ∷ [] → t.ticket ≡ served → t.found ≡ settled → AddsAtMostOne t.found t.left
      → HasTurnHistory (served + 1) t.left (set ks id l)
  history_pass id k l t at is ticket found one = record {
    history = h.history ++ t ∷ [];
    leads = leads_more 0 [] h.history settled t h.leads (let c = h.count in omega arith) found one;
    count = let c = h.count in omega (arith, length-append h.history (t ∷ []));
    stand = each_set (λ x. AllStand (h.history ++ t ∷ []) x.history) ks id l
        (subst (AllStand (h.history ++ t ∷ [])) (sym is)
        (stand_both (h.history ++ t ∷ []) k.history (t ∷ []) (stand_longer h.history (t ∷ []) k.history (h.stand id k at)) (at_last h.history t t.ticket (let c = h.count in omega arith), tt)))
        (λ j u o _. stand_longer h.history (t ∷ []) u.history (h.stand j u o));
    once = λ n.
        let a : total (had n) (set ks id l) + had n k ≡ total (had n) ks + had n l = total_set (had n) ks id k l at in
        let b : had n l ≡ had n k + one_if (t.ticket == n) = ap (turns_with n) is ∙ sum_by_push (λ (u : Turn). cond (u.ticket == n) 1 0) k.history t in
        let c : one_if (t.ticket == n) ≡ one_if (served == n) = ap (λ (m : ℕ). one_if (m == n)) ticket in
        let d : total (had n) ks ≡ one_if (nat_lt n served) = h.once n in
        let e : one_if (nat_lt n (served + 1)) ≡ one_if (nat_lt n served) + one_if (served == n) = lt_next n served in
        let f : total (had n) (set ks id l) ≡ one_if (nat_lt n served) + one_if (served == n) = omega arith in
        f ∙ sym e;
  }

  -- two callers become one
  pub history_join : (id other : ℕ) (k l both : Knowledge) → get_elem? ks id ≡ some k → get_elem? ks other ≡ some l → get_elem? (set ks id both) other ≡ some l
      → both.history ≡ k.history ++ l.history → HasTurnHistory served settled (set (set ks id both) other empty_caller_view)
  history_join id other k l both at there still is = record {
    history = h.history;
    leads = h.leads;
    count = h.count;
    stand = each_set (λ x. AllStand h.history x.history) (set ks id both) other empty_caller_view tt
        (λ j u o _. each_set (λ x. AllStand h.history x.history) ks id both
        (subst (AllStand h.history) (sym is) (stand_both h.history k.history l.history (h.stand id k at) (h.stand other l there)))
        (λ i v p _. h.stand i v p) j u o);
    once = λ n.
        let a : total (had n) (set ks id both) + had n k ≡ total (had n) ks + had n both = total_set (had n) ks id k both at in
        let b : total (had n) (set (set ks id both) other empty_caller_view) + had n l ≡ total (had n) (set ks id both) + 0 = total_set (had n) (set ks id both) other l empty_caller_view still in
        let c : had n both ≡ had n k + had n l = ap (turns_with n) is ∙ had_both n k.history l.history in
        let d : total (had n) (set (set ks id both) other empty_caller_view) ≡ total (had n) ks = omega arith in
        d ∙ h.once n;
  }

  -- the turns of a caller are of one history
  pub of_one_history : (id : ℕ) (k : Knowledge) → get_elem? ks id ≡ some k → AreOfOneHistory k.history
  of_one_history id k at = record {
    history = h.history;
    last = settled;
    leads = h.leads;
    stand = h.stand id k at;
    once = λ n.
        let a : had n k ≤ total (had n) ks = total_at (had n) ks id k at in
        let b : total (had n) ks ≡ one_if (nat_lt n served) = h.once n in
        let c : one_if (nat_lt n served) ≤ 1 = one_most (nat_lt n served) in
        let d : had n k ≤ 1 = omega arith in d;
  }
