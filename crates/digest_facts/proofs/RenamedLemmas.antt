-- Digests of traces under two readings.
use Rattle.std.proofs.Common.{◌≡◌, ◌≢◌, ℕ, ◌<◌, ◌↔◌, List, get_or, sym, ap, ◌∙◌, ⊎_elim, Ordering}
use Rattle.std.specs.List.{Contains}
use Rattle.std.proofs.lemmas.Bool.{cases_order}
use Rattle.std.proofs.lemmas.List.{get_or_default}
use Rattle.trace_types.specs.Listing.{ListsExactly}
use Rattle.trace_types.specs.NameOrder.{pair_cmp}
use Rattle.trace_types.specs.Parts.{Parts}
use Rattle.trace_types.specs.Renaming.{Agree, AreRenamed, IsOneToOne, LeaveAlike}
use Rattle.trace_types.specs.Surviving.{IsRefuted}
use Rattle.digest_facts.specs.DigestLaws.{RenamedTellAlike}
use Rattle.digest_facts.specs.DigestsOfTraces.{IsPairIn}

-- matched one to one, two differ where their partners do
one_apart : {X Y : Type 0} (matches : List (X × Y)) → IsOneToOne matches → (a b : X) (c d : Y) → Contains matches (a, c) → Contains matches (b, d) → (a ≡ b) ↔ (c ≡ d)
one_apart {X} {Y} matches one a b c d ac bd =
    let ea : get_or matches ac.0 (a, c) ≡ (a, c) = ac.2 in
    let eb : get_or matches bd.0 (a, c) ≡ (b, d) = get_or_default matches bd.0 (a, c) (b, d) bd.1 ∙ bd.2 in
    let same : ac.0 ≡ bd.0 → (a ≡ b) × (c ≡ d) = λ h.
    let e : (a, c) ≡ (b, d) = sym ea ∙ ap (λ (k : ℕ). get_or matches k (a, c)) h ∙ eb in
    (ap (λ (m : X × Y). m.0) e, ap (λ (m : X × Y). m.1) e) in
    let below : ac.0 < bd.0 → (a ≢ b) × (c ≢ d) = λ h.
    let r = one ac.0 bd.0 (a, c) h bd.1 in (
      (λ e. r.0 (ap (λ (m : X × Y). m.0) ea ∙ e ∙ sym (ap (λ (m : X × Y). m.0) eb))),
      (λ e. r.1 (ap (λ (m : X × Y). m.1) ea ∙ e ∙ sym (ap (λ (m : X × Y). m.1) eb))),
    ) in
    let above : bd.0 < ac.0 → (a ≢ b) × (c ≢ d) = λ h.
    let r = one bd.0 ac.0 (a, c) h ac.1 in (
      (λ e. r.0 (ap (λ (m : X × Y). m.0) eb ∙ sym e ∙ sym (ap (λ (m : X × Y). m.0) ea))),
      (λ e. r.1 (ap (λ (m : X × Y). m.1) eb ∙ sym e ∙ sym (ap (λ (m : X × Y). m.1) ea))),
    ) in
    ⊎_elim
    (λ (h : ac.0 ≡ bd.0). let s = same h in ((λ e. s.1), (λ e. s.0)))
    (⊎_elim
    (λ (h : ac.0 < bd.0). let n = below h in ((λ e. absurd (n.0 e)), (λ e. absurd (n.1 e))))
    (λ (h : bd.0 < ac.0). let n = above h in ((λ e. absurd (n.0 e)), (λ e. absurd (n.1 e)))))
    (cases_order ac.0 bd.0)

-- what two lists list that is refuted alike
listed_agree : {A B X Y : Type 0} (matches : List (X × Y)) → IsOneToOne matches → (cmp : X × X → X × X → Ordering) (other : Y × Y → Y × Y → Ordering) (R : X → X → A → Type 0) (Q : Y → Y → B → Type 0) (traces : List A) (others : List B) (pairs : List (X × X)) (mates : List (Y × Y))
    → ListsExactly cmp (IsPairIn (λ a b. IsRefuted (R a b) traces)) pairs → ListsExactly other (IsPairIn (λ c d. IsRefuted (Q c d) others)) mates
    → Agree matches (λ a b. IsRefuted (R a b) traces) (λ c d. IsRefuted (Q c d) others) → Agree matches (λ a b. Contains pairs (a, b)) (λ c d. Contains mates (c, d))
listed_agree matches one cmp other R Q traces others pairs mates l m alike a b c d ac bd =
    let e = one_apart matches one a b c d ac bd in (
      (λ h. let k = (l.exactly (a, b)).0 h in (m.exactly (c, d)).1 ((λ s. k.0 (e.1 s)), (alike a b c d ac bd).0 k.1)),
      (λ h. let k = (m.exactly (c, d)).0 h in (l.exactly (a, b)).1 ((λ s. k.0 (e.0 s)), (alike a b c d ac bd).1 k.1)),
    )

pub renamed_tell : {A S N T E B X M U F : Type 0} (p : Parts A S N T E) (q : Parts B X M U F)
    → ((names : List (N × M)) (tasks : List (T × U)) (traces : List A) (others : List B) → IsOneToOne names → IsOneToOne tasks → AreRenamed p q names tasks traces others → LeaveAlike p q names tasks traces others)
    → RenamedTellAlike p q
renamed_tell p q leave day other_day by_name by_task by_other by_other_task names tasks traces others s t one_n one_t each is that =
    let left = leave names tasks traces others one_n one_t each in
    record {
      together = listed_agree names one_n (pair_cmp by_name) (pair_cmp by_other) _ _ traces others s.together t.together is.together that.together left.apart.refuted;
      before = listed_agree names one_n (pair_cmp by_name) (pair_cmp by_other) _ _ traces others s.before t.before is.before that.before left.before.refuted;
      exclusive = listed_agree names one_n (pair_cmp by_name) (pair_cmp by_other) _ _ traces others s.exclusive t.exclusive is.exclusive that.exclusive left.exclusive.refuted;
      shared = listed_agree tasks one_t (pair_cmp by_task) (pair_cmp by_other_task) _ _ traces others s.shared t.shared is.shared that.shared left.unshared.refuted;
      pipe = listed_agree tasks one_t (pair_cmp by_task) (pair_cmp by_other_task) _ _ traces others s.pipe t.pipe is.pipe that.pipe left.pipe.refuted;
    }
