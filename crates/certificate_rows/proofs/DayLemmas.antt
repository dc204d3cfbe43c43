-- The traces of a book's days: those of one day, and those that stand before one.
use Rattle.std.proofs.Common.{◌≡◌, ℕ, zero, suc, ◌<◌, ◌≤◌, Bool, true, false, ◌==◌, Some, List, [], ◌∷◌, ◌++◌, length, take, filter, All, Contains, refl, sym, ap, ◌∙◌, append_assoc, inl, inr, ⊎_elim, arith}
use Rattle.std.specs.List.{slice_get}
use Rattle.std.proofs.lemmas.Bool.{cases_eq, cond-false, cond-true, eq-eqb, ne_eqb}
use Rattle.std.proofs.lemmas.List.{append-nil, length-take-le}
use Rattle.std.proofs.lemmas.List.Elements.{All-tail, All-weaker, All-contains, All-take, Contains-append_cases, Contains-get_or, filter-append}
use Rattle.std.proofs.lemmas.Option.{same_Some, slice_get_within}
use Rattle.counterexamples.specs.Findings.{StandsAt, StandsBefore}
use Rattle.counterexamples.specs.declared.finding.Finding.{Finding}
use Rattle.day_partitions.specs.Books.{AreOfDay, KeptDay, all_traces, traces_kept_on}
use Rattle.trace_types.specs.declared.named_trace.NamedTrace.{NamedTrace}
use Rattle.trace_types.proofs.ElementLemmas.{from_flat_map, Contains-from_get}
use Rattle.book_laws.proofs.BookLemmas.{AreDays, pairs_head, days_tail, own_day, above_all}
use Rattle.day_partitions.proofs.FilterLemmas.{filter_all, filter_none}
use Rattle.certificate_rows.proofs.ElementLemmas.{before_place, get_from_Contains, get_from_take}

abbrev IsDated : KeptDay → Type 0
IsDated k = AreOfDay k.day k.traces

-- the test of a day
abbrev pub is_of : ℕ → NamedTrace → Bool
is_of d t = t.day == d

of_day : (d e : ℕ) (ts : List NamedTrace) → AreOfDay e ts → e ≡ d → filter (is_of d) ts ≡ ts
of_day d e ts h is = filter_all (is_of d) ts (All-weaker (λ (t : NamedTrace). t.day ≡ e) (λ (t : NamedTrace). is_of d t ≡ true) (λ t s. eq-eqb t.day d (s ∙ is)) ts h)

not_of_day : (d : ℕ) (ts : List NamedTrace) → All (λ (t : NamedTrace). t.day ≡ d → ⊥) ts → filter (is_of d) ts ≡ []
not_of_day d ts h = filter_none (is_of d) ts (All-weaker (λ (t : NamedTrace). t.day ≡ d → ⊥) (λ (t : NamedTrace). is_of d t ≡ false) (λ t n. ne_eqb t.day d n) ts h)

-- the traces of a day
pub all_of_day : (d : ℕ) (ks : List KeptDay) → AreDays ks → filter (is_of d) (all_traces ks) ≡ traces_kept_on ks d
all_of_day d [] h = refl
all_of_day d (k ∷ ks) h =
    let rest = all_of_day d ks (days_tail k ks h) in
    let later = above_all k.day ks (pairs_head k ks h.rising) (All-tail IsDated k ks h.dated) in
    filter-append (is_of d) k.traces (all_traces ks) ∙ elim (cases_eq k.day d) [
      | inl is ↦
          let none : filter (is_of d) (all_traces ks) ≡ [] = not_of_day d (all_traces ks) (All-weaker (λ (t : NamedTrace). k.day < t.day) (λ (t : NamedTrace). t.day ≡ d → ⊥) (λ t l e. omega (arith, l, e, is)) (all_traces ks) later) in
          ap (λ l. l ++ filter (is_of d) (all_traces ks)) (of_day d k.day k.traces (own_day k ks h) is) ∙ (ap (λ l. k.traces ++ l) none ∙ (append-nil k.traces ∙ sym (cond-true (k.day == d) k.traces (traces_kept_on ks d) (eq-eqb k.day d is))))
      | inr other ↦
          let none : filter (is_of d) k.traces ≡ [] = not_of_day d k.traces (All-weaker (λ (t : NamedTrace). t.day ≡ k.day) (λ (t : NamedTrace). t.day ≡ d → ⊥) (λ t s e. other (sym s ∙ e)) k.traces (own_day k ks h)) in
          ap (λ l. l ++ filter (is_of d) (all_traces ks)) none ∙ (rest ∙ sym (cond-false (k.day == d) k.traces (traces_kept_on ks d) (ne_eqb k.day d other)))
    ]

-- ---- the traces before one
split_at : {X : Type 0} (xs : List X) (i : ℕ) (x : X) → slice_get xs i ≡ Some x → (back : List X) × (xs ≡ take i xs ++ x ∷ back)
split_at [] i x e = let lt = slice_get_within [] i x e in absurd (omega arith)
split_at (y ∷ ys) zero x e = (ys, ap (λ v. v ∷ ys) (same_Some y x e))
split_at (y ∷ ys) (suc i) x e = let s = split_at ys i x e in (s.0, ap (λ l. y ∷ l) s.1)

-- the traces that stand before this place and index
abbrev pub before_in : List KeptDay → ℕ → KeptDay → ℕ → List NamedTrace
before_in ks place d index = all_traces (take place ks) ++ take index d.traces

pub all_split : (ks : List KeptDay) (place index : ℕ) (d : KeptDay) (t : NamedTrace) → slice_get ks place ≡ Some d → slice_get d.traces index ≡ Some t → (back : List NamedTrace) × (all_traces ks ≡ before_in ks place d index ++ t ∷ back)
all_split [] place index d t here at = let lt = slice_get_within [] place d here in absurd (omega arith)
all_split (k ∷ ks) zero index d t here at =
    let same : k ≡ d = same_Some k d here in
    let s = split_at d.traces index t at in
    (s.0 ++ all_traces ks, ap (λ (x : KeptDay). x.traces ++ all_traces ks) same ∙ (ap (λ l. l ++ all_traces ks) s.1 ∙ append_assoc (take index d.traces) (t ∷ s.0) (all_traces ks)))
all_split (k ∷ ks) (suc place) index d t here at =
    let s = all_split ks place index d t here at in
    (s.0, ap (λ l. k.traces ++ l) s.1 ∙ (sym (append_assoc k.traces (before_in ks place d index) (t ∷ s.0)) ∙ ap (λ l. l ++ t ∷ s.0) (sym (append_assoc k.traces (all_traces (take place ks)) (take index d.traces)))))

-- each of them stands before it
pub stands_before : (ks : List KeptDay) (f : Finding) (d : KeptDay) → slice_get ks f.place ≡ Some d → (u : NamedTrace) → Contains (before_in ks f.place d f.index) u → (g : Finding) × StandsAt ks g u × StandsBefore g f
stands_before ks f d here u c = ⊎_elim
    (λ (early : Contains (all_traces (take f.place ks)) u).
    let r = from_flat_map (λ (k : KeptDay). k.traces) (take f.place ks) u early in
    let p = get_from_take ks f.place r.0 r.1 in
    let i = get_from_Contains r.0.traces u r.2 in
    (record { place = p.0; index = i.0 }, record { day = r.0; kept = p.2; trace = i.2 }, inl p.1))
    (λ (same : Contains (take f.index d.traces) u).
    let i = get_from_take d.traces f.index u same in
    (record { place = f.place; index = i.0 }, record { day = d; kept = here; trace = i.2 }, inr (refl, i.1)))
    (Contains-append_cases (all_traces (take f.place ks)) (take f.index d.traces) u c)

-- those of its day are as many as its index tells
pub before_counted : (ks : List KeptDay) (place index : ℕ) (d : KeptDay) → AreDays ks → slice_get ks place ≡ Some d → index ≤ length d.traces → length (filter (is_of d.day) (before_in ks place d index)) ≡ index
before_counted ks place index d days here within =
    let front = all_traces (take place ks) in
    let dated = All-contains IsDated ks d days.dated (Contains-from_get ks place d here) in
    let none : filter (is_of d.day) front ≡ [] = not_of_day d.day front (earlier front (λ u c. c)) in
    ap length (filter-append (is_of d.day) front (take index d.traces))
    ∙ (ap (λ l. length (l ++ filter (is_of d.day) (take index d.traces))) none
    ∙ (ap length (of_day d.day d.day (take index d.traces) (All-take (λ (t : NamedTrace). t.day ≡ d.day) index d.traces dated) refl) ∙ length-take-le index d.traces within))
  where
    not_now : (u : NamedTrace) → Contains (all_traces (take place ks)) u → u.day ≡ d.day → ⊥
    not_now u c e =
        let r = from_flat_map (λ (k : KeptDay). k.traces) (take place ks) u c in
        let p = get_from_take ks place r.0 r.1 in
        let less : r.0.day < d.day = before_place (λ (j k : KeptDay). j.day < k.day) ks days.rising place d r.0 here r.1 in
        let own = All-contains IsDated ks r.0 days.dated (Contains-from_get ks p.0 r.0 p.2) in
        let day = All-contains (λ (t : NamedTrace). t.day ≡ r.0.day) r.0.traces u own r.2 in
        absurd (omega (arith, less, day, e))

    earlier : (ts : List NamedTrace) → ((u : NamedTrace) → Contains ts u → Contains (all_traces (take place ks)) u) → All (λ (t : NamedTrace). t.day ≡ d.day → ⊥) ts
    earlier ts inside i u lt = not_now _ (inside _ (Contains-get_or ts i u lt))
