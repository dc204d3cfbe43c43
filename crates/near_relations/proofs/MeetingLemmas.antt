-- The meetings of two names are the same under two readings of the traces.
use Rattle.std.proofs.Common.{◌≡◌, ℕ, ◌+◌, ℤ, ◌-ℤ◌, Bool, cond, ◌&&◌, List, [], ◌∷◌, ◌++◌, flat_map, Contains, refl, sym, ap, ◌∙◌, subst}
use Rattle.std.specs.List.{AllZip}
use Rattle.evidence_laws.specs.ModelLaws.{TellsSame}
use Rattle.evidence_rules.specs.Meetings.{meeting, meetings_from, meetings_in}
use Rattle.evidence_rules.specs.declared.meeting.Meeting.{Meeting}
use Rattle.trace_types.specs.Parts.{Parts}
use Rattle.trace_types.specs.Renaming.{IsOneToOne, IsSegmentRenamed, IsTraceRenamed}
use Rattle.trace_types.proofs.MatchLemmas.{Are, OneToOne, are_one}
use Rattle.trace_types.proofs.TruthLemmas.{by_truth}

flat_same : {X Y Z : Type 0} (R : X → Y → Type 0) (f : X → List Z) (g : Y → List Z) → ((x : X) (y : Y) → R x y → f x ≡ g y) → (xs : List X) (ys : List Y) → AllZip R xs ys → flat_map f xs ≡ flat_map g ys
flat_same R f g same [] [] z = refl
flat_same R f g same [] (y ∷ ys) z = absurd z
flat_same R f g same (x ∷ xs) [] z = absurd z
flat_same R f g same (x ∷ xs) (y ∷ ys) z = ap (λ l. l ++ flat_map f xs) (same x y z.0) ∙ ap (λ l. g y ++ l) (flat_same R f g same xs ys z.1)

abbrev made : ℕ → ℕ → ℤ → ℤ → Meeting
made index grace gap back = record { trace = index; grace = grace; gap = gap; back = back }

module _ {A S N T E B X M U F : Type 0} (p : Parts A S N T E) (q : Parts B X M U F) (names : List (N × M)) (tasks : List (T × U)) (one : IsOneToOne names)
    (same : N → N → Bool) (alike : M → M → Bool) (tells : TellsSame same) (tell : TellsSame alike) (a b : N) (c d : M) (ac : Contains names (a, c)) (bd : Contains names (b, d)) where
  ones : OneToOne (Are names)
  ones = are_one names one

  -- a segment has the one name where the other segment has the other
  name_alike : (s : S) (x : X) → Contains names (p.name s, q.name x) → (n : N) (m : M) → Contains names (n, m) → same (p.name s) n ≡ alike (q.name x) m
  name_alike s x h n m nm = by_truth (same (p.name s) n) (alike (q.name x) m)
      (λ e. (tell (q.name x) m).1 (ones.to n (q.name x) m (subst (λ (v : N). Contains names (v, q.name x)) ((tells (p.name s) n).0 e) h) nm))
      (λ e. (tells (p.name s) n).1 (ones.back (p.name s) n m (subst (λ (v : M). Contains names (p.name s, v)) ((tell (q.name x) m).0 e) h) nm))

  module _ (index : ℕ) (trace : A) (other : B) (renamed : IsTraceRenamed p q names tasks trace other) where
    meeting_alike : (s t : S) (x y : X) → IsSegmentRenamed p q names tasks renamed.elements s x → IsSegmentRenamed p q names tasks renamed.elements t y → meeting p index trace s t ≡ meeting q index other x y
    meeting_alike s t x y h i = sym
        (ap (λ (n : ℕ). made index n (q.start y -ℤ q.end x) (q.start x -ℤ q.end y)) renamed.grace
        ∙ (ap (λ (z : ℤ). made index (p.grace trace) (z -ℤ q.end x) (q.start x -ℤ q.end y)) i.start
        ∙ (ap (λ (z : ℤ). made index (p.grace trace) (p.start t -ℤ z) (q.start x -ℤ q.end y)) h.end
        ∙ (ap (λ (z : ℤ). made index (p.grace trace) (p.start t -ℤ p.end s) (z -ℤ q.end y)) h.start
        ∙ ap (λ (z : ℤ). made index (p.grace trace) (p.start t -ℤ p.end s) (p.start s -ℤ z)) i.end))))

    pair_alike : (s t : S) (x y : X) → IsSegmentRenamed p q names tasks renamed.elements s x → IsSegmentRenamed p q names tasks renamed.elements t y
        → cond (same (p.name s) a && same (p.name t) b) (meeting p index trace s t ∷ []) [] ≡ cond (alike (q.name x) c && alike (q.name y) d) (meeting q index other x y ∷ []) []
    pair_alike s t x y h i =
        ap (λ (v : Bool). cond (v && same (p.name t) b) (meeting p index trace s t ∷ []) []) (name_alike s x h.name a c ac)
        ∙ (ap (λ (v : Bool). cond (alike (q.name x) c && v) (meeting p index trace s t ∷ []) []) (name_alike t y i.name b d bd)
        ∙ ap (λ (m : Meeting). cond (alike (q.name x) c && alike (q.name y) d) (m ∷ []) []) (meeting_alike s t x y h i))

    in_alike : meetings_in p same a b index trace ≡ meetings_in q alike c d index other
    in_alike = flat_same (IsSegmentRenamed p q names tasks renamed.elements)
        (λ s. flat_map (λ t. cond (same (p.name s) a && same (p.name t) b) (meeting p index trace s t ∷ []) []) (p.segments trace))
        (λ x. flat_map (λ y. cond (alike (q.name x) c && alike (q.name y) d) (meeting q index other x y ∷ []) []) (q.segments other))
        (λ s x h. flat_same (IsSegmentRenamed p q names tasks renamed.elements)
        (λ t. cond (same (p.name s) a && same (p.name t) b) (meeting p index trace s t ∷ []) [])
        (λ y. cond (alike (q.name x) c && alike (q.name y) d) (meeting q index other x y ∷ []) [])
        (λ t y i. pair_alike s t x y h i) (p.segments trace) (q.segments other) renamed.segments)
        (p.segments trace) (q.segments other) renamed.segments

  pub from_alike : (index : ℕ) (traces : List A) (others : List B) → AllZip (IsTraceRenamed p q names tasks) traces others → meetings_from p same a b index traces ≡ meetings_from q alike c d index others
  from_alike index [] [] z = refl
  from_alike index [] (o ∷ os) z = absurd z
  from_alike index (t ∷ ts) [] z = absurd z
  from_alike index (t ∷ ts) (o ∷ os) z =
      ap (λ (l : List Meeting). l ++ meetings_from p same a b (index + 1) ts) (in_alike index t o z.0)
      ∙ ap (λ (l : List Meeting). meetings_in q alike c d index o ++ l) (from_alike (index + 1) ts os z.1)
