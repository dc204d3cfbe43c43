-- What is refuted tells the relations, whoever refutes it.
use Rattle.std.proofs.Common.{◌≡◌, ◌≢◌, ℕ, ◌↔◌, List, sym, ◌∙◌, subst, Ordering, get_or}
use Rattle.std.specs.declared.cmp.Ordering.TheVariants.{Less, Equal, Greater}
use Rattle.std.specs.Ordering.{ordering_reverse}
use Rattle.std.proofs.lemmas.List.Elements.{Contains-get_or}
use Rattle.trace_types.specs.Listing.{CountsDistinct, ListsExactly}
use Rattle.trace_types.specs.Parts.{Parts}
use Rattle.trace_types.specs.Pipelines.{RefutesPipe}
use Rattle.trace_types.specs.Refuting.{RefutesBefore, RefutesExclusive}
use Rattle.trace_types.specs.Relations.{HappensBefore, ExcludesUnordered}
use Rattle.trace_types.specs.Surviving.{Survives, IsRefuted}
use Rattle.trace_rules.specs.Pipes.{IsPipeline}
use Rattle.digest_facts.specs.Facts.{AreAlike, Facts, IsOrdered, IsPiped, IsUnordered, facts_of}
use Rattle.digest_facts.specs.Digests.{TellsApart}
use Rattle.digest_facts.proofs.ListLemmas.{HaveSame}

-- ---- what no trace refutes survives
pub none_refutes : {A : Type 0} (R : A → Type 0) (xs : List A) → Survives R xs ↔ (IsRefuted R xs → ⊥)
none_refutes {A} R xs = (
  (λ (all : Survives R xs) (a : IsRefuted R xs). let e : get_or xs a.0 a.1 ≡ a.1 = a.3 in all a.0 a.1 a.2 (subst R (sym e) a.4)),
  (λ (none : IsRefuted R xs → ⊥). λ k d lt r. let c = Contains-get_or xs k d lt in none (c.0, get_or xs k d, c.1, c.2, r)),
)

-- ---- alike facts have the same relations
module _ {N T : Type 0} (f g : Facts N T) (alike : AreAlike f g) where
  pub ordered_to : (a b : N) → IsOrdered f a b → IsOrdered g a b
  ordered_to a b h = record {
    differ = h.differ;
    together = (alike.apart a b h.differ).0 h.together;
    survives = λ r. h.survives ((alike.before a b h.differ).1 r);
  }

  pub unordered_to : (cmp : N → N → Ordering) (a b : N) → IsUnordered f cmp a b → IsUnordered g cmp a b
  unordered_to cmp a b h = record {
    differ = h.differ;
    rises = h.rises;
    together = (alike.apart a b h.differ).0 h.together;
    survives = λ r. h.survives ((alike.exclusive a b h.differ).1 r);
    not_before = (alike.before a b h.differ).0 h.not_before;
    not_after = (alike.before b a (λ e. h.differ (sym e))).0 h.not_after;
  }

  pub piped_to : (t u : T) → IsPiped f t u → IsPiped g t u
  piped_to t u h = record {
    differ = h.differ;
    shared = (alike.unshared t u h.differ).0 h.shared;
    survives = λ r. h.survives ((alike.pipe t u h.differ).1 r);
  }

  pub turned : AreAlike g f
  turned = record {
    before = λ a b d. ((alike.before a b d).1, (alike.before a b d).0);
    exclusive = λ a b d. ((alike.exclusive a b d).1, (alike.exclusive a b d).0);
    apart = λ a b d. ((alike.apart a b d).1, (alike.apart a b d).0);
    pipe = λ a b d. ((alike.pipe a b d).1, (alike.pipe a b d).0);
    unshared = λ a b d. ((alike.unshared a b d).1, (alike.unshared a b d).0);
  }

-- ---- the relations of traces are those of what they refute
module _ {A S N T E : Type 0} (p : Parts A S N T E) where
  pub ordered_is : (traces : List A) (a b : N) → HappensBefore p traces a b ↔ IsOrdered (facts_of p traces) a b
  ordered_is traces a b = (
    (λ h. record { differ = h.differ; together = h.together; survives = (none_refutes (RefutesBefore p a b) traces).0 h.survives }),
    (λ h. record { differ = h.differ; together = h.together; survives = (none_refutes (RefutesBefore p a b) traces).1 h.survives }),
  )

  pub unordered_is : (cmp : N → N → Ordering) → ((a b : N) → cmp a b ≡ Less → a ≢ b) → (traces : List A) (a b : N) → ExcludesUnordered p cmp traces a b ↔ IsUnordered (facts_of p traces) cmp a b
  unordered_is cmp differ traces a b = (
    (λ h. record {
      differ = differ a b h.rises;
      rises = h.rises;
      together = h.together;
      survives = (none_refutes (RefutesExclusive p a b) traces).0 h.survives;
      not_before = h.not_before;
      not_after = h.not_after;
    }),
    (λ h. record {
      rises = h.rises;
      together = h.together;
      survives = (none_refutes (RefutesExclusive p a b) traces).1 h.survives;
      not_before = h.not_before;
      not_after = h.not_after;
    }),
  )

  pub piped_is : (traces : List A) (t u : T) → IsPipeline p traces t u ↔ IsPiped (facts_of p traces) t u
  piped_is traces t u = (
    (λ h. record { differ = h.differ; shared = h.shared; survives = (none_refutes (RefutesPipe p t u) traces).0 h.survives }),
    (λ h. record { differ = h.differ; shared = h.shared; survives = (none_refutes (RefutesPipe p t u) traces).1 h.survives }),
  )

-- ---- what rises differs
pub rises_apart : {X : Type 0} (cmp : X → X → Ordering) → TellsApart cmp → (a b : X) → cmp a b ≡ Less → a ≢ b
rises_apart {X} cmp o a b e same =
    let l : cmp b a ≡ Less = subst (λ (v : X). cmp b v ≡ Less) (sym same) (subst (λ (v : X). cmp v b ≡ Less) same e) in
    twice (cmp a b) (cmp b a) (o.total.antisymm a b) e l
  where
    twice : (q r : Ordering) → q ≡ ordering_reverse r → q ≡ Less → r ≡ Less → ⊥
    twice q Less is l m = let t : Less ≡ Greater = sym l ∙ is in cc
    twice q Equal is l m = cc
    twice q Greater is l m = cc

-- ---- numbers and lists of what is alike
pub counted_to : {X : Type 0} (n : ℕ) (xs ys : List X) → HaveSame xs ys → CountsDistinct n xs → CountsDistinct n ys
counted_to n xs ys same c = record {
  all = c.all;
  differ = c.differ;
  exactly = λ x. ((λ h. (same x).0 ((c.exactly x).0 h)), (λ h. (c.exactly x).1 ((same x).1 h)));
  count = c.count;
}

pub listed_to : {X : Type 0} (cmp : X → X → Ordering) (P Q : X → Type 0) (xs : List X) → ((x : X) → P x ↔ Q x) → ListsExactly cmp P xs → ListsExactly cmp Q xs
listed_to cmp P Q xs same l = record { rising = l.rising; exactly = λ x. ((λ c. (same x).0 ((l.exactly x).0 c)), (λ q. (l.exactly x).1 ((same x).1 q))) }
