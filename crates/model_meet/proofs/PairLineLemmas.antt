-- Which lines two names have, by what is refuted of them.
use Rattle.std.proofs.Common.{◌≡◌, ◌≢◌, ◌↔◌, ℕ, Bool, true, false, not, ◌&&◌, List, sym, ◌∙◌}
use Rattle.std.specs.declared.cmp.Ordering.{Ordering}
use Rattle.std.specs.declared.cmp.Ordering.TheVariants.{Less}
use Rattle.std.proofs.lemmas.Bool.{and_from, and_parts, false_from_ne_true, false≢true, not-true, not_from_false}
use Rattle.trace_types.specs.declared.named_trace.NamedTrace.{NamedTrace}
use Rattle.trace_types.specs.Parts.{by_number}
use Rattle.trace_types.specs.Refuting.{RefutesApart, RefutesBefore, RefutesExclusive}
use Rattle.trace_types.specs.Relations.{ExcludesUnordered, HappensBefore}
use Rattle.trace_types.specs.Surviving.{IsRefuted, Survives}
use Rattle.model_meet.proofs.TellingLemmas.{both_ways, none_survive, refuted_alike}

-- a test has one answer
pub one_answer : (b : Bool) → b ≡ false → b ≡ true → ⊥
one_answer b f t = false≢true (sym f ∙ t)

module _ (traces : List NamedTrace) (a b : ℕ) where
  -- being apart does not depend on the order of two names
  pub together_turned : ((x y : ℕ) (t : NamedTrace) → RefutesApart by_number x y t ↔ RefutesApart by_number y x t) → IsRefuted (RefutesApart by_number a b) traces ↔ IsRefuted (RefutesApart by_number b a) traces
  together_turned symmetric = refuted_alike (RefutesApart by_number a b) (RefutesApart by_number b a) (symmetric a b) traces

  -- names that are in no trace together have no line
  pub no_order : (IsRefuted (RefutesApart by_number a b) traces → ⊥) → (false ≡ true) ↔ HappensBefore by_number traces a b
  no_order apart = ((λ h. absurd (false≢true h)), (λ x. absurd (apart x.together)))

  pub no_exclusion : (cmp : ℕ → ℕ → Ordering) → (IsRefuted (RefutesApart by_number a b) traces → ⊥) → (false ≡ true) ↔ ExcludesUnordered by_number cmp traces a b
  no_exclusion cmp apart = ((λ h. absurd (false≢true h)), (λ x. absurd (apart x.together)))

  -- an order that is not refuted
  pub order_told : (refuted : Bool) → a ≢ b → IsRefuted (RefutesApart by_number a b) traces → (refuted ≡ true) ↔ IsRefuted (RefutesBefore by_number a b) traces
      → (not refuted ≡ true) ↔ HappensBefore by_number traces a b
  order_told refuted differ together told = (
    (λ h. record {
      differ = differ;
      together = together;
      survives = none_survive (RefutesBefore by_number a b) traces (λ x. one_answer refuted (not-true refuted h) (told.1 x));
    }),
    (λ x. not_from_false refuted (false_from_ne_true refuted (λ t. both_ways (RefutesBefore by_number a b) traces x.survives (told.0 t)))),
  )

  module _ (cmp : ℕ → ℕ → Ordering) (not_before not_after unordered : Bool) (joined : not_before && not_after ≡ unordered)
      (before_told : (not_before ≡ true) ↔ IsRefuted (RefutesBefore by_number a b) traces) (after_told : (not_after ≡ true) ↔ IsRefuted (RefutesBefore by_number b a) traces) where
    -- both orders are refuted
    pub exclusion_told : (exclusive : Bool) → cmp a b ≡ Less → IsRefuted (RefutesApart by_number a b) traces → unordered ≡ true
        → (exclusive ≡ true) ↔ Survives (RefutesExclusive by_number a b) traces → (exclusive ≡ true) ↔ ExcludesUnordered by_number cmp traces a b
    exclusion_told exclusive less together both told =
        let parts = and_parts not_before not_after (joined ∙ both) in (
          (λ h. record { rises = less; together = together; survives = told.0 h; not_before = before_told.0 parts.0; not_after = after_told.0 parts.1 }),
          (λ x. told.1 x.survives),
        )

    -- one of them is not
    pub ordered_told : unordered ≡ false → (unordered ≡ true) ↔ ExcludesUnordered by_number cmp traces a b
    ordered_told ordered = (
      (λ h. absurd (one_answer unordered ordered h)),
      (λ x. sym joined ∙ and_from not_before not_after (before_told.1 x.not_before) (after_told.1 x.not_after)),
    )
