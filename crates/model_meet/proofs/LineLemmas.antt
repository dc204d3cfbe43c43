-- Numbers of lines, pair by pair.
use Rattle.std.proofs.Common.{◌≡◌, ◌↔◌, ℕ, ◌+◌, ◌<◌, ◌≤◌, Bool, true, false, List, sym, subst, ⊎_elim, arith}
use Rattle.std.specs.Int.{from_bool}
use Rattle.std.specs.declared.cmp.Ordering.{Ordering}
use Rattle.std.specs.declared.cmp.Ordering.TheVariants.{Less}
use Rattle.std.proofs.lemmas.Bool.{false≢true}
use Rattle.trace_types.specs.declared.named_trace.NamedTrace.{NamedTrace}
use Rattle.trace_types.specs.Parts.{by_number}
use Rattle.trace_types.specs.Refuting.{RefutesApart, RefutesExclusive}
use Rattle.trace_types.specs.Relations.{ExcludesUnordered}
use Rattle.refute_tests.specs.Survivors.{AreSurvivors}
use Rattle.model_meet.specs.Counting.{OrdersBelow}
use Rattle.model_meet.specs.RelationBits.{HasExclusion}
use Rattle.model_meet.specs.inner.Beside.{AreBelow, AreBeside, AreExclusionsBelow, AreExclusionsBeside, CountsBeside}
use Rattle.model_meet.proofs.CountingLemmas.{beside_more, beside_none, pairs_more, pairs_none}
use Rattle.model_meet.proofs.TellingLemmas.{refuted_alike, survive_alike}

small : (b : Bool) → from_bool b ≤ 1
small true = omega arith
small false = omega arith

-- mutual exclusion and being apart do not depend on the order of two numbers
pub record IsSymmetric : Type 0 where
  pub exclusive : (a b : ℕ) (trace : NamedTrace) → RefutesExclusive by_number a b trace ↔ RefutesExclusive by_number b a trace
  pub apart : (a b : ℕ) (trace : NamedTrace) → RefutesApart by_number a b trace ↔ RefutesApart by_number b a trace

module _ (words : List ℕ) (Bits : ℕ → ℕ → Type 0) (Meaning : List NamedTrace → ℕ → ℕ → Type 0) where
  pub beside_begun : (number : ℕ) → AreBeside words Bits Meaning number 0 0
  beside_begun number = record {
    bits = beside_none Bits number;
    told = λ traces s. beside_none (Meaning traces) number;
    few = omega arith;
  }

  -- the two orders of one more pair
  pub beside_next : (number k n m : ℕ) → k < number → (forth back : Bool) → m ≡ n + from_bool forth + from_bool back
      → (forth ≡ true) ↔ Bits k number → (back ≡ true) ↔ Bits number k
      → ((traces : List NamedTrace) → AreSurvivors traces words → (forth ≡ true) ↔ Meaning traces k number)
      → ((traces : List NamedTrace) → AreSurvivors traces words → (back ≡ true) ↔ Meaning traces number k)
      → AreBeside words Bits Meaning number k n → AreBeside words Bits Meaning number (k + 1) m
  beside_next number k n m less forth back sum forth_bits back_bits forth_told back_told a =
      subst (AreBeside words Bits Meaning number (k + 1)) (sym sum) (record {
        bits = beside_more Bits number k n less forth back forth_bits back_bits a.bits;
        told = λ traces s. beside_more (Meaning traces) number k n less forth back (forth_told traces s) (back_told traces s) (a.told traces s);
        few = let f = a.few in omega (arith, small forth, small back);
      })

  pub below_begun : AreBelow words Bits Meaning 0 0
  below_begun = record {
    bits = pairs_none Bits;
    told = λ traces s. pairs_none (Meaning traces);
    few = omega arith;
  }

  -- one more number and those below it
  pub below_next : (k m n : ℕ) → k ≤ 512 → (Bits k k → ⊥) → ((traces : List NamedTrace) → Meaning traces k k → ⊥)
      → AreBelow words Bits Meaning k m → AreBeside words Bits Meaning k k n → AreBelow words Bits Meaning (k + 1) (m + n)
  below_next k m n low bits meaning a b = record {
    bits = pairs_more Bits k m n bits a.bits b.bits;
    told = λ traces s. pairs_more (Meaning traces) k m n (meaning traces) (a.told traces s) (b.told traces s);
    few = let f = a.few in let g = b.few in omega arith;
  }

-- the same exclusion in the turned order
turned : (symmetric : IsSymmetric) (cmp : ℕ → ℕ → Ordering) (traces : List NamedTrace) (a b : ℕ)
    → ExcludesUnordered by_number (λ x y. cmp y x) traces a b → ExcludesUnordered by_number cmp traces b a
turned symmetric cmp traces a b x = record {
  rises = x.rises;
  together = (refuted_alike (RefutesApart by_number a b) (RefutesApart by_number b a) (symmetric.apart a b) traces).0 x.together;
  survives = (survive_alike (RefutesExclusive by_number a b) (RefutesExclusive by_number b a) (symmetric.exclusive a b) traces).0 x.survives;
  not_before = x.not_after;
  not_after = x.not_before;
}

-- an exclusion is counted once, whichever of the two is less
module _ (words : List ℕ) (names : ℕ) where
  pub exclusions_begun : (number : ℕ) → AreExclusionsBeside words names number 0 0
  exclusions_begun number = record {
    bits = beside_none (λ a b. (a < b) × HasExclusion words a b) number;
    told = λ traces cmp s o. beside_none (ExcludesUnordered by_number cmp traces) number;
    few = omega arith;
  }

  pub exclusions_below_begun : AreExclusionsBelow words names 0 0
  exclusions_below_begun = record {
    bits = pairs_none (λ a b. (a < b) × HasExclusion words a b);
    told = λ traces cmp s o. pairs_none (ExcludesUnordered by_number cmp traces);
    few = omega arith;
  }

  module _ (symmetric : IsSymmetric) (number k n m : ℕ) (less : k < number) (here : number < names) (found : Bool) (sum : m ≡ n + from_bool found)
      (found_bits : (found ≡ true) ↔ HasExclusion words k number)
      (found_told : (traces : List NamedTrace) (cmp : ℕ → ℕ → Ordering) → AreSurvivors traces words → cmp k number ≡ Less → (found ≡ true) ↔ ExcludesUnordered by_number cmp traces k number) where
    never : number < k → ⊥
    never h = absurd (omega arith)

    no_way : {A : Type 0} → (A → ⊥) → (false ≡ true) ↔ A
    no_way none = ((λ h. absurd (false≢true h)), (λ a. absurd (none a)))

    bits_next : CountsBeside number k (λ a b. (a < b) × HasExclusion words a b) n → CountsBeside number (k + 1) (λ a b. (a < b) × HasExclusion words a b) (n + from_bool found + from_bool false)
    bits_next a =
        beside_more (λ a b. (a < b) × HasExclusion words a b) number k n less found false
        ((λ h. (less, found_bits.0 h)), (λ p. found_bits.1 p.1)) (no_way (λ p. never p.0)) a

    told_next : (traces : List NamedTrace) (cmp : ℕ → ℕ → Ordering) → AreSurvivors traces words → OrdersBelow names cmp → CountsBeside number k (ExcludesUnordered by_number cmp traces) n → CountsBeside number (k + 1) (ExcludesUnordered by_number cmp traces) (n + from_bool found)
    told_next traces cmp s order a = ⊎_elim
        (λ (l : cmp k number ≡ Less).
        let e : n + from_bool found + 0 ≡ n + from_bool found = omega arith in
        subst (CountsBeside number (k + 1) (ExcludesUnordered by_number cmp traces)) e
        (beside_more (ExcludesUnordered by_number cmp traces) number k n less found false (found_told traces cmp s l) (no_way (λ x. order.not_both k number (omega arith) here l x.rises)) a))
        (λ (l : cmp number k ≡ Less).
        let flipped = found_told traces (λ x y. cmp y x) s l in
        let e : n + 0 + from_bool found ≡ n + from_bool found = omega arith in
        subst (CountsBeside number (k + 1) (ExcludesUnordered by_number cmp traces)) e
        (beside_more (ExcludesUnordered by_number cmp traces) number k n less false found (no_way (λ x. order.not_both k number (omega arith) here x.rises l))
        ((λ h. turned symmetric cmp traces k number (flipped.0 h)), (λ x. flipped.1 (turned symmetric (λ u v. cmp v u) traces number k x))) a))
        (order.one_is_less k number (omega arith) here (λ e. omega arith))

    pub exclusions_next : AreExclusionsBeside words names number k n → AreExclusionsBeside words names number (k + 1) m
    exclusions_next a =
        subst (AreExclusionsBeside words names number (k + 1)) (sym sum) (record {
          bits = let e : n + from_bool found + 0 ≡ n + from_bool found = omega arith in subst (CountsBeside number (k + 1) (λ a b. (a < b) × HasExclusion words a b)) e (bits_next a.bits);
          told = λ traces cmp s o. told_next traces cmp s o (a.told traces cmp s o);
          few = let f = a.few in omega (arith, small found);
        })

  pub exclusions_below_next : (k m n : ℕ) → k ≤ 512 → k < names → AreExclusionsBelow words names k m → AreExclusionsBeside words names k k n → AreExclusionsBelow words names (k + 1) (m + n)
  exclusions_below_next k m n low here a b = record {
    bits = pairs_more (λ a b. (a < b) × HasExclusion words a b) k m n (λ p. let l = p.0 in absurd (omega arith)) a.bits b.bits;
    told = λ traces cmp s o. pairs_more (ExcludesUnordered by_number cmp traces) k m n (λ x. o.not_both k k here here x.rises x.rises) (a.told traces cmp s o) (b.told traces cmp s o);
    few = let f = a.few in let g = b.few in omega arith;
  }
