-- The first refuter of a pair of numbers.
use Rattle.std.proofs.Common.{◌≡◌, ◌≢◌, ℕ, ◌<◌, ◌≤◌, ◌==◌, length, Some, None, sym, ◌∙◌, subst, ⊎_elim, arith}
use Rattle.std.proofs.lemmas.Bool.{cases_lt, cond-false, cond-true, eq-eqb, ne_eqb}
use Rattle.std.proofs.lemmas.Option.{none-some}
use Rattle.std.specs.Option.{IfSome}
use Rattle.counterexamples.specs.Findings.{IsFirstRefuter}
use Rattle.counterexamples.specs.FirstRefuters.{FindingTable, IsRefuterOf, refuter_of}
use Rattle.counterexamples.specs.declared.finding.Finding.{Finding}
use Rattle.day_partitions.specs.Books.{BookState}
use Rattle.hypothesis_index.specs.Places.{IsRelation, NamesBelow}
use Rattle.segment_names.specs.Known.{Known}
use Rattle.segment_names.specs.Limits.{IsKept}
use Rattle.certificate_rows.specs.declared.kind.Kind.{Kind}
use Rattle.certificate_rows.specs.declared.kind.Kind.TheVariants.{Before, Exclusive, Pipe}
use Rattle.certificate_rows.specs.inner.Pairs.{relation_of_kind, refuter_between}
use Rattle.certificate_rows.specs.inner.Sources.{HasRefuters, IsKeptThere, count_of}

-- two different numbers of a catalogue have a relation, whose names are below that of its names
pub relation_fits : (known : Known) → IsKept known → (kind : Kind) (m n : ℕ) → m ≢ n → m < count_of known kind → n < count_of known kind → IsRelation (relation_of_kind kind m n) × NamesBelow (length known.names) (relation_of_kind kind m n)
relation_fits known is Before m n differ lm ln = let few = is.few_names in ((differ, (omega arith), (omega arith)), (lm, ln))
relation_fits known is Exclusive m n differ lm ln =
    let few = is.few_names in
    ⊎_elim
    (λ (lt : m < n). ((omega arith, omega arith), omega arith))
    (λ (le : n ≤ m). let lt : n < m = ⊎_elim (λ (l : n < m). l) (λ (ge : m ≤ n). absurd (differ (omega arith))) (cases_lt n m) in ((omega arith, omega arith), omega arith))
    (cases_lt m n)
relation_fits known is Pipe m n differ lm ln = let few = is.few_tasks in ((differ, (omega arith), (omega arith)), tt)

module _ (table : FindingTable) (kind : Kind) (m n : ℕ) where
  pub refuter_apart : m ≢ n → refuter_between table kind m n ≡ refuter_of table (relation_of_kind kind m n)
  refuter_apart differ = cond-false (m == n) None (refuter_of table (relation_of_kind kind m n)) (ne_eqb m n differ)

  pub refuter_itself : m ≡ n → refuter_between table kind m n ≡ None
  refuter_itself same = cond-true (m == n) None (refuter_of table (relation_of_kind kind m n)) (eq-eqb m n same)

  pub refuter_differs : (f : Finding) → refuter_between table kind m n ≡ Some f → m ≢ n
  refuter_differs f is same = none-some f (sym (refuter_itself same) ∙ is)

module _ (known : Known) (b : BookState) (table : FindingTable) (has : HasRefuters known b table) (kind : Kind) (m n : ℕ) (lm : m < count_of known kind) (ln : n < count_of known kind) where
  -- the table tells the first refuter of two different numbers
  pub refuter_told : m ≢ n → IsRefuterOf b.days (relation_of_kind kind m n) (refuter_between table kind m n)
  refuter_told differ =
      let fits = relation_fits known has.kept.known kind m n differ lm ln in
      rw (refuter_apart table kind m n differ)
      (has.first (relation_of_kind kind m n) fits.0 (subst (λ (names : ℕ). NamesBelow names (relation_of_kind kind m n)) (sym has.kept.names) fits.1))

  pub refuter_found : (f : Finding) → refuter_between table kind m n ≡ Some f → IsFirstRefuter b.days (relation_of_kind kind m n) f
  refuter_found f found = subst (λ o. IfSome o (IsFirstRefuter b.days (relation_of_kind kind m n))) found (refuter_told (refuter_differs table kind m n f found)).first

  pub refuter_stands : (f : Finding) → refuter_between table kind m n ≡ Some f → IsKeptThere b.days f
  refuter_stands f found = let first = refuter_found f found in (first.trace, first.stands)
