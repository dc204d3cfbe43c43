-- A claim that a book's traces show, and that the kept traces show.
use Rattle.std.proofs.Common.{◌≡◌, ◌≢◌, ◌↔◌, ℕ, ◌==◌, inl, inr, Bool, true, cond, Option, Some, None, List, get_or, refl, sym, ap, ◌∙◌, subst}
use Rattle.std.specs.List.{AllPairs, position, slice_get}
use Rattle.std.specs.Option.{option_and_then, option_zip}
use Rattle.std.specs.Str.{bytes_eq}
use Rattle.std.proofs.lemmas.Bool.{cases_eq, cond-false, cond-true, eq-eqb, false≢true, ne_eqb}
use Rattle.std.proofs.lemmas.List.Quantifiers.{position-Some}
use Rattle.std.proofs.lemmas.Option.{get_or_from_slice_get, none-some, same_Some, slice_get-get_or, slice_get_within}
use Rattle.certificates.specs.declared.claim.Claim.{Claim}
use Rattle.certificates.specs.declared.matter.Matter.{Matter}
use Rattle.certificates.specs.declared.matter.Matter.TheVariants.{Before, Exclusive, Pipe}
use Rattle.counterexamples.specs.ShownClaims.{IsShownClaim, matter_numbers, relation_between, relation_of}
use Rattle.day_partitions.specs.Books.{BookState, IsBook, all_traces, traces_kept_on}
use Rattle.hypothesis_index.specs.Refuting.{Refutes}
use Rattle.hypothesis_index.specs.declared.relation.Relation.{Relation}
use Rattle.book_laws.specs.Shown as books
use Rattle.book_laws.specs.Shown.{AreShown}
use Rattle.segment_names.specs.Known.{Known, name_number, same_name, task_number}
use Rattle.session_rules.specs.KeptTraces.{Kept, is_of_day, traces_on}
use Rattle.session_rules.specs.Refutations.{IsClaimShown}
use Rattle.trace_types.proofs.ComparingLemmas.{text_means, text_own}
use Rattle.segment_names.proofs.TextLemmas.{name_means, name_own}
use Rattle.trace_types.proofs.ElementLemmas.{one_place, none_passes}
use Rattle.book_laws.proofs.BookLemmas.{book_days}
use Rattle.trace_types.proofs.ZipLemmas.{zip_filter}
use Rattle.certificate_rows.proofs.BridgeLemmas.{AreLaws, AreNumbers, refuted_numbers, refutes_alike}
use Rattle.certificate_rows.proofs.DayLemmas.{all_of_day, is_of}
use Rattle.certificate_rows.proofs.ElementLemmas.{zip_get_left, zip_get_right}

-- ---- the number of a text
-- a position is that of the text, and a text that stands in a list has a position
module _ {X : Type 0} (same : X → X → Bool) (means : (x y : X) → same x y ≡ true → x ≡ y) (itself : (x : X) → same x x ≡ true) (texts : List X) where
  place_told : (x : X) (k : ℕ) → position (same x) texts ≡ Some k → slice_get texts k ≡ Some x
  place_told x k e =
      let p = position-Some (same x) texts k x e in
      slice_get-get_or texts k x p.0 ∙ ap (λ (v : X). Some v) (sym (means x (get_or texts k x) p.1))

  place_found : AllPairs (λ (x y : X). x ≢ y) texts → (x : X) (k : ℕ) → slice_get texts k ≡ Some x → position (same x) texts ≡ Some k
  place_found differ x k e = by (position (same x) texts) refl
    where
      by : (o : Option ℕ) → position (same x) texts ≡ o → position (same x) texts ≡ Some k
      by None none =
          let here : get_or texts k x ≡ x = get_or_from_slice_get texts k x x e in
          absurd (false≢true (sym (none_passes (same x) texts none k x (slice_get_within texts k x e)) ∙ (ap (same x) here ∙ itself x)))
      by (Some j) some = some ∙ ap (λ (n : ℕ). Some n) (one_place texts differ j k x (place_told x j some) e)

-- ---- both numbers
both_told : (o p : Option ℕ) (m n : ℕ) → option_zip o p ≡ Some (m, n) → (o ≡ Some m) × (p ≡ Some n)
both_told None p m n e = absurd (none-some (m, n) e)
both_told (Some i) None m n e = absurd (none-some (m, n) e)
both_told (Some i) (Some j) m n e =
    let s : (i, j) ≡ (m, n) = same_Some (i, j) (m, n) e in
    (ap (λ (q : ℕ × ℕ). Some q.0) s, ap (λ (q : ℕ × ℕ). Some q.1) s)

both_found : (o p : Option ℕ) (m n : ℕ) → o ≡ Some m → p ≡ Some n → option_zip o p ≡ Some (m, n)
both_found o p m n e f = rw (e, f) refl

module _ (known : Known) (laws : AreLaws known) where
  numbers_told : (matter : Matter) (m n : ℕ) → matter_numbers known matter ≡ Some (m, n) → AreNumbers known matter m n
  numbers_told (Before a b) m n e = let s = both_told (name_number known a) (name_number known b) m n e in (place_told same_name name_means name_own known.names a m s.0, place_told same_name name_means name_own known.names b n s.1)
  numbers_told (Exclusive a b) m n e = let s = both_told (name_number known a) (name_number known b) m n e in (place_told same_name name_means name_own known.names a m s.0, place_told same_name name_means name_own known.names b n s.1)
  numbers_told (Pipe a b) m n e = let s = both_told (task_number known a) (task_number known b) m n e in (place_told bytes_eq text_means text_own known.tasks a m s.0, place_told bytes_eq text_means text_own known.tasks b n s.1)

  numbers_found : (matter : Matter) (m n : ℕ) → AreNumbers known matter m n → matter_numbers known matter ≡ Some (m, n)
  numbers_found (Before a b) m n at = both_found (name_number known a) (name_number known b) m n (place_found same_name name_means name_own known.names laws.fits.names_differ a m at.0) (place_found same_name name_means name_own known.names laws.fits.names_differ b n at.1)
  numbers_found (Exclusive a b) m n at = both_found (name_number known a) (name_number known b) m n (place_found same_name name_means name_own known.names laws.fits.names_differ a m at.0) (place_found same_name name_means name_own known.names laws.fits.names_differ b n at.1)
  numbers_found (Pipe a b) m n at = both_found (task_number known a) (task_number known b) m n (place_found bytes_eq text_means text_own known.tasks laws.fits.tasks_differ a m at.0) (place_found bytes_eq text_means text_own known.tasks laws.fits.tasks_differ b n at.1)

  -- the relation of a matter, and the numbers of its two
  record IsNumbered (matter : Matter) (r : Relation) : Type 0 where
    pub m : ℕ
    pub n : ℕ
    pub numbers : AreNumbers known matter m n
    pub differ : m ≢ n
    pub is : relation_between matter m n ≡ r

  relation_told : (matter : Matter) (r : Relation) → relation_of known matter ≡ Some r → IsNumbered matter r
  relation_told matter r e = by (matter_numbers known matter) refl e
    where
      by : (o : Option (ℕ × ℕ)) → matter_numbers known matter ≡ o → option_and_then (λ (p : ℕ × ℕ). cond (p.0 == p.1) None (Some (relation_between matter p.0 p.1))) o ≡ Some r → IsNumbered matter r
      by None none f = absurd (none-some r f)
      by (Some p) some f = elim (cases_eq p.0 p.1) [
        | inl same ↦ absurd (none-some r (sym (cond-true (p.0 == p.1) None (Some (relation_between matter p.0 p.1)) (eq-eqb p.0 p.1 same)) ∙ f))
        | inr differ ↦ record {
          m = p.0;
          n = p.1;
          numbers = numbers_told matter p.0 p.1 some;
          differ = differ;
          is = same_Some (relation_between matter p.0 p.1) r (sym (cond-false (p.0 == p.1) None (Some (relation_between matter p.0 p.1)) (ne_eqb p.0 p.1 differ)) ∙ f);
        }
      ]

  relation_found : (matter : Matter) (m n : ℕ) → AreNumbers known matter m n → m ≢ n → relation_of known matter ≡ Some (relation_between matter m n)
  relation_found matter m n at differ =
      ap (option_and_then (λ (p : ℕ × ℕ). cond (p.0 == p.1) None (Some (relation_between matter p.0 p.1)))) (numbers_found matter m n at)
      ∙ cond-false (m == n) None (Some (relation_between matter m n)) (ne_eqb m n differ)

  -- the named traces of a day are the kept ones of that day
  day_shown : (b : BookState) (kept : List Kept) → IsBook b → AreShown known (all_traces b.days) kept → (day : ℕ) → AreShown known (traces_kept_on b.days day) (traces_on day kept)
  day_shown b kept is shown day = subst (λ ts. AreShown known ts (traces_on day kept)) (all_of_day day b.days (book_days b is))
      (zip_filter (books.IsShown known) (is_of day) (is_of_day day) (λ t k s. ap (λ (d : ℕ). d == day) s.day) (all_traces b.days) kept shown)

  pub claim_shown : (b : BookState) (kept : List Kept) (claim : Claim) → IsBook b → AreShown known (all_traces b.days) kept → IsShownClaim known b.days claim ↔ IsClaimShown kept claim
  claim_shown b kept claim is shown = (
    (λ s.
        let k = zip_get_left (books.IsShown known) (traces_kept_on b.days claim.day) (traces_on claim.day kept) claim.index s.trace (day_shown b kept is shown claim.day) s.stands in
        let r = relation_told claim.matter s.relation s.numbered in
        record {
          trace = k.0;
          stands = k.1;
          request = sym k.2.request ∙ s.request;
          refutes = (refutes_alike known laws claim.matter r.m r.n r.numbers r.differ s.trace k.0 k.2).0 (subst (λ (x : Relation). Refutes x s.trace) (sym r.is) s.refutes);
        }),
    (λ s.
        let t = zip_get_right (books.IsShown known) (traces_kept_on b.days claim.day) (traces_on claim.day kept) claim.index s.trace (day_shown b kept is shown claim.day) s.stands in
        let r = refuted_numbers known laws t.0 s.trace t.2 claim.matter s.refutes in
        record {
          relation = relation_between claim.matter r.0 r.1;
          numbered = relation_found claim.matter r.0 r.1 r.2 r.3;
          trace = t.0;
          stands = t.1;
          request = t.2.request ∙ s.request;
          refutes = (refutes_alike known laws claim.matter r.0 r.1 r.2 r.3 t.0 s.trace t.2).1 s.refutes;
        }),
  )
