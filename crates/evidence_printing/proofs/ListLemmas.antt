-- Lists that a loop makes, one element at a time.
use Rattle.std.proofs.Common.{◌≡◌, ◌↔◌, ℕ, ◌+◌, ◌<◌, ◌≤◌, Bool, true, false, Some, List, [], ◌∷◌, ◌++◌, length, map, get_or, take, filter, slice_get, nat_lt, refl, sym, ap, ◌∙◌, arith, Ordering}
use Rattle.std.specs.Option.{option_map}
use Rattle.std.specs.declared.cmp.Ordering.TheVariants.{Less}
use Rattle.std.proofs.lemmas.Bool.{cond-false, cond-true, lt-ltb}
use Rattle.std.proofs.lemmas.Bool.Decides.{nat_tests}
use Rattle.std.proofs.lemmas.List.{append-nil, append_assoc, length-take-le, map-append, take_more}
use Rattle.std.proofs.lemmas.List.Elements.{filter_more}
use Rattle.std.proofs.lemmas.List.Kept.{AllPairs-filter}
use Rattle.std.proofs.lemmas.Option.{get_or_from_slice_get}
use Rattle.certificate_rows.proofs.ElementLemmas.{Contains-kept, kept_Contains}
use Rattle.day_partitions.specs.Books.{KeptDay}
use Rattle.evidence_text.specs.Naming.{trace_fields}
use Rattle.evidence_text.specs.declared.naming.TracePlace.{TracePlace}
use Rattle.trace_types.specs.Listing.{ListsExactly}
use Rattle.trace_types.specs.declared.named_trace.NamedTrace.{NamedTrace}
use Rattle.trace_types.proofs.ElementLemmas.{at_index, flat_more}
use Rattle.trace_types.proofs.TruthLemmas.{some_same}
use Rattle.evidence_printing.specs.inner.Places.{place_of, places_from, places_of}

-- ---- texts by their numbers
module _ {X B : Type 0} (now : B → X) (texts : List X) (none : X) where
  pub lent_more : (numbers : List ℕ) (at : ℕ) (lent : List B) (one : B) → at < length numbers → map now lent ≡ map (λ (n : ℕ). get_or texts n none) (take at numbers) → slice_get texts (get_or numbers at 0) ≡ Some (now one)
      → map now (lent ++ one ∷ []) ≡ map (λ (n : ℕ). get_or texts n none) (take (at + 1) numbers)
  lent_more numbers at lent one lt so_far there =
      map-append now lent (one ∷ [])
      ∙ (ap (λ (l : List X). l ++ now one ∷ []) so_far
      ∙ (ap (λ (x : X). map (λ (n : ℕ). get_or texts n none) (take at numbers) ++ x ∷ []) (sym (get_or_from_slice_get texts (get_or numbers at 0) (now one) none there))
      ∙ (sym (map-append (λ (n : ℕ). get_or texts n none) (take at numbers) (get_or numbers at 0 ∷ []))
      ∙ ap (map (λ (n : ℕ). get_or texts n none)) (sym (take_more numbers at 0 lt)))))

-- ---- places
from_append : (index : ℕ) (ts us : List NamedTrace) → places_from index (ts ++ us) ≡ places_from index ts ++ places_from (index + length ts) us
from_append index [] us = ap (λ (n : ℕ). places_from n us) (let e : index ≡ index + 0 = omega arith in e)
from_append index (t ∷ ts) us = ap (λ l. place_of index t ∷ l) (from_append (index + 1) ts us ∙ ap (λ (n : ℕ). places_from (index + 1) ts ++ places_from n us) (let e : (index + 1) + length ts ≡ index + length (t ∷ ts) = omega arith in e))

pub places_more : (old : List (List (List ℕ))) (ts : List NamedTrace) (index : ℕ) (t : NamedTrace) (places : List TracePlace) (one : TracePlace) → index < length ts → t ≡ get_or ts index t → map trace_fields places ≡ old ++ places_from 0 (take index ts) → trace_fields one ≡ place_of index t
    → map trace_fields (places ++ one ∷ []) ≡ old ++ places_from 0 (take (index + 1) ts)
places_more old ts index t places one lt here so_far is =
    let taken = length-take-le index ts (let l : index ≤ length ts = omega (arith, lt) in l) in
    map-append trace_fields places (one ∷ [])
    ∙ (ap (λ l. l ++ trace_fields one ∷ []) so_far
    ∙ (append_assoc old (places_from 0 (take index ts)) (trace_fields one ∷ [])
    ∙ ap (λ l. old ++ l)
    (ap (λ f. places_from 0 (take index ts) ++ f ∷ []) (is ∙ ap (place_of index) here)
    ∙ (ap (λ (n : ℕ). places_from 0 (take index ts) ++ place_of n (get_or ts index t) ∷ []) (let e : index ≡ 0 + length (take index ts) = omega (arith, taken) in e)
    ∙ (sym (from_append 0 (take index ts) (get_or ts index t ∷ []))
    ∙ ap (places_from 0) (sym (take_more ts index t lt)))))))

-- one more day
pub days_placed : (days : List KeptDay) (place : ℕ) (k : KeptDay) (places : List (List (List ℕ))) (more : List (List (List ℕ))) → place < length days → k ≡ get_or days place k → places ≡ places_of (take place days) → more ≡ places ++ places_from 0 k.traces → more ≡ places_of (take (place + 1) days)
days_placed days place k places more lt is so_far joined =
    joined ∙ (ap (λ l. l ++ places_from 0 k.traces) so_far ∙ sym (flat_more (λ (d : KeptDay). places_from 0 d.traces) days place k lt is))

-- the day at a place
pub day_there : (days : List KeptDay) (place : ℕ) (items : List NamedTrace) → place < length days → option_map (λ (k : KeptDay). k.traces) (slice_get days place) ≡ Some items → (k : KeptDay) × (k ≡ get_or days place k) × (k.traces ≡ items)
day_there days place items lt e =
    let x = at_index days place lt in
    (x.0, sym (get_or_from_slice_get days place x.0 x.0 x.1), some_same x.0.traces items (sym (ap (option_map (λ (k : KeptDay). k.traces)) x.1) ∙ e))

-- ---- numbers that are kept
pub some_told : (n : ℕ) → (nat_lt 0 n ≡ true) ↔ (0 < n)
some_told n = ((λ e. grind (arith, nat_tests)), (λ l. lt-ltb 0 n l))

-- one more number
pub kept_more : (p : ℕ → Bool) (numbers : List ℕ) (at : ℕ) (kept : List ℕ) → at < length numbers → kept ≡ filter p (take at numbers) → p (get_or numbers at 0) ≡ true → kept ++ get_or numbers at 0 ∷ [] ≡ filter p (take (at + 1) numbers)
kept_more p numbers at kept lt so_far is =
    ap (λ (l : List ℕ). l ++ get_or numbers at 0 ∷ []) so_far
    ∙ (ap (λ (l : List ℕ). filter p (take at numbers) ++ l) (sym (cond-true (p (get_or numbers at 0)) (get_or numbers at 0 ∷ []) [] is)) ∙ sym (filter_more p numbers at 0 lt))

pub kept_same : (p : ℕ → Bool) (numbers : List ℕ) (at : ℕ) (kept : List ℕ) → at < length numbers → kept ≡ filter p (take at numbers) → p (get_or numbers at 0) ≡ false → kept ≡ filter p (take (at + 1) numbers)
kept_same p numbers at kept lt so_far is =
    so_far
    ∙ (sym (append-nil (filter p (take at numbers)))
    ∙ (ap (λ (l : List ℕ). filter p (take at numbers) ++ l) (sym (cond-false (p (get_or numbers at 0)) (get_or numbers at 0 ∷ []) [] is)) ∙ sym (filter_more p numbers at 0 lt)))

-- those of listed numbers that pass a test are listed
pub listed_kept : (cmp : ℕ → ℕ → Ordering) (P Q : ℕ → Type 0) (p : ℕ → Bool) (numbers : List ℕ) → ((n : ℕ) → (p n ≡ true) ↔ Q n) → ListsExactly cmp P numbers → ListsExactly cmp (λ n. P n × Q n) (filter p numbers)
listed_kept cmp P Q p numbers tells are = record {
  rising = AllPairs-filter (λ (m n : ℕ). cmp m n ≡ Less) p numbers are.rising;
  exactly = λ n. (
    (λ c. let k = kept_Contains p numbers n c in ((are.exactly n).0 k.0, (tells n).0 k.1)),
    (λ h. Contains-kept p numbers n ((are.exactly n).1 h.0) ((tells n).1 h.1)),
  );
}
