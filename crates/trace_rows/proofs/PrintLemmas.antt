-- Rows and parts that are printed one after another, by the laws of calls.
use Rattle.std.proofs.Common.{◌≡◌, ℕ, ◌+◌, ◌≤◌, ◌<◌, List, [], ◌∷◌, ◌++◌, length, take, drop, get_or, map, Option, refl, sym, ◌∙◌, ap, subst}
use Rattle.std.specs.Prelude.{Result, Ok, Err}
use Rattle.std.specs.List.{AllZip, flat_map}
use Rattle.std.proofs.lemmas.List.{map-append, take_all, take_more, drop_more, take-append-drop, flat_map_more}
use Rattle.std.proofs.lemmas.Grind.{flat_map-append}
use Rattle.std.proofs.lemmas.Slice.Zip.{AllZip-long}
use Rattle.std.proofs.lemmas.Option.{slice_get-get_or, get_or_from_slice_get}
use Rattle.book_laws.specs.Shown.{AreShown, IsShown}
use Rattle.session_rules.specs.KeptTraces.{Kept}
use Rattle.session_rules.specs.Parts.{Header, IsPart, Part, traces_row}
use Rattle.text_rows.specs.Printing.{PrintsText}
use Rattle.text_rows.specs.PartsFollow.{CallPrintsOnePart, NoPartIsBegun, NoPartIsPrinted, PartCallGoesOn, PartCallsFollow}
use Rattle.text_rows.specs.TextsFollow.{CallGoesOn, CallsFollow, NothingIsPrinted}
use Rattle.text_rows.specs.declared.print_fault.PrintFault.{PrintFault}
use Rattle.text_rows.specs.declared.print_fault.PrintFault.TheVariants.{Memory}
use Rattle.trace_types.specs.declared.named_trace.NamedTrace.{NamedTrace}
use Rattle.kept_books.specs.KeptBooks.{traces_in}
use Rattle.judged_books.specs.JudgedBooks.{IsJudgedOf, JudgedState}
use Rattle.digest_facts.specs.Digests.{Digest}
use Rattle.trace_types.specs.Segments.{SegmentName}
use Rattle.trace_rows.specs.inner.ShownTraces.{PrintsShown, PrintsWhole, TracePart}

-- nothing went wrong
abbrev pub done : Result (Unit {0}) PrintFault
done = Ok tt

-- what is read at an index within
pub read_at : (xs : List ℕ) (i : ℕ) → i < length xs → get_or xs i 0 ≡ get_or xs i (get_or xs i 0)
read_at xs i lt = sym (get_or_from_slice_get xs i (get_or xs i 0) (get_or xs i 0) (slice_get-get_or xs i 0 lt))

module _ {S : Type 0} (written : S → Option (List ℕ)) (faults : S → ℕ) where
  pub rows_none : (row : ℕ → List ℕ) (old : S) (held : List ℕ) → NothingIsPrinted → PrintsText written faults done old old held held (flat_map row [])
  rows_none row old held none = record { all = none (written old) held; prefix = tt; counted = refl }

  -- one more of the rows
  pub rows_next : (row : ℕ → List ℕ) (xs : List ℕ) (i x : ℕ) (old mid new : S) (held between holds : List ℕ) → CallsFollow written faults (Unit {0}) → i < length xs → x ≡ get_or xs i x
      → PrintsText written faults done old mid held between (flat_map row (take i xs)) → PrintsText written faults done mid new between holds (row x) → PrintsText written faults done old new held holds (flat_map row (take (i + 1) xs))
  rows_next row xs i x old mid new held between holds follow lt is p q =
      let more : flat_map row (take i xs) ++ row x ≡ flat_map row (take (i + 1) xs) = flat_map_more row [] (take i xs) x ∙ ap (flat_map row) (sym (take_more xs i x lt ∙ ap (λ y. take i xs ++ y ∷ []) (sym is))) in
      rw (← more) (follow tt done old mid new held between holds (flat_map row (take i xs)) (row x) p q)

  pub rows_all : (row : ℕ → List ℕ) (xs : List ℕ) (i : ℕ) (old new : S) (held holds : List ℕ) → length xs ≤ i → PrintsText written faults done old new held holds (flat_map row (take i xs)) → PrintsText written faults done old new held holds (flat_map row xs)
  rows_all row xs i old new held holds le p = rw (← take_all i xs le) p

  -- a row that was not printed to its end
  pub rows_cut : (row : ℕ → List ℕ) (xs : List ℕ) (i x : ℕ) (e : PrintFault) (old mid new : S) (held between holds : List ℕ) → CallsFollow written faults (Unit {0}) → CallGoesOn written faults (Unit {0}) → i < length xs → x ≡ get_or xs i x
      → PrintsText written faults done old mid held between (flat_map row (take i xs)) → PrintsText {T = Unit {0}} written faults (Err e) mid new between holds (row x) → PrintsText {T = Unit {0}} written faults (Err e) old new held holds (flat_map row xs)
  rows_cut row xs i x e old mid new held between holds follow goes_on lt is p q =
      let rest : flat_map row (drop i xs) ≡ row x ++ flat_map row (drop (i + 1) xs) = ap (flat_map row) (drop_more xs i x lt) ∙ ap (λ (y : ℕ). row y ++ flat_map row (drop (i + 1) xs)) (sym is) in
      let all : flat_map row (take i xs) ++ (row x ++ flat_map row (drop (i + 1) xs)) ≡ flat_map row xs =
      ap (λ t. flat_map row (take i xs) ++ t) (sym rest) ∙ sym (flat_map-append row (take i xs) (drop i xs)) ∙ ap (flat_map row) (take-append-drop i xs) in
      rw (← all) (follow tt (Err e) old mid new held between holds (flat_map row (take i xs)) (row x ++ flat_map row (drop (i + 1) xs)) p (goes_on e mid new between holds holds (row x) (flat_map row (drop (i + 1) xs)) q))

-- a list that is alike two lists, one after the other, is of two such
pub zip_split : {A B : Type 0} (R : A → B → Type 0) (xs ys : List A) (zs : List B) → AllZip R (xs ++ ys) zs → (us : List B) × (vs : List B) × (zs ≡ us ++ vs) × AllZip R xs us × AllZip R ys vs
zip_split R [] ys zs h = ([], zs, refl, tt, h)
zip_split R (x ∷ xs) ys [] h = absurd h
zip_split R (x ∷ xs) ys (z ∷ zs) h =
    let s = zip_split R xs ys zs h.1 in
    (z ∷ s.0, s.1, ap (λ l. z ∷ l) s.2, (h.0, s.3), s.4)

module _ {S : Type 0} (written : S → Option (List ℕ)) (faults : S → ℕ) (b : JudgedState) (part : TracePart) where
  pub shown_none : (old : S) (held : List ℕ) → NoPartIsPrinted IsPart → PrintsShown written faults done old old b part [] held held
  shown_none old held none given kept shown [] h = record { all = none (written old) held; prefix = tt; counted = refl }
  shown_none old held none given kept shown (k ∷ ks) h = absurd h

  -- the parts of some traces and then those of others, with any result
  pub shown_follow : (result : Result (Unit {0}) PrintFault) (old mid new : S) (xs ys : List NamedTrace) (held between holds : List ℕ) → PartCallsFollow written faults IsPart (Unit {0})
      → PrintsShown written faults done old mid b part xs held between → PrintsShown written faults result mid new b part ys between holds → PrintsShown written faults result old new b part (xs ++ ys) held holds
  shown_follow result old mid new xs ys held between holds follow p q given kept shown some h =
      let s = zip_split (IsShown b.book.known) xs ys some h in
      let both : map (part given kept) s.0 ++ map (part given kept) s.1 ≡ map (part given kept) some = sym (ap (map (part given kept)) s.2 ∙ map-append (part given kept) s.0 s.1) in
      rw (← both) (follow tt result old mid new (map (part given kept) s.0) (map (part given kept) s.1) held between holds (p given kept shown s.0 s.3) (q given kept shown s.1 s.4))

  -- parts that were not printed to their end are not with others
  pub shown_goes_on : (e : PrintFault) (old new : S) (xs ys : List NamedTrace) (held between holds : List ℕ) → PartCallGoesOn written faults IsPart (Unit {0})
      → PrintsShown {T = Unit {0}} written faults (Err e) old new b part xs held between → PrintsShown {T = Unit {0}} written faults (Err e) old new b part (xs ++ ys) held holds
  shown_goes_on e old new xs ys held between holds goes_on p given kept shown some h =
      let s = zip_split (IsShown b.book.known) xs ys some h in
      let both : map (part given kept) s.0 ++ map (part given kept) s.1 ≡ map (part given kept) some = sym (ap (map (part given kept)) s.2 ∙ map-append (part given kept) s.0 s.1) in
      rw (← both) (goes_on e old new (map (part given kept) s.0) (map (part given kept) s.1) held between holds (p given kept shown s.0 s.3))

  -- a call that ran out of memory before it printed
  pub shown_unbegun : (old : S) (xs : List NamedTrace) (held holds : List ℕ) → NoPartIsBegun IsPart → PrintsShown {T = Unit {0}} written faults (Err Memory) old old b part xs held holds
  shown_unbegun old xs held holds unbegun given kept shown some h = record { all = tt; prefix = unbegun (map (part given kept) some) (written old) held; counted = refl }

  -- a call that printed a text of the part of one trace
  pub shown_text : (result : Result (Unit {0}) PrintFault) (old new : S) (t : NamedTrace) (text held holds : List ℕ) → CallPrintsOnePart written faults IsPart (Unit {0})
      → ((given : Digest SegmentName (List ℕ)) (kept : List Kept) (k : Kept) → IsJudgedOf b given kept → IsShown b.book.known t k → IsPart (part given kept k) text) → PrintsText written faults result old new held holds text → PrintsShown written faults result old new b part (t ∷ []) held holds
  shown_text result old new t text held holds one is p given kept shown [] h = absurd h
  shown_text result old new t text held holds one is p given kept shown (k ∷ []) h = one (part given kept k) text result old new held holds (is given kept k shown h.0) p
  shown_text result old new t text held holds one is p given kept shown (k ∷ (l ∷ ks)) h = absurd h.1

  -- in a loop over lists of traces: one more, all, and one that was not printed to its end
  pub lists_next : {X : Type 0} (list : X → List NamedTrace) (xs : List X) (i : ℕ) (x : X) (old mid new : S) (held between holds : List ℕ) → PartCallsFollow written faults IsPart (Unit {0}) → i < length xs → x ≡ get_or xs i x
      → PrintsShown written faults done old mid b part (flat_map list (take i xs)) held between → PrintsShown written faults done mid new b part (list x) between holds → PrintsShown written faults done old new b part (flat_map list (take (i + 1) xs)) held holds
  lists_next {X} list xs i x old mid new held between holds follow lt is p q =
      let more : flat_map list (take i xs) ++ list x ≡ flat_map list (take (i + 1) xs) = flat_map_more list [] (take i xs) x ∙ ap (flat_map list) (sym (take_more xs i x lt ∙ ap (λ y. take i xs ++ y ∷ []) (sym is))) in
      subst (λ ts. PrintsShown written faults done old new b part ts held holds) more (shown_follow done old mid new (flat_map list (take i xs)) (list x) held between holds follow p q)

  pub lists_all : {X : Type 0} (list : X → List NamedTrace) (xs : List X) (i : ℕ) (old new : S) (held holds : List ℕ) → length xs ≤ i → PrintsShown written faults done old new b part (flat_map list (take i xs)) held holds → PrintsShown written faults done old new b part (flat_map list xs) held holds
  lists_all list xs i old new held holds le p = subst (λ ys. PrintsShown written faults done old new b part (flat_map list ys) held holds) (take_all i xs le) p

  pub lists_cut : {X : Type 0} (list : X → List NamedTrace) (xs : List X) (i : ℕ) (x : X) (e : PrintFault) (old mid new : S) (held between holds : List ℕ) → PartCallsFollow written faults IsPart (Unit {0}) → PartCallGoesOn written faults IsPart (Unit {0}) → i < length xs → x ≡ get_or xs i x
      → PrintsShown written faults done old mid b part (flat_map list (take i xs)) held between → PrintsShown {T = Unit {0}} written faults (Err e) mid new b part (list x) between holds → PrintsShown {T = Unit {0}} written faults (Err e) old new b part (flat_map list xs) held holds
  lists_cut {X} list xs i x e old mid new held between holds follow goes_on lt is p q =
      let rest : flat_map list (drop i xs) ≡ list x ++ flat_map list (drop (i + 1) xs) = ap (flat_map list) (drop_more xs i x lt) ∙ ap (λ (y : X). list y ++ flat_map list (drop (i + 1) xs)) (sym is) in
      let all : flat_map list (take i xs) ++ (list x ++ flat_map list (drop (i + 1) xs)) ≡ flat_map list xs =
      ap (λ t. flat_map list (take i xs) ++ t) (sym rest) ∙ sym (flat_map-append list (take i xs) (drop i xs)) ∙ ap (flat_map list) (take-append-drop i xs) in
      subst (λ ts. PrintsShown {T = Unit {0}} written faults (Err e) old new b part ts held holds) all
      (shown_follow (Err e) old mid new (flat_map list (take i xs)) (list x ++ flat_map list (drop (i + 1) xs)) held between holds follow p
      (shown_goes_on e mid new (list x) (flat_map list (drop (i + 1) xs)) between holds holds goes_on q))

  -- a header and then the parts of all traces, or a header that was not printed to its end
  pub whole_follow : (word : List ℕ) (result : Result (Unit {0}) PrintFault) (old mid new : S) (held between holds : List ℕ) → PartCallsFollow written faults IsPart (Unit {0}) → CallPrintsOnePart written faults IsPart (Unit {0})
      → PrintsText written faults done old mid held between (traces_row word (length (traces_in b.book))) → PrintsShown written faults result mid new b part (traces_in b.book) between holds → PrintsWhole written faults result old new b word part held holds
  whole_follow word result old mid new held between holds follow one p q given kept shown =
      follow tt result old mid new (Header word (length kept) ∷ []) (map (part given kept) kept) held between holds
      (one (Header word (length kept)) (traces_row word (length (traces_in b.book))) done old mid held between (ap (traces_row word) (sym (AllZip-long (IsShown b.book.known) (traces_in b.book) kept shown.shown))) p) (q given kept shown kept shown.shown)

  pub whole_cut : (word : List ℕ) (e : PrintFault) (old new : S) (held between holds : List ℕ) → PartCallGoesOn written faults IsPart (Unit {0}) → CallPrintsOnePart written faults IsPart (Unit {0})
      → PrintsText {T = Unit {0}} written faults (Err e) old new held between (traces_row word (length (traces_in b.book))) → PrintsWhole {T = Unit {0}} written faults (Err e) old new b word part held holds
  whole_cut word e old new held between holds goes_on one p given kept shown =
      goes_on e old new (Header word (length kept) ∷ []) (map (part given kept) kept) held between holds
      (one (Header word (length kept)) (traces_row word (length (traces_in b.book))) (Err e) old new held between (ap (traces_row word) (sym (AllZip-long (IsShown b.book.known) (traces_in b.book) kept shown.shown))) p)
