-- Texts of parts of traces that are made in memory before they are printed.
use Rattle.std.specs.Prelude.{Contains, MatchResult}
use Rattle.std.proofs.Common.{◌+◌, ◌-◌, IfOk, ◌≡◌, ℕ, List, [], ◌∷◌, ◌++◌, length, map, take, drop, Option, Some, Result, Ok, Err, refl, sym, ◌∙◌, ap, subst, arith}
use Rattle.std.specs.Borrow.{Bor}
use Rattle.std.specs.Io.KnownBytes.{append_known}
use Rattle.std.specs.List.{All, AllZip}
use Rattle.std.specs.Option.{unwrap_or}
use Rattle.std.specs.declared.vec.Vec.{Vec}
use Rattle.std.proofs.Math.Seq.{drop-append_seam, take-add}
use Rattle.std.proofs.lemmas.Grind.{flat_map-append}
use Rattle.std.proofs.lemmas.List.{append-nil, map-append, take-append-le, take_all}
use Rattle.std.proofs.lemmas.List.Elements.{All-cons, All-drop, All-nil, All-take}
use Rattle.book_laws.specs.Shown.{IsShown}
use Rattle.session_rules.specs.KeptTraces.{Kept}
use Rattle.session_rules.specs.Parts.{IsPart, Part}
use Rattle.text_rows.specs.PartsFollow.{AreTextsOfBoth, FlushEndsParts}
use Rattle.text_rows.specs.Printing.{PrintsText}
use Rattle.text_rows.specs.TextSinks.{all_bytes}
use Rattle.text_rows.specs.TextsOfParts.{AreTexts}
use Rattle.text_rows.specs.declared.print_fault.PrintFault.{PrintFault}
use Rattle.trace_types.specs.declared.named_trace.NamedTrace.{NamedTrace}
use Rattle.trace_types.proofs.ZipLemmas.{collected}
use Rattle.trace_rows.specs.declared.chunks.Piece.{Piece}
use Rattle.trace_rows.specs.inner.Pieces.{traces_of_pieces}
use Rattle.judged_books.specs.JudgedBooks.{JudgedState}
use Rattle.trace_rows.specs.inner.ShownTraces.{IsShownText, PrintsShown, TracePart}
use Rattle.trace_rows.proofs.ChunkLemmas.{lent}
use Rattle.trace_rows.proofs.PrintLemmas.{done, zip_split}

-- what all items of two lists have, those of each have
All_parts : {X : Type 0} (P : X → Type 0) (xs ys : List X) → All P (xs ++ ys) → All P xs × All P ys
All_parts P xs ys all = (
  subst (All P) (take-append-le (length xs) xs ys (omega arith) ∙ take_all (length xs) xs (omega arith)) (All-take P (length xs) (xs ++ ys) all),
  subst (All P) (drop-append_seam xs ys) (All-drop P (length xs) (xs ++ ys) all),
)

-- what all traces have, all traces of each piece have
pub pieces_All : (P : Bor NamedTrace → Type 0) (pieces : List Piece) → All P (traces_of_pieces pieces) → All (λ (p : Piece). All P p.traces.now) pieces
pieces_All P [] all = All-nil (λ (p : Piece). All P p.traces.now)
pieces_All P (p ∷ ps) all =
    All-cons (λ (q : Piece). All P q.traces.now) p ps (All_parts P p.traces.now (traces_of_pieces ps) all).0 (pieces_All P ps (All_parts P p.traces.now (traces_of_pieces ps) all).1)

-- one more piece
pub pieces_more : (ps : List Piece) (p : Piece) (ts : List (Bor NamedTrace)) (i n : ℕ) → traces_of_pieces ps ≡ take i ts → p.traces.now ≡ take (i + n - i) (drop i ts) → traces_of_pieces (ps ++ p ∷ []) ≡ take (i + n) ts
pieces_more ps p ts i n so_far next =
    let many : i + n - i ≡ n = omega arith in
    flat_map-append (λ (q : Piece). q.traces.now) ps (p ∷ []) ∙ ap (λ l. traces_of_pieces ps ++ l) (append-nil p.traces.now)
    ∙ (ap (λ l. l ++ p.traces.now) so_far ∙ ap (λ l. take i ts ++ l) (next ∙ ap (λ m. take m (drop i ts)) many)) ∙ sym (take-add i n ts)

module _ (b : JudgedState) (part : TracePart) where
  -- a text of some traces and then one of others
  shown_both : (xs ys : List NamedTrace) (s t : List ℕ) → AreTextsOfBoth IsPart → IsShownText b part xs s → IsShownText b part ys t → IsShownText b part (xs ++ ys) (s ++ t)
  shown_both xs ys s t both p q given kept shown some h =
      let z = zip_split (IsShown b.book.known) xs ys some h in
      let parts : map (part given kept) z.0 ++ map (part given kept) z.1 ≡ map (part given kept) some = sym (ap (map (part given kept)) z.2 ∙ map-append (part given kept) z.0 z.1) in
      subst (λ (ps : List Part). AreTexts IsPart ps (s ++ t)) parts (both (map (part given kept) z.0) (map (part given kept) z.1) s t (p given kept shown z.0 z.3) (q given kept shown z.1 z.4))

  -- no trace has the empty text
  shown_empty : IsShownText b part [] []
  shown_empty given kept shown [] h = refl
  shown_empty given kept shown (k ∷ ks) h = absurd h

  -- texts of pieces of traces, one after another
  shown_all : {A : Type 0} (pieces : List Piece) (made : List (Vec ℕ A)) → AreTextsOfBoth IsPart → AllZip (λ (p : Piece) (v : Vec ℕ A). IsShownText b part (lent p.traces.now) v.items) pieces made
      → IsShownText b part (lent (traces_of_pieces pieces)) (all_bytes made)
  shown_all [] [] both all = shown_empty
  shown_all [] (v ∷ vs) both all = absurd all
  shown_all (p ∷ ps) [] both all = absurd all
  shown_all {A} (p ∷ ps) (v ∷ vs) both all =
      subst (λ (ts : List NamedTrace). IsShownText b part ts (all_bytes (v ∷ vs))) (sym (map-append (λ (t : Bor NamedTrace). t.now) p.traces.now (traces_of_pieces ps)))
      (shown_both (lent p.traces.now) (lent (traces_of_pieces ps)) v.items (all_bytes vs) both all.0 (shown_all ps vs both all.1))

  -- the texts that were made of all pieces, where there is no error
  made_shown : {A Z E : Type 0} (pieces : List Piece) (results : List (Result (Vec ℕ A) E)) (r : Result (Vec (Vec ℕ A) Z) E) → AreTextsOfBoth IsPart → AllZip (λ (p : Piece) y. IfOk y (λ v. IsShownText b part (lent p.traces.now) v.items)) pieces results
      → MatchResult r (λ v. (ys : List (Vec ℕ A)) × (results ≡ map Ok ys) × (v.items ≡ ys)) (λ e. Contains results (Err e)) → IfOk r (λ v. IsShownText b part (lent (traces_of_pieces pieces)) (all_bytes v.items))
  made_shown {A} pieces results (Ok v) both all found = shown_all pieces v.items both (collected (λ (p : Piece) (w : Vec ℕ A). IsShownText b part (lent p.traces.now) w.items) pieces results (Ok v) all found)
  made_shown pieces results (Err e) both all found = tt

  -- a text of the parts of traces that is printed is these parts
  text_prints : {S : Type 0} (written : S → Option (List ℕ)) (faults : S → ℕ) (result : Result (Unit {0}) PrintFault) (old new : S) (traces : List NamedTrace) (text held holds : List ℕ)
      → IsShownText b part traces text → PrintsText written faults result old new held holds text → PrintsShown written faults result old new b part traces held holds
  text_prints written faults (Ok x) old new traces text held holds is p given kept shown some h = record {
    all = record { text = text; told = is given kept shown some h; prints = p.all };
    prefix = tt;
    counted = p.counted;
  }
  text_prints written faults (Err e) old new traces text held holds is p given kept shown some h = record {
    all = tt;
    prefix = record {
      first = map (part given kept) some;
      rest = [];
      split = sym (append-nil (map (part given kept) some));
      text = text;
      told = is given kept shown some h;
      prefix = p.prefix;
    };
    counted = p.counted;
  }

  -- what was printed into an empty sink and flushed is a text of the parts
  pub flushed_text : {S : Type 0} (written : S → Option (List ℕ)) (faults : S → ℕ) (old mid : S) (traces : List NamedTrace) (between bytes : List ℕ) → FlushEndsParts IsPart → written old ≡ Some [] → Some bytes ≡ append_known (written mid) between
      → PrintsShown written faults done old mid b part traces [] between → IsShownText b part traces bytes
  flushed_text written faults old mid traces between bytes ends empty flushed p given kept shown some h =
      let f = ends (map (part given kept) some) (written old) (written mid) (Some bytes) between (p given kept shown some h).all flushed in
      subst (AreTexts IsPart (map (part given kept) some)) (ap (λ (o : Option (List ℕ)). unwrap_or o []) (sym (f.2 ∙ ap (λ w. append_known w f.0) empty))) f.1

  -- what is printed of the texts that were made of all traces
  pub made_prints : {S A : Type 0} (written : S → Option (List ℕ)) (faults : S → ℕ) (result : Result (Unit {0}) PrintFault) (old new : S) (traces : List (Bor NamedTrace)) (pieces cut : List Piece) (made lent_made : List (Vec ℕ A)) (held holds : List ℕ)
      → cut ≡ pieces → traces_of_pieces pieces ≡ traces → lent_made ≡ made → IsShownText b part (lent (traces_of_pieces cut)) (all_bytes made) → PrintsText written faults result old new held holds (all_bytes lent_made) → PrintsShown written faults result old new b part (lent traces) held holds
  made_prints {A = A} written faults result old new traces pieces cut made lent_made held holds of_pieces are of_made is p =
      text_prints written faults result old new (lent traces) (all_bytes lent_made) held holds
      (subst (λ (ts : List (Bor NamedTrace)). IsShownText b part (lent ts) (all_bytes lent_made)) (ap traces_of_pieces of_pieces ∙ are)
      (subst (λ (vs : List (Vec ℕ A)). IsShownText b part (lent (traces_of_pieces cut)) (all_bytes vs)) (sym of_made) is)) p

-- the texts that were made of all pieces, for a book and a kind of texts that a closure holds
pub made_all : {A Z E K : Type 0} (part_of : K → TracePart) (b held_b : JudgedState) (k held_k : K) (pieces : List Piece) (results : List (Result (Vec ℕ A) E)) (r : Result (Vec (Vec ℕ A) Z) E)
    → held_b ≡ b → held_k ≡ k → AreTextsOfBoth IsPart → AllZip (λ (p : Piece) y. IfOk y (λ v. IsShownText held_b (part_of held_k) (lent p.traces.now) v.items)) pieces results
    → MatchResult r (λ v. (ys : List (Vec ℕ A)) × (results ≡ map Ok ys) × (v.items ≡ ys)) (λ e. Contains results (Err e)) → IfOk r (λ v. IsShownText b (part_of k) (lent (traces_of_pieces pieces)) (all_bytes v.items))
made_all {A} {Z} {E} {K} part_of b held_b k held_k pieces results r is_b is_k both all found =
    made_shown b (part_of k) pieces results r both
    (subst (λ (x : JudgedState). AllZip (λ (p : Piece) (y : Result (Vec ℕ A) E). IfOk y (λ v. IsShownText x (part_of k) (lent p.traces.now) v.items)) pieces results) is_b
    (subst (λ (x : K). AllZip (λ (p : Piece) (y : Result (Vec ℕ A) E). IfOk y (λ v. IsShownText held_b (part_of x) (lent p.traces.now) v.items)) pieces results) is_k all)) found
