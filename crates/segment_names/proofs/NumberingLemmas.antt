-- One segment more is numbered.
use Rattle.std.proofs.Common.{◌≡◌, ℕ, ◌+◌, ◌<◌, ◌≤◌, List, [], ◌∷◌, ◌++◌, length, get_or, slice_get, Option, Some, None, Bool, true, false, nat_eq, refl, sym, ap, ◌∙◌, subst, ⊎_elim, true≢false, append-nil, arith}
use Rattle.std.proofs.lemmas.Bool.{cases_order, eq-eqb, ne_eqb}
use Rattle.std.proofs.lemmas.List.{get_or_append_left, get_or_default, length-append}
use Rattle.std.proofs.lemmas.List.Elements.{filter_map-append}
use Rattle.std.proofs.lemmas.List.Folds.{list_any_at, list_any_none}
use Rattle.std.proofs.lemmas.Option.{get_or_from_slice_get, slice_get_within}
use Rattle.std.proofs.Math.Seq.{get_or-append_seam}
use Rattle.std.specs.List.{list_any, filter_map}
use Rattle.std.specs.Option.{option_to_list}
use Rattle.std.specs.Str.{bytes_eq}
use Rattle.trace_types.specs.declared.named_segment.NamedSegment.{NamedSegment}
use Rattle.trace_types.specs.declared.segment.Segment.{Segment}
use Rattle.trace_types.specs.Firsts.{firsts_of}
use Rattle.trace_types.specs.NamedSegments.{number_of_element}
use Rattle.trace_types.specs.Segments.{name_of}
use Rattle.trace_types.proofs.ComparingLemmas.{text_means, text_own, nat_own, nat_means}
use Rattle.trace_types.proofs.ShortLemmas.{firsts-short}
use Rattle.trace_types.proofs.FirstsLemmas.{with_key, firsts-push}
use Rattle.segment_names.specs.Known.{Known, name_number}
use Rattle.segment_names.specs.Naming.{IsUnknownAt}
use Rattle.event_table.specs.Texts.{AreDifferent}
use Rattle.segment_names.specs.inner.Numbering.{CountsUp, IsElementAt, IsNumbered, NumbersFirst}
use Rattle.segment_names.proofs.FilingLemmas.{still_there}
use Rattle.segment_names.proofs.FirstLemmas.{firsts-same, firsts-there, firsts-new}

-- an element stays where it stands
element_stays : (texts new more : List (List ℕ)) → new ≡ texts ++ more → (number : Option ℕ) (text : Option (List ℕ)) → IsElementAt texts number text → IsElementAt new number text
element_stays texts new more e None None h = h
element_stays texts new more e None (Some t) h = absurd h
element_stays texts new more e (Some n) None h = absurd h
element_stays texts new more e (Some n) (Some t) h = still_there texts new more n t e h

numbered_stays : (known : Known) (texts new more : List (List ℕ)) (s : NamedSegment) (x : Segment) → new ≡ texts ++ more → IsNumbered known texts s x → IsNumbered known new s x
numbered_stays known texts new more s x e n = record { name = n.name; task = n.task; element = element_stays texts new more e s.element x.element n.element; start = n.start; end = n.end }

-- ---- numbers count up

module _ (numbers : List ℕ) (n : ℕ) (counted : CountsUp numbers n) where
  count_there : (m : ℕ) → m < n → list_any (nat_eq m) numbers ≡ true
  count_there m h = let l = counted.count in list_any_at (nat_eq m) numbers m 0 (omega arith) (eq-eqb m (get_or numbers m 0) (sym (counted.each m h)))

  count_new : list_any (nat_eq n) numbers ≡ false
  count_new = list_any_none (nat_eq n) numbers (λ k d h. let l = counted.count in let e = counted.each k (omega arith) in let f : get_or numbers k d ≡ get_or numbers k 0 = get_or_default numbers k d 0 h in
      ne_eqb n (get_or numbers k d) (λ s. omega arith))

  count_more : CountsUp (numbers ++ n ∷ []) (n + 1)
  count_more = let l = counted.count in record {
    count = length-append numbers (n ∷ []) ∙ omega arith;
    each = λ k h. ⊎_elim
        (λ (e : k ≡ n). let a : k ≡ length numbers = omega arith in ap (λ (i : ℕ). get_or (numbers ++ n ∷ []) i 0) a ∙ get_or-append_seam numbers n [] 0 ∙ sym e)
        (⊎_elim (λ (h' : k < n). get_or_append_left numbers (n ∷ []) 0 k (omega arith) ∙ counted.each k h') (λ (h' : n < k). absurd (omega arith)))
        (cases_order k n);
  }

-- the numbers of elements count up with one element more
counts_more : (texts new : List (List ℕ)) (all : List ℕ) (number : Option ℕ) (text : Option (List ℕ))
    → AreDifferent texts → new ≡ firsts_of bytes_eq (texts ++ option_to_list text) → IsElementAt new number text
    → CountsUp (firsts_of nat_eq all) (length texts) → CountsUp (firsts_of nat_eq (all ++ option_to_list number)) (length new)
counts_more texts new all None None d e h counted =
    let s : new ≡ texts = e ∙ ap (firsts_of bytes_eq) (append-nil texts) ∙ firsts-same bytes_eq text_means text_own texts d in
    subst (λ (l : List ℕ). CountsUp (firsts_of nat_eq l) (length new)) (sym (append-nil all)) (subst (λ (l : List (List ℕ)). CountsUp (firsts_of nat_eq all) (length l)) (sym s) counted)
counts_more texts new all None (Some t) d e h counted = absurd h
counts_more texts new all (Some n) None d e h counted = absurd h
counts_more texts new all (Some n) (Some t) d e h counted = by (list_any (bytes_eq t) texts) refl
  where
    numbers : List ℕ
    numbers = firsts_of nat_eq all

    pushed : firsts_of nat_eq (all ++ n ∷ []) ≡ with_key nat_eq (firsts_of nat_eq all) n
    pushed = firsts-push nat_eq nat_means nat_own all n

    by : (b : Bool) → list_any (bytes_eq t) texts ≡ b → CountsUp (firsts_of nat_eq (all ++ n ∷ [])) (length new)
    by true a =
        let s : new ≡ texts = e ∙ firsts-there bytes_eq text_means text_own texts t d a in
        let w = slice_get_within texts n t (subst (λ (l : List (List ℕ)). slice_get l n ≡ Some t) s h) in
        let there = count_there (firsts_of nat_eq all) (length texts) counted n w in
        let same : firsts_of nat_eq (all ++ n ∷ []) ≡ firsts_of nat_eq all = pushed ∙ (rw there refl) in
        subst (λ (l : List ℕ). CountsUp l (length new)) (sym same) (subst (λ (l : List (List ℕ)). CountsUp (firsts_of nat_eq all) (length l)) (sym s) counted)
    by false a =
        let s : new ≡ texts ++ t ∷ [] = e ∙ firsts-new bytes_eq text_means text_own texts t d a in
        let at : slice_get (texts ++ t ∷ []) n ≡ Some t = subst (λ (l : List (List ℕ)). slice_get l n ≡ Some t) s h in
        let w = slice_get_within (texts ++ t ∷ []) n t at in
        let long : length (texts ++ t ∷ []) ≡ length texts + 1 = length-append texts (t ∷ []) ∙ omega arith in
        let last : n ≡ length texts = ⊎_elim
        (λ (q : n ≡ length texts). q)
        (⊎_elim
        (λ (q : n < length texts). let g : get_or texts n t ≡ t = sym (get_or_append_left texts (t ∷ []) t n q) ∙ get_or_from_slice_get (texts ++ t ∷ []) n t t at in
        absurd (true≢false (sym (list_any_at (bytes_eq t) texts n t q (subst (λ (y : List ℕ). bytes_eq t y ≡ true) (sym g) (text_own t))) ∙ a)))
        (λ (q : length texts < n). absurd (omega arith)))
        (cases_order n (length texts)) in
        let new_number : list_any (nat_eq n) (firsts_of nat_eq all) ≡ false = subst (λ (m : ℕ). list_any (nat_eq m) (firsts_of nat_eq all) ≡ false) (sym last) (count_new (firsts_of nat_eq all) (length texts) counted) in
        let grown : firsts_of nat_eq (all ++ n ∷ []) ≡ firsts_of nat_eq all ++ length texts ∷ [] = pushed ∙ (rw new_number refl) ∙ ap (λ (m : ℕ). firsts_of nat_eq all ++ m ∷ []) last in
        let size : length new ≡ length texts + 1 = ap length s ∙ long in
        subst (λ (l : List ℕ). CountsUp l (length new)) (sym grown) (subst (λ (m : ℕ). CountsUp (firsts_of nat_eq all ++ length texts ∷ []) m) (sym size) (count_more (firsts_of nat_eq all) (length texts) counted))

elements-single : (s : NamedSegment) → filter_map number_of_element (s ∷ []) ≡ option_to_list s.element
elements-single s = by s.element refl
  where
    by : (o : Option ℕ) → s.element ≡ o → filter_map number_of_element (s ∷ []) ≡ option_to_list s.element
    by None e = rw e refl
    by (Some n) e = rw e refl

-- one segment more
pub numbers_more : (known : Known) (texts new more : List (List ℕ)) (segments : List Segment) (n : ℕ) (named : List NamedSegment) (s : NamedSegment) (x : Segment)
    → NumbersFirst known texts segments n named → new ≡ texts ++ more → AreDifferent new → new ≡ firsts_of bytes_eq (texts ++ option_to_list x.element)
    → IsNumbered known new s x → n < length segments → x ≡ get_or segments n x → NumbersFirst known new segments (n + 1) (named ++ s ∷ [])
numbers_more known texts new more segments n named s x v grown differ keys numbered h at =
    let l = v.long in
    record {
      long = length-append named (s ∷ []) ∙ omega arith;
      each = λ k d e lt. ⊎_elim
          (λ (q : k ≡ n). let a : k ≡ length named = omega arith in
          let gs : get_or (named ++ s ∷ []) k d ≡ s = ap (λ (i : ℕ). get_or (named ++ s ∷ []) i d) a ∙ get_or-append_seam named s [] d in
          let gx : get_or segments k e ≡ x = ap (λ (i : ℕ). get_or segments i e) q ∙ get_or_default segments n e x h ∙ sym at in
          let P : NamedSegment → Segment → Type 0 = λ (u : NamedSegment) (y : Segment). IsNumbered known new u y in
          subst (λ (u : NamedSegment). P u (get_or segments k e)) (sym gs) (subst (λ (y : Segment). P s y) (sym gx) numbered))
          (⊎_elim
          (λ (q : k < n). let gs : get_or (named ++ s ∷ []) k d ≡ get_or named k d = get_or_append_left named (s ∷ []) d k (omega arith) in
          subst (λ (u : NamedSegment). IsNumbered known new u (get_or segments k e)) (sym gs) (numbered_stays known texts new more (get_or named k d) (get_or segments k e) grown (v.each k d e q)))
          (λ (q : n < k). absurd (omega arith)))
          (cases_order k n);
      differ = differ;
      counted = subst (λ (l : List ℕ). CountsUp (firsts_of nat_eq l) (length new)) (sym (filter_map-append number_of_element named (s ∷ []) ∙ ap (λ (l : List ℕ). filter_map number_of_element named ++ l) (elements-single s)))
          (counts_more texts new (filter_map number_of_element named) s.element x.element v.differ keys numbered.element v.counted);
    }

pub is_numbered : (known : Known) (texts : List (List ℕ)) (s : NamedSegment) (x : Segment) (name task : ℕ) (element : Option ℕ)
    → s.name ≡ name → s.task ≡ task → s.element ≡ element → s.start ≡ x.start → s.end ≡ x.end
    → slice_get known.names name ≡ Some (name_of x) → slice_get known.tasks task ≡ Some x.task → IsElementAt texts element x.element → IsNumbered known texts s x
is_numbered known texts s x name task element en et ee es ed n t e = record {
  name = subst (λ (k : ℕ). slice_get known.names k ≡ Some (name_of x)) (sym en) n;
  task = subst (λ (k : ℕ). slice_get known.tasks k ≡ Some x.task) (sym et) t;
  element = subst (λ (o : Option ℕ). IsElementAt texts o x.element) (sym ee) e;
  start = es;
  end = ed;
}

pub known_here : (known : Known) (segments : List Segment) (n : ℕ) (x : Segment) (number : ℕ) → slice_get segments n ≡ Some x → name_number known (name_of x) ≡ Some number → IsUnknownAt known segments n → ⊥
known_here known segments n x number here there u =
    let same : x ≡ u.0 = let e : Some x ≡ Some u.0 = sym here ∙ u.1 in cc in
    let none : name_number known (name_of x) ≡ None = subst (λ (y : Segment). name_number known (name_of y) ≡ None) (sym same) u.2 in
    let e : Some number ≡ None = sym there ∙ none in cc

pub short_keys : (keys new : List (List ℕ)) (text : Option (List ℕ)) (n : ℕ) → new ≡ firsts_of bytes_eq (keys ++ option_to_list text) → length keys ≤ n → length new ≤ n + 1
short_keys keys new text n e h =
    let a = firsts-short bytes_eq (keys ++ option_to_list text) in
    let b = length-append keys (option_to_list text) in
    let c = ap length e in
    let d = one text in
    omega arith
  where
    one : (o : Option (List ℕ)) → length (option_to_list o) ≤ 1
    one None = omega arith
    one (Some t) = omega arith
