-- A map of the numbers of texts, as texts are appended.
use Rattle.std.proofs.Common.{◌≡◌, ℕ, ◌+◌, ◌<◌, Result, Ok, Err, IfOk, OnOk, List, [], ◌∷◌, ◌++◌, length, get_or, slice_get, Some, None, Bool, true, false, cond, if◌then◌else◌, refl, sym, ap, ◌∙◌, subst, ⊎_elim, arith}
use Rattle.std.specs.BTreeMap.{BTreeMap, get, is_at}
use Rattle.std.specs.Cmp.Lexicographic.{bytes_decides, slice_cmp}
use Rattle.std.specs.List.{list_any}
use Rattle.std.specs.Ordering.{is_eq, nat_cmp}
use Rattle.std.specs.Str.{bytes_eq}
use Rattle.std.proofs.lemmas.Bool.{cases_order}
use Rattle.std.proofs.lemmas.Cmp.{nat_cmp_total, nat_list_cmp_total, tied_itself}
use Rattle.std.proofs.lemmas.List.{get_or_append_left, get_or_push, length_push}
use Rattle.std.proofs.lemmas.List.Folds.{list_any_none}
use Rattle.std.proofs.lemmas.Map.Text.{is_eq-slice_cmp}
use Rattle.std.proofs.lemmas.Option.{get_or_from_slice_get, slice_get-get_or, slice_get_read, slice_get_within}
use Rattle.trace_types.proofs.ComparingLemmas.{then_equal}
use Rattle.event_table.specs.Texts.{AreDifferent}
use Rattle.event_table.specs.inner.Growth.{with_text}
use Rattle.event_table.specs.Digests.{digest_of}
use Rattle.event_table.specs.inner.TextNumbers.{IsNumbering, key_cmp, key_of, number_in}
use Rattle.event_table.proofs.TextLemmas.{still_there}

-- texts whose keys are equal are one text
key_exact : (a b : List ℕ) → is_at (key_cmp (key_of a)) (key_of b) ≡ true → a ≡ b
key_exact a b h =
    let tied = (then_equal (nat_cmp (digest_of a) (digest_of b)) (slice_cmp nat_cmp a b) h).1 in
    (bytes_decides a b).0 (sym (is_eq-slice_cmp a b) ∙ ap is_eq tied)

key_same : (a b : List ℕ) → a ≡ b → is_at (key_cmp (key_of a)) (key_of b) ≡ true
key_same a b e = subst (λ (x : List ℕ). is_at (key_cmp (key_of a)) (key_of x) ≡ true) e (rw (tied_itself nat_cmp_total (digest_of a), tied_itself nat_list_cmp_total a) refl)

module _ (texts : List (List ℕ)) (numbers : BTreeMap (ℕ × List ℕ) ℕ) (all : IsNumbering texts numbers) where
  -- a text that the map lacks is none of the texts
  pub not_there : (text : List ℕ) → number_in numbers text ≡ None → list_any (bytes_eq text) texts ≡ false
  not_there text absent = list_any_none (bytes_eq text) texts (λ i d lt. by i d lt (bytes_eq text (get_or texts i d)) refl)
    where
      by : (i : ℕ) (d : List ℕ) → i < length texts → (b : Bool) → bytes_eq text (get_or texts i d) ≡ b → bytes_eq text (get_or texts i d) ≡ false
      by i d lt true e =
          let same : text ≡ get_or texts i d = (bytes_decides text (get_or texts i d)).0 e in
          let found : number_in numbers text ≡ Some i = (all text i).0 (slice_get-get_or texts i d lt ∙ ap Some (sym same)) in
          absurd (cc (found, absent))
      by i d lt false e = e

  pub with_new : (text : List ℕ) → number_in numbers text ≡ None → with_text texts text ≡ texts ++ text ∷ []
  with_new text absent = ap (λ (b : Bool). if b then texts else texts ++ text ∷ []) (not_there text absent)

  -- no text stands twice
  pub all_differ : AreDifferent texts
  all_differ i j d lt within same =
      let first : number_in numbers (get_or texts i d) ≡ Some i = (all (get_or texts i d) i).0 (slice_get-get_or texts i d (omega arith)) in
      let second : number_in numbers (get_or texts j d) ≡ Some j = (all (get_or texts j d) j).0 (slice_get-get_or texts j d within) in
      let one : i ≡ j = cc (first, second, ap (number_in numbers) same) in
      absurd (omega (arith, one, lt))

-- a text more
module _ (texts more : List (List ℕ)) (numbers new : BTreeMap (ℕ × List ℕ) ℕ) (text : List ℕ) (all : IsNumbering texts numbers) (absent : number_in numbers text ≡ None)
    (push : more ≡ texts ++ text ∷ []) (put : (q : ℕ × List ℕ) → get key_cmp new q ≡ cond (is_at (key_cmp (key_of text)) q) (Some (length texts)) (get key_cmp numbers q)) where
  -- what stands before the new text is of the texts
  earlier : (i : ℕ) (other : List ℕ) → i < length texts → slice_get more i ≡ Some other → slice_get texts i ≡ Some other
  earlier i other lt at =
      let here : get_or more i other ≡ other = get_or_from_slice_get more i other other at in
      let kept : get_or more i other ≡ get_or texts i other = ap (λ (xs : List (List ℕ)). get_or xs i other) push ∙ get_or_append_left texts (text ∷ []) other i lt in
      slice_get_read texts (length texts) i other refl lt (sym here ∙ kept)

  -- what stands last is the new text
  last : (i : ℕ) (other : List ℕ) → length texts ≡ i → slice_get more i ≡ Some other → text ≡ other
  last i other e at = sym (ap (λ (xs : List (List ℕ)). get_or xs i other) push ∙ get_or_push texts text other i e) ∙ get_or_from_slice_get more i other other at

  long : length more ≡ length texts + 1
  long = ap (λ (xs : List (List ℕ)). length xs) push ∙ length_push texts text

  there : (other : List ℕ) (i : ℕ) (b : Bool) → is_at (key_cmp (key_of text)) (key_of other) ≡ b → slice_get more i ≡ Some other → cond b (Some (length texts)) (number_in numbers other) ≡ Some i
  there other i b same at =
      let within : i < length more = slice_get_within more i other at in
      let grown = long in ⊎_elim
      (λ (e : length texts ≡ i). new_one b same e)
      (⊎_elim (λ (lt : length texts < i). absurd (omega arith)) (λ (lt : i < length texts). old_one b same lt))
      (cases_order (length texts) i)
    where
      new_one : (b : Bool) → is_at (key_cmp (key_of text)) (key_of other) ≡ b → length texts ≡ i → cond b (Some (length texts)) (number_in numbers other) ≡ Some i
      new_one true same e = ap Some e
      new_one false same e = absurd (cc (key_same text other (last i other e at), same))

      old_one : (b : Bool) → is_at (key_cmp (key_of text)) (key_of other) ≡ b → i < length texts → cond b (Some (length texts)) (number_in numbers other) ≡ Some i
      old_one true same lt =
          let found : number_in numbers other ≡ Some i = (all other i).0 (earlier i other lt at) in
          let none : number_in numbers other ≡ None = subst (λ (x : List ℕ). number_in numbers x ≡ None) (key_exact text other same) absent in
          absurd (cc (found, none))
      old_one false same lt = (all other i).0 (earlier i other lt at)

  back : (other : List ℕ) (i : ℕ) (b : Bool) → is_at (key_cmp (key_of text)) (key_of other) ≡ b → cond b (Some (length texts)) (number_in numbers other) ≡ Some i → slice_get more i ≡ Some other
  back other i true same found =
      let one : text ≡ other = key_exact text other same in
      let e : length texts ≡ i = cc found in
      let grown = long in
      let here : get_or more i other ≡ text = ap (λ (xs : List (List ℕ)). get_or xs i other) push ∙ get_or_push texts text other i e in
      slice_get_read more (length more) i other refl (omega arith) (sym (here ∙ one))
  back other i false same found = still_there 1 texts more i other (text ∷ [], push, omega arith) ((all other i).1 found)

  pub numbered_more : IsNumbering more new
  numbered_more other i = (
    λ at. put (key_of other) ∙ there other i (is_at (key_cmp (key_of text)) (key_of other)) refl at,
    λ found. back other i (is_at (key_cmp (key_of text)) (key_of other)) refl (sym (put (key_of other)) ∙ found),
  )

-- the map has a number for the text, so it is that of the text
pub known_there : (inside texts : List (List ℕ)) (numbers : BTreeMap (ℕ × List ℕ) ℕ) → inside ≡ texts → IsNumbering inside numbers → (text : List ℕ) (key : ℕ × List ℕ) (i : ℕ) → key ≡ key_of text
    → get key_cmp numbers key ≡ Some i → slice_get texts i ≡ Some text
known_there inside texts numbers seen all text key i own found =
    subst (λ (xs : List (List ℕ)). slice_get xs i ≡ Some text) seen ((all text i).1 (subst (λ (k : ℕ × List ℕ). get key_cmp numbers k ≡ Some i) own found))

-- a text that the map lacks is appended
pub appended : {E : Type 0} (inside texts more : List (List ℕ)) (numbers : BTreeMap (ℕ × List ℕ) ℕ) → inside ≡ texts → IsNumbering inside numbers → (text : List ℕ) (key : ℕ × List ℕ) → key ≡ key_of text
    → get key_cmp numbers key ≡ None → (r : Result ℕ E) → OnOk r (more ≡ inside ++ key.1 ∷ []) → OnOk r (more ≡ with_text texts text)
appended inside texts more numbers seen all text key own absent (Ok n) push =
    let new : with_text inside text ≡ inside ++ text ∷ [] = with_new inside numbers all text (subst (λ (k : ℕ × List ℕ). get key_cmp numbers k ≡ None) own absent) in
    push ∙ ap (λ (k : ℕ × List ℕ). inside ++ k.1 ∷ []) own ∙ sym new ∙ ap (λ (xs : List (List ℕ)). with_text xs text) seen
appended inside texts more numbers seen all text key own absent (Err e) push = push

-- its number is that of the last text
pub numbered_last : {E : Type 0} (inside more : List (List ℕ)) (text : List ℕ) (key : ℕ × List ℕ) → key ≡ key_of text → (r : Result ℕ E) → OnOk r (more ≡ inside ++ key.1 ∷ []) → IfOk r (λ n. n ≡ length inside)
    → IfOk r (λ n. slice_get more n ≡ Some text)
numbered_last inside more text key own (Ok n) push last =
    let long : length more ≡ length inside + 1 = ap (λ (xs : List (List ℕ)). length xs) push ∙ length_push inside key.1 in
    let here : get_or more n text ≡ key.1 = ap (λ (xs : List (List ℕ)). get_or xs n text) push ∙ get_or_push inside key.1 text n (sym last) in
    slice_get_read more (length more) n text refl (omega arith) (sym (here ∙ ap (λ (k : ℕ × List ℕ). k.1) own))
numbered_last inside more text key own (Err e) push last = last
