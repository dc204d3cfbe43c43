-- Options that are read one after another.
use Rattle.std.proofs.Common.{◌≡◌, ◌≤◌, ℕ, suc, List, [], ◌∷◌, Some, None, Bool, true, false, refl, ap, sym, subst, ◌∙◌, arith, length, drop, slice_get}
use Rattle.std.proofs.lemmas.Option.{get_or_from_slice_get, slice_get_within}
use Rattle.std.proofs.lemmas.Slice.Eq.{bytes_eq-Decides}
use Rattle.std.specs.Prelude.{codes, option_and_then, if◌then◌else◌, ◌==◌}
use Rattle.std.specs.Str.{bytes_eq}
use Rattle.span_files.specs.declared.span_form.SpanForm.{SpanForm}
use Rattle.import_run.specs.CommandLines.{Asked, call_after, call_of_form, call_with, grace_of, nothing_asked}
use Rattle.import_run.specs.declared.form.Form.{Form}
use Rattle.import_run.specs.declared.form.Form.TheVariants.{Spans}

pub fold_taken : (form : Form) (asked : Asked) (later : List (List ℕ)) → call_after form asked (codes "--fold" ∷ later) ≡ call_after form (record asked { fold = true }) later
fold_taken form asked [] = refl
fold_taken form asked (v ∷ later) = refl

pub entry_alone : (form : Form) (asked : Asked) → call_after form asked (codes "--entry" ∷ []) ≡ call_with form asked (codes "--entry" ∷ [])
entry_alone form asked = refl

pub entry_taken : (form : Form) (asked : Asked) (v : List ℕ) (later : List (List ℕ)) → call_after form asked (codes "--entry" ∷ v ∷ later) ≡ call_after form (record asked { entry = Some v }) later
entry_taken form asked v later = refl

pub grace_alone : (form : Form) (asked : Asked) → call_after form asked (codes "--grace" ∷ []) ≡ call_with form asked (codes "--grace" ∷ [])
grace_alone form asked = refl

pub grace_taken : (form : Form) (asked : Asked) (v : List ℕ) (later : List (List ℕ)) (g : ℕ) → grace_of v ≡ Some g → call_after form asked (codes "--grace" ∷ v ∷ later) ≡ call_after form (record asked { grace = g }) later
grace_taken form asked v later g h = ap (λ r. option_and_then (λ x. call_after form (record asked { grace = x }) later) r) h

pub grace_refused : (form : Form) (asked : Asked) (v : List ℕ) (later : List (List ℕ)) → grace_of v ≡ None → call_after form asked (codes "--grace" ∷ v ∷ later) ≡ None
grace_refused form asked v later h = ap (λ r. option_and_then (λ x. call_after form (record asked { grace = x }) later) r) h

-- the first argument is no option
pub none_taken : (form : Form) (asked : Asked) (w : List ℕ) (later : List (List ℕ)) → bytes_eq w (codes "--fold") ≡ false → bytes_eq w (codes "--entry") ≡ false → bytes_eq w (codes "--grace") ≡ false → call_after form asked (w ∷ later) ≡ call_with form asked (w ∷ later)
none_taken form asked w [] f e g = ap (λ b. if b then call_with form (record asked { fold = true }) [] else call_with form asked (w ∷ [])) f
none_taken form asked w (v ∷ later) f e g = λ i.
    if f i then call_after form (record asked { fold = true }) (v ∷ later)
    else (if e i then call_after form (record asked { entry = Some v }) later
    else (if g i then option_and_then (λ x. call_after form (record asked { grace = x }) later) (grace_of v)
    else call_with form asked (w ∷ v ∷ later)))

-- ---- by what was read

first_is : (later : List (List ℕ)) (x v : List ℕ) → Some v ≡ slice_get (x ∷ later) 0 → x ≡ v
first_is later x v h = get_or_from_slice_get (x ∷ later) 0 v v (sym h)

none_first : (v : List ℕ) (later : List (List ℕ)) → length later ≡ 0 → Some v ≡ slice_get later 0 → ⊥
none_first v later n h = omega (arith, n, slice_get_within later 0 v (sym h))

pub fold_step : (asked : Asked) (words : List (List ℕ)) (w : List ℕ) (later : List (List ℕ)) → words ≡ w ∷ later → w ≡ codes "--fold" → (1 ≤ length words) × ((form : Form) → call_after form asked words ≡ call_after form (record asked { fold = true }) (drop 1 words))
fold_step asked words w later e f = (
  omega (arith, ap length e),
  λ form. ap (call_after form asked) (e ∙ ap (λ y. y ∷ later) f) ∙ fold_taken form asked later ∙ sym (ap (λ ws. call_after form (record asked { fold = true }) (drop 1 ws)) e),
)

pub entry_step : (asked : Asked) (later : List (List ℕ)) (v : List ℕ) → Some v ≡ slice_get later 0 → (2 ≤ suc (length later)) × ((form : Form) → call_after form asked (codes "--entry" ∷ later) ≡ call_after form (record asked { entry = Some v }) (drop 1 later))
entry_step asked [] v h = absurd (none_first v [] refl h)
entry_step asked (x ∷ later) v h = (omega arith, λ form. entry_taken form asked x later ∙ ap (λ y. call_after form (record asked { entry = Some y }) later) (first_is later x v h))

pub grace_step : (asked : Asked) (later : List (List ℕ)) (v : List ℕ) (g : ℕ) → Some v ≡ slice_get later 0 → Some g ≡ grace_of v → (2 ≤ suc (length later)) × ((form : Form) → call_after form asked (codes "--grace" ∷ later) ≡ call_after form (record asked { grace = g }) (drop 1 later))
grace_step asked [] v g h k = absurd (none_first v [] refl h)
grace_step asked (x ∷ later) v g h k = (omega arith, λ form. grace_taken form asked x later g (ap grace_of (first_is later x v h) ∙ sym k))

unlike : (a b : List ℕ) → (a ≡ b → ⊥) → bytes_eq a b ≡ false
unlike a b apart = by (bytes_eq a b) refl
  where
    by : (same : Bool) → bytes_eq a b ≡ same → bytes_eq a b ≡ false
    by true e = absurd (apart ((bytes_eq-Decides a b).0 e))
    by false e = e

pub none_step : (asked : Asked) (words : List (List ℕ)) (w : List ℕ) (later : List (List ℕ)) → words ≡ w ∷ later → (w ≡ codes "--fold" → ⊥) → (w ≡ codes "--entry" → ⊥) → (w ≡ codes "--grace" → ⊥) → (n : ℕ) (taken : Asked) → n ≡ 0
    → (n ≤ length words) × ((form : Form) → call_after form asked words ≡ (if n == 0 then call_with form asked words else call_after form taken (drop n words)))
none_step asked words w later is f e g n taken z = (
  omega (arith, z),
  λ form. ap (call_after form asked) is ∙ none_taken form asked w later (unlike w (codes "--fold") f) (unlike w (codes "--entry") e) (unlike w (codes "--grace") g) ∙ ap (call_with form asked) (sym is) ∙ sym (ap (λ k. if k == 0 then call_with form asked words else call_after form taken (drop k words)) z),
)

-- the call of a form of spans begins with options
pub of_spans : (form : Form) (of : SpanForm) (words : List (List ℕ)) → form ≡ Spans of → call_after form nothing_asked words ≡ call_of_form words form
of_spans form of words e = subst (λ f. call_after f nothing_asked words ≡ call_of_form words f) (sym e) refl
