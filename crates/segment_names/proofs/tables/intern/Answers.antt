use Rattle.std.proofs.Common.{◌≡◌, ℕ, List, [], ◌∷◌, ◌++◌, Bool, true, false, if◌then◌else◌, Some, refl, sym, ap, ◌∙◌, subst, append-nil}
use Rattle.std.specs.Str.{bytes_eq}
use Rattle.std.specs.List.{list_any}
use Rattle.trace_types.specs.Firsts.{firsts_of}
use Rattle.event_table.specs.Texts.{AreDifferent}
use Rattle.trace_types.proofs.ComparingLemmas.{text_means, text_own}
use Rattle.trace_types.proofs.FirstsLemmas.{with_key, firsts-push}
use Rattle.segment_names.proofs.FirstLemmas.{differ-new, firsts-same}
use Rattle.segment_names.proofs.tables.intern.Goals as goal

-- the texts with one more, where the test says whether it is there
by_test : (keys : List (List ℕ)) (text : List ℕ) (b : Bool) → list_any (bytes_eq text) keys ≡ b → with_key bytes_eq keys text ≡ (if b then keys else keys ++ text ∷ [])
by_test keys text b e = ap (λ (c : Bool). if c then keys else keys ++ text ∷ []) e

differ : (keys : List (List ℕ)) (text : List ℕ) → AreDifferent keys → AreDifferent (with_key bytes_eq keys text)
differ keys text d = by (list_any (bytes_eq text) keys) refl
  where
    by : (b : Bool) → list_any (bytes_eq text) keys ≡ b → AreDifferent (with_key bytes_eq keys text)
    by true e = subst AreDifferent (sym (by_test keys text true e)) d
    by false e = subst AreDifferent (sym (by_test keys text false e)) (differ-new bytes_eq text_means text_own keys text d e)

grown : (keys : List (List ℕ)) (text : List ℕ) → (more : List (List ℕ)) × (with_key bytes_eq keys text ≡ keys ++ more)
grown keys text = by (list_any (bytes_eq text) keys) refl
  where
    by : (b : Bool) → list_any (bytes_eq text) keys ≡ b → (more : List (List ℕ)) × (with_key bytes_eq keys text ≡ keys ++ more)
    by true e = ([], by_test keys text true e ∙ sym (append-nil keys))
    by false e = (text ∷ [], by_test keys text false e)

firsts : (keys : List (List ℕ)) (text : List ℕ) → AreDifferent keys → with_key bytes_eq keys text ≡ firsts_of bytes_eq (keys ++ text ∷ [])
firsts keys text d = sym (firsts-push bytes_eq text_means text_own keys text ∙ ap (λ (l : List (List ℕ)). with_key bytes_eq l text) (firsts-same bytes_eq text_means text_own keys d))

pub returns-clause-differ : goal.returns-clause-differ
returns-clause-differ c = subst AreDifferent (sym c.in_ok-index.ensures.keys) (differ c.args.texts.now.keys c.args.text c.requires)

pub returns-clause-grown : goal.returns-clause-grown
returns-clause-grown c = let g = grown c.args.texts.now.keys c.args.text in (g.0, c.in_ok-index.ensures.keys ∙ g.1)

pub returns-clause-keys : goal.returns-clause-keys
returns-clause-keys c = c.in_ok-index.ensures.keys ∙ firsts c.args.texts.now.keys c.args.text c.requires

pub returns-clause-index : goal.returns-clause-index
returns-clause-index c = let s = c.in_ok-index.ensures.stored in s.1 ∙ ap (λ (t : List ℕ). Some t) (sym (text_means c.args.text s.0 s.2))
