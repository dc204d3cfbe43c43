-- Spans that are folded one after another.
use Rattle.std.proofs.Common.{◌≡◌, ◌∙◌, ℕ, ◌+◌, ◌<◌, List, [], ◌∷◌, ◌++◌, length, get_or, map, set, take, drop, ap, sym, append_assoc, arith}
use Rattle.std.proofs.lemmas.List.{drop_more, get_or_at, length-map, length-take-le, map_more, set_at}
use Rattle.span_types.specs.declared.span.Span.{Span}
use Rattle.span_names.specs.Folding.{folded_name}
use Rattle.span_lines.specs.FoldedSpans.{folded_span}

module _ (old cur : List Span) (i : ℕ) (d : Span) (lt : i < length old) (is : cur ≡ map folded_span (take i old) ++ drop i old) where
  done : List Span
  done = map folded_span (take i old)

  short : length (map folded_span (take i old)) ≡ i
  short = length-map (take i old) folded_span ∙ length-take-le i old (omega (arith, lt))

  here : cur ≡ map folded_span (take i old) ++ get_or old i d ∷ drop (i + 1) old
  here = is ∙ ap (λ (xs : List Span). map folded_span (take i old) ++ xs) (drop_more old i d lt)

  pub fold_more : (s : Span) → s ≡ folded_span (get_or old i d) → set cur i s ≡ map folded_span (take (i + 1) old) ++ drop (i + 1) old
  fold_more s own =
      ap (λ (xs : List Span). set xs i s) here ∙ set_at (map folded_span (take i old)) (get_or old i d) (drop (i + 1) old) s i short
      ∙ ap (λ (t : Span). map folded_span (take i old) ++ t ∷ drop (i + 1) old) own
      ∙ sym (ap (λ (xs : List Span). xs ++ drop (i + 1) old) (map_more folded_span old i d lt) ∙ append_assoc (map folded_span (take i old)) (folded_span (get_or old i d) ∷ []) (drop (i + 1) old))

  pub folded_at : (name : List ℕ) → name ≡ folded_name (get_or cur i d).name → record (get_or cur i d) { name = name } ≡ folded_span (get_or old i d)
  folded_at name e =
      let same : get_or cur i d ≡ get_or old i d = ap (λ (xs : List Span). get_or xs i d) here ∙ get_or_at (map folded_span (take i old)) (get_or old i d) (drop (i + 1) old) d i short in
      ap (λ (n : List ℕ). record (get_or cur i d) { name = n }) e ∙ ap folded_span same
