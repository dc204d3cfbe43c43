-- Bad lines that are noted one after another.
use Rattle.std.proofs.Common.{◌≡◌, ◌≤◌, ◌<◌, ℕ, List, [], ◌∷◌, ◌++◌, length, take, map, ap, arith, sym, ◌∙◌, append_assoc, append-nil, inl, inr}
use Rattle.std.proofs.lemmas.Bool.{cases_lt}
use Rattle.std.proofs.lemmas.List.{length-take-le, map-append, take-append-le, take-take, take_all, length_push}
use Rattle.line_quality.specs.BadLines.{Finds, why_of}
use Rattle.line_quality.specs.declared.bad_line.BadLine.{BadLine}
use Rattle.line_quality.specs.declared.findings.Findings.{Findings}

-- the first of a list are found among its first as well
take_again : {X : Type 0} (n : ℕ) (xs ys : List X) → take n (take n xs ++ ys) ≡ take n (xs ++ ys)
take_again n xs ys = elim (cases_lt (length xs) n) [
  | inl lt ↦ ap (λ zs. take n (zs ++ ys)) (take_all n xs (omega (arith, lt)))
  | inr ge ↦
      let size : n ≤ length (take n xs) = omega (arith, length-take-le n xs ge) in
      take-append-le n (take n xs) ys size ∙ take-take n n xs (omega arith) ∙ sym (take-append-le n xs ys ge)
]

pub finds_none : (f : Findings) → Finds f f []
finds_none f = record {
  first = sym (ap (take 100) (append-nil f.first.items) ∙ take_all 100 f.first.items f.short);
  reasons = sym (append-nil f.reasons.items);
}

pub finds_more : (f g h : Findings) (xs ys : List BadLine) → Finds f g xs → Finds g h ys → Finds f h (xs ++ ys)
finds_more f g h xs ys a b = record {
  first = b.first ∙ ap (λ (zs : List BadLine). take 100 (zs ++ ys)) a.first ∙ take_again 100 (f.first.items ++ xs) ys ∙ ap (take 100) (append_assoc f.first.items xs ys);
  reasons = b.reasons ∙ ap (λ zs. zs ++ map why_of ys) a.reasons ∙ append_assoc f.reasons.items (map why_of xs) (map why_of ys) ∙ ap (λ zs. f.reasons.items ++ zs) (sym (map-append why_of xs ys));
}

pub kept_full : (xs : List BadLine) (x : BadLine) → length xs ≤ 100 → 100 ≤ length xs → xs ≡ take 100 (xs ++ x ∷ [])
kept_full xs x short full = sym (take-append-le 100 xs (x ∷ []) full ∙ take_all 100 xs short)

pub kept_more : (xs : List BadLine) (x : BadLine) → length xs < 100 → xs ++ x ∷ [] ≡ take 100 (xs ++ x ∷ [])
kept_more xs x lt = sym (take_all 100 (xs ++ x ∷ []) (omega (arith, length_push xs x, lt)))
