-- Files that are written, beside their buffers.
use Rattle.std.proofs.Common.{◌≡◌, ◌<◌, ◌+◌, ℕ, zero, suc, List, [], ◌∷◌, ◌++◌, Bool, true, false, length, get_or, set, take, drop, ap, arith, refl, sym, subst, ◌∙◌, append-nil, append_assoc, if◌then◌else◌, inl, inr}
use Rattle.std.specs.Prelude.{◌==◌}
use Rattle.std.proofs.lemmas.Bool.{cases_eq, eq-eqb, ne_eqb}
use Rattle.std.proofs.lemmas.List.{get_or-set_other, get_or-set_same, take-append-drop}
use Rattle.output_files.specs.Written.{WrittenFile, after_write}
use Rattle.line_split.specs.Parts.{Begins, file_at}
use Rattle.line_split.specs.inner.Pending.{added, with_more}

pub write_same : (made : List WrittenFile) (i : ℕ) (more : List ℕ) → i < length made → file_at (after_write made i more) i ≡ with_more (file_at made i) more
write_same [] i more lt = absurd (omega arith)
write_same (f ∷ fs) zero more lt = refl
write_same (f ∷ fs) (suc i) more lt = write_same fs i more (omega arith)

pub write_other : (made : List WrittenFile) (i j : ℕ) (more : List ℕ) → (j ≡ i → ⊥) → file_at (after_write made i more) j ≡ file_at made j
write_other [] i j more ne = refl
write_other (f ∷ fs) zero zero more ne = absurd (ne refl)
write_other (f ∷ fs) zero (suc j) more ne = refl
write_other (f ∷ fs) (suc i) zero more ne = refl
write_other (f ∷ fs) (suc i) (suc j) more ne = write_other fs i j more (λ e. ne (ap suc e))

-- a file behind others is written
pub write_behind : (before made : List WrittenFile) (i k : ℕ) (more : List ℕ) → k ≡ length before + i → after_write (before ++ made) k more ≡ before ++ after_write made i more
write_behind [] made i k more e = ap (λ n. after_write made n more) (omega (arith, e))
write_behind (b ∷ bs) made i zero more e = absurd (omega (arith, e))
write_behind (b ∷ bs) made i (suc k) more e = ap (λ fs. b ∷ fs) (write_behind bs made i k more (omega (arith, e)))

pub more_none : (f : WrittenFile) → with_more f [] ≡ f
more_none f = ap (λ (b : List ℕ). record { name = f.name; bytes = b }) (append-nil f.bytes)

more_twice : (f : WrittenFile) (a b : List ℕ) → with_more (with_more f a) b ≡ with_more f (a ++ b)
more_twice f a b = ap (λ (c : List ℕ). record { name = f.name; bytes = c }) (append_assoc f.bytes a b)

-- each file has what was written to it, and then what is in its buffer
abbrev pub Told : List WrittenFile → List (List ℕ) → (ℕ → WrittenFile) → ℕ → Type 0
Told made buffers all count = (j : ℕ) → j < count → with_more (file_at made j) (get_or buffers j []) ≡ all j

added_same : (all : ℕ → WrittenFile) (i : ℕ) (more : List ℕ) → added all i more i ≡ with_more (all i) more
added_same all i more = ap (λ (b : Bool). if b then with_more (all i) more else all i) (eq-eqb i i refl)

added_other : (all : ℕ → WrittenFile) (i j : ℕ) (more : List ℕ) → (j ≡ i → ⊥) → added all i more j ≡ all j
added_other all i j more ne = ap (λ (b : Bool). if b then with_more (all j) more else all j) (ne_eqb j i ne)

-- bytes came into a buffer
pub told_put : (made : List WrittenFile) (buffers : List (List ℕ)) (all : ℕ → WrittenFile) (count i : ℕ) (more : List ℕ) → i < length buffers → i < count → Told made buffers all count
    → Told made (set buffers i (get_or buffers i [] ++ more)) (added all i more) count
told_put made buffers all count i more room within told j lt =
    let new = get_or buffers i [] ++ more in
    elim (cases_eq j i) [
      | inl e ↦
          let same : with_more (file_at made i) (get_or (set buffers i new) i []) ≡ added all i more i =
          ap (with_more (file_at made i)) (get_or-set_same buffers i new [] room) ∙ sym (more_twice (file_at made i) (get_or buffers i []) more)
          ∙ ap (λ f. with_more f more) (told i within) ∙ sym (added_same all i more) in
          subst (λ k. with_more (file_at made k) (get_or (set buffers i new) k []) ≡ added all i more k) (sym e) same
      | inr ne ↦ ap (with_more (file_at made j)) (get_or-set_other buffers i j new [] ne) ∙ told j lt ∙ sym (added_other all i j more ne)
    ]

-- a buffer was written to its file
pub told_write : (made : List WrittenFile) (buffers : List (List ℕ)) (all : ℕ → WrittenFile) (count i : ℕ) → i < length buffers → i < length made → i < count → Told made buffers all count
    → Told (after_write made i (get_or buffers i [])) (set buffers i []) all count
told_write made buffers all count i room there within told j lt =
    let b = get_or buffers i [] in
    elim (cases_eq j i) [
      | inl e ↦
          let same : with_more (file_at (after_write made i b) i) (get_or (set buffers i []) i []) ≡ all i =
          ap (with_more (file_at (after_write made i b) i)) (get_or-set_same buffers i [] [] room) ∙ more_none (file_at (after_write made i b) i)
          ∙ write_same made i b there ∙ told i within in
          subst (λ k. with_more (file_at (after_write made i b) k) (get_or (set buffers i []) k []) ≡ all k) (sym e) same
      | inr ne ↦ ap (with_more (file_at (after_write made i b) j)) (get_or-set_other buffers i j [] [] ne) ∙ ap (λ f. with_more f (get_or buffers j [])) (write_other made i j b ne) ∙ told j lt
    ]

pub begins_told : (made : List WrittenFile) (buffers : List (List ℕ)) (all : ℕ → WrittenFile) (count j : ℕ) → j < count → Told made buffers all count → Begins (file_at made j) (all j)
begins_told made buffers all count j lt told = record {
  named = ap (λ (f : WrittenFile). f.name) (told j lt);
  rest = get_or buffers j [];
  split = ap (λ (f : WrittenFile). f.bytes) (sym (told j lt));
}

-- a prefix of a buffer was written
pub begins_cut : (made : List WrittenFile) (buffers : List (List ℕ)) (all : ℕ → WrittenFile) (count i n : ℕ) → i < length made → i < count → Told made buffers all count
    → (j : ℕ) → j < count → Begins (file_at (after_write made i (take n (get_or buffers i []))) j) (all j)
begins_cut made buffers all count i n there within told j lt =
    let b = get_or buffers i [] in
    let f = file_at made i in
    elim (cases_eq j i) [
      | inl e ↦
          let cut : Begins (with_more f (take n b)) (all i) = record {
            named = ap (λ (f : WrittenFile). f.name) (told i within);
            rest = drop n b;
            split = ap (λ (f : WrittenFile). f.bytes) (sym (told i within)) ∙ ap (λ xs. f.bytes ++ xs) (sym (take-append-drop n b)) ∙ sym (append_assoc f.bytes (take n b) (drop n b));
          } in
          subst (λ k. Begins (file_at (after_write made i (take n b)) k) (all k)) (sym e) (subst (λ g. Begins g (all i)) (sym (write_same made i (take n b) there)) cut)
      | inr ne ↦ subst (λ g. Begins g (all j)) (sym (write_other made i j (take n b) ne)) (begins_told made buffers all count j lt told)
    ]

begins_if : (f g : WrittenFile) (more : List ℕ) (b : Bool) → Begins f g → Begins f (if b then with_more g more else g)
begins_if f g more true h = record {
  named = h.named;
  rest = h.rest ++ more;
  split = ap (λ xs. xs ++ more) h.split ∙ append_assoc f.bytes h.rest more;
}
begins_if f g more false h = h

-- what is begun stays so where more is to come
pub begins_added : (f : WrittenFile) (all : ℕ → WrittenFile) (i j : ℕ) (more : List ℕ) → Begins f (all j) → Begins f (added all i more j)
begins_added f all i j more h = begins_if f (all j) more (j == i) h
