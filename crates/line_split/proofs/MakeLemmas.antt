-- Files that are made one after another.
use Rattle.std.proofs.Common.{◌≡◌, ◌<◌, ◌≤◌, ◌+◌, ℕ, List, [], ◌∷◌, ◌++◌, Global, length, get_or, ap, arith, refl, sym, subst, ◌∙◌, append-nil, append_assoc, inl, inr}
use Rattle.std.specs.declared.vec.Vec.{Vec}
use Rattle.std.proofs.lemmas.Bool.{cases_lt}
use Rattle.std.proofs.lemmas.List.{get_or_append_left, get_or_push, length_push, map-append}
use Rattle.output_files.specs.Written.{WrittenFile, after_create}
use Rattle.line_split.specs.Parts.{Begins, file_at}
use Rattle.line_split.specs.declared.pending.Pending.{Pending}
use Rattle.line_split.specs.inner.Pending.{BeginsFiles, TellsFiles, buffer_count, with_more}
use Rattle.line_split.proofs.FileLemmas.{begins_told}
use Rattle.line_split.proofs.PendingLemmas.{shown, shown_many}

fresh : List ℕ → WrittenFile
fresh name = record { name = name; bytes = [] }

module _ (count : ℕ) (before : List WrittenFile) (all : ℕ → WrittenFile) (w : List WrittenFile) (p : Pending) (h : TellsFiles count before all w p) where
  -- the next file was not made
  pub begins_within : (most : ℕ) → count ≤ most → BeginsFiles most before all w
  begins_within most le = record {
    made = h.made;
    split = h.split;
    few = omega (arith, h.size, le);
    each = λ j l. begins_told h.made (shown p.buffers.items) all count j (omega (arith, h.size, l)) h.each;
  }

  abbrev made_more : (name : List ℕ) → List WrittenFile
  made_more name = h.made ++ record { name = name; bytes = [] } ∷ []

  size_more : (name : List ℕ) → length (made_more name) ≡ count + 1
  size_more name = length_push h.made (record { name = name; bytes = [] }) ∙ ap (λ n. n + 1) h.size

  split_more : (name : List ℕ) (now : List WrittenFile) → now ≡ after_create w name → now ≡ before ++ made_more name
  split_more name now created = created ∙ ap (λ (fs : List WrittenFile). after_create fs name) h.split ∙ append_assoc before h.made (record { name = name; bytes = [] } ∷ [])

  old_file : (name : List ℕ) (j : ℕ) → j < count → file_at (made_more name) j ≡ file_at h.made j
  old_file name j lt = get_or_append_left h.made (record { name = name; bytes = [] } ∷ []) (record { name = []; bytes = [] }) j (omega (arith, h.size, lt))

  new_file : (name : List ℕ) → file_at (made_more name) count ≡ record { name = name; bytes = [] }
  new_file name = get_or_push h.made (record { name = name; bytes = [] }) (record { name = []; bytes = [] }) count h.size

  -- it was made, and has no buffer
  pub begins_made : (most : ℕ) (now : List WrittenFile) (name : List ℕ) → count < most → now ≡ after_create w name → name ≡ (all count).name → BeginsFiles most before all now
  begins_made most now name lt created named = record {
    made = made_more name;
    split = split_more name now created;
    few = omega (arith, size_more name, lt);
    each = λ j l. elim (cases_lt j count) [
      | inl below ↦ subst (λ f. Begins f (all j)) (sym (old_file name j below)) (begins_told h.made (shown p.buffers.items) all count j below h.each)
      | inr above ↦
          let e : count ≡ j = omega (arith, size_more name, l, above) in
          subst (λ k. Begins (file_at (made_more name) k) (all k)) e
          (subst (λ f. Begins f (all count)) (sym (new_file name)) (record { named = named; rest = (all count).bytes; split = refl }))
    ];
  }

  -- it was made, with a buffer
  pub tells_made : (q : Pending) (now : List WrittenFile) (name : List ℕ) (buffer : Vec ℕ Global) → now ≡ after_create w name → name ≡ (all count).name → buffer.items ≡ (all count).bytes → q.base ≡ p.base
      → q.buffers.items ≡ p.buffers.items ++ buffer ∷ [] → TellsFiles (count + 1) before all now q
  tells_made q now name buffer created named bytes base pushed =
      let seen : shown q.buffers.items ≡ shown p.buffers.items ++ buffer.items ∷ [] = ap shown pushed ∙ map-append (λ (v : Vec ℕ Global). v.items) p.buffers.items (buffer ∷ []) in
      let size = shown_many count before all w p h in
      record {
        made = made_more name;
        split = split_more name now created;
        base = base ∙ h.base;
        size = size_more name;
        many = ap length pushed ∙ length_push p.buffers.items buffer ∙ ap (λ n. n + 1) h.many;
        each = λ j l. ap (λ (bs : List (List ℕ)). with_more (file_at (made_more name) j) (get_or bs j [])) seen ∙ (elim (cases_lt j count) [
          | inl below ↦
              ap (λ f. with_more f (get_or (shown p.buffers.items ++ buffer.items ∷ []) j [])) (old_file name j below)
              ∙ ap (λ b. with_more (file_at h.made j) b) (get_or_append_left (shown p.buffers.items) (buffer.items ∷ []) [] j (omega (arith, size, below)))
              ∙ h.each j below
          | inr above ↦
              let e : count ≡ j = omega (arith, l, above) in
              let last : with_more (file_at (made_more name) count) (get_or (shown p.buffers.items ++ buffer.items ∷ []) count []) ≡ all count =
              ap (λ f. with_more f (get_or (shown p.buffers.items ++ buffer.items ∷ []) count [])) (new_file name)
              ∙ ap (λ b. with_more (record { name = name; bytes = [] }) b) (get_or_push (shown p.buffers.items) buffer.items [] count size)
              ∙ ap (λ (n : List ℕ). record { name = n; bytes = buffer.items }) named ∙ ap (λ (b : List ℕ). record { name = (all count).name; bytes = b }) bytes in
              subst (λ k. with_more (file_at (made_more name) k) (get_or (shown p.buffers.items ++ buffer.items ∷ []) k []) ≡ all k) e last
        ]);
      }

-- before the first file
pub tells_nothing : (before : List WrittenFile) (all : ℕ → WrittenFile) (p : Pending) → p.base ≡ length before → buffer_count p ≡ 0 → TellsFiles 0 before all before p
tells_nothing before all p base none = record {
  made = [];
  split = sym (append-nil before);
  base = base;
  size = refl;
  many = none;
  each = λ j l. absurd (omega (arith, l));
}
