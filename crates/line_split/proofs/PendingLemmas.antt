-- Files that are written through buffers.
use Rattle.std.proofs.Common.{◌≡◌, ◌<◌, ◌+◌, ℕ, List, [], ◌++◌, Global, length, get_or, map, set, take, ap, arith, sym, subst, ◌∙◌, inl, inr}
use Rattle.std.specs.declared.vec.Vec.{Vec}
use Rattle.std.proofs.lemmas.Bool.{cases_eq}
use Rattle.std.proofs.lemmas.List.{get_or-map, get_or-set_other, get_or-set_same, length-map, length-set, map-set}
use Rattle.output_files.specs.Written.{WrittenFile, WritesPrefix, after_write}
use Rattle.output_files.proofs.WriteLemmas.{length-after_write}
use Rattle.line_split.specs.Parts.{Begins, file_at}
use Rattle.line_split.specs.declared.pending.Pending.{Pending}
use Rattle.line_split.specs.inner.Pending.{BeginsFiles, IsOver, TellsFiles, WholeFiles, added, buffer_at, buffer_count, buffers_of, with_more}
use Rattle.line_split.proofs.FileLemmas.{begins_added, begins_cut, begins_told, more_none, told_put, told_write, write_behind}

abbrev pub shown : List (Vec ℕ Global) → List (List ℕ)
shown buffers = map (λ (v : Vec ℕ Global). v.items) buffers

-- a buffer as it was read
pub read_buffer : (p : Pending) (i : ℕ) (v : Vec ℕ Global) → i < buffer_count p → v ≡ get_or p.buffers.items i v → v.items ≡ buffer_at p i
read_buffer p i v within is = ap (λ (w : Vec ℕ Global). w.items) is ∙ sym (get_or-map (λ (w : Vec ℕ Global). w.items) p.buffers.items i v [] within)

module _ (count : ℕ) (before : List WrittenFile) (all : ℕ → WrittenFile) (w : List WrittenFile) (p : Pending) (h : TellsFiles count before all w p) where
  pub shown_many : length (shown p.buffers.items) ≡ count
  shown_many = length-map p.buffers.items (λ (v : Vec ℕ Global). v.items) ∙ h.many

  -- bytes came into a buffer
  pub tells_more : (q : Pending) (i : ℕ) (old new : Vec ℕ Global) (more : List ℕ) → i < buffer_count p → old ≡ get_or p.buffers.items i old → new.items ≡ old.items ++ more
      → q.base ≡ p.base → q.buffers.items ≡ set p.buffers.items i new → TellsFiles count before (added all i more) w q
  tells_more q i old new more within is items base set_is =
      let many : buffer_count q ≡ buffer_count p = ap length set_is ∙ length-set p.buffers.items i new in
      let bytes : new.items ≡ buffer_at p i ++ more = items ∙ ap (λ xs. xs ++ more) (read_buffer p i old within is) in
      let seen : shown q.buffers.items ≡ set (shown p.buffers.items) i (buffer_at p i ++ more) = ap shown set_is ∙ map-set (λ (v : Vec ℕ Global). v.items) p.buffers.items i new ∙ ap (set (shown p.buffers.items) i) bytes in
      let room : i < length (shown p.buffers.items) = omega (arith, shown_many, h.many) in
      let lt : i < count = omega (arith, h.many) in
      record {
        made = h.made;
        split = h.split;
        base = base ∙ h.base;
        size = h.size;
        many = many ∙ h.many;
        each = λ j l. ap (λ (bs : List (List ℕ)). with_more (file_at h.made j) (get_or bs j [])) seen ∙ told_put h.made (shown p.buffers.items) all count i more room lt h.each j l;
      }

  -- a buffer was written and emptied
  pub tells_written : (q : Pending) (now : List WrittenFile) (i : ℕ) (bytes : List ℕ) (new : Vec ℕ Global) → i < buffer_count p → bytes ≡ buffer_at p i → now ≡ after_write w (p.base + i) bytes → new.items ≡ []
      → q.base ≡ p.base → q.buffers.items ≡ set p.buffers.items i new → TellsFiles count before all now q
  tells_written q now i bytes new within is written empty base set_is =
      let many : buffer_count q ≡ buffer_count p = ap length set_is ∙ length-set p.buffers.items i new in
      let seen : shown q.buffers.items ≡ set (shown p.buffers.items) i [] = ap shown set_is ∙ map-set (λ (v : Vec ℕ Global). v.items) p.buffers.items i new ∙ ap (set (shown p.buffers.items) i) empty in
      let room : i < length (shown p.buffers.items) = omega (arith, shown_many, h.many) in
      let lt : i < count = omega (arith, h.many) in
      let there : i < length h.made = omega (arith, h.many, h.size) in
      let made = after_write h.made i (buffer_at p i) in
      record {
        made = made;
        split = written ∙ ap (λ xs. after_write w (p.base + i) xs) is ∙ ap (λ (fs : List WrittenFile). after_write fs (p.base + i) (buffer_at p i)) h.split
            ∙ write_behind before h.made i (p.base + i) (buffer_at p i) (ap (λ n. n + i) h.base);
        base = base ∙ h.base;
        size = length-after_write h.made i (buffer_at p i) ∙ h.size;
        many = many ∙ h.many;
        each = λ j l. ap (λ (bs : List (List ℕ)). with_more (file_at made j) (get_or bs j [])) seen ∙ told_write h.made (shown p.buffers.items) all count i room there lt h.each j l;
      }

  -- nothing more was written
  pub tells_begins : BeginsFiles count before all w
  tells_begins = record {
    made = h.made;
    split = h.split;
    few = omega (arith, h.size);
    each = λ j l. begins_told h.made (shown p.buffers.items) all count j (omega (arith, h.size)) h.each;
  }

  -- a prefix of a buffer was written
  pub cut_begins : (now : List WrittenFile) (i : ℕ) (bytes : List ℕ) → i < buffer_count p → bytes ≡ buffer_at p i → WritesPrefix w (p.base + i) bytes now → BeginsFiles count before all now
  cut_begins now i bytes within is cut =
      let n = cut.count in
      let there : i < length h.made = omega (arith, h.many, h.size) in
      let lt : i < count = omega (arith, h.many) in
      let size = length-after_write h.made i (take n (buffer_at p i)) in
      record {
        made = after_write h.made i (take n (buffer_at p i));
        split = cut.written ∙ ap (λ xs. after_write w (p.base + i) (take n xs)) is ∙ ap (λ (fs : List WrittenFile). after_write fs (p.base + i) (take n (buffer_at p i))) h.split
            ∙ write_behind before h.made i (p.base + i) (take n (buffer_at p i)) (ap (λ k. k + i) h.base);
        few = omega (arith, h.size, size);
        each = λ j l. begins_cut h.made (shown p.buffers.items) all count i n there lt h.each j (omega (arith, h.size, size));
      }

-- what is begun stays so where more is to come
pub begins_more : (count : ℕ) (before : List WrittenFile) (all : ℕ → WrittenFile) (w : List WrittenFile) (i : ℕ) (more : List ℕ) → BeginsFiles count before all w → BeginsFiles count before (added all i more) w
begins_more count before all w i more h = record {
  made = h.made;
  split = h.split;
  few = h.few;
  each = λ j l. begins_added (file_at h.made j) all i j more (h.each j l);
}

-- files that are the same by index
pub tells_same : (count : ℕ) (before : List WrittenFile) (all other : ℕ → WrittenFile) (w : List WrittenFile) (p : Pending) → ((j : ℕ) → all j ≡ other j) → TellsFiles count before all w p → TellsFiles count before other w p
tells_same count before all other w p same h = record {
  made = h.made;
  split = h.split;
  base = h.base;
  size = h.size;
  many = h.many;
  each = λ j l. h.each j l ∙ same j;
}

pub begins_same : (count : ℕ) (before : List WrittenFile) (all other : ℕ → WrittenFile) (w : List WrittenFile) → ((j : ℕ) → all j ≡ other j) → BeginsFiles count before all w → BeginsFiles count before other w
begins_same count before all other w same h = record {
  made = h.made;
  split = h.split;
  few = h.few;
  each = λ j l. subst (Begins (file_at h.made j)) (same j) (h.each j l);
}

-- there is a file for each buffer still
pub over_set : (w now : List WrittenFile) (p q : Pending) (i k : ℕ) (bytes : List ℕ) (new : Vec ℕ Global) → IsOver w p → now ≡ after_write w k bytes → q.base ≡ p.base → q.buffers.items ≡ set p.buffers.items i new → IsOver now q
over_set w now p q i k bytes new over written base set_is =
    let size : length now ≡ length w = ap length written ∙ length-after_write w k bytes in
    let many : buffer_count q ≡ buffer_count p = ap length set_is ∙ length-set p.buffers.items i new in
    record { within = omega (arith, over.within, size, many, base); fits = omega (arith, over.fits, many, base) }

-- one buffer more is empty
pub empty_more : (p q : Pending) (i : ℕ) → i < buffer_count p → buffers_of q ≡ set (buffers_of p) i [] → ((j : ℕ) → j < i → buffer_at p j ≡ []) → (j : ℕ) → j < i + 1 → buffer_at q j ≡ []
empty_more p q i within is empty j lt =
    let room : i < length (buffers_of p) = omega (arith, within, length-map p.buffers.items (λ (v : Vec ℕ Global). v.items)) in
    ap (λ (bs : List (List ℕ)). get_or bs j []) is ∙ (elim (cases_eq j i) [
      | inl e ↦ subst (λ k. get_or (set (buffers_of p) i []) k [] ≡ []) (sym e) (get_or-set_same (buffers_of p) i [] [] room)
      | inr ne ↦ get_or-set_other (buffers_of p) i j [] [] ne ∙ empty j (omega (arith, lt, ne))
    ])

-- where all buffers are empty, each file is whole
pub whole_files : (count : ℕ) (before : List WrittenFile) (all : ℕ → WrittenFile) (w : List WrittenFile) (p : Pending) → TellsFiles count before all w p → ((j : ℕ) → j < buffer_count p → buffer_at p j ≡ []) → WholeFiles count before all w
whole_files count before all w p h empty = record {
  made = h.made;
  split = h.split;
  size = h.size;
  each = λ j l. sym (more_none (file_at h.made j)) ∙ ap (with_more (file_at h.made j)) (sym (empty j (omega (arith, h.many, l)))) ∙ h.each j l;
}
