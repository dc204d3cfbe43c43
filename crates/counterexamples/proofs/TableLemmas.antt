-- A table of first refuters: its bits, words and rows.
use Rattle.std.proofs.Common.{◌≡◌, ℕ, zero, suc, ◌+◌, ◌-◌, ◌<◌, ◌≤◌, ◌^◌, min, bit_and, get_or, Bool, true, false, ◌&&◌, ◌||◌, ◌==◌, cond, List, [], ◌∷◌, length, replicate, Option, Some, None, arith, refl, sym, ap, ◌∙◌, subst, ⊎_elim, get_or-set_same, get_or-set_other, length-set}
use Rattle.std.specs.Option.{option_or}
use Rattle.std.specs.Prelude.{slice_get, slice_set}
use Rattle.std.specs.Int.{bit_at, bit_not, w64}
use Rattle.std.proofs.lemmas.Bool.{cases_eq, cases_lt, eq-eqb, ne_eqb}
use Rattle.std.proofs.lemmas.List.FromFn.{get_or-map-range_with_len}
use Rattle.std.proofs.lemmas.Nat.Bits.{bit_at-lt, bit_at-zero, bit_at_and, bit_at_not, bit_at_ones}
use Rattle.word_rows.specs.declared.entries.Entry.{Entry}
use Rattle.word_rows.specs.Rows.{entry_clears}
use Rattle.counterexamples.specs.declared.finding.Finding.{Finding}
use Rattle.counterexamples.specs.declared.word_refuters.WordRefuters.{WordRefuters}
use Rattle.counterexamples.specs.inner.Tables.{AreChosen, finding_at, noted, noted_at, noted_bits, table_of}

-- ---- the bits of a word, one after another

-- of these bits those below n have the finding, and all others are what they were
pub record ChosenBelow (old : List Finding) (bits : ℕ) (f : Finding) (n : ℕ) (new : List Finding) : Type 0 where
  pub long : length new ≡ length old
  pub done : (b : ℕ) → b < n → finding_at new b ≡ cond (bit_at bits b == 1) f (finding_at old b)
  pub rest : (b : ℕ) → n ≤ b → finding_at new b ≡ finding_at old b

-- so far none
pub chosen_none : (old : List Finding) (bits : ℕ) (f : Finding) → ChosenBelow old bits f 0 old
chosen_none old bits f = record { long = refl; done = λ b h. absurd (omega arith); rest = λ b h. refl }

-- the next bit is one of these
pub chosen_here : (old : List Finding) (bits : ℕ) (f : Finding) (n : ℕ) (new : List Finding) → n < length old → (bit_at bits n == 1) ≡ true → ChosenBelow old bits f n new → ChosenBelow old bits f (n + 1) (slice_set new n f)
chosen_here old bits f n new inside bit so_far = record {
  long = length-set new n f ∙ so_far.long;
  done = λ b h. ⊎_elim
      (λ (earlier : b < n). get_or-set_other new n b f _ (λ e. omega arith) ∙ so_far.done b earlier)
      (λ (here : n ≤ b).
      let same : b ≡ n = omega arith in
      ap (λ (k : ℕ). finding_at (slice_set new n f) k) same
      ∙ get_or-set_same new n f _ (subst (λ (k : ℕ). n < k) (sym so_far.long) inside)
      ∙ sym (ap (λ (k : ℕ). cond (bit_at bits k == 1) f (finding_at old k)) same ∙ ap (λ (t : Bool). cond t f (finding_at old n)) bit))
      (cases_lt b n);
  rest = λ b h. get_or-set_other new n b f _ (λ e. omega arith) ∙ so_far.rest b (omega arith);
}

-- the next bit is none of them
pub chosen_past : (old : List Finding) (bits : ℕ) (f : Finding) (n : ℕ) (new : List Finding) → (bit_at bits n == 1) ≡ false → ChosenBelow old bits f n new → ChosenBelow old bits f (n + 1) new
chosen_past old bits f n new bit so_far = record {
  long = so_far.long;
  done = λ b h. ⊎_elim
      (λ (earlier : b < n). so_far.done b earlier)
      (λ (here : n ≤ b).
      let same : b ≡ n = omega arith in
      so_far.rest b here
      ∙ sym (ap (λ (k : ℕ). cond (bit_at bits k == 1) f (finding_at old b)) same ∙ ap (λ (t : Bool). cond t f (finding_at old b)) bit))
      (cases_lt b n);
  rest = λ b h. so_far.rest b (omega arith);
}

-- ---- one word

-- a bit of the mask that is left gets the finding, and is left no more
pub cell : (l m : ℕ) (old f : Finding) → l < 2 → m < 2 → cond (min l (1 - m) == 1) None (Some (cond (min l m == 1) f old)) ≡ cond (m == 1) (option_or (cond (l == 1) None (Some old)) (Some f)) (cond (l == 1) None (Some old))
cell zero zero old f hl hm = refl
cell zero (suc zero) old f hl hm = refl
cell (suc zero) zero old f hl hm = refl
cell (suc zero) (suc zero) old f hl hm = refl
cell zero (suc (suc m)) old f hl hm = absurd (omega arith)
cell (suc zero) (suc (suc m)) old f hl hm = absurd (omega arith)
cell (suc (suc l)) m old f hl hm = absurd (omega arith)

-- a mask of which no bit is left changes nothing
pub cell_same : (l m : ℕ) (old f : Finding) → l < 2 → m < 2 → min l m ≡ 0 → cond (l == 1) None (Some old) ≡ cond (m == 1) (option_or (cond (l == 1) None (Some old)) (Some f)) (cond (l == 1) None (Some old))
cell_same zero zero old f hl hm e = refl
cell_same zero (suc zero) old f hl hm e = refl
cell_same (suc zero) zero old f hl hm e = refl
cell_same (suc zero) (suc zero) old f hl hm e = absurd (omega arith)
cell_same zero (suc (suc m)) old f hl hm e = absurd (omega arith)
cell_same (suc zero) (suc (suc m)) old f hl hm e = absurd (omega arith)
cell_same (suc (suc l)) m old f hl hm e = absurd (omega arith)

-- the word in which the bits of the mask that were left have the finding
pub word_noted : (w : WordRefuters) (m : ℕ) (f : Finding) (new : List Finding) → m < 2 ^ 64 → AreChosen w.findings (bit_and w.left m) f new → (b : ℕ) → b < 64
    → noted (record { left = bit_and w.left (bit_not w64 m); findings = new }) b ≡ cond (bit_at m b == 1) (option_or (noted w b) (Some f)) (noted w b)
word_noted w m f new fits chosen b h =
    let kept : bit_at (bit_and w.left (bit_not w64 m)) b ≡ min (bit_at w.left b) (1 - bit_at m b) = bit_at_and w.left (bit_not w64 m) b ∙ ap (λ (k : ℕ). min (bit_at w.left b) k) (bit_at_not w64 m b fits h) in
    let fresh : bit_at (bit_and w.left m) b ≡ min (bit_at w.left b) (bit_at m b) = bit_at_and w.left m b in
    ap (λ (k : ℕ). cond (k == 1) None (Some (finding_at new b))) kept
    ∙ ap (λ (x : Finding). cond (min (bit_at w.left b) (1 - bit_at m b) == 1) None (Some x)) (chosen.each b h ∙ ap (λ (k : ℕ). cond (k == 1) f (finding_at w.findings b)) fresh)
    ∙ cell (bit_at w.left b) (bit_at m b) (finding_at w.findings b) f (bit_at-lt w.left b) (bit_at-lt m b)

-- a mask of which no bit is left
pub word_same : (w : WordRefuters) (m : ℕ) (f : Finding) → bit_and w.left m ≡ 0 → (b : ℕ) → b < 64 → noted w b ≡ cond (bit_at m b == 1) (option_or (noted w b) (Some f)) (noted w b)
word_same w m f none b h = cell_same (bit_at w.left b) (bit_at m b) (finding_at w.findings b) f (bit_at-lt w.left b) (bit_at-lt m b) (sym (bit_at_and w.left m b) ∙ (ap (λ (k : ℕ). bit_at k b) none ∙ bit_at-zero b))

-- a word of which each bit is left
pub word_left : (w : WordRefuters) → w.left ≡ 18446744073709551615 → (b : ℕ) → b < 64 → noted w b ≡ None
word_left w full b h = let e : bit_at w.left b ≡ 1 = ap (λ (k : ℕ). bit_at k b) full ∙ bit_at_ones 64 b h in ap (λ (k : ℕ). cond (k == 1) None (Some (finding_at w.findings b))) e

-- ---- the entries of a row, one after another

slice_get_set_same : {X : Type 0} (xs : List X) (i : ℕ) (x : X) → i < length xs → slice_get (slice_set xs i x) i ≡ Some x
slice_get_set_same [] i x h = absurd (omega arith)
slice_get_set_same (y ∷ ys) zero x h = refl
slice_get_set_same (y ∷ ys) (suc i) x h = slice_get_set_same ys i x (omega arith)

slice_get_set_other : {X : Type 0} (xs : List X) (i j : ℕ) (x : X) → (j ≡ i → ⊥) → slice_get (slice_set xs i x) j ≡ slice_get xs j
slice_get_set_other [] i j x ne = refl
slice_get_set_other (y ∷ ys) zero zero x ne = absurd (ne refl)
slice_get_set_other (y ∷ ys) zero (suc j) x ne = refl
slice_get_set_other (y ∷ ys) (suc i) zero x ne = refl
slice_get_set_other (y ∷ ys) (suc i) (suc j) x ne = slice_get_set_other ys i j x (λ e. ne (ap (λ (k : ℕ). suc k) e))

-- what is noted where the bit was noted for some entries, and for one more
joined : (c m : Bool) (o : Option Finding) (f : Finding) → cond m (option_or (cond c (option_or o (Some f)) o) (Some f)) (cond c (option_or o (Some f)) o) ≡ cond (c || m) (option_or o (Some f)) o
joined true true (Some g) f = refl
joined true true None f = refl
joined true false o f = refl
joined false m o f = refl

-- one entry more
pub entry_noted : (words : List WordRefuters) (e : Entry) (w new : WordRefuters) (f : Finding) (i b : ℕ) (c : Bool) (o : Option Finding)
    → i < length words → b < 64 → slice_get words e.word ≡ Some w
    → ((bit : ℕ) → bit < 64 → noted new bit ≡ cond (bit_at e.mask bit == 1) (option_or (noted w bit) (Some f)) (noted w bit))
    → noted_at words i b ≡ cond c (option_or o (Some f)) o
    → noted_at (slice_set words e.word new) i b ≡ cond (c || entry_clears e i b) (option_or o (Some f)) o
entry_noted words e w new f i b c o inside h at news so_far = ⊎_elim
    (λ (is : e.word ≡ i).
    let here : noted_at (slice_set words e.word new) i b ≡ noted new b = subst (λ (k : ℕ). noted_at (slice_set words k new) i b ≡ noted new b) (sym is) (rw (slice_get_set_same words i new inside) refl) in
    let was : noted_at words i b ≡ noted w b = rw (ap (slice_get words) (sym is) ∙ at) refl in
    let old : noted w b ≡ cond c (option_or o (Some f)) o = sym was ∙ so_far in
    let clears : entry_clears e i b ≡ (bit_at e.mask b == 1) = ap (λ (t : Bool). t && (bit_at e.mask b == 1)) (eq-eqb e.word i is) in
    here ∙ news b h ∙ ap (λ (x : Option Finding). cond (bit_at e.mask b == 1) (option_or x (Some f)) x) old ∙ joined c (bit_at e.mask b == 1) o f
    ∙ ap (λ (t : Bool). cond (c || t) (option_or o (Some f)) o) (sym clears))
    (λ (is : e.word ≡ i → ⊥).
    let here : noted_at (slice_set words e.word new) i b ≡ noted_at words i b = rw (slice_get_set_other words e.word i new (λ s. is (sym s))) refl in
    let clears : entry_clears e i b ≡ false = ap (λ (t : Bool). t && (bit_at e.mask b == 1)) (ne_eqb e.word i is) in
    here ∙ so_far ∙ ap (λ (t : Bool). cond t (option_or o (Some f)) o) (or_false c ∙ ap (λ (t : Bool). c || t) (sym clears)))
    (cases_eq e.word i)
  where
    or_false : (c : Bool) → c ≡ (c || false)
    or_false true = refl
    or_false false = refl

-- ---- a table of which each word has no finding

pub none_at : (n : ℕ) (w : WordRefuters) (i b : ℕ) → noted w b ≡ None → noted_at (replicate n w) i b ≡ None
none_at zero w i b h = refl
none_at (suc n) w zero b h = h
none_at (suc n) w (suc i) b h = none_at n w i b h

-- ---- words as a table

-- what a word notes for a bit
bit_told : (w : WordRefuters) (b : ℕ) → b < 64 → get_or (noted_bits w) b None ≡ noted w b
unfolding noted_bits
bit_told w b h = get_or-map-range_with_len (noted w) 0 64 b b None h (omega arith)

-- what words note for a bit of a word
pub table_tells : (words : List WordRefuters) (i b : ℕ) → b < 64 → get_or (get_or (table_of words) i []) b None ≡ noted_at words i b
table_tells [] i b h = refl
table_tells (w ∷ words) zero b h = bit_told w b h
table_tells (w ∷ words) (suc i) b h = table_tells words i b h
