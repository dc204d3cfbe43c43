-- Bytes that come to those in a buffer.
use Rattle.std.proofs.Common.{◌≡◌, ℕ, ◌+◌, ◌-◌, ◌<◌, ◌≤◌, ◌++◌, List, length, take, drop, get_or, set, [], ◌∷◌, false, arith, refl, sym, ap, subst, ◌∙◌, append_assoc, append-nil}
use Rattle.std.specs.Prelude.{◌==◌, slice_index}
use Rattle.std.proofs.Math.Seq.{take-add}
use Rattle.std.proofs.lemmas.Bool.{ne_eqb}
use Rattle.std.proofs.lemmas.List.{drop_more, get_or-set_same, length-append, length-set, take-append-le, take_all, length-take, length-drop, get_or-append_right, get_or-take, get_or-drop, get_or_default}
use Rattle.mystery_io.specs.Input.{ends_line}
use Rattle.mystery_io.specs.declared.feeder.Feeder.{Feeder}
use Rattle.mystery_io.specs.inner.Feeding.{Feeds, Holds, KeepsBytes}

pub some_not_none : (n : ℕ) → 0 < n → (n == 0) ≡ false
some_not_none n lt = ne_eqb n 0 (λ none. omega (arith, lt, none))

-- the last byte ends a line, or it does not
ends_after : (bytes more : List ℕ) → 0 < length more → ends_line (bytes ++ more) ≡ (slice_index more (length more - 1) == 10)
ends_after bytes more some =
    let all : length (bytes ++ more) ≡ length bytes + length more = length-append bytes more in
    let no : (length (bytes ++ more) == 0) ≡ false = some_not_none (length (bytes ++ more)) (omega (arith, all, some)) in
    let at : length (bytes ++ more) - 1 - length bytes ≡ length more - 1 = omega (arith, all, some) in
    let last : slice_index (bytes ++ more) (length (bytes ++ more) - 1) ≡ slice_index more (length more - 1) =
    get_or-append_right bytes more (length bytes) (length (bytes ++ more) - 1) 0 refl (omega (arith, all, some)) ∙ ap (λ i. get_or more i 0) at in
    rw (no, last) refl

module _ (buffer : List ℕ) (filled count : ℕ) (some : 0 < count) (within : filled + count ≤ length buffer) where
  piece_length : length (take count (drop filled buffer)) ≡ count
  piece_length = omega (arith, length-take count (drop filled buffer), length-drop filled buffer, within)

  last_byte : (byte : ℕ) → byte ≡ get_or buffer (filled + count - 1) byte → byte ≡ slice_index (take count (drop filled buffer)) (length (take count (drop filled buffer)) - 1)
  last_byte byte is =
      let at : filled + (count - 1) ≡ filled + count - 1 = omega (arith, some) in
      is ∙ get_or_default buffer (filled + count - 1) byte 0 (omega (arith, some, within)) ∙ ap (λ i. get_or buffer i 0) (sym at) ∙ sym (get_or-drop filled buffer (count - 1) 0)
      ∙ sym (get_or-take count (drop filled buffer) (count - 1) 0 (omega (arith, some))) ∙ ap (λ n. get_or (take count (drop filled buffer)) (n - 1) 0) (sym piece_length)

-- bytes of the buffer are counted
pub counted_on : {I : Type 0} (took : I → List ℕ → Type 0) (f g : Feeder I) (count byte : ℕ) → 0 < count → f.filled + count ≤ length f.buffer.items → byte ≡ get_or f.buffer.items (f.filled + count - 1) byte
    → g.intake ≡ f.intake → g.buffer ≡ f.buffer → g.filled ≡ f.filled + count → g.count ≡ f.count + count → g.ends_line ≡ (byte == 10) → Feeds took f (take count (drop f.filled f.buffer.items)) g
counted_on took f g count byte some within is intake buffer filled number ends = record {
  all = λ bytes h. record {
    taken = h.taken;
    before = rw intake h.before;
    joined =
        ap (λ xs. xs ++ take count (drop f.filled f.buffer.items)) h.joined ∙ append_assoc h.taken (take f.filled f.buffer.items) (take count (drop f.filled f.buffer.items))
        ∙ ap (λ xs. h.taken ++ xs) (sym (take-add f.filled count f.buffer.items) ∙ rw (buffer, filled) refl);
  };
  counted = omega (arith, number, piece_length f.buffer.items f.filled count some within);
  ended = λ bytes h.
      ends ∙ ap (λ b. b == 10) (last_byte f.buffer.items f.filled count some within byte is)
      ∙ sym (ends_after bytes (take count (drop f.filled f.buffer.items)) (omega (arith, some, piece_length f.buffer.items f.filled count some within)));
}

-- no byte is counted
pub counted_none : {I : Type 0} (took : I → List ℕ → Type 0) (f : Feeder I) → Feeds took f [] f
counted_none took f = record {
  all = λ bytes h. rw (append-nil bytes) h;
  counted = omega arith;
  ended = λ bytes h. rw (append-nil bytes) h;
}

-- bytes come after others
pub feeds_both : {I : Type 0} (took : I → List ℕ → Type 0) (f g h : Feeder I) (xs ys : List ℕ) → Feeds took f xs g → Feeds took g ys h → Feeds took f (xs ++ ys) h
feeds_both took f g h xs ys first then = record {
  all = λ bytes k. subst (Holds took h) (append_assoc bytes xs ys) (then.all (bytes ++ xs) (first.all bytes k));
  counted = omega (arith, first.counted, then.counted, length-append xs ys);
  ended = λ bytes k. then.ended (bytes ++ xs) (first.ended bytes k) ∙ ap ends_line (append_assoc bytes xs ys);
}

-- bytes come after none
pub feeds_after : {I : Type 0} (took : I → List ℕ → Type 0) (f g h : Feeder I) (xs : List ℕ) → KeepsBytes took f g → Feeds took g xs h → Feeds took f xs h
feeds_after took f g h xs first then = record {
  all = λ bytes k. then.all bytes (first.all bytes k);
  counted = omega (arith, first.counted, then.counted);
  ended = λ bytes k. then.ended bytes (first.ended ∙ k);
}

-- what is behind the bytes in the buffer changes
pub keeps_first : {I : Type 0} (took : I → List ℕ → Type 0) (f g : Feeder I) → g.intake ≡ f.intake → g.filled ≡ f.filled → g.count ≡ f.count → g.ends_line ≡ f.ends_line
    → take f.filled g.buffer.items ≡ take f.filled f.buffer.items → KeepsBytes took f g
keeps_first took f g intake filled count ends same = record {
  all = λ bytes h. record { taken = h.taken; before = rw intake h.before; joined = h.joined ∙ ap (λ xs. h.taken ++ xs) (sym same ∙ ap (λ n. take n g.buffer.items) (sym filled)) };
  counted = count;
  ended = ends;
}

-- all of a buffer was written
pub whole_buffer : (len : ℕ) (new old : List ℕ) → length new ≡ len → take len (new ++ drop (length new) old) ≡ new
whole_buffer len new old is = take-append-le len new (drop (length new) old) (omega (arith, is)) ∙ take_all len new (omega (arith, is))

-- the byte that was written at a place
pub byte_at : (bytes : List ℕ) (i byte : ℕ) → i < length bytes → take 1 (drop i (set bytes i byte)) ≡ byte ∷ []
byte_at bytes i byte lt =
    ap (take 1) (drop_more (set bytes i byte) i 0 (omega (arith, lt, length-set bytes i byte))) ∙ ap (λ b. b ∷ []) (get_or-set_same bytes i byte 0 lt)
