-- The strips and their entries.
use Rattle.std.proofs.Common.{◌≡◌, ℕ, zero, suc, ◌+◌, ◌-◌, ◌*◌, ◌/◌, ◌%◌, ◌<◌, ◌≤◌, ℤ, Bool, true, false, cond, List, [], ◌∷◌, length, map, get_or, replicate, take, drop, eqb, ◌++◌, refl, sym, ap, ap₂, ◌∙◌, subst, arith}
use Rattle.std.proofs.lemmas.Bool.{le-leb}
use Rattle.std.proofs.lemmas.List.{get_or-map, length-map, map-append, take_at}
use Rattle.std.specs.List.{range_with_len}
use Rattle.std.proofs.lemmas.List.Elements.{All-get_or}
use Rattle.std.proofs.lemmas.List.FromFn.{get_or-map-range_with_len}
use Rattle.std.specs.declared.vec.Vec.{Vec}
use Rattle.evidence_rules.specs.Meetings.{AreMeetingFigures, meetings_from}
use Rattle.evidence_rules.specs.declared.between.Between.{Between}
use Rattle.trace_types.specs.Parts.{by_number}
use Rattle.trace_types.specs.declared.named_trace.NamedTrace.{NamedTrace}
use Rattle.name_meetings.specs.Tables.{IsTableOf, no_figures}
use Rattle.name_meetings.specs.declared.pair_figures.PairFigures.{PairFigures}
use Rattle.name_meetings.specs.inner.Circles.{HasEntry, steps_between, is_in_row, place, width}
use Rattle.name_meetings.specs.inner.Noting.{TellsBoth, entry, met_onward, met_turned, onwards, turneds}
use Rattle.name_meetings.specs.inner.Pairs.{onward_of}
use Rattle.name_meetings.specs.inner.States.{square}
use Rattle.name_meetings.specs.inner.Strips.{AreStripsOf, AreWhole, figures_in, strip_at}
use Rattle.name_meetings.proofs.CircleLemmas.{far_is_in_row, near_kept, place_within}

-- the strip of a name has its row
pub kept_in_strip : (names a b : ℕ) → a < names → b < names → is_in_row names a b ≡ true → HasEntry names (16 * (a / 16)) a b
kept_in_strip names a b ha hb near = near_kept names (16 * (a / 16)) a b (omega arith) (omega arith) ha hb near

module _ {G A : Type 0} where
  strip_is : (strips : List (Vec (PairFigures G) A)) (k : ℕ) (d : Vec (PairFigures G) A) → k < length strips → strip_at strips k ≡ (get_or strips k d).items
  strip_is strips k d h = get_or-map (λ (strip : Vec (PairFigures G) A). strip.items) strips k d [] h

  -- what is lent is the entry
  pub entry_is : (view : PairFigures G → Between) (names : ℕ) (strips : List (Vec (PairFigures G) A)) (one other : ℕ) → AreWhole names strips → one < names → other < names → is_in_row names one other ≡ true
      → (s : Vec (PairFigures G) A) → s ≡ get_or strips (one / 16) s → (w d : ℕ) → w ≡ width names → d ≡ steps_between names one other → (x : PairFigures G) → x ≡ get_or s.items (one % 16 * w + d) x
      → view x ≡ entry (map view (strip_at strips (one / 16))) (place names (16 * (one / 16)) one other)
  entry_is view names strips one other whole ho ht near s s_is w d w_is d_is x x_is =
      let kept = kept_in_strip names one other ho ht near in
      let rows = whole.rows in
      let inside : one / 16 < length strips = omega (arith, ho, rows) in
      let strip : strip_at strips (one / 16) ≡ s.items = strip_is strips (one / 16) s inside ∙ sym (ap (λ (v : Vec (PairFigures G) A). v.items) s_is) in
      let long : length (get_or strips (one / 16) s).items ≡ width names * 16 = All-get_or (λ (v : Vec (PairFigures G) A). length v.items ≡ width names * 16) strips (one / 16) s inside whole.long in
      let at : ℕ = place names (16 * (one / 16)) one other in
      let within : at < length (strip_at strips (one / 16)) = subst (λ (n : ℕ). at < n) (sym long ∙ ap length (sym (strip_is strips (one / 16) s inside))) (place_within names (16 * (one / 16)) one other kept) in
      let row : one - 16 * (one / 16) ≡ one % 16 = omega arith in
      let spot : at ≡ one % 16 * w + d = ap₂ (λ (r y : ℕ). r * y + steps_between names one other) row (sym w_is) ∙ ap (λ (y : ℕ). one % 16 * w + y) (sym d_is) in
      ap view (x_is ∙ ap₂ (λ (l : List (PairFigures G)) (n : ℕ). get_or l n x) (sym strip) (sym spot))
      ∙ sym (get_or-map view (strip_at strips (one / 16)) at x no_figures within)

  -- strips that tell of all rows
  pub strips_are : (value : G → ℤ) (names : ℕ) (traces : List NamedTrace) (old strips : List (Vec (PairFigures G) A)) → names ≤ length old * 16 → length strips ≡ length old
      → ((k : ℕ) (d : Vec (PairFigures G) A) → k < length old → TellsBoth value names (16 * k) (get_or strips k d).items (met_onward traces) (met_turned traces))
      → AreStripsOf value names traces strips
  strips_are value names traces old strips rows same told = record {
    rows = omega (arith, rows, same);
    told = λ k h. subst (λ (l : List (PairFigures G)). TellsBoth value names (16 * k) l (met_onward traces) (met_turned traces)) (sym (strip_is strips k (any strips k h) h)) (told k (any strips k h) (omega (arith, h, same)));
  }
    where
      any : (xs : List (Vec (PairFigures G) A)) (k : ℕ) → k < length xs → Vec (PairFigures G) A
      any [] k h = absurd (omega (arith, h))
      any (x ∷ xs) k h = x

  pub strips_whole : (value : G → ℤ) (names : ℕ) (old strips : List (Vec (PairFigures G) A)) (met back : _) → names ≤ 512 → names ≤ length old * 16 → length strips ≡ length old
      → ((k : ℕ) (d : Vec (PairFigures G) A) → k < length old → TellsBoth value names (16 * k) (get_or strips k d).items met back)
      → AreWhole names strips
  strips_whole value names old strips met back few rows same told = record {
    few = few;
    rows = omega (arith, rows, same);
    long = λ k d h. sym (length-map (get_or strips k d).items (onward_of value)) ∙ (told k d (omega (arith, h, same))).onward.long;
  }

-- a list that was lent is written back
pub written_back : {X : Type 0} (n : ℕ) (old new : List X) → n ≡ length old → length new ≡ length old → take n (new ++ drop (length new) old) ≡ new
written_back n old new size same = take_at new (drop (length new) old) n (omega arith)

-- one more entry without a meeting
pub none_more : {G : Type 0} (view : PairFigures G → Between) (items : List (PairFigures G)) (n : ℕ) (p : PairFigures G) → map view items ≡ replicate n no_figures → view p ≡ no_figures → map view (items ++ p ∷ []) ≡ replicate (n + 1) no_figures
none_more view items n p are is =
    map-append view items (p ∷ []) ∙ ap₂ (λ (l : List Between) (f : Between). l ++ f ∷ []) are is ∙ replicate_more n no_figures ∙ ap (λ (k : ℕ). replicate k no_figures) {x = suc n} {y = n + 1} (omega arith)
  where
    replicate_more : {X : Type 0} (n : ℕ) (x : X) → replicate n x ++ x ∷ [] ≡ x ∷ replicate n x
    replicate_more zero x = refl
    replicate_more (suc n) x = ap (λ l. x ∷ l) (replicate_more n x)

-- the figures of two names are those of their meetings
pub between_is : {G A : Type 0} (value : G → ℤ) (names : ℕ) (traces : List NamedTrace) (strips : List (Vec (PairFigures G) A)) → AreStripsOf value names traces strips
    → (a b : ℕ) → a < names → b < names → AreMeetingFigures (meetings_from by_number (λ m n. eqb m n) a b 0 traces) (figures_in value names strips a b)
between_is value names traces strips are a b ha hb = by (is_in_row names a b) refl
  where
    by : (near : Bool) → is_in_row names a b ≡ near → AreMeetingFigures (meetings_from by_number (λ m n. eqb m n) a b 0 traces) (cond near (entry (onwards value (strip_at strips (a / 16))) (place names (16 * (a / 16)) a b)) (entry (turneds value (strip_at strips (b / 16))) (place names (16 * (b / 16)) b a)))
    by true e = let rows = are.rows in (are.told (a / 16) (omega (arith, ha, rows))).onward.each a b (kept_in_strip names a b ha hb e)
    by false e = let rows = are.rows in (are.told (b / 16) (omega (arith, hb, rows))).turned.each b a (kept_in_strip names b a hb ha (le-leb (2 * steps_between names b a) names (far_is_in_row names a b ha hb e)))

-- the square has them
pub square_at : (names : ℕ) (figures : ℕ → ℕ → Between) (a b : ℕ) → a < names → b < names → get_or (get_or (square names figures) a []) b no_figures ≡ figures a b
square_at names figures a b ha hb =
    ap (λ (row : List Between). get_or row b no_figures) (get_or-map-range_with_len (λ (i : ℕ). map (figures i) (range_with_len 0 names)) 0 names a a [] ha (omega arith))
    ∙ get_or-map-range_with_len (figures a) 0 names b b no_figures hb (omega arith)

-- so the table is that of the traces
pub table_is : {G A : Type 0} (value : G → ℤ) (names : ℕ) (traces : List NamedTrace) (own : ℕ) (strips : List (Vec (PairFigures G) A)) → own ≡ names → AreStripsOf value names traces strips
    → IsTableOf names traces (record { names = own; rows = square own (figures_in value own strips) })
table_is value names traces own strips same are a b ha hb =
    subst (AreMeetingFigures (meetings_from by_number (λ m n. eqb m n) a b 0 traces))
    (ap (λ (n : ℕ). figures_in value n strips a b) (sym same) ∙ sym (square_at own (figures_in value own strips) a b (omega (arith, ha, same)) (omega (arith, hb, same))))
    (between_is value names traces strips are a b ha hb)
