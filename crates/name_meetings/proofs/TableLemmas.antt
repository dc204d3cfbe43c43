-- Sixteen rows of figures, meeting by meeting.
use Rattle.std.proofs.Common.{◌≡◌, ◌≢◌, ℕ, zero, suc, ◌+◌, ◌*◌, ◌<◌, ◌≤◌, ℤ, Bool, true, false, cond, eqb, ◌&&◌, List, [], ◌∷◌, ◌++◌, length, take, get_or, set, replicate, flat_map, refl, sym, ap, ap₂, ◌∙◌, subst, arith, ⊎_elim, append-nil, append_assoc, length-set, length-take-le, get_or-set_same, get_or-set_other}
use Rattle.std.proofs.lemmas.Bool.{cases_eq, eq-eqb, ne_eqb}
use Rattle.std.proofs.lemmas.List.{take_more, flat_map_more, get_or_default}
use Rattle.std.proofs.lemmas.List.Sums.{count_by-le-length}
use Rattle.evidence_rules.specs.Meetings.{AreMeetingFigures, is_both, is_early, is_turned, meetings_from, meetings_in}
use Rattle.evidence_rules.specs.declared.between.Between.{Between}
use Rattle.evidence_rules.specs.declared.meeting.Meeting.{Meeting}
use Rattle.trace_types.specs.NamedSegments.{number_of_name}
use Rattle.trace_types.specs.Parts.{by_number}
use Rattle.trace_types.specs.SegmentLists.{NamesDiffer}
use Rattle.trace_types.specs.declared.named_segment.NamedSegment.{NamedSegment}
use Rattle.trace_types.specs.declared.named_trace.NamedTrace.{NamedTrace}
use Rattle.name_meetings.specs.Tables.{no_figures}
use Rattle.name_meetings.specs.declared.pair_figures.PairFigures.{PairFigures}
use Rattle.name_meetings.specs.inner.Adding.{IsCounted, with_meeting}
use Rattle.name_meetings.specs.inner.Circles.{HasEntry, place, width}
use Rattle.name_meetings.specs.inner.Noting.{AreAtMost, AreNew, IsRowAlone, IsRowAtMost, Meetings, Tells, TellsBoth, TellsSome, and_then, entry, meetings_among, meetings_with, met_onward, met_turned, one_meeting, onward_meeting, onwards, turned_meeting, turneds}
use Rattle.name_meetings.proofs.CircleLemmas.{place_within, same_place}
use Rattle.name_meetings.proofs.FigureLemmas.{figures_push}
use Rattle.name_meetings.proofs.TurnLemmas.{turned_in}

-- no count is above that of the meetings
counted : (met : List Meeting) (f : Between) (most : ℕ) → AreMeetingFigures met f → f.traces ≤ most → IsCounted f most
counted met f most are few =
    let early = count_by-le-length is_early met in
    let turned = count_by-le-length is_turned met in
    let both = count_by-le-length is_both met in
    let a = are.traces in let b = are.early in let c = are.turned in let d = are.both in
    record { traces = few; early = omega arith; turned = omega arith; both = omega arith }

-- one more element, under a function to lists
more_mapped : {X Y : Type 0} (f : X → List Y) (before : List Y) (xs : List X) (i : ℕ) (d : X) → i < length xs → before ++ flat_map f (take (i + 1) xs) ≡ (before ++ flat_map f (take i xs)) ++ f (get_or xs i d)
more_mapped f before xs i d inside = ap (λ l. before ++ flat_map f l) (take_more xs i d inside) ∙ sym (flat_map_more f before (take i xs) (get_or xs i d))

and_no : (x : Bool) {y : Bool} → y ≡ false → (x && y) ≡ false
and_no true e = e
and_no false e = refl

-- one trace more
meetings_more : (a b index : ℕ) (ts : List NamedTrace) (t : NamedTrace) → meetings_from by_number (λ m n. eqb m n) a b index (ts ++ t ∷ []) ≡ meetings_from by_number (λ m n. eqb m n) a b index ts ++ meetings_in by_number (λ m n. eqb m n) a b (index + length ts) t
meetings_more a b index [] t = append-nil (meetings_in by_number (λ m n. eqb m n) a b index t) ∙ ap (λ (n : ℕ). meetings_in by_number (λ m n. eqb m n) a b n t) (omega arith)
meetings_more a b index (u ∷ us) t =
    ap (λ l. meetings_in by_number (λ m n. eqb m n) a b index u ++ l) (meetings_more a b (index + 1) us t ∙ ap (λ (n : ℕ). meetings_from by_number (λ m n. eqb m n) a b (index + 1) us ++ meetings_in by_number (λ m n. eqb m n) a b n t) (omega arith))
    ∙ sym (append_assoc (meetings_in by_number (λ m n. eqb m n) a b index u) (meetings_from by_number (λ m n. eqb m n) a b (index + 1) us) (meetings_in by_number (λ m n. eqb m n) a b (index + length (u ∷ us)) t))

module _ (names first : ℕ) where
  -- the meetings are the same
  tells_is : (figures : List Between) (met more : Meetings) → ((a b : ℕ) → met a b ≡ more a b) → Tells names first figures met → Tells names first figures more
  tells_is figures met more same told = record {
    long = told.long;
    each = λ a b k. subst (λ (l : List Meeting). AreMeetingFigures l (entry figures (place names first a b))) (same a b) (told.each a b k);
  }

  -- where no meeting comes, the same figures tell
  tells_none : (figures : List Between) (met more : Meetings) → ((a b : ℕ) → HasEntry names first a b → more a b ≡ []) → Tells names first figures met → Tells names first figures (and_then met more)
  tells_none figures met more none told = record {
    long = told.long;
    each = λ a b k. subst (λ (l : List Meeting). AreMeetingFigures l (entry figures (place names first a b))) (sym (ap (λ (l : List Meeting). met a b ++ l) (none a b k) ∙ append-nil (met a b))) (told.each a b k);
  }

  module _ (make : NamedSegment → NamedSegment → Meeting) (s t : NamedSegment) (figures : List Between) (met : Meetings) where
    -- two names that have no entry here
    tells_skip : (HasEntry names first s.name t.name → ⊥) → Tells names first figures met → Tells names first figures (and_then met (one_meeting make s t))
    tells_skip skipped told = tells_none figures met (one_meeting make s t) (λ a b k. ap (λ (c : Bool). cond c (make s t ∷ []) []) (other a b k)) told
      where
        other : (a b : ℕ) → HasEntry names first a b → (eqb s.name a && eqb t.name b) ≡ false
        other a b k = ⊎_elim
            (λ (ea : s.name ≡ a). and_no (eqb s.name a) (ne_eqb t.name b (λ eb. skipped (subst (λ (n : ℕ). HasEntry names first n t.name) (sym ea) (subst (HasEntry names first a) (sym eb) k)))))
            (λ (na : s.name ≡ a → ⊥). ap (λ (x : Bool). x && eqb t.name b) (ne_eqb s.name a na))
            (cases_eq s.name a)

    -- two names that have one
    module _ (kept : HasEntry names first s.name t.name) (told : Tells names first figures met) where
      abbrev at : ℕ
      at = place names first s.name t.name

      abbrev after : List Between
      after = set figures at (with_meeting (entry figures at) (make s t))

      within : at < length figures
      within = subst (λ (n : ℕ). at < n) (sym told.long) (place_within names first s.name t.name kept)

      same_entry : entry after at ≡ with_meeting (entry figures at) (make s t)
      same_entry = get_or-set_same figures at (with_meeting (entry figures at) (make s t)) _ within

      other_entry : (k : ℕ) → k ≢ at → entry after k ≡ entry figures k
      other_entry k ne = get_or-set_other figures at k (with_meeting (entry figures at) (make s t)) _ ne

      tells_more : Tells names first after (and_then met (one_meeting make s t))
      tells_more = record {
        long = length-set figures at (with_meeting (entry figures at) (make s t)) ∙ told.long;
        each = λ a b k. here a b k (met a b) (told.each a b k);
      }
        where
          apart : (a b : ℕ) (l : List Meeting) → AreMeetingFigures l (entry figures (place names first a b)) → place names first a b ≢ at → (eqb s.name a && eqb t.name b) ≡ false → AreMeetingFigures (l ++ one_meeting make s t a b) (entry after (place names first a b))
          apart a b l are ne not_here =
              subst (λ (c : Bool). AreMeetingFigures (l ++ cond c (make s t ∷ []) []) (entry after (place names first a b))) (sym not_here)
              (subst (λ (m : List Meeting). AreMeetingFigures m (entry after (place names first a b))) (sym (append-nil l))
              (subst (AreMeetingFigures l) (sym (other_entry (place names first a b) ne)) are))

          here : (a b : ℕ) → HasEntry names first a b → (l : List Meeting) → AreMeetingFigures l (entry figures (place names first a b)) → AreMeetingFigures (l ++ one_meeting make s t a b) (entry after (place names first a b))
          here a b k l are = ⊎_elim
              (λ (ea : s.name ≡ a). ⊎_elim
              (λ (eb : t.name ≡ b).
              let at_place : place names first a b ≡ at = ap₂ (λ (x y : ℕ). place names first x y) (sym ea) (sym eb) in
              let yes : (eqb s.name a && eqb t.name b) ≡ true = ap₂ (λ (x y : Bool). x && y) (eq-eqb s.name a ea) (eq-eqb t.name b eb) in
              subst (λ (c : Bool). AreMeetingFigures (l ++ cond c (make s t ∷ []) []) (entry after (place names first a b))) (sym yes)
              (subst (λ (n : ℕ). AreMeetingFigures (l ++ make s t ∷ []) (entry after n)) (sym at_place)
              (subst (λ (f : Between). AreMeetingFigures (l ++ make s t ∷ []) f) (sym same_entry)
              (figures_push l (entry figures at) (make s t) (subst (λ (n : ℕ). AreMeetingFigures l (entry figures n)) at_place are)))))
              (λ (nb : t.name ≡ b → ⊥). apart a b l are (λ e. nb (sym (same_place names first a b s.name t.name k kept e).1))
              (and_no (eqb s.name a) (ne_eqb t.name b nb)))
              (cases_eq t.name b))
              (λ (na : s.name ≡ a → ⊥). apart a b l are (λ e. na (sym (same_place names first a b s.name t.name k kept e).0))
              (ap (λ (x : Bool). x && eqb t.name b) (ne_eqb s.name a na)))
              (cases_eq s.name a)

  -- a segment whose name has no row here
  no_row : (make : NamedSegment → NamedSegment → Meeting) (s : NamedSegment) (others : List NamedSegment) (a b : ℕ) → s.name ≢ a → meetings_with make s others a b ≡ []
  no_row make s [] a b ne = refl
  no_row make s (t ∷ ts) a b ne = ap₂ (λ (k l : List Meeting). k ++ l) (ap (λ (x : Bool). cond (x && eqb t.name b) (make s t ∷ []) []) (ne_eqb s.name a ne)) (no_row make s ts a b ne)

  module _ {G : Type 0} (value : G → ℤ) (index : ℕ) (trace : NamedTrace) where
    abbrev segments : List NamedSegment
    segments = trace.segments

    -- ---- one segment of a trace with the others so far
    pub record RowSoFar (s : NamedSegment) (old : List (PairFigures G)) (at : ℕ) (figures : List (PairFigures G)) : Type 0 where
      pub told : (met back : Meetings) → TellsBoth value names first old met back
          → TellsBoth value names first figures (and_then met (meetings_with (onward_meeting index trace) s (take at segments))) (and_then back (meetings_with (turned_meeting index trace) s (take at segments)))
      pub ahead : (k : ℕ) (d : NamedSegment) → at ≤ k → k < length segments → HasEntry names first s.name (get_or segments k d).name
          → entry (onwards value figures) (place names first s.name (get_or segments k d).name) ≡ entry (onwards value old) (place names first s.name (get_or segments k d).name)
      pub few : IsRowAtMost names first s.name (onwards value figures) (index + 1)
      pub alone : IsRowAlone names first s.name (onwards value old) (onwards value figures)

    module _ (s : NamedSegment) (old : List (PairFigures G)) where
      pub row_none : IsRowAtMost names first s.name (onwards value old) index → RowSoFar s old 0 old
      row_none before = record {
        told = λ met back t. record {
          onward = tells_none (onwards value old) met (λ a b. []) (λ a b k. refl) t.onward;
          turned = tells_none (turneds value old) back (λ a b. []) (λ a b k. refl) t.turned;
        };
        ahead = λ k d l h kept. refl;
        few = λ b kept. let f = before b kept in omega (arith, f);
        alone = λ a b kept ne. refl;
      }

      module _ (at : ℕ) (inside : at < length segments) (figures : List (PairFigures G)) (so_far : RowSoFar s old at figures) (d : NamedSegment) where
        abbrev other : NamedSegment
        other = get_or segments at d

        -- the meetings with one more segment
        more : (make : NamedSegment → NamedSegment → Meeting) (met : Meetings) (a b : ℕ) → and_then (and_then met (meetings_with make s (take at segments))) (one_meeting make s other) a b ≡ and_then met (meetings_with make s (take (at + 1) segments)) a b
        more make met a b = sym (more_mapped (λ (t : NamedSegment). one_meeting make s t a b) (met a b) segments at d inside)

        -- the other name has no entry in the row
        pub row_skip : (HasEntry names first s.name other.name → ⊥) → RowSoFar s old (at + 1) figures
        row_skip skipped = record {
          told = λ met back t.
              let so = so_far.told met back t in
              let on = onward_meeting index trace in
              let turn = turned_meeting index trace in
              record {
                onward = tells_is (onwards value figures) _ _ (more on met) (tells_skip on s other (onwards value figures) (and_then met (meetings_with on s (take at segments))) skipped so.onward);
                turned = tells_is (turneds value figures) _ _ (more turn back) (tells_skip turn s other (turneds value figures) (and_then back (meetings_with turn s (take at segments))) skipped so.turned);
              };
          ahead = λ k e l h kept. so_far.ahead k e (omega (arith, l)) h kept;
          few = so_far.few;
          alone = so_far.alone;
        }

        module _ (some : TellsSome value names first old) (differ : NamesDiffer number_of_name segments) (before : IsRowAtMost names first s.name (onwards value old) index) (kept : HasEntry names first s.name other.name) where
          abbrev spot : ℕ
          spot = place names first s.name other.name

          some_now : TellsBoth value names first figures (and_then some.met (meetings_with (onward_meeting index trace) s (take at segments))) (and_then some.back (meetings_with (turned_meeting index trace) s (take at segments)))
          some_now = so_far.told some.met some.back some.told

          pub row_place : spot < length (onwards value figures)
          row_place = subst (λ (n : ℕ). spot < n) (sym some_now.onward.long) (place_within names first s.name other.name kept)

          -- its entry is what it was
          row_few : (entry (onwards value figures) spot).traces ≤ index
          row_few = subst (λ (f : Between). f.traces ≤ index) (sym (so_far.ahead at d (omega arith) inside kept)) (before other.name kept)

          pub row_counted : (most : ℕ) → index ≤ most → IsCounted (entry (onwards value figures) spot) most
          row_counted most le = let few = row_few in counted _ (entry (onwards value figures) spot) most (some_now.onward.each s.name other.name kept) (omega (arith, few, le))

          module _ (after : List (PairFigures G))
              (onward_is : onwards value after ≡ set (onwards value figures) spot (with_meeting (entry (onwards value figures) spot) (onward_meeting index trace s other)))
              (turned_is : turneds value after ≡ set (turneds value figures) spot (with_meeting (entry (turneds value figures) spot) (turned_meeting index trace s other))) where
            same : entry (onwards value after) spot ≡ with_meeting (entry (onwards value figures) spot) (onward_meeting index trace s other)
            same = ap (λ (l : List Between). entry l spot) onward_is ∙ get_or-set_same (onwards value figures) spot (with_meeting (entry (onwards value figures) spot) (onward_meeting index trace s other)) _ row_place

            others : (k : ℕ) → k ≢ spot → entry (onwards value after) k ≡ entry (onwards value figures) k
            others k ne = ap (λ (l : List Between). entry l k) onward_is ∙ get_or-set_other (onwards value figures) spot k (with_meeting (entry (onwards value figures) spot) (onward_meeting index trace s other)) _ ne

            pub row_more : RowSoFar s old (at + 1) after
            row_more = record {
              told = λ met back t.
                  let so = so_far.told met back t in
                  let on = onward_meeting index trace in
                  let turn = turned_meeting index trace in
                  let met_on = and_then met (meetings_with on s (take at segments)) in
                  let met_turn = and_then back (meetings_with turn s (take at segments)) in
                  record {
                    onward = subst (λ (l : List Between). Tells names first l (and_then met (meetings_with on s (take (at + 1) segments)))) (sym onward_is) (tells_is _ _ _ (more on met) (tells_more on s other (onwards value figures) met_on kept so.onward));
                    turned = subst (λ (l : List Between). Tells names first l (and_then back (meetings_with turn s (take (at + 1) segments)))) (sym turned_is) (tells_is _ _ _ (more turn back) (tells_more turn s other (turneds value figures) met_turn kept so.turned));
                  };
              ahead = λ k e l h kept_then.
                  let ne : (get_or segments k e).name ≢ other.name = λ same_name. differ at k e (omega (arith, l)) h (default_same e ∙ sym same_name) in
                  others (place names first s.name (get_or segments k e).name) (λ same_spot. ne (same_place names first s.name (get_or segments k e).name s.name other.name kept_then kept same_spot).1)
                  ∙ so_far.ahead k e (omega (arith, l)) h kept_then;
              few = λ b kept_then. ⊎_elim
                  (λ (e : other.name ≡ b).
                  let r = row_few in
                  subst (λ (k : ℕ). (entry (onwards value after) (place names first s.name k)).traces ≤ index + 1) e
                  (subst (λ (f : Between). f.traces ≤ index + 1) (sym same) (omega (arith, r))))
                  (λ (ne : other.name ≡ b → ⊥). subst (λ (f : Between). f.traces ≤ index + 1) (sym (others (place names first s.name b) (λ e. ne (sym (same_place names first s.name b s.name other.name kept_then kept e).1)))) (so_far.few b kept_then))
                  (cases_eq other.name b);
              alone = λ a b kept_then ne. others (place names first a b) (λ e. ne (same_place names first a b s.name other.name kept_then kept e).0) ∙ so_far.alone a b kept_then ne;
            }
              where
                default_same : (e : NamedSegment) → (get_or segments at e).name ≡ other.name
                default_same e = ap (λ (t : NamedSegment). t.name) (get_or_default segments at e d inside)

    -- ---- the segments of a trace so far with all of it
    pub record TraceSoFar (old : List (PairFigures G)) (at : ℕ) (figures : List (PairFigures G)) : Type 0 where
      pub told : (met back : Meetings) → TellsBoth value names first old met back
          → TellsBoth value names first figures (and_then met (meetings_among (onward_meeting index trace) (take at segments) segments)) (and_then back (meetings_among (turned_meeting index trace) (take at segments) segments))
      pub ahead : (k b : ℕ) (d : NamedSegment) → at ≤ k → k < length segments → HasEntry names first (get_or segments k d).name b
          → entry (onwards value figures) (place names first (get_or segments k d).name b) ≡ entry (onwards value old) (place names first (get_or segments k d).name b)
      pub few : AreAtMost names first (onwards value figures) (index + 1)

    module _ (old : List (PairFigures G)) where
      pub trace_none : AreAtMost names first (onwards value old) index → TraceSoFar old 0 old
      trace_none before = record {
        told = λ met back t. record {
          onward = tells_none (onwards value old) met (λ a b. []) (λ a b k. refl) t.onward;
          turned = tells_none (turneds value old) back (λ a b. []) (λ a b k. refl) t.turned;
        };
        ahead = λ k b d l h kept. refl;
        few = λ a b kept. let f = before a b kept in omega (arith, f);
      }

      module _ (at : ℕ) (inside : at < length segments) (figures : List (PairFigures G)) (so_far : TraceSoFar old at figures) (d : NamedSegment) where
        abbrev one : NamedSegment
        one = get_or segments at d

        more_among : (make : NamedSegment → NamedSegment → Meeting) (met : Meetings) (a b : ℕ) → and_then (and_then met (meetings_among make (take at segments) segments)) (meetings_with make one segments) a b ≡ and_then met (meetings_among make (take (at + 1) segments) segments) a b
        more_among make met a b = sym (more_mapped (λ (s : NamedSegment). meetings_with make s segments a b) (met a b) segments at d inside)

        -- the segment's name has no row here
        pub trace_skip : (first ≤ one.name → one.name < first + 16 → ⊥) → TraceSoFar old (at + 1) figures
        trace_skip outside = record {
          told = λ met back t.
              let so = so_far.told met back t in
              let on = onward_meeting index trace in
              let turn = turned_meeting index trace in
              record {
                onward = tells_is (onwards value figures) _ _ (more_among on met) (tells_none (onwards value figures) (and_then met (meetings_among on (take at segments) segments)) (meetings_with on one segments) (λ a b k. no_row on one segments a b (elsewhere a b k)) so.onward);
                turned = tells_is (turneds value figures) _ _ (more_among turn back) (tells_none (turneds value figures) (and_then back (meetings_among turn (take at segments) segments)) (meetings_with turn one segments) (λ a b k. no_row turn one segments a b (elsewhere a b k)) so.turned);
              };
          ahead = λ k b e l h kept. so_far.ahead k b e (omega (arith, l)) h kept;
          few = so_far.few;
        }
          where
            elsewhere : (a b : ℕ) → HasEntry names first a b → one.name ≢ a
            elsewhere a b k e = outside (subst (λ (n : ℕ). first ≤ n) (sym e) k.from) (subst (λ (n : ℕ). n < first + 16) (sym e) k.to)

        pub trace_some : TellsSome value names first old → TellsSome value names first figures
        trace_some some = record { met = _; back = _; told = so_far.told some.met some.back some.told }

        pub trace_few : AreAtMost names first (onwards value old) index → IsRowAtMost names first one.name (onwards value figures) index
        trace_few before b kept = subst (λ (f : Between). f.traces ≤ index) (sym (so_far.ahead at b d (omega arith) inside kept)) (before one.name b kept)

        pub trace_more : NamesDiffer number_of_name segments → (after : List (PairFigures G))
            → ((met back : Meetings) → TellsBoth value names first figures met back → TellsBoth value names first after (and_then met (meetings_with (onward_meeting index trace) one segments)) (and_then back (meetings_with (turned_meeting index trace) one segments)))
            → IsRowAtMost names first one.name (onwards value after) (index + 1) → IsRowAlone names first one.name (onwards value figures) (onwards value after) → TraceSoFar old (at + 1) after
        trace_more differ after told few alone = record {
          told = λ met back t.
              let on = onward_meeting index trace in
              let turn = turned_meeting index trace in
              let so = told (and_then met (meetings_among on (take at segments) segments)) (and_then back (meetings_among turn (take at segments) segments)) (so_far.told met back t) in
              record {
                onward = tells_is (onwards value after) _ _ (more_among on met) so.onward;
                turned = tells_is (turneds value after) _ _ (more_among turn back) so.turned;
              };
          ahead = λ k b e l h kept.
              let ne : (get_or segments k e).name ≢ one.name = λ same. differ at k e (omega (arith, l)) h (ap (λ (t : NamedSegment). t.name) (get_or_default segments at e d inside) ∙ sym same) in
              alone (get_or segments k e).name b kept ne ∙ so_far.ahead k b e (omega (arith, l)) h kept;
          few = λ a b kept. ⊎_elim
              (λ (e : a ≡ one.name). subst (λ (n : ℕ). (entry (onwards value after) (place names first n b)).traces ≤ index + 1) (sym e) (few b (subst (λ (n : ℕ). HasEntry names first n b) e kept)))
              (λ (ne : a ≡ one.name → ⊥). subst (λ (f : Between). f.traces ≤ index + 1) (sym (alone a b kept ne)) (so_far.few a b kept))
              (cases_eq a one.name);
        }

  -- ---- the traces so far
  module _ {G : Type 0} (value : G → ℤ) where
    pub record TracesSoFar (traces : List NamedTrace) (at : ℕ) (figures : List (PairFigures G)) : Type 0 where
      pub told : TellsBoth value names first figures (met_onward (take at traces)) (met_turned (take at traces))
      pub few : AreAtMost names first (onwards value figures) at

    pub traces_some : (traces : List NamedTrace) (at : ℕ) (figures : List (PairFigures G)) → TracesSoFar traces at figures → TellsSome value names first figures
    traces_some _ _ _ so_far = record { met = _; back = _; told = so_far.told }

    pub traces_more : (traces : List NamedTrace) (at : ℕ) (d : NamedTrace) (figures after : List (PairFigures G)) → at < length traces → TracesSoFar traces at figures
        → ((met back : Meetings) → TellsBoth value names first figures met back
        → TellsBoth value names first after (and_then met (meetings_among (onward_meeting at (get_or traces at d)) (get_or traces at d).segments (get_or traces at d).segments)) (and_then back (meetings_among (turned_meeting at (get_or traces at d)) (get_or traces at d).segments (get_or traces at d).segments)))
        → AreAtMost names first (onwards value after) (at + 1) → TracesSoFar traces (at + 1) after
    traces_more traces at d figures after inside so_far told few =
        let so = told (met_onward (take at traces)) (met_turned (take at traces)) so_far.told in
        record {
          told = record {
            onward = tells_is (onwards value after) _ _ (λ a b. further a b) so.onward;
            turned = tells_is (turneds value after) _ _ (λ a b. ap (λ (l : List Meeting). met_turned (take at traces) a b ++ l) (turned_in at one a b one.names_differ) ∙ further b a) so.turned;
          };
          few = few;
        }
      where
        one : NamedTrace
        one = get_or traces at d

        further : (a b : ℕ) → met_onward (take at traces) a b ++ meetings_in by_number (λ m n. eqb m n) a b at one ≡ met_onward (take (at + 1) traces) a b
        further a b =
            ap (λ (n : ℕ). met_onward (take at traces) a b ++ meetings_in by_number (λ m n. eqb m n) a b n one) (let l = length-take-le at traces (omega (arith, inside)) in omega (arith, l))
            ∙ sym (meetings_more a b 0 (take at traces) one) ∙ ap (λ (l : List NamedTrace). met_onward l a b) (sym (take_more traces at d inside))

    pub traces_none : (traces : List NamedTrace) (figures : List (PairFigures G)) → AreNew value names figures → TracesSoFar traces 0 figures
    traces_none traces figures new = record {
      told = record { onward = empty (onwards value figures) new.onward (met_onward []) (λ a b. refl); turned = empty (turneds value figures) new.turned (met_turned []) (λ a b. refl) };
      few = λ a b k. subst (λ (f : Between). f.traces ≤ 0) (sym (is (onwards value figures) new.onward a b k)) (omega arith);
    }
      where
        length_replicate : (k : ℕ) → length (replicate k no_figures) ≡ k
        length_replicate zero = refl
        length_replicate (suc k) = ap (λ (m : ℕ). suc m) (length_replicate k)

        get_replicate : (n : ℕ) (f d : Between) (i : ℕ) → i < n → get_or (replicate n f) i d ≡ f
        get_replicate zero f d i h = absurd (omega (arith, h))
        get_replicate (suc n) f d zero h = refl
        get_replicate (suc n) f d (suc i) h = get_replicate n f d i (omega (arith, h))

        is : (l : List Between) → l ≡ replicate (width names * 16) no_figures → (a b : ℕ) → HasEntry names first a b → entry l (place names first a b) ≡ no_figures
        is l new a b k = ap (λ (x : List Between). entry x (place names first a b)) new ∙ get_replicate (width names * 16) no_figures no_figures (place names first a b) (place_within names first a b k)

        empty : (l : List Between) → l ≡ replicate (width names * 16) no_figures → (met : Meetings) → ((a b : ℕ) → met a b ≡ []) → Tells names first l met
        empty l new met none = record {
          long = ap length new ∙ length_replicate (width names * 16);
          each = λ a b k. subst (λ (m : List Meeting). AreMeetingFigures m (entry l (place names first a b))) (sym (none a b)) (subst (AreMeetingFigures []) (sym (is l new a b k)) (record { traces = refl; early = refl; turned = refl; both = refl; first_early = refl; first_both = refl; least = refl; greatest = refl; nearest = refl }));
        }
