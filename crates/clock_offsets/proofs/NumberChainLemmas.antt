-- The chains of a table of numbers: a number is found along its chain, and an entry is added at its head.
use Rattle.std.proofs.Common.{◌≡◌, ◌≢◌, ℕ, zero, suc, ◌+◌, ◌<◌, ◌≤◌, Bool, true, false, cond, Option, Some, None, is_some, List, [], ◌∷◌, ◌++◌, length, get_or, set, take, map, reverse, arith, refl, sym, subst, ap, ◌∙◌, ⊎_elim, eqb}
use Rattle.std.specs.Cmp.Derive.{both_true}
use Rattle.std.proofs.Math.Seq.{take-suc, take-length}
use Rattle.std.proofs.lemmas.Bool.{cases_lt, cases_eq, eqb-true, eq-eqb}
use Rattle.std.proofs.lemmas.List.{get_or-map, get_or_default, get_or_append_left, get_or_push, length_push, length-set, get_or-set_same, get_or-set_other, map-append, reverse-append}
use Rattle.trace_types.proofs.TruthLemmas.{both_hold}
use Rattle.clock_offsets.specs.declared.number_entry.NumberEntry.{NumberEntry}
use Rattle.clock_offsets.specs.NumberPlaces.{NumberPlace, is_of, place_in, places_with}
use Rattle.clock_offsets.specs.inner.Digests.{chain_of}
use Rattle.clock_offsets.specs.inner.NumberChains.{mix_of, number_place, newest_first, own_chain, chain_at, older_at, IsTop, IsChained}

-- a place of a number of a group has both
pub of_both : (g t : ℕ) (p : NumberPlace) → is_of g t p ≡ true → (p.group ≡ g) × (p.number ≡ t)
of_both g t p e = let b = both_hold (eqb p.group g) (eqb p.number t) e in (eqb-true p.group g b.0, eqb-true p.number t b.1)

-- an entry of another chain is not of the number
pub other_chain : (count d g t : ℕ) (x : NumberEntry) → d ≡ mix_of g t → (own_chain count x ≡ chain_of count d → ⊥) → (b : Bool) → is_of g t (number_place x) ≡ b → is_of g t (number_place x) ≡ false
other_chain count d g t x is other true e =
    let h = of_both g t (number_place x) e in
    let same : mix_of x.group x.number ≡ mix_of g t = ap (λ i. mix_of i x.number) h.0 ∙ ap (mix_of g) h.1 in
    absurd (other (ap (chain_of count) (same ∙ sym is)))
other_chain count d g t x is other false e = e

-- one entry more is the newest
pub newest_more : (es : List NumberEntry) (x : NumberEntry) → newest_first (es ++ x ∷ []) ≡ number_place x ∷ newest_first es
newest_more es x = ap reverse (map-append number_place es (x ∷ [])) ∙ reverse-append (map number_place es) (number_place x ∷ [])

-- what the oldest n entries have for a number
abbrev pub place_to : List NumberEntry → ℕ → ℕ → ℕ → Option ℕ
place_to es n g t = place_in (newest_first (take n es)) g t

-- one entry more
pub place_more : (es : List NumberEntry) (n : ℕ) (x : NumberEntry) (g t : ℕ) → n < length es → x ≡ get_or es n x → place_to es (suc n) g t ≡ cond (is_of g t (number_place x)) (Some x.place) (place_to es n g t)
place_more es n x g t lt is =
    ap (λ l. place_in (newest_first l) g t) (take-suc es n x lt)
    ∙ (ap (λ y. place_in (newest_first (take n es ++ y ∷ [])) g t) (sym is)
    ∙ ap (λ l. place_in l g t) (newest_more (take n es) x))

-- entries of other numbers add nothing
skipped : (d : NumberEntry) (es : List NumberEntry) (n m g : ℕ) (t : ℕ) → m ≤ n → n ≤ length es → ((i : ℕ) (x : NumberEntry) → m ≤ i → i < n → x ≡ get_or es i x → is_of g t (number_place x) ≡ false) → place_to es n g t ≡ place_to es m g t
skipped d es zero m g t le within none = let same : 0 ≡ m = omega arith in ap (λ k. place_to es k g t) same
skipped d es (suc n) m g t le within none = ⊎_elim
    (λ (below : n < m). let same : suc n ≡ m = omega arith in ap (λ k. place_to es k g t) same)
    (λ (above : m ≤ n).
    let x : NumberEntry = get_or es n d in
    let lt : n < length es = omega arith in
    let is : x ≡ get_or es n x = get_or_default es n d x lt in
    place_more es n x g t lt is
    ∙ (ap (λ b. cond b (Some x.place) (place_to es n g t)) (none n x above (omega arith) is)
    ∙ skipped d es n m g t above (omega arith) (λ i y l h e. none i y l (omega arith) e)))
    (cases_lt n m)

pub skip : (es : List NumberEntry) (n m g : ℕ) (t : ℕ) → m ≤ n → n ≤ length es → ((i : ℕ) (x : NumberEntry) → m ≤ i → i < n → x ≡ get_or es i x → is_of g t (number_place x) ≡ false) → place_to es n g t ≡ place_to es m g t
skip [] n m g t le within none = let same : n ≡ m = omega arith in ap (λ k. place_to [] k g t) same
skip (e ∷ es) n m g t le within none = skipped e (e ∷ es) n m g t le within none

-- the chain of an entry that was read
pub chain_is : (count : ℕ) (es : List NumberEntry) (i : ℕ) (x : NumberEntry) → i < length es → x ≡ get_or es i x → chain_at count es i ≡ own_chain count x
chain_is count es i x lt is = get_or-map (own_chain count) es i x 0 lt ∙ ap (own_chain count) (sym is)

older_is : (es : List NumberEntry) (i : ℕ) (x : NumberEntry) → i < length es → x ≡ get_or es i x → older_at es i ≡ x.older
older_is es i x lt is = get_or-map (λ (e : NumberEntry). e.older) es i x 0 lt ∙ ap (λ (e : NumberEntry). e.older) (sym is)

-- the same of the entry at an index
off_chain : (chains : List ℕ) (es : List NumberEntry) (d g t i : ℕ) (x : NumberEntry) → IsChained chains es → d ≡ mix_of g t → i < length es → x ≡ get_or es i x → chain_at (length chains) es i ≢ chain_of (length chains) d → is_of g t (number_place x) ≡ false
off_chain chains es d g t i x table is lt at other = other_chain (length chains) d g t x is (λ same. other (chain_is (length chains) es i x lt at ∙ same)) (is_of g t (number_place x)) refl

-- the way along a chain: the entries from next on are not of the number
pub record IsOnWay (chains : List ℕ) (es : List NumberEntry) (d g t : ℕ) (next : ℕ) : Type 0 where
  pub within : next ≤ length es
  pub here : (i : ℕ) → i + 1 ≡ next → chain_at (length chains) es i ≡ chain_of (length chains) d
  pub rest : place_to es next g t ≡ place_in (newest_first es) g t

-- it starts at the newest entry
pub way_start : (chains : List ℕ) (es : List NumberEntry) (d g t : ℕ) (c : ℕ) → IsChained chains es → d ≡ mix_of g t → c ≡ chain_of (length chains) d → c < length chains → IsOnWay chains es d g t (get_or chains c 0)
way_start chains es d g t c table is e lt =
    let top = table.newest c lt in
    record {
      within = top.within;
      here = λ i j. top.here i j ∙ e;
      rest = sym (skip es (length es) (get_or chains c 0) g t top.within (omega arith) (λ i x le below at. off_chain chains es d g t i x table is below at (λ same. top.newest i le below (same ∙ sym e))))
          ∙ ap (λ l. place_in (newest_first l) g t) (take-length es);
    }

-- the entry that stands for none
abbrev pub no_entry : NumberEntry
no_entry = record { group = 0; number = 0; place = 0; older = 0 }

-- an entry is at its index
pub entry_is : (es : List NumberEntry) (n : ℕ) → n < length es → get_or es n no_entry ≡ get_or es n (get_or es n no_entry)
entry_is es n lt = get_or_default es n no_entry (get_or es n no_entry) lt

-- each next older entry is older
pub way_falls : (chains : List ℕ) (es : List NumberEntry) (n next : ℕ) → IsChained chains es → n + 1 ≡ next → next ≤ length es → (get_or es n no_entry).older < next
way_falls chains es n next table e le =
    let lt : n < length es = omega arith in
    let within : older_at es n ≤ n = (table.older n lt).within in
    let is : older_at es n ≡ (get_or es n no_entry).older = older_is es n (get_or es n no_entry) lt (entry_is es n lt) in
    omega arith

-- it goes on at the next older entry
pub way_on : (chains : List ℕ) (es : List NumberEntry) (d g t : ℕ) (next n : ℕ) (x : NumberEntry) → IsChained chains es → d ≡ mix_of g t → n + 1 ≡ next → x ≡ get_or es n x → IsOnWay chains es d g t next → is_of g t (number_place x) ≡ false → IsOnWay chains es d g t x.older
way_on chains es d g t next n x table is e at way other =
    let within : next ≤ length es = way.within in
    let lt : n < length es = omega arith in
    let older : older_at es n ≡ x.older = older_is es n x lt at in
    let top = table.older n lt in
    let chain : chain_at (length chains) es n ≡ chain_of (length chains) d = way.here n e in
    let below : older_at es n ≤ n = top.within in
    let step : place_to es (suc n) g t ≡ place_to es n g t = place_more es n x g t lt at ∙ ap (λ b. cond b (Some x.place) (place_to es n g t)) other in
    let rest : place_to es n g t ≡ place_to es (older_at es n) g t = skip es n (older_at es n) g t below (omega arith) (λ i y le l y_at. off_chain chains es d g t i y table is (omega arith) y_at (λ same. top.newest i le l (same ∙ sym chain))) in
    record {
      within = omega arith;
      here = λ i j. top.here i (j ∙ sym older) ∙ chain;
      rest = let now : suc n ≡ next = omega arith in ap (λ k. place_to es k g t) (sym older) ∙ (sym rest ∙ (sym step ∙ (ap (λ k. place_to es k g t) now ∙ way.rest)));
    }

-- an entry of the number has its place
pub way_found : (chains : List ℕ) (es : List NumberEntry) (d g t : ℕ) (next n : ℕ) (x : NumberEntry) → n + 1 ≡ next → x ≡ get_or es n x → IsOnWay chains es d g t next → is_of g t (number_place x) ≡ true → Some x.place ≡ place_in (newest_first es) g t
way_found chains es d g t next n x e at way here =
    let within : next ≤ length es = way.within in
    let step : place_to es (suc n) g t ≡ Some x.place = place_more es n x g t (omega arith) at ∙ ap (λ b. cond b (Some x.place) (place_to es n g t)) here in
    let now : suc n ≡ next = omega arith in
    sym step ∙ (ap (λ k. place_to es k g t) now ∙ way.rest)

-- the way through few entries: those from next on are not of the number
pub record IsOnFewWay (es : List NumberEntry) (g t : ℕ) (next : ℕ) : Type 0 where
  pub within : next ≤ length es
  pub rest : place_to es next g t ≡ place_in (newest_first es) g t

pub few_start : (es : List NumberEntry) (g t : ℕ) (n : ℕ) → n ≡ length es → IsOnFewWay es g t n
few_start es g t n all = record {
  within = omega arith;
  rest = ap (λ k. place_to es k g t) all ∙ ap (λ l. place_in (newest_first l) g t) (take-length es);
}

pub few_on : (es : List NumberEntry) (g t : ℕ) (next n : ℕ) (x : NumberEntry) → n + 1 ≡ next → x ≡ get_or es n x → IsOnFewWay es g t next → is_of g t (number_place x) ≡ false → IsOnFewWay es g t n
few_on es g t next n x e at way other =
    let within : next ≤ length es = way.within in
    let now : suc n ≡ next = omega arith in
    let step : place_to es (suc n) g t ≡ place_to es n g t = place_more es n x g t (omega arith) at ∙ ap (λ b. cond b (Some x.place) (place_to es n g t)) other in
    record {
      within = omega arith;
      rest = sym step ∙ (ap (λ k. place_to es k g t) now ∙ way.rest);
    }

pub few_found : (es : List NumberEntry) (g t : ℕ) (next n : ℕ) (x : NumberEntry) → n + 1 ≡ next → x ≡ get_or es n x → IsOnFewWay es g t next → is_of g t (number_place x) ≡ true → Some x.place ≡ place_in (newest_first es) g t
few_found es g t next n x e at way here =
    let within : next ≤ length es = way.within in
    let now : suc n ≡ next = omega arith in
    let step : place_to es (suc n) g t ≡ Some x.place = place_more es n x g t (omega arith) at ∙ ap (λ b. cond b (Some x.place) (place_to es n g t)) here in
    sym step ∙ (ap (λ k. place_to es k g t) now ∙ way.rest)

-- a number that has no place gets one
pub places_added : (es : List NumberEntry) (x : NumberEntry) → place_in (newest_first es) x.group x.number ≡ None → newest_first (es ++ x ∷ []) ≡ places_with (newest_first es) x.group x.number x.place
places_added es x none = newest_more es x ∙ sym (ap (λ o. cond (is_some o) (newest_first es) (number_place x ∷ newest_first es)) none)

-- an entry that is added has its place
pub place_added : (es : List NumberEntry) (x : NumberEntry) → place_in (newest_first (es ++ x ∷ [])) x.group x.number ≡ Some x.place
place_added es x =
    ap (λ l. place_in l x.group x.number) (newest_more es x)
    ∙ ap (λ b. cond b (Some x.place) (place_in (newest_first es) x.group x.number)) (both_true (eq-eqb x.group x.group refl) (eq-eqb x.number x.number refl))

-- a table with no entries
pub empty_table : (chains : List ℕ) → 0 < length chains → ((c : ℕ) → get_or chains c 0 ≡ 0) → IsChained chains []
empty_table chains some none = record {
  some = some;
  newest = λ c lt. let top : get_or chains c 0 ≡ 0 = none c in record {
    within = omega arith;
    newest = λ i le below. absurd (omega arith);
    here = λ i e. absurd (omega arith);
  };
  older = λ i lt. absurd (omega arith);
}

-- the chains and the older entries of the entries before one that is added
chain_kept : (count : ℕ) (es : List NumberEntry) (x : NumberEntry) (i : ℕ) → i < length es → chain_at count (es ++ x ∷ []) i ≡ chain_at count es i
chain_kept count es x i lt =
    let at : get_or es i x ≡ get_or es i (get_or es i x) = get_or_default es i x (get_or es i x) lt in
    let more : length (es ++ x ∷ []) ≡ length es + 1 = length_push es x in
    chain_is count (es ++ x ∷ []) i (get_or es i x) (omega arith) (at ∙ sym (get_or_append_left es (x ∷ []) (get_or es i x) i lt)) ∙ sym (chain_is count es i (get_or es i x) lt at)

older_kept : (es : List NumberEntry) (x : NumberEntry) (i : ℕ) → i < length es → older_at (es ++ x ∷ []) i ≡ older_at es i
older_kept es x i lt =
    let at : get_or es i x ≡ get_or es i (get_or es i x) = get_or_default es i x (get_or es i x) lt in
    let more : length (es ++ x ∷ []) ≡ length es + 1 = length_push es x in
    older_is (es ++ x ∷ []) i (get_or es i x) (omega arith) (at ∙ sym (get_or_append_left es (x ∷ []) (get_or es i x) i lt)) ∙ sym (older_is es i (get_or es i x) lt at)

top_kept : (count : ℕ) (es : List NumberEntry) (x : NumberEntry) (c n top : ℕ) → n ≤ length es → IsTop count es c n top → IsTop count (es ++ x ∷ []) c n top
top_kept count es x c n top le t =
    let within : top ≤ n = t.within in
    record {
      within = t.within;
      newest = λ i l h same. t.newest i l h (sym (chain_kept count es x i (omega arith)) ∙ same);
      here = λ i e. chain_kept count es x i (omega arith) ∙ t.here i e;
    }

-- an entry is added at the head of its chain
pub table_more : (chains : List ℕ) (es : List NumberEntry) (x : NumberEntry) (c : ℕ) → IsChained chains es → c ≡ own_chain (length chains) x → c < length chains → x.older ≡ get_or chains c 0 → IsChained (set chains c (length es + 1)) (es ++ x ∷ [])
table_more chains es x c table is lt older =
    let count : length (set chains c (length es + 1)) ≡ length chains = length-set chains c (length es + 1) in
    let more : length (es ++ x ∷ []) ≡ length es + 1 = length_push es x in
    let last : (i : ℕ) → i ≡ length es → x ≡ get_or (es ++ x ∷ []) i x = λ i e. sym (get_or_push es x x i (sym e)) in
    let chain : (i : ℕ) → i ≡ length es → chain_at (length chains) (es ++ x ∷ []) i ≡ c = λ i e. chain_is (length chains) (es ++ x ∷ []) i x (omega arith) (last i e) ∙ sym is in
    let news : (k : ℕ) → k < length chains → IsTop (length chains) (es ++ x ∷ []) k (length (es ++ x ∷ [])) (get_or (set chains c (length es + 1)) k 0) = λ k l. ⊎_elim
    (λ (here : k ≡ c).
    let top : get_or (set chains c (length es + 1)) k 0 ≡ length es + 1 = ap (λ j. get_or (set chains c (length es + 1)) j 0) here ∙ get_or-set_same chains c (length es + 1) 0 lt in
    record {
      within = omega arith;
      newest = λ i le h. absurd (omega arith);
      here = λ i e. chain i (omega arith) ∙ sym here;
    })
    (λ (other : k ≡ c → ⊥).
    let top : get_or (set chains c (length es + 1)) k 0 ≡ get_or chains k 0 = get_or-set_other chains c k (length es + 1) 0 other in
    let old = top_kept (length chains) es x k (length es) (get_or chains k 0) (omega arith) (table.newest k l) in
    let within : get_or chains k 0 ≤ length es = old.within in
    record {
      within = omega arith;
      newest = λ i le h. ⊎_elim
          (λ (below : i < length es). old.newest i (omega arith) below)
          (λ (above : length es ≤ i) same. other (sym same ∙ chain i (omega arith)))
          (cases_lt i (length es));
      here = λ i e. old.here i (e ∙ top);
    })
    (cases_eq k c) in
    let olds : (i : ℕ) → i < length (es ++ x ∷ []) → IsTop (length chains) (es ++ x ∷ []) (chain_at (length chains) (es ++ x ∷ []) i) i (older_at (es ++ x ∷ []) i) = λ i l. ⊎_elim
    (λ (below : i < length es). rw (chain_kept (length chains) es x i below, older_kept es x i below) (top_kept (length chains) es x (chain_at (length chains) es i) i (older_at es i) (omega arith) (table.older i below)))
    (λ (above : length es ≤ i).
    let same : i ≡ length es = omega arith in
    let head : older_at (es ++ x ∷ []) i ≡ get_or chains c 0 = older_is (es ++ x ∷ []) i x l (last i same) ∙ older in
    rw (chain i same, head, same) (top_kept (length chains) es x c (length es) (get_or chains c 0) (omega arith) (table.newest c lt)))
    (cases_lt i (length es)) in
    record {
      some = let some : 0 < length chains = table.some in omega arith;
      newest = λ k l. subst (λ (n : ℕ). IsTop n (es ++ x ∷ []) k (length (es ++ x ∷ [])) (get_or (set chains c (length es + 1)) k 0)) (sym count) (news k (omega arith));
      older = λ i l. subst (λ (n : ℕ). IsTop n (es ++ x ∷ []) (chain_at n (es ++ x ∷ []) i) i (older_at (es ++ x ∷ []) i)) (sym count) (olds i l);
    }
