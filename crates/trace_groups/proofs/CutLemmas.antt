-- A trace that has fewer usual names than there are lacks one of them.
use Rattle.std.proofs.Common.{◌≡◌, ℕ, ◌+◌, ◌*◌, ◌<◌, ◌≤◌, ◌&&◌, ◌||◌, List, [], ◌∷◌, Bool, true, false, cond, not, Option, Some, unwrap_or, ltb, leb, length, get_or, map, All, ap, refl, sym, subst, ◌∙◌, arith, true≢false}
use Rattle.std.specs.Prelude.{count_by, slice_get}
use Rattle.std.specs.List.{IsDistinct, list_any}
use Rattle.std.specs.Str.{bytes_eq}
use Rattle.std.proofs.lemmas.Bool.{and_from, and_parts, leb-true, not-true, not_from_false}
use Rattle.std.proofs.lemmas.List.{get_or-map}
use Rattle.std.proofs.lemmas.List.Folds.{Any-from_list_any, list_any_at, list_any-from_Any}
use Rattle.std.proofs.lemmas.Option.{get_or_from_slice_get, slice_get_within}
use Rattle.std.proofs.lemmas.Slice.Eq.{bytes_eq-Decides}
use Rattle.std.specs.Map.{keys_of, lookup}
use Rattle.indexmap.specs.IndexMap.{IndexMap, keys}
use Rattle.event_table.specs.Numbers.{text_under}
use Rattle.event_table.specs.Texts.{TextLists}
use Rattle.trace_types.specs.declared.event.Event.{Event}
use Rattle.trace_types.specs.Batch.{PlainTrace}
use Rattle.trace_types.specs.Events.{event_name_at, task_at}
use Rattle.trace_quality.specs.Waits.{is_named}
use Rattle.trace_groups.specs.Groups.{begin_alike, group_size, has_event, is_usual, lacks_usual}
use Rattle.trace_groups.specs.inner.Counts.{AreCounted, AreTotals, count_in, is_row, is_usual_row, total_in}
use Rattle.trace_groups.specs.inner.Names.{AreNames, IsKnown, IsNameAt, IsNumbered, begins_with, has_name, is_name}
use Rattle.trace_groups.proofs.NameLemmas.{element}
use Rattle.trace_groups.proofs.PairLemmas.{count_alike, count_of_some, count_same, count_some, fewer, name_same, name_true, row_true, same_bool}

same_text : (a b : List ℕ) → a ≡ b → bytes_eq a b ≡ true
same_text a b e = (bytes_eq-Decides a b).1 e

absorb : (a b : Bool) → (a ≡ true → b ≡ true) → (a && b) ≡ a
absorb true b h = h refl
absorb false b h = refl

in_keys : {K : Type 0} (test : K → Bool) (es : List (K × ℕ)) → 0 < unwrap_or (lookup test es) 0 → list_any test (keys_of es) ≡ true
in_keys test [] more = absurd (omega (arith, more))
in_keys test (e ∷ es) more = by (in_keys test es) (test e.0) refl
  where
    by : (0 < unwrap_or (lookup test es) 0 → list_any test (keys_of es) ≡ true) → (c : Bool) → test e.0 ≡ c → list_any test (keys_of (e ∷ es)) ≡ true
    by later true f = ap (λ c. c || list_any test (keys_of es)) f
    by later false f =
        let rest : unwrap_or (lookup test (e ∷ es)) 0 ≡ unwrap_or (lookup test es) 0 = ap (λ c. unwrap_or (cond c (Some e.1) (lookup test es)) 0) f in
        ap (λ c. c || list_any test (keys_of es)) f ∙ later (omega (arith, more, rest))

-- how many of those that begin like a trace have an event of a task and a name
abbrev pub with_event : List PlainTrace → PlainTrace → (task name : List ℕ) → ℕ
with_event traces t task name = count_by (λ u. begin_alike t u && has_event task name u) traces

-- those that begin alike have the event that they begin with
begin_has : (texts : TextLists) (t u : PlainTrace) → IsNumbered texts u → begin_alike t u ≡ true → has_event (task_at t.events 0) (event_name_at t.events 0) u ≡ true
begin_has texts t u h e =
    let d = element u.events 0 h.some in
    let p = and_parts (bytes_eq (task_at t.events 0) (task_at u.events 0)) (bytes_eq (event_name_at t.events 0) (event_name_at u.events 0)) e in
    let task = (bytes_eq-Decides (task_at t.events 0) (task_at u.events 0)).0 p.0 in
    let name = (bytes_eq-Decides (event_name_at t.events 0) (event_name_at u.events 0)).0 p.1 in
    list_any_at (is_named (task_at t.events 0) (event_name_at t.events 0)) u.events 0 d h.some
    (and_from (bytes_eq (get_or u.events 0 d).task (task_at t.events 0)) (bytes_eq (get_or u.events 0 d).event (event_name_at t.events 0))
    (same_text (get_or u.events 0 d).task (task_at t.events 0) (sym (get_or-map (λ (x : Event). x.task) u.events 0 d [] h.some) ∙ sym task))
    (same_text (get_or u.events 0 d).event (event_name_at t.events 0) (sym (get_or-map (λ (x : Event). x.event) u.events 0 d [] h.some) ∙ sym name)))

module _ {S : Type 0} (texts : TextLists) (traces : List PlainTrace) (counts : IndexMap ((ℕ × ℕ) × (ℕ × ℕ)) ℕ S) (h : AreCounted texts traces counts) (index : ℕ) (t : PlainTrace) (at : slice_get traces index ≡ Some t) (b : ℕ × ℕ) (is : IsNameAt texts t 0 b) where
  begins : (u : PlainTrace) → begins_with texts b u ≡ begin_alike t u
  begins u =
      ap (λ x. bytes_eq x (task_at u.events 0) && bytes_eq (text_under texts.names b.1) (event_name_at u.events 0)) is.task
      ∙ ap (λ x. bytes_eq (task_at t.events 0) (task_at u.events 0) && bytes_eq x (event_name_at u.events 0)) is.name

  count_is : (k : ℕ × ℕ) → IsKnown texts k → count_in counts (b, k) ≡ with_event traces t (text_under texts.tasks k.0) (text_under texts.names k.1)
  count_is k known =
      h.exactly (b, k) is.known known
      ∙ count_alike (λ u. begins_with texts b u && has_name texts k u) (λ u. begin_alike t u && has_name texts k u) traces (λ u. ap (λ c. c && has_name texts k u) (begins u))

  pub size_is : count_in counts (b, b) ≡ group_size traces t
  size_is =
      count_is b is.known
      ∙ ap (λ x. with_event traces t x (text_under texts.names b.1)) is.task ∙ ap (with_event traces t (task_at t.events 0)) is.name
      ∙ count_same (λ u. begin_alike t u && has_event (task_at t.events 0) (event_name_at t.events 0) u) (begin_alike t) traces
      (λ k d l. absorb (begin_alike t (get_or traces k d)) (has_event (task_at t.events 0) (event_name_at t.events 0) (get_or traces k d)) (begin_has texts t (get_or traces k d) (h.numbered k d l)))

  some_size : 0 < group_size traces t
  some_size =
      count_of_some (begin_alike t) traces
      (list_any_at (begin_alike t) traces index t (slice_get_within traces index t at)
      (ap (begin_alike t) (get_or_from_slice_get traces index t t at) ∙ and_from (bytes_eq (task_at t.events 0) (task_at t.events 0)) (bytes_eq (event_name_at t.events 0) (event_name_at t.events 0)) (same_text (task_at t.events 0) (task_at t.events 0) refl) (same_text (event_name_at t.events 0) (event_name_at t.events 0) refl)))

  usual_some : (k : ℕ × ℕ) → is_usual_row counts (b, k) ≡ true → 0 < count_in counts (b, k)
  usual_some k e = omega (arith, leb-true (9 * count_in counts (b, b)) (10 * count_in counts (b, k)) e, size_is, some_size)

  -- a row is usual exactly where events of its name are
  event_usual : (k : ℕ × ℕ) (e : Event) → IsKnown texts k → text_under texts.tasks k.0 ≡ e.task → text_under texts.names k.1 ≡ e.event → is_usual_row counts (b, k) ≡ is_usual traces t e
  event_usual k e known task name =
      ap (λ (n : ℕ). leb (9 * n) (10 * count_in counts (b, k))) size_is
      ∙ ap (λ (n : ℕ). leb (9 * group_size traces t) (10 * n)) (count_is k known ∙ ap (λ x. with_event traces t x (text_under texts.names k.1)) task ∙ ap (with_event traces t e.task) name)

  module _ (names : List (ℕ × ℕ)) (are : AreNames (record { texts = texts; trace = t }) names) where
    abbrev is_missed : (ℕ × ℕ) × (ℕ × ℕ) → Bool
    is_missed e = (is_name b e.0 && is_usual_row counts e) && not (list_any (is_name e.1) names)

    abbrev is_lacked : Event → Bool
    is_lacked e = is_usual traces t e && not (has_event e.task e.event t)

    forward : list_any is_missed (keys counts) ≡ true → lacks_usual traces t ≡ true
    forward hyp =
        let row = Any-from_list_any is_missed (keys counts) hyp in
        let e = row.1 in
        let k = e.1 in
        let parts = and_parts (is_name b e.0 && is_usual_row counts e) (not (list_any (is_name e.1) names)) row.4 in
        let a = and_parts (is_name b e.0) (is_usual_row counts e) parts.0 in
        let usual : is_usual_row counts (b, k) ≡ true = ap (λ x. is_usual_row counts (x, k)) (name_true b e.0 a.0) ∙ a.1 in
        let more = usual_some k usual in
        let known = (h.known (b, k) more).1 in
        let missing : has_name texts k t ≡ false = sym (are.exactly k known) ∙ not-true (list_any (is_name k) names) parts.1 in
        let some = Any-from_list_any (λ u. begin_alike t u && has_name texts k u) traces (count_some (λ u. begin_alike t u && has_name texts k u) traces (omega (arith, count_is k known, more))) in
        let u = some.1 in
        let up = and_parts (begin_alike t u) (has_name texts k u) some.4 in
        let found = Any-from_list_any (is_named (text_under texts.tasks k.0) (text_under texts.names k.1)) u.events up.1 in
        let ev = found.1 in
        let np = and_parts (bytes_eq ev.task (text_under texts.tasks k.0)) (bytes_eq ev.event (text_under texts.names k.1)) found.4 in
        let task = sym ((bytes_eq-Decides ev.task (text_under texts.tasks k.0)).0 np.0) in
        let name = sym ((bytes_eq-Decides ev.event (text_under texts.names k.1)).0 np.1) in
        let lacked : has_event ev.task ev.event t ≡ false = sym (ap (λ x. has_event x (text_under texts.names k.1) t) task ∙ ap (λ y. has_event ev.task y t) name) ∙ missing in
        let inner = list_any-from_Any is_lacked u.events (found.0, ev, found.2, found.3, and_from (is_usual traces t ev) (not (has_event ev.task ev.event t)) (sym (event_usual k ev known task name) ∙ usual) (not_from_false (has_event ev.task ev.event t) lacked)) in
        list_any-from_Any (λ v. begin_alike t v && list_any is_lacked v.events) traces (some.0, u, some.2, some.3, and_from (begin_alike t u) (list_any is_lacked u.events) up.0 inner)

    backward : lacks_usual traces t ≡ true → list_any is_missed (keys counts) ≡ true
    backward hyp =
        let some = Any-from_list_any (λ v. begin_alike t v && list_any is_lacked v.events) traces hyp in
        let u = some.1 in
        let up = and_parts (begin_alike t u) (list_any is_lacked u.events) some.4 in
        let found = Any-from_list_any is_lacked u.events up.1 in
        let ev = found.1 in
        let parts = and_parts (is_usual traces t ev) (not (has_event ev.task ev.event t)) found.4 in
        let numbered = subst (IsNumbered texts) some.3 (h.numbered some.0 u some.2) in
        let number = numbered.each found.0 found.2 in
        let k = number.0 in
        let task = number.1.task ∙ get_or-map (λ (x : Event). x.task) u.events found.0 ev [] found.2 ∙ ap (λ (x : Event). x.task) found.3 in
        let name = number.1.name ∙ get_or-map (λ (x : Event). x.event) u.events found.0 ev [] found.2 ∙ ap (λ (x : Event). x.event) found.3 in
        let usual = event_usual k ev number.1.known task name ∙ parts.0 in
        let missing : list_any (is_name k) names ≡ false = are.exactly k number.1.known ∙ ap (λ x. has_event x (text_under texts.names k.1) t) task ∙ ap (λ y. has_event ev.task y t) name ∙ not-true (has_event ev.task ev.event t) parts.1 in
        let row = Any-from_list_any (is_row (b, k)) (keys counts) (in_keys (is_row (b, k)) counts.entries (usual_some k usual)) in
        let holds : is_missed (b, k) ≡ true = and_from (is_name b b && is_usual_row counts (b, k)) (not (list_any (is_name k) names)) (and_from (is_name b b) (is_usual_row counts (b, k)) (name_same b b refl) usual) (not_from_false (list_any (is_name k) names) missing) in
        list_any-from_Any is_missed (keys counts) (row.0, row.1, row.2, row.3, subst (λ z. is_missed z ≡ true) (row_true (b, k) row.1 row.4) holds)

    -- a trace has fewer usual names than there are exactly where it lacks one
    pub cut_tells : {U : Type 0} (totals : IndexMap (ℕ × ℕ) ℕ U) → IsDistinct is_row (keys counts) → IsDistinct is_name names → AreTotals counts totals → ltb (count_by (λ k. is_usual_row counts (b, k)) names) (total_in totals b) ≡ lacks_usual traces t
    cut_tells totals rows_differ names_differ are_totals =
        ap (ltb (count_by (λ k. is_usual_row counts (b, k)) names)) (are_totals b)
        ∙ fewer (is_usual_row counts) b (keys counts) rows_differ names names_differ (λ k e. in_keys (is_row (b, k)) counts.entries (usual_some k e))
        ∙ same_bool (list_any is_missed (keys counts)) (lacks_usual traces t) forward backward
