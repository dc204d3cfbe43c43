-- Lines after one another, and their events by index.
use Rattle.std.proofs.Common.{◌≡◌, ℕ, zero, suc, ◌+◌, ◌<◌, ◌≤◌, List, [], ◌∷◌, ◌++◌, length, get_or, map, take, Option, Some, None, refl, sym, ap, ◌∙◌, arith, append_assoc, append-nil, drop, slice_get, zero-add}
use Rattle.std.proofs.lemmas.List.{get_or-map, length-map, length-take-le, take-append-drop, take_more}
use Rattle.std.proofs.lemmas.Option.{get_or_from_slice_get, slice_get_within}
use Rattle.std.proofs.lemmas.Grind.{flat_map-append}
use Rattle.event_lines.specs.declared.line.Line.{Line}
use Rattle.event_lines.specs.declared.line.Line.TheVariants.{Event, Control}
use Rattle.event_lines.specs.declared.line_run.ControlLine.{ControlLine}
use Rattle.event_lines.specs.declared.line_run.LineRun.{LineRun}
use Rattle.event_lines.specs.LineParts.{lines_of_control, lines_of_events, lines_of_run, lines_of_runs}
use Rattle.event_rewrite.specs.TaskLines.{batch_after, task_event, task_events_from}
use Rattle.event_rewrite.specs.WithoutWaits.{with_tasks_from}
use Rattle.event_rewrite.specs.inner.Counting.{batch_through, event_count}
use Rattle.event_text.specs.LineTexts.{event_text, line_text, lines_text}
use Rattle.task_pieces.specs.TaskEvents.{TaskEvent}
use Rattle.task_pieces.specs.TaskKeys.{AreIndexed, event_of_key, events_of_keys}
use Rattle.task_pieces.specs.declared.task_key.TaskKey.{TaskKey}
use Rattle.trace_types.specs.declared.event.Event as events

-- ---- lines behind lines

pub tasks_both : (b i : ℕ) (xs ys : List Line) → task_events_from b i (xs ++ ys) ≡ task_events_from b i xs ++ task_events_from (batch_through b xs) (i + event_count xs) ys
tasks_both b i [] ys = let same : i ≡ i + 0 = omega arith in ap (λ n. task_events_from b n ys) same
tasks_both b i (Event e ∷ xs) ys =
    let same : i + 1 + event_count xs ≡ i + (event_count xs + 1) = omega arith in
    ap (λ es. task_event b i e ∷ es) (tasks_both b (i + 1) xs ys ∙ ap (λ n. task_events_from b (i + 1) xs ++ task_events_from (batch_through b xs) n ys) same)
tasks_both b i (Control n c ∷ xs) ys = tasks_both (batch_after b c) i xs ys

pub names_both : (names : List (List ℕ)) (i : ℕ) (xs ys : List Line) → with_tasks_from names i (xs ++ ys) ≡ with_tasks_from names i xs ++ with_tasks_from names (i + event_count xs) ys
names_both names i [] ys = let same : i ≡ i + 0 = omega arith in ap (λ n. with_tasks_from names n ys) same
names_both names i (Event e ∷ xs) ys =
    let same : i + 1 + event_count xs ≡ i + (event_count xs + 1) = omega arith in
    ap (λ ls. Event (record e { task = get_or names i [] }) ∷ ls) (names_both names (i + 1) xs ys ∙ ap (λ n. with_tasks_from names (i + 1) xs ++ with_tasks_from names n ys) same)
names_both names i (Control n c ∷ xs) ys = ap (λ ls. Control n c ∷ ls) (names_both names i xs ys)

pub batch_both : (b : ℕ) (xs ys : List Line) → batch_through b (xs ++ ys) ≡ batch_through (batch_through b xs) ys
batch_both b [] ys = refl
batch_both b (Event e ∷ xs) ys = batch_both b xs ys
batch_both b (Control n c ∷ xs) ys = batch_both (batch_after b c) xs ys

pub count_both : (xs ys : List Line) → event_count (xs ++ ys) ≡ event_count xs + event_count ys
count_both [] ys = omega arith
count_both (Event e ∷ xs) ys = let h = count_both xs ys in omega (arith, h)
count_both (Control n c ∷ xs) ys = count_both xs ys

-- ---- events alone, and a control line alone

pub batch_of_events : (b : ℕ) (es : List events.Event) → batch_through b (lines_of_events es) ≡ b
batch_of_events b [] = refl
batch_of_events b (e ∷ es) = batch_of_events b es

pub count_of_events : (es : List events.Event) → event_count (lines_of_events es) ≡ length es
count_of_events [] = refl
count_of_events (e ∷ es) = let h = count_of_events es in omega (arith, h)

pub count_of_control : (c : Option ControlLine) → event_count (lines_of_control c) ≡ 0
count_of_control None = refl
count_of_control (Some c) = refl

pub no_tasks : (b i : ℕ) (c : Option ControlLine) → task_events_from b i (lines_of_control c) ≡ []
no_tasks b i None = refl
no_tasks b i (Some c) = refl

pub control_stays : (names : List (List ℕ)) (i : ℕ) (c : Option ControlLine) → with_tasks_from names i (lines_of_control c) ≡ lines_of_control c
control_stays names i None = refl
control_stays names i (Some c) = refl

pub count_within : (lines : List Line) → event_count lines ≤ length lines
count_within [] = omega arith
count_within (Event e ∷ lines) = let h = count_within lines in omega (arith, h)
count_within (Control n c ∷ lines) = let h = count_within lines in omega (arith, h)

pub tasks_count : (b i : ℕ) (lines : List Line) → length (task_events_from b i lines) ≡ event_count lines
tasks_count b i [] = refl
tasks_count b i (Event e ∷ lines) = let h = tasks_count b (i + 1) lines in omega (arith, h)
tasks_count b i (Control n c ∷ lines) = tasks_count (batch_after b c) i lines

-- the index of an event is its place
pub index_is : (b i : ℕ) (lines : List Line) (k : ℕ) (d : TaskEvent) → k < length (task_events_from b i lines) → (get_or (task_events_from b i lines) k d).index ≡ i + k
index_is b i [] k d lt = absurd (omega arith)
index_is b i (Event e ∷ lines) zero d lt = omega arith
index_is b i (Event e ∷ lines) (suc k) d lt = let h = index_is b (i + 1) lines k d (omega arith) in omega (arith, h)
index_is b i (Control n c ∷ lines) k d lt = index_is (batch_after b c) i lines k d lt

-- ---- one more event

module _ (es : List events.Event) (at : ℕ) (e : events.Event) (lt : at < length es) (is : e ≡ get_or es at e) where
  one_more : lines_of_events (take (at + 1) es) ≡ lines_of_events (take at es) ++ Event e ∷ []
  one_more = ap lines_of_events (take_more es at e lt ∙ ap (λ (x : events.Event). take at es ++ x ∷ []) (sym is)) ∙ mapped (take at es)
    where
      mapped : (xs : List events.Event) → map Event (xs ++ e ∷ []) ≡ map Event xs ++ Event e ∷ []
      mapped [] = refl
      mapped (x ∷ xs) = ap (λ ls. Event x ∷ ls) (mapped xs)

  short : length (take at es) ≡ at
  short = length-take-le at es (omega (arith, lt))

  pub task_more : (b i : ℕ) → task_events_from b i (lines_of_events (take (at + 1) es)) ≡ task_events_from b i (lines_of_events (take at es)) ++ task_event b (i + at) e ∷ []
  task_more b i =
      ap (task_events_from b i) one_more ∙ tasks_both b i (lines_of_events (take at es)) (Event e ∷ [])
      ∙ (λ k. task_events_from b i (lines_of_events (take at es)) ++ task_event (batch_of_events b (take at es) k) (i + (count_of_events (take at es) ∙ short) k) e ∷ [])

  pub text_more : (names : List (List ℕ)) (i : ℕ) (name : List ℕ) → name ≡ get_or names (i + at) []
      → lines_text (with_tasks_from names i (lines_of_events (take (at + 1) es))) ≡ lines_text (with_tasks_from names i (lines_of_events (take at es))) ++ event_text (record e { task = name })
  text_more names i name named =
      ap (λ ls. lines_text (with_tasks_from names i ls)) one_more ∙ ap lines_text (names_both names i (lines_of_events (take at es)) (Event e ∷ []))
      ∙ flat_map-append line_text (with_tasks_from names i (lines_of_events (take at es))) (Event (record e { task = get_or names (i + event_count (lines_of_events (take at es))) [] }) ∷ [])
      ∙ (λ k. lines_text (with_tasks_from names i (lines_of_events (take at es))) ++ (event_text (record e { task = get_or names (i + (count_of_events (take at es) ∙ short) k) [] }) ++ []))
      ∙ ap (λ (n : List ℕ). lines_text (with_tasks_from names i (lines_of_events (take at es))) ++ (event_text (record e { task = n }) ++ [])) (sym named)
      ∙ ap (λ ts. lines_text (with_tasks_from names i (lines_of_events (take at es))) ++ ts) (append-nil (event_text (record e { task = name })))

-- ---- one more run

module _ (runs : List LineRun) (at : ℕ) (run : LineRun) (lt : at < length runs) (is : run ≡ get_or runs at run) where
  run_more : lines_of_runs (take (at + 1) runs) ≡ lines_of_runs (take at runs) ++ (lines_of_run run ++ [])
  run_more = ap lines_of_runs (take_more runs at run lt ∙ ap (λ (r : LineRun). take at runs ++ r ∷ []) (sym is)) ∙ flat_map-append lines_of_run (take at runs) (run ∷ [])

  pub next_run : lines_of_runs (take (at + 1) runs) ≡ lines_of_runs (take at runs) ++ lines_of_run run
  next_run = run_more ∙ ap (λ ls. lines_of_runs (take at runs) ++ ls) (append-nil (lines_of_run run))

  pub batch_next : (b : ℕ) → b ≡ batch_through 0 (lines_of_runs (take at runs)) → batch_through b (lines_of_control run.control) ≡ batch_through 0 (lines_of_runs (take (at + 1) runs))
  batch_next b e =
      sym (ap (batch_through 0) next_run ∙ batch_both 0 (lines_of_runs (take at runs)) (lines_of_run run) ∙ batch_both (batch_through 0 (lines_of_runs (take at runs))) (lines_of_events run.events) (lines_of_control run.control)
      ∙ ap (λ c. batch_through c (lines_of_control run.control)) (batch_of_events (batch_through 0 (lines_of_runs (take at runs))) run.events ∙ sym e))

  pub count_next : event_count (lines_of_runs (take (at + 1) runs)) ≡ event_count (lines_of_runs (take at runs)) + length run.events
  count_next =
      let one = ap event_count next_run ∙ count_both (lines_of_runs (take at runs)) (lines_of_run run) in
      let two = count_both (lines_of_events run.events) (lines_of_control run.control) in
      omega (arith, one, two, count_of_events run.events, count_of_control run.control)

  pub keys_next : (b n : ℕ) → b ≡ batch_through 0 (lines_of_runs (take at runs)) → n ≡ event_count (lines_of_runs (take at runs))
      → task_events_from 0 0 (lines_of_runs (take at runs)) ++ task_events_from b n (lines_of_events run.events) ≡ task_events_from 0 0 (lines_of_runs (take (at + 1) runs))
  keys_next b n e f =
      let whole = task_events_from 0 0 (lines_of_runs (take at runs)) in
      sym (ap (task_events_from 0 0) next_run ∙ tasks_both 0 0 (lines_of_runs (take at runs)) (lines_of_run run)
      ∙ ap (λ c. whole ++ task_events_from c (0 + event_count (lines_of_runs (take at runs))) (lines_of_run run)) (sym e)
      ∙ ap (λ m. whole ++ task_events_from b m (lines_of_run run)) (zero-add (event_count (lines_of_runs (take at runs))) ∙ sym f)
      ∙ ap (λ es. whole ++ es) (tasks_both b n (lines_of_events run.events) (lines_of_control run.control)
      ∙ ap (λ es. task_events_from b n (lines_of_events run.events) ++ es) (no_tasks (batch_through b (lines_of_events run.events)) (n + event_count (lines_of_events run.events)) run.control)
      ∙ append-nil (task_events_from b n (lines_of_events run.events))))

  pub text_next : (names : List (List ℕ)) (first : ℕ) → first ≡ event_count (lines_of_runs (take at runs))
      → (lines_text (with_tasks_from names 0 (lines_of_runs (take at runs))) ++ lines_text (with_tasks_from names first (lines_of_events run.events))) ++ lines_text (lines_of_control run.control)
      ≡ lines_text (with_tasks_from names 0 (lines_of_runs (take (at + 1) runs)))
  text_next names first f =
      let done = with_tasks_from names 0 (lines_of_runs (take at runs)) in
      let es = with_tasks_from names first (lines_of_events run.events) in
      let ct = lines_of_control run.control in
      append_assoc (lines_text done) (lines_text es) (lines_text ct)
      ∙ ap (λ ts. lines_text done ++ ts) (sym (flat_map-append line_text es ct)) ∙ sym (flat_map-append line_text done (es ++ ct))
      ∙ ap (λ ls. lines_text (done ++ (es ++ ls))) (sym (control_stays names (first + event_count (lines_of_events run.events)) run.control))
      ∙ ap (λ ls. lines_text (done ++ ls)) (sym (names_both names first (lines_of_events run.events) ct))
      ∙ ap (λ n. lines_text (done ++ with_tasks_from names n (lines_of_run run))) (f ∙ sym (zero-add (event_count (lines_of_runs (take at runs)))))
      ∙ ap lines_text (sym (names_both names 0 (lines_of_runs (take at runs)) (lines_of_run run))) ∙ ap (λ ls. lines_text (with_tasks_from names 0 ls)) (sym next_run)

-- ---- steps of the loops

pub push_more : (old so_far : List TaskEvent) (b n : ℕ) (es : List events.Event) (at : ℕ) (e : events.Event) → at < length es → slice_get es at ≡ Some e → so_far ≡ old ++ task_events_from b n (lines_of_events (take at es))
    → so_far ++ task_event b (n + at) e ∷ [] ≡ old ++ task_events_from b n (lines_of_events (take (at + 1) es))
push_more old so_far b n es at e lt there h =
    ap (λ ts. ts ++ task_event b (n + at) e ∷ []) h ∙ append_assoc old (task_events_from b n (lines_of_events (take at es))) (task_event b (n + at) e ∷ [])
    ∙ ap (λ ts. old ++ ts) (sym (task_more es at e lt (sym (get_or_from_slice_get es at e e there)) b n))

pub print_more : (old so_far new : List ℕ) (names : List (List ℕ)) (i : ℕ) (name : List ℕ) (es : List events.Event) (at : ℕ) (e : events.Event) → at < length es → slice_get es at ≡ Some e → slice_get names (i + at) ≡ Some name
    → so_far ≡ old ++ lines_text (with_tasks_from names i (lines_of_events (take at es))) → new ≡ so_far ++ event_text (record e { task = name })
    → new ≡ old ++ lines_text (with_tasks_from names i (lines_of_events (take (at + 1) es)))
print_more old so_far new names i name es at e lt there named h step =
    step ∙ ap (λ ts. ts ++ event_text (record e { task = name })) h ∙ append_assoc old (lines_text (with_tasks_from names i (lines_of_events (take at es)))) (event_text (record e { task = name }))
    ∙ ap (λ ts. old ++ ts) (sym (text_more es at e lt (sym (get_or_from_slice_get es at e e there)) names i name (sym (get_or_from_slice_get names (i + at) name [] named))))

-- the runs so far have no more lines than all
pub runs_within : (runs : List LineRun) (at : ℕ) (run : LineRun) → at < length runs → run ≡ get_or runs at run → event_count (lines_of_runs (take at runs)) + length run.events ≤ event_count (lines_of_runs runs)
runs_within runs at run lt is =
    let all = ap event_count (ap lines_of_runs (sym (take-append-drop (at + 1) runs)) ∙ flat_map-append lines_of_run (take (at + 1) runs) (drop (at + 1) runs)) in
    omega (arith, all, count_both (lines_of_runs (take (at + 1) runs)) (lines_of_runs (drop (at + 1) runs)), count_next runs at run lt is)

-- keys of the events of lines stand at their indexes
pub keys_indexed : (keys : List TaskKey) (lines : List Line) → events_of_keys keys ≡ task_events_from 0 0 lines → AreIndexed keys
keys_indexed keys lines is i k there =
    let lt = slice_get_within keys i k there in
    let long = length-map keys event_of_key in
    let e : TaskEvent = event_of_key k in
    let at : get_or (task_events_from 0 0 lines) i e ≡ e = ap (λ (ts : List TaskEvent). get_or ts i e) (sym is) ∙ get_or-map event_of_key keys i k e lt ∙ ap event_of_key (get_or_from_slice_get keys i k k there) in
    sym (ap (λ (t : TaskEvent). t.index) at) ∙ index_is 0 0 lines i e (omega (arith, lt, long, ap length is)) ∙ zero-add i

pub few_keys : (keys : List TaskKey) (lines : List Line) → events_of_keys keys ≡ task_events_from 0 0 lines → length keys ≡ event_count lines
few_keys keys lines is = omega (arith, length-map keys event_of_key, ap length is, tasks_count 0 0 lines)

pub print_next : (old so_far mid new done es ct next : List ℕ) → so_far ≡ old ++ done → mid ≡ so_far ++ es → new ≡ mid ++ ct → (done ++ es) ++ ct ≡ next → new ≡ old ++ next
print_next old so_far mid new done es ct next p q r s =
    r ∙ ap (λ t. t ++ ct) (q ∙ ap (λ t. t ++ es) p ∙ append_assoc old done es) ∙ append_assoc old (done ++ es) ct ∙ ap (λ t. old ++ t) s
