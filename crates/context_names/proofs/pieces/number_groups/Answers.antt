use Rattle.std.proofs.Common.{◌≡◌, ◌<◌, ◌∙◌, All, List, ℕ, ap, arith, length, map, sym, subst}
use Rattle.std.specs.Prelude.{slice_index}
use Rattle.std.proofs.lemmas.List.{length-map}
use Rattle.std.proofs.lemmas.Result.{IfOk-weaker}
use Rattle.call_contexts.specs.Contexts.{frame_of, frames_of}
use Rattle.context_names.specs.Bases.{frame_of_number}
use Rattle.context_names.specs.Pieces.{AreNumbered, thread_above}
use Rattle.context_names.specs.Scattering.{scattered}
use Rattle.context_names.specs.declared.pieces.GroupNumbers.{GroupNumbers}
use Rattle.context_names.specs.inner.Groups.{AreBelow}
use Rattle.context_names.proofs.NumberLemmas.{numbers_are, numbers_least, numbers_size, values_low}
use Rattle.context_names.proofs.OrderLemmas.{below_length, below_low}
use Rattle.context_names.proofs.ValueLemmas.{length-scattered}
use Rattle.context_names.proofs.pieces.number_groups.Goals as goal

pub find_heads-requires-clause-within : goal.find_heads-requires-clause-within
find_heads-requires-clause-within c = λ k d lt. omega (arith, c.requires.within k d lt, below_length (frames_of c.args.contexts.now) c.args.order.now.order.items c.args.order.now.below.items c.requires.ordered, length-map c.args.contexts.now frame_of)

pub find_heads-requires-clause-below : goal.find_heads-requires-clause-below
find_heads-requires-clause-below c =
    subst (λ n. AreBelow n c.args.order.now.below.items) (length-map c.args.contexts.now frame_of ∙ sym c.requires.forked) (below_low (frames_of c.args.contexts.now) c.args.order.now.order.items c.args.order.now.below.items c.requires.ordered)

pub place_groups-requires-clause-same : goal.place_groups-requires-clause-same
place_groups-requires-clause-same c =
    ap length (c.deref-3.ensures.value ∙ c.in_ok-numbers.ensures)
    ∙ numbers_size (λ x. thread_above c.args.threads.now (frame_of_number (frames_of c.args.contexts.now) x).above x) c.deref.result.now ∙ ap length (c.deref.ensures.value ∙ sym c.deref-2.ensures.value)

pub returns-clause-heads : goal.returns-clause-heads
returns-clause-heads c =
    let frames = frames_of c.args.contexts.now in
    let groups = c.args.groups.now in
    IfOk-weaker c.place_groups.result _ _ (λ (v : GroupNumbers) (h : v.heads.items ≡ scattered (length groups) (map (slice_index groups) c.deref-2.result.now) c.deref-2.result.now).
    h ∙ ap (λ (hs : List ℕ). scattered (length groups) (map (slice_index groups) hs) hs) (c.deref-2.ensures.value ∙ c.in_ok-first.ensures.heads frames c.args.threads.now)) c.place_groups.ensures.heads

pub returns-clause-numbers : goal.returns-clause-numbers
returns-clause-numbers c =
    let frames = frames_of c.args.contexts.now in
    let order = c.args.order.now.order.items in
    let below = c.args.order.now.below.items in
    let groups = c.args.groups.now in
    IfOk-weaker c.place_groups.result _ _ (λ (v : GroupNumbers) (h : v.numbers.items ≡ scattered (length groups) (map (slice_index groups) c.deref-2.result.now) c.deref-3.result.now).
    numbers_are frames order below c.args.threads.now c.args.forked.now groups v.numbers.items c.deref-3.result.now c.deref-2.result.now c.deref.result.now c.in_ok-first.first.items h (c.deref-3.ensures.value ∙ c.in_ok-numbers.ensures) c.deref-2.ensures.value c.deref.ensures.value (c.in_ok-first.ensures.heads frames c.args.threads.now)) c.place_groups.ensures.numbers

pub returns-clause-head_count : goal.returns-clause-head_count
returns-clause-head_count c =
    let groups = c.args.groups.now in
    IfOk-weaker c.place_groups.result _ _ (λ (v : GroupNumbers) (h : v.heads.items ≡ scattered (length groups) (map (slice_index groups) c.deref-2.result.now) c.deref-2.result.now).
    ap length h ∙ length-scattered (length groups) (map (slice_index groups) c.deref-2.result.now) c.deref-2.result.now) c.place_groups.ensures.heads

pub returns-clause-number_count : goal.returns-clause-number_count
returns-clause-number_count c =
    let groups = c.args.groups.now in
    IfOk-weaker c.place_groups.result _ _ (λ (v : GroupNumbers) (h : v.numbers.items ≡ scattered (length groups) (map (slice_index groups) c.deref-2.result.now) c.deref-3.result.now).
    ap length h ∙ length-scattered (length groups) (map (slice_index groups) c.deref-2.result.now) c.deref-3.result.now) c.place_groups.ensures.numbers

pub returns-clause-within : goal.returns-clause-within
returns-clause-within c =
    let groups = c.args.groups.now in
    let count = length c.args.contexts.now in
    let low : All (λ x. x < count) c.deref-2.result.now = subst (All (λ x. x < count)) (sym c.deref-2.ensures.value) (subst (λ n. All (λ x. x < n) c.in_ok-first.first.items) c.requires.groups c.in_ok-first.ensures.within) in
    IfOk-weaker c.place_groups.result _ _ (λ (v : GroupNumbers) (h : v.heads.items ≡ scattered (length groups) (map (slice_index groups) c.deref-2.result.now) c.deref-2.result.now).
    subst (All (λ x. x < count)) (sym h) (values_low count (length groups) (map (slice_index groups) c.deref-2.result.now) c.deref-2.result.now (sym c.requires.groups) low)) c.place_groups.ensures.heads

pub returns-clause-least : goal.returns-clause-least
returns-clause-least c =
    let frames = frames_of c.args.contexts.now in
    let order = c.args.order.now.order.items in
    let below = c.args.order.now.below.items in
    let groups = c.args.groups.now in
    let size : length groups ≡ length frames = c.requires.groups ∙ sym (length-map c.args.contexts.now frame_of) in
    IfOk-weaker c.place_groups.result _ _ (λ (v : GroupNumbers) (h : v.numbers.items ≡ scattered (length groups) (map (slice_index groups) c.deref-2.result.now) c.deref-3.result.now).
    subst (AreNumbered frames c.args.forked.now groups) (sym (numbers_are frames order below c.args.threads.now c.args.forked.now groups v.numbers.items c.deref-3.result.now c.deref-2.result.now c.deref.result.now c.in_ok-first.first.items h (c.deref-3.ensures.value ∙ c.in_ok-numbers.ensures) c.deref-2.ensures.value c.deref.ensures.value (c.in_ok-first.ensures.heads frames c.args.threads.now)))
    (numbers_least frames order below c.args.threads.now c.args.forked.now groups c.requires.ordered c.requires.above size c.requires.grouped)) c.place_groups.ensures.numbers
