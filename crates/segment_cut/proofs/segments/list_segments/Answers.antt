use Rattle.std.proofs.Common.{◌≡◌, ◌<◌, ℕ, ℤ, List, length, refl, sym, subst, arith}
use Rattle.std.specs.List.{AllZip}
use Rattle.std.proofs.lemmas.Result.{IfOk-weaker}
use Rattle.segment_cut.specs.Cutting.{IsSegment}
use Rattle.segment_cut.specs.inner.Segments.{AreListed}
use Rattle.segment_cut.specs.inner.Keys.{Key, AreKeys, HaveTimes, IsKeyBefore, adjacent_pairs, key_at, key_times}
use Rattle.segment_cut.specs.NumberedCuts.{segments_under}
use Rattle.segment_cut.proofs.CutLemmas.{listed_are}
use Rattle.segment_cut.proofs.segments.list_segments.Goals as goal

pub make_segments-requires-clause-within : goal.make_segments-requires-clause-within
make_segments-requires-clause-within c =
    let events = c.args.trace.now.trace.events in
    let keys : AreKeys c.args.tasks.now (key_times c.args.keys.items) c.in_ok-sorted.sorted.items = c.in_ok-sorted.ensures in
    let each : length c.args.tasks.now ≡ length c.args.trace.now.trace.events = c.requires.tasks.each in
    subst (λ (ks : List Key). (p : ℕ) → p < length ks → (key_at ks p).2 < length events) (sym c.deref.ensures.value) (λ p lt. let low : (key_at c.in_ok-sorted.sorted.items p).2 < length c.args.tasks.now = (keys.right p lt).2 in omega arith)

pub make_segments-requires-clause-rising : goal.make_segments-requires-clause-rising
make_segments-requires-clause-rising c =
    let keys : AreKeys c.args.tasks.now (key_times c.args.keys.items) c.in_ok-sorted.sorted.items = c.in_ok-sorted.ensures in
    subst (λ (ks : List Key). (p q : ℕ) → p < q → q < length ks → IsKeyBefore (key_at ks p) (key_at ks q)) (sym c.deref.ensures.value) keys.rising

pub returns-clause-segments : goal.returns-clause-segments
returns-clause-segments c =
    let raw = c.args.trace.now in
    let sorted = c.in_ok-sorted.sorted.items in
    let keys : AreKeys c.args.tasks.now (key_times c.args.keys.items) c.in_ok-sorted.sorted.items = c.in_ok-sorted.ensures in
    IfOk-weaker c.make_segments.result (λ s. (times : List ℤ) → HaveTimes c.deref.result.now times → AllZip (IsSegment raw.trace.events times) (adjacent_pairs c.deref.result.now) (segments_under raw.texts s.items)) (λ s. AreListed raw.trace.events (key_times c.args.keys.items) (segments_under raw.texts s.items))
    (λ s zip. listed_are raw.trace.events c.args.tasks.now (key_times c.args.keys.items) sorted (adjacent_pairs sorted) (segments_under raw.texts s.items) c.requires.tasks keys refl c.requires.named
    (subst (λ (ks : List Key). (times : List ℤ) → HaveTimes ks times → AllZip (IsSegment raw.trace.events times) (adjacent_pairs ks) (segments_under raw.texts s.items)) c.deref.ensures.value zip (key_times c.args.keys.items) (λ p lt. (keys.right p lt).1))) c.make_segments.ensures.segments
