use Rattle.std.proofs.Common.{◌≡◌, ℕ, List, Some, slice_get, sym, ap, ◌∙◌, subst}
use Rattle.trace_types.specs.Segments.{SegmentName}
use Rattle.trace_types.proofs.ComparingLemmas.{text_means}
use Rattle.segment_names.specs.Known.{name_number}
use Rattle.segment_names.specs.inner.Filing.{Filed, known_in}
use Rattle.segment_names.proofs.FilingLemmas.{named_there}
use Rattle.segment_names.proofs.tables.Tables.look_up_by_hint.Goals as goal

-- the name there is the one looked for
same_texts : (name : SegmentName) (a b c x y z : List ℕ) → (a, b, c) ≡ name → a ≡ x → b ≡ y → c ≡ z → name ≡ (x, y, z)
same_texts name a b c x y z is p q r = sym is ∙ (λ j. (p j, q j, r j))

pub returns-then-eq-3-clause-name : goal.returns-then-eq-3-clause-name
returns-then-eq-3-clause-name c =
    let n : SegmentName = (c.args.task.now, c.args.start.now, c.args.end.now) in
    let t = c.self.inside in
    let same : c.in_ok-key.name.now ≡ n = same_texts c.in_ok-key.name.now c.name.inside.task c.name.inside.start c.name.inside.end c.args.task.now c.args.start.now c.args.end.now c.name.view_is
    (text_means c.name.inside.task c.args.task.now (sym c.eq.ensures ∙ c.if-eq.true))
    (text_means c.name.inside.start c.args.start.now (sym c.eq-then-eq.ensures ∙ c.if-eq-2.true))
    (text_means c.name.inside.end c.args.end.now (sym c.eq-then-eq-2.ensures ∙ c.if-eq-3.true)) in
    ap (λ (f : Filed). name_number (known_in f) n) (sym c.self.view_is)
    ∙ (named_there t.tasks.keys t.events.keys t.names.entries c.self.invariant n c.in_ok-key.key.now c.in_ok-key.name.now c.from-number.result (sym c.in_ok-key.ensures.entry) same).0

pub returns-then-eq-3-clause-task : goal.returns-then-eq-3-clause-task
returns-then-eq-3-clause-task c =
    let n : SegmentName = (c.args.task.now, c.args.start.now, c.args.end.now) in
    let t = c.self.inside in
    let same : c.in_ok-key.name.now ≡ n = same_texts c.in_ok-key.name.now c.name.inside.task c.name.inside.start c.name.inside.end c.args.task.now c.args.start.now c.args.end.now c.name.view_is
    (text_means c.name.inside.task c.args.task.now (sym c.eq.ensures ∙ c.if-eq.true))
    (text_means c.name.inside.start c.args.start.now (sym c.eq-then-eq.ensures ∙ c.if-eq-2.true))
    (text_means c.name.inside.end c.args.end.now (sym c.eq-then-eq-2.ensures ∙ c.if-eq-3.true)) in
    subst (λ (f : Filed). slice_get f.tasks c.in_ok-key.key.now.task ≡ Some c.args.task.now) c.self.view_is
    (named_there t.tasks.keys t.events.keys t.names.entries c.self.invariant n c.in_ok-key.key.now c.in_ok-key.name.now c.from-number.result (sym c.in_ok-key.ensures.entry) same).1
