use Rattle.std.proofs.Common.{◌≡◌, ◌∷◌, ◌++◌, [], ◌∙◌, List, length, map, ap, sym, refl, append_assoc, append-nil, arith}
use Rattle.std.specs.Vec.Iter.{into_iter_items}
use Rattle.trace_types.specs.declared.named_segment.NamedSegment.{NamedSegment}
use Rattle.trace_figures.specs.declared.one_trace.MeasuredTrace.{MeasuredTrace}
use Rattle.trace_figures.specs.declared.trace_figures.TraceFigures.{TraceFigures}
use Rattle.trace_figures.proofs.measuring.take_apart.Goals as goal

nothing_left : {X : Type 0} (xs : List X) → length xs ≡ 0 → xs ≡ []
nothing_left [] h = refl
nothing_left (x ∷ xs) h = absurd (omega arith)

-- one more part in front of what is left
moved : {X Y : Type 0} (part : X → Y) (so_far more : List Y) (left rest : List X) (x : X) (all : List Y) → left ≡ x ∷ rest → more ≡ so_far ++ part x ∷ [] → so_far ++ map part left ≡ all → more ++ map part rest ≡ all
moved {X} {Y} part so_far more left rest x all e pushed was =
    ap (λ (l : List Y). l ++ map part rest) pushed ∙ (append_assoc so_far (part x ∷ []) (map part rest)
    ∙ (ap (λ (l : List X). so_far ++ map part l) (sym e) ∙ was))

-- nothing is left
done : {X Y : Type 0} (part : X → Y) (so_far : List Y) (left : List X) (all : List Y) → left ≡ [] → so_far ++ map part left ≡ all → so_far ≡ all
done {X} part so_far left all none was = sym (append-nil so_far) ∙ (ap (λ (l : List X). so_far ++ map part l) (sym none) ∙ was)

pub measured-init : goal.measured-init
measured-init c =
    let gives = c.into_iter-each-iterator.ensures.into_iter_gives in
    record {
      paths = ap (λ (l : List (List NamedSegment)). l ++ map (λ (m : MeasuredTrace). m.path) (into_iter_items c.into_iter-each-iterator.result)) c.in_ok-paths.ensures.items ∙ ap (map (λ (m : MeasuredTrace). m.path)) gives.0;
      traces = ap (λ (l : List TraceFigures). l ++ map (λ (m : MeasuredTrace). m.figures) (into_iter_items c.into_iter-each-iterator.result)) c.in_ok-traces.ensures.items ∙ ap (map (λ (m : MeasuredTrace). m.figures)) gives.0;
      left = omega (arith, ap length gives.0, gives.1, c.args.measured.ok.0);
    }

pub measured-preserved : goal.measured-preserved
measured-preserved c =
    let at = c.measured in
    let m = c.in-Some.each in
    let steps : into_iter_items at.each-iterator ≡ m ∷ into_iter_items c.next.new.self = c.in-Some.ensures.steps.0 in
    record {
      paths = moved (λ (x : MeasuredTrace). x.path) at.paths.items _ (into_iter_items at.each-iterator) (into_iter_items c.next.new.self) m _ steps c.in_ok-push.ensures.items at.invariant.paths;
      traces = moved (λ (x : MeasuredTrace). x.figures) at.traces.items _ (into_iter_items at.each-iterator) (into_iter_items c.next.new.self) m _ steps c.in_ok-push-2.ensures.items at.invariant.traces;
      left =
          let was = at.invariant.left in
          let gone = c.in-Some.ensures.steps.1 in
          let short = ap length steps in
          omega arith;
    }

pub returns-clause-paths : goal.returns-clause-paths
returns-clause-paths c =
    let at = c.measured in
    let none = c.in-None.ensures.steps in
    done (λ (x : MeasuredTrace). x.path) at.paths.items (into_iter_items at.each-iterator) _ (nothing_left _ (sym at.invariant.left ∙ none.0)) at.invariant.paths

pub returns-clause-traces : goal.returns-clause-traces
returns-clause-traces c =
    let at = c.measured in
    let none = c.in-None.ensures.steps in
    done (λ (x : MeasuredTrace). x.figures) at.traces.items (into_iter_items at.each-iterator) _ (nothing_left _ (sym at.invariant.left ∙ none.0)) at.invariant.traces
