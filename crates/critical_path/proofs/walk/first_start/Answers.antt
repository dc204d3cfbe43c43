use Rattle.std.proofs.Common.{◌≡◌, ◌≢◌, ℕ, ◌<◌, ◌≤◌, map, get_or, inr, ⊎_elim, ap, sym, ◌∙◌, arith}
use Rattle.std.proofs.lemmas.Bool.{both_ways, cases_lt}
use Rattle.std.proofs.lemmas.List.{get_or-map, length-map}
use Rattle.std.proofs.lemmas.List.Elements.{All-from_get_or}
use Rattle.critical_path.proofs.walk.first_start.Goals as goal

pub starts-preserved : goal.starts-preserved
starts-preserved g c = λ k h e.
    let f = g.L.Length.value in
    let v = c.starts.vertex in
    let read : get_or (map f c.args.lengths.now) v 0 ≡ f c.index-lengths-vertex.result = get_or-map f c.args.lengths.now v c.index-lengths-vertex.result 0 c.starts-test.true ∙ ap f (sym c.index-lengths-vertex.is) in
    ⊎_elim
    (λ (l : k < v). c.starts.invariant k l e)
    (λ (l : v ≤ k).
    let same : v ≡ k = omega arith in
    let here : f c.index-lengths-vertex.result ≡ f c.args.longest = sym read ∙ ap (λ (j : ℕ). get_or (map f c.args.lengths.now) j 0) same ∙ e in
    both_ways c.is-in-starts.result c.if-is-2.false (c.is-in-starts.ensures.1 here))
    (cases_lt k v)

pub returns-clause-none : goal.returns-clause-none
returns-clause-none g c =
    let f = g.L.Length.value in
    let mapped = length-map c.args.lengths.now f in
    inr (All-from_get_or (λ n. n ≢ f c.args.longest) (map f c.args.lengths.now) 0 (λ k h. c.starts.invariant k (omega arith)))
