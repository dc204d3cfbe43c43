-- How long the chains of a graph are at most, where its weights have 64 bits.
use Rattle.std.proofs.Common.{◌≡◌, ℕ, ◌+◌, ◌*◌, ◌^◌, ◌<◌, ◌≤◌, List, [], ◌∷◌, All, subst, arith}
use Rattle.std.proofs.lemmas.List.Sums.{sum_by-cons}
use Rattle.view_rows.specs.inner.NumberedForecasts.{IsShort}
use Rattle.weighted_dag.specs.Chains.{IsChain, IsLongestLength, chain_length}
use Rattle.weighted_dag.specs.Graphs.{Graph, IsGraph, order_of, weight_of, with_weights}
use Rattle.what_if.specs.ForecastLaws.{AreNoGreater, LosesNoMore}
use Rattle.trace_rules.specs.declared.forecast.Forecast.{Forecast}

-- each weight has 64 bits
abbrev pub HasWords : Graph → Type 0
HasWords g = (v : ℕ) → v < order_of g → weight_of g v < 2 ^ 64

pub words_of : (g : Graph) (weights : List ℕ) → weights ≡ g.weights → All (λ w. w < 2 ^ 64) weights → HasWords g
words_of g weights is words v lt = subst (λ (ws : List ℕ). All (λ w. w < 2 ^ 64) ws) is words v 0 lt

-- a chain that begins with a vertex is no longer than the rest of the graph
chain_from : (g : Graph) → IsGraph g → HasWords g → (v : ℕ) (c : List ℕ) → IsChain g (v ∷ c) → chain_length g (v ∷ c) + v * 2 ^ 64 ≤ order_of g * 2 ^ 64
chain_from g form fits v [] h =
    let within : v < order_of g = h.0 in
    let word = fits v within in
    let one = sum_by-cons (weight_of g) v [] in
    omega arith
chain_from g form fits v (w ∷ c) h =
    let within : v < order_of g = h.0 in
    let word = fits v within in
    let later : v < w = form.later v w h.1 in
    let rest = chain_from g form fits w c h.2 in
    let more = sum_by-cons (weight_of g) v (w ∷ c) in
    omega arith

chain_short : (g : Graph) → IsGraph g → HasWords g → (c : List ℕ) → IsChain g c → chain_length g c < 2 ^ 96
chain_short g form fits [] h = omega arith
chain_short g form fits (v ∷ c) h =
    let most = chain_from g form fits v c h in
    let small : order_of g < 2 ^ 32 = form.small in
    omega arith

-- the forecast is short
pub short : (g : Graph) (weights : List ℕ) (f : Forecast) → IsGraph g → HasWords g → LosesNoMore → AreNoGreater g weights → IsLongestLength g f.before → IsLongestLength (with_weights g weights) f.after → IsShort f
short g weights f form fits loses lesser before after =
    let most = chain_short g form fits before.0 before.1.chain in
    let is : chain_length g before.0 ≡ f.before = before.2 in
    let less : f.after ≤ f.before = (loses g weights f.before f.after form lesser before after).0 in
    (omega arith, omega arith)
