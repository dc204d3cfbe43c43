use Rattle.std.proofs.Common.{◌≡◌, ◌∙◌, Bor, List, ℕ, Vec, Global, ap, length, map}
use Rattle.std.specs.Str.{bytes_eq}
use Rattle.std.proofs.lemmas.List.{length-map}
use Rattle.std.proofs.lemmas.Result.{IfOk-weaker}
use Rattle.call_trees.specs.Ordinals.{ordinals_of}
use Rattle.context_names.specs.Numbers.{base_at}
use Rattle.context_names.specs.Scattering.{scattered}
use Rattle.context_names.specs.inner.Keys.{lent_bases}
use Rattle.context_names.proofs.OrdinalLemmas.{length-ordinals, ordinals-map}
use Rattle.context_names.proofs.numbers.number_bases.Goals as goal

-- the ordinals of references are those of their texts
bases_are : (keys lent : List (Bor (List ℕ))) (bases : List (List ℕ)) (ns : List ℕ) → lent ≡ keys → lent_bases keys ≡ bases → ns ≡ ordinals_of (λ (k l : Bor (List ℕ)). bytes_eq k.now l.now) lent → ns ≡ ordinals_of bytes_eq bases
bases_are keys lent bases ns same h own = own ∙ ordinals-map (λ (t : Bor (List ℕ)). t.now) bytes_eq lent ∙ ap (λ (bs : List (List ℕ)). ordinals_of bytes_eq bs) (ap (λ (ks : List (Bor (List ℕ))). lent_bases ks) same ∙ h)

pub scatter-requires-clause-same : goal.scatter-requires-clause-same
scatter-requires-clause-same c =
    let bases = map (base_at c.args.bases.now) c.args.order.now in
    ap length (c.deref-2.ensures.value ∙ bases_are c.in_ok-keys.keys.items c.deref.result.now bases c.in_ok-ordinals.ordinals.items c.deref.ensures.value c.in_ok-keys.ensures c.in_ok-ordinals.ensures)
    ∙ length-ordinals bytes_eq bases ∙ length-map c.args.order.now (base_at c.args.bases.now)

pub returns : goal.returns
returns c =
    let order = c.args.order.now in
    let bases = map (base_at c.args.bases.now) order in
    let count = length c.args.bases.now in
    IfOk-weaker c.scatter.result _ _ (λ (v : Vec ℕ Global) (h : v.items ≡ scattered count order c.deref-2.result.now).
    h ∙ ap (scattered count order) (c.deref-2.ensures.value ∙ bases_are c.in_ok-keys.keys.items c.deref.result.now bases c.in_ok-ordinals.ordinals.items c.deref.ensures.value c.in_ok-keys.ensures c.in_ok-ordinals.ensures)) c.scatter.ensures
