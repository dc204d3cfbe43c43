use Rattle.std.proofs.Common.{◌≡◌, ◌∙◌, List, ℕ, Vec, Global, ap, length, map}
use Rattle.std.proofs.lemmas.List.{length-map}
use Rattle.std.proofs.lemmas.Result.{IfOk-weaker}
use Rattle.call_trees.specs.Ordinals.{ordinals_of}
use Rattle.context_names.specs.Labels.{Label, label_at, label_eq}
use Rattle.context_names.specs.Scattering.{scattered}
use Rattle.context_names.specs.declared.label_key.LabelKey.{LabelKey}
use Rattle.context_names.specs.inner.Keys.{label_of_key, labels_of_keys}
use Rattle.context_names.proofs.OrdinalLemmas.{length-ordinals, ordinals-map}
use Rattle.context_names.proofs.labels.number_labels.Goals as goal

-- the ordinals of keys are those of labels
labels_are : (keys lent : List LabelKey) (labels : List Label) (ns : List ℕ) → lent ≡ keys → labels_of_keys keys ≡ labels → ns ≡ ordinals_of (λ (k l : LabelKey). label_eq (label_of_key k) (label_of_key l)) lent → ns ≡ ordinals_of label_eq labels
labels_are keys lent labels ns same h own = own ∙ ordinals-map label_of_key label_eq lent ∙ ap (ordinals_of label_eq) (ap (λ (ks : List LabelKey). labels_of_keys ks) same ∙ h)

pub scatter-requires-clause-same : goal.scatter-requires-clause-same
scatter-requires-clause-same c =
    let labels = map (label_at c.args.threads.now c.args.bases.now) c.args.order.now in
    ap length (c.deref-2.ensures.value ∙ labels_are c.in_ok-keys.keys.items c.deref.result.now labels c.in_ok-ordinals.ordinals.items c.deref.ensures.value c.in_ok-keys.ensures c.in_ok-ordinals.ensures)
    ∙ length-ordinals label_eq labels ∙ length-map c.args.order.now (label_at c.args.threads.now c.args.bases.now)

pub returns : goal.returns
returns c =
    let order = c.args.order.now in
    let labels = map (label_at c.args.threads.now c.args.bases.now) order in
    let count = length c.args.bases.now in
    IfOk-weaker c.scatter.result _ _ (λ (v : Vec ℕ Global) (h : v.items ≡ scattered count order c.deref-2.result.now).
    h ∙ ap (scattered count order) (c.deref-2.ensures.value ∙ labels_are c.in_ok-keys.keys.items c.deref.result.now labels c.in_ok-ordinals.ordinals.items c.deref.ensures.value c.in_ok-keys.ensures c.in_ok-ordinals.ensures)) c.scatter.ensures
