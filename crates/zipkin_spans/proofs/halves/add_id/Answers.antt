use Rattle.std.proofs.Common.{◌≡◌, true, List, ℕ, sym, ap, ◌∙◌}
use Rattle.std.specs.Prelude.{string_bytes}
use Rattle.std.specs.BTreeSet.{contains_text}
use Rattle.std.proofs.lemmas.Map.Text.{btree_set_updates_text}
use Rattle.zipkin_spans.specs.Halves.{full_id}
use Rattle.zipkin_spans.specs.inner.Sides.{is_side}
use Rattle.zipkin_spans.proofs.HalfLemmas.{id_added}
use Rattle.zipkin_spans.proofs.halves.add_id.Goals as goal

pub returns : goal.returns
returns c = λ q.
    let span = c.args.placed.now.span in
    let full = c.in_ok-full.full in
    let of_side : is_side c.args.side span.kind ≡ true = sym c.is_of.ensures ∙ c.if-not-is_of.false in
    let same : string_bytes full ≡ full_id span.trace span.id =
    c.in_ok-full.ensures ∙ ap (λ (t : List ℕ). full_id t c.as_str-2.result.now) c.as_str.ensures ∙ ap (full_id span.trace) c.as_str-2.ensures in
    id_added (contains_text c.args.ids.now q) (contains_text c.insert.new.self q) (is_side c.args.side span.kind) (string_bytes full) (full_id span.trace span.id) q of_side same
    (btree_set_updates_text (string_bytes full) c.args.ids.now c.insert.new.self true c.in_ok-insert.ensures.updates q)
