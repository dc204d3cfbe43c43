use Rattle.std.proofs.Common.{sym, ◌∙◌}
use Rattle.head_picture.specs.Refusals.{trace_text}
use Rattle.head_picture.proofs.RefusedLemmas.{first_here, first_later, first_none, text_sent}
use Rattle.head_picture.proofs.refused.push_first.Goals as goal

pub rows-preserved : goal.rows-preserved
rows-preserved c = record {
  bytes = c.rows.invariant.bytes;
  told = first_later c.args.rows.now c.rows.row-index c.row-item.result c.args.reason.now _ c.rows-test.true c.row-item.is c.rows.invariant.told (sym c.has_reason.ensures ∙ c.if-has_reason.false);
}

pub returns-then-has_reason : goal.returns-then-has_reason
returns-then-has_reason c =
    text_sent c.push_trace.result _ c.rows.bytes.items c.args.bytes.now.items (trace_text c.row-item.result) _ c.rows.invariant.bytes
    (first_here c.args.rows.now c.rows.row-index c.row-item.result c.args.reason.now _ c.rows-test.true c.row-item.is c.rows.invariant.told (sym c.has_reason.ensures ∙ c.if-has_reason.true)) c.push_trace.ensures

pub returns : goal.returns
returns c = c.rows.invariant.bytes ∙ first_none c.args.rows.now c.rows.row-index c.args.reason.now _ c.args.bytes.now.items c.rows-test.false c.rows.invariant.told
