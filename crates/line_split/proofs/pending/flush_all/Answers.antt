use Rattle.std.proofs.Common.{◌<◌, ◌∙◌, arith}
use Rattle.line_split.specs.inner.Pending.{buffer_count}
use Rattle.line_split.proofs.PendingLemmas.{empty_more, whole_files}
use Rattle.line_split.proofs.pending.flush_all.Goals as goal

pub buffers-preserved : goal.buffers-preserved
buffers-preserved g c =
    let at = c.buffers.invariant in
    let within : c.buffers.index < buffer_count c.buffers.pending = omega (arith, c.buffers-test.true, c.len-index-end.ensures, c.args.pending.now.buffers.ok.0, at.many) in
    record {
      over = c.in-Ok.ensures.over;
      many = c.in-Ok.ensures.many ∙ at.many;
      counted = c.in-Ok.ensures.counted ∙ at.counted;
      told = λ count before all h. c.in-Ok.ensures.told count before all (at.told count before all h);
      empty = empty_more c.buffers.pending c.flush.new.pending c.buffers.index within c.in-Ok.ensures.emptied at.empty;
    }

pub returns-clause-whole : goal.returns-clause-whole
returns-clause-whole g c = λ count before all h.
    whole_files count before all _ c.buffers.pending (c.buffers.invariant.told count before all h) (λ j l. c.buffers.invariant.empty j (omega (arith, c.buffers.invariant.many, l)))
