use Rattle.std.proofs.Common.{◌≡◌, sym, ◌∙◌}
use Rattle.clock_offsets.specs.declared.clock_fault.ClockFault.TheVariants.{Memory}
use Rattle.trace_quality.proofs.ClockLemmas.{no_clock_fault}
use Rattle.trace_quality.proofs.clocks.find_clocks.Goals as goal

pub unreachable-requires : goal.unreachable-requires
unreachable-requires c =
    no_clock_fault c.args.raw.now.trace.events c.in-Err-RepeatedSend.field-0 c.requires.once
    (c.in-Err-RepeatedSend.ensures.err (λ (m : c.in-Err-RepeatedSend.field-0 ≡ Memory). let not_memory = sym c.in-Err-RepeatedSend.field-0-is ∙ m in cc))

pub unreachable-requires-in-Err-RepeatedRecv : goal.unreachable-requires-in-Err-RepeatedRecv
unreachable-requires-in-Err-RepeatedRecv c =
    no_clock_fault c.args.raw.now.trace.events c.in-Err-RepeatedRecv.field-0 c.requires.once
    (c.in-Err-RepeatedRecv.ensures.err (λ (m : c.in-Err-RepeatedRecv.field-0 ≡ Memory). let not_memory = sym c.in-Err-RepeatedRecv.field-0-is ∙ m in cc))
