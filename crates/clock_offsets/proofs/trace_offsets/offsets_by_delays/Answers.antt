use Rattle.std.proofs.Common.{◌≡◌, ℤ, List, replicate, pos, refl, sym, subst}
use Rattle.std.proofs.lemmas.List.{nil_from_length}
use Rattle.clock_offsets.specs.Offsets.{AreOffsets}
use Rattle.clock_offsets.proofs.ZeroLemmas.{zeros_are}
use Rattle.clock_offsets.proofs.trace_offsets.offsets_by_delays.Goals as goal

pub returns-then-is_empty : goal.returns-then-is_empty
returns-then-is_empty c =
    let zeros : c.in_ok-each.each.items ≡ replicate c.len.result (pos 0) = c.in_ok-each.ensures.items_if_clones_equal (λ y h. h) in
    subst (λ (os : List ℤ). AreOffsets c.args.trace.now.trace.events os) (sym zeros)
    (zeros_are c.args.trace.now.trace.events c.args.numbers.now c.args.least.now c.len.result c.requires.numbered c.requires.delays (nil_from_length c.args.least.now.entries (c.if-is_empty.ensures.0 refl)) c.len.ensures.events)
