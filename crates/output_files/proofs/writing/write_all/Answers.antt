use Rattle.std.proofs.Common.{◌≡◌, ℕ, arith, length-drop, ◌∙◌, refl, sym, ap, length, take}
use Rattle.std.proofs.lemmas.List.{take_rest, length-take}
use Rattle.output_files.proofs.WriteLemmas.{length-after_write, written_more, written_none}
use Rattle.output_files.proofs.writing.write_all.Goals as goal

pub loop-sent-init : goal.loop-sent-init
loop-sent-init g c = record {
  few = omega arith;
  written = sym (written_none (g.P.OutputFiles.written c.args.files.now) c.args.index);
  faults = refl;
}

pub write-requires-clause-made : goal.write-requires-clause-made
write-requires-clause-made g c =
    let many : length (g.P.OutputFiles.written c.loop-sent.files) ≡ length (g.P.OutputFiles.written c.args.files.now) =
    ap length c.loop-sent.invariant.written ∙ length-after_write (g.P.OutputFiles.written c.args.files.now) c.args.index (take c.loop-sent.sent c.args.bytes.now) in
    omega (arith, many, c.requires)

pub loop-sent-preserved : goal.loop-sent-preserved
loop-sent-preserved g c = record {
  few = omega (arith, c.in_ok-sent.ensures.within, length-take {A = ℕ}, length-drop {A = ℕ});
  written = written_more _ _ _ c.args.index c.args.bytes.now _ _ _ c.in_ok-sent.ensures.appends c.loop-sent.invariant.written (take_rest c.args.bytes.now c.loop-sent.sent);
  faults = c.in_ok-sent.ensures.tallied ∙ c.loop-sent.invariant.faults;
}
