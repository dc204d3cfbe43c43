use Rattle.std.proofs.Common.{◌∙◌, ap, rules}
use Rattle.std.specs.Prelude.{FitsSigned}
use Rattle.std.proofs.lemmas.Int.{to_z-of_z}
use mir.Syntax.{w64}
use Rattle.segment_cut.specs.Elements.{element_in}
use Rattle.segment_cut.specs.NumberedCuts.{segment_under}
use Rattle.segment_cut.proofs.NumberLemmas.{text_is}
use Rattle.segment_cut.proofs.SameLemmas.{same_segment}
use Rattle.segment_cut.proofs.cut_trace.copy_segment.Goals as goal

pub returns : goal.returns
returns c =
    let s = c.args.segment in
    let start_fits : FitsSigned w64 s.start = search rules in
    let end_fits : FitsSigned w64 s.end = search rules in
    let start = text_is c.names.result.now c.args.texts.now.names s.start_event c.text-start_event.result.now c.names.ensures c.requires.start_event c.text-start_event.ensures in
    same_segment _ (segment_under c.args.texts.now s)
    (c.in_ok-copy.ensures ∙ text_is c.tasks.result.now c.args.texts.now.tasks s.task c.text.result.now c.tasks.ensures c.requires.task c.text.ensures)
    (c.in_ok-copy-2.ensures ∙ start)
    (c.in_ok-copy-3.ensures ∙ text_is c.names-2.result.now c.args.texts.now.names s.end_event c.text-2.result.now c.names-2.ensures c.requires.end_event c.text-2.ensures)
    (to_z-of_z w64 s.start start_fits)
    (to_z-of_z w64 s.end end_fits)
    (c.in_ok-copy_element.ensures ∙ ap element_in start)
