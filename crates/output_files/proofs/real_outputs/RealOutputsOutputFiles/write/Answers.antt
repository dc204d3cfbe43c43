use Rattle.std.proofs.Common.{◌≡◌, ◌++◌, ℕ, List, ap, arith, take, ◌∙◌}
use Rattle.std.proofs.lemmas.List.{length-map}
use Rattle.std.proofs.Math.Seq.{map-set_same}
use Rattle.mystery_io.specs.RealObjects.{sink_taken}
use Rattle.output_files.specs.Objects.{real_file}
use Rattle.output_files.proofs.WriteLemmas.{written}
use Rattle.output_files.proofs.real_outputs.RealOutputsOutputFiles.write.Goals as goal

pub returns-in-Ok-clause-appends : goal.returns-in-Ok-clause-appends
returns-in-Ok-clause-appends g c =
    let file = c.index_mut-file.result.now in
    let more : List ℕ = take c.in-Ok.count c.args.piece.now in
    let told = c.in-Ok.ensures.appends in
    let taken : sink_taken c.write.new.self ≡ sink_taken file.sink ++ more = cc in
    let many = length-map c.args.self.now.files.items real_file in
    written real_file c.args.self.now.files.items c.args.index file _ more (omega (arith, many, c.requires.made)) c.index_mut-file.ensures.value
    (ap (λ (b : List ℕ). record { name = file.name.value; bytes = b }) taken)

pub returns-in-Err-clause-stays : goal.returns-in-Err-clause-stays
returns-in-Err-clause-stays g c =
    let file = c.index_mut-file.result.now in
    let told = c.in-Err.ensures.stays in
    let taken : sink_taken c.write.new.self ≡ sink_taken file.sink = cc in
    map-set_same real_file c.args.self.now.files.items c.args.index _ file
    (ap (λ (b : List ℕ). record { name = file.name.value; bytes = b }) taken ∙ ap real_file c.index_mut-file.ensures.value)
