use Rattle.std.proofs.Common.{◌<◌, ap, arith, length, map, ◌∙◌, subst, sym, take, Global}
use Rattle.std.proofs.Math.Seq.{map-set_same}
use Rattle.std.proofs.lemmas.List.{length-map}
use Rattle.std.specs.declared.vec.Vec.{Vec}
use Rattle.output_files.specs.Objects.{mem_file}
use Rattle.output_files.specs.Written.{after_write}
use Rattle.output_files.specs.declared.mem_outputs.MemOutput.{MemOutput}
use Rattle.output_files.proofs.WriteLemmas.{written}
use Rattle.output_files.proofs.mem_outputs.MemOutputsOutputFiles.write.Goals as goal

pub returns-in-Some-clause-appends : goal.returns-in-Some-clause-appends
returns-in-Some-clause-appends c =
    let file = c.index_mut.result.now in
    let more = take c.in-Some.count c.args.piece.now in
    let files = c.fails.new.self.files in
    let many = length-map files.items mem_file in
    let made : c.args.index < length (map mem_file files.items) = subst (λ (v : Vec MemOutput Global). c.args.index < length (map mem_file v.items)) (sym c.fails.ensures.files) c.requires.made in
    let new = written mem_file files.items c.args.index file c.append.new.file more (omega (arith, many, made)) c.index_mut.ensures.value c.in-Some.ensures.appends in
    new ∙ ap (λ (v : Vec MemOutput Global). after_write (map mem_file v.items) c.args.index more) c.fails.ensures.files

pub returns-in-None-clause-stays : goal.returns-in-None-clause-stays
returns-in-None-clause-stays c =
    let file = c.index_mut.result.now in
    let files = c.fails.new.self.files in
    let same = map-set_same mem_file files.items c.args.index c.append.new.file file (c.in-None.ensures.stays ∙ ap mem_file c.index_mut.ensures.value) in
    ap (λ (v : Vec MemOutput Global). map mem_file v.items) c.fail-in-None.ensures.files ∙ same ∙ ap (λ (v : Vec MemOutput Global). map mem_file v.items) c.fails.ensures.files
