use Rattle.std.proofs.Common.{◌∷◌, [], ◌++◌, ℕ, List, Option, length, sym, ap, ◌∙◌, append-nil, arith}
use Rattle.std.proofs.lemmas.List.{length-append}
use Rattle.std.proofs.lemmas.Option.{slice_get_within}
use Rattle.std.specs.Option.{option_to_list}
use Rattle.std.specs.Str.{bytes_eq}
use Rattle.trace_types.specs.Firsts.{firsts_of}
use Rattle.trace_types.proofs.ComparingLemmas.{text_means, text_own}
use Rattle.trace_types.proofs.ShortLemmas.{firsts-short}
use Rattle.segment_names.proofs.FirstLemmas.{firsts-same}
use Rattle.segment_names.proofs.naming.number_element.Goals as goal

pub overflow_cast-result : goal.overflow_cast-result
overflow_cast-result c = let e = c.in_ok-index-in-Some.ensures in
    let few = c.requires.few in
    let within = slice_get_within c.intern.new.texts.keys c.in_ok-index-in-Some.index c.in-Some.text e.index in
    let short = firsts-short bytes_eq (c.args.elements.now.keys ++ c.in-Some.text ∷ []) in
    let long = length-append c.args.elements.now.keys (c.in-Some.text ∷ []) in
    let same = ap length e.keys in
    omega arith

pub returns-in-None-clause-keys : goal.returns-in-None-clause-keys
returns-in-None-clause-keys c = let keys = c.args.elements.now.keys in
    sym (ap (λ (o : Option (List ℕ)). firsts_of bytes_eq (keys ++ option_to_list o)) c.in-None.is ∙ ap (firsts_of bytes_eq) (append-nil keys) ∙ firsts-same bytes_eq text_means text_own keys c.requires.differ)
