use Rattle.std.proofs.Common.{◌≡◌, ◌∙◌, ℕ, ◌+◌, ◌++◌, ◌∷◌, [], List, filter, get_or, map, ap, arith, sym}
use Rattle.std.specs.List.{range_with_len}
use Rattle.std.proofs.lemmas.Option.{get_or_from_slice_get, slice_get-get_or}
use Rattle.task_pieces.specs.PieceNames.{is_free, numbered_name, numbered_stem, stem_of}
use Rattle.task_pieces.proofs.NameLemmas.{names_are, position_is}
use Rattle.task_pieces.proofs.piece_names.names_of_task.Goals as goal

pub returns : goal.returns
returns c =
    let tasks = c.args.tasks.now.keys in
    let number = c.args.number in
    let task : List ℕ = get_or tasks number [] in
    let free = c.in_ok-push_names.ensures in
    let text : c.index-as_slice-number.result ≡ task =
    c.index-as_slice-number.is ∙ ap (λ (ts : List (List ℕ)). get_or ts number c.index-as_slice-number.result) c.as_slice.ensures.keys
    ∙ get_or_from_slice_get tasks number task c.index-as_slice-number.result (slice_get-get_or tasks number [] c.requires.there) in
    let first : c.push.new.self.items ≡ task ∷ [] =
    c.in_ok-push.ensures.items ∙ ap (λ (ts : List (List ℕ)). ts ++ c.in_ok-copy.field-0 ∷ []) c.new-names.ensures.items ∙ ap (λ (t : List ℕ). t ∷ []) (c.in_ok-copy.ensures ∙ text) in
    let stem : c.as_str-2.result.now ≡ stem_of tasks task =
    c.as_str-2.ensures.value ∙ c.in_ok-stem.ensures ∙ ap (numbered_stem (number + 1)) (c.as_str.ensures ∙ text) ∙ ap (λ n. numbered_stem (n + 1) task) (sym (position_is tasks number c.as_slice.ensures.unique c.requires.there)) in
    let grown : c.push_names.new.names.items ≡ task ∷ map (numbered_name (stem_of tasks task)) (filter (is_free tasks (stem_of tasks task)) (range_with_len 2 free.numbers)) =
    free.grown ∙ ap (λ (old : List (List ℕ)). old ++ map (numbered_name c.as_str-2.result.now) (filter (is_free tasks c.as_str-2.result.now) (range_with_len 2 free.numbers))) first
    ∙ ap (λ (s : List ℕ). task ∷ map (numbered_name s) (filter (is_free tasks s) (range_with_len 2 free.numbers))) stem in
    names_are tasks task free.numbers c.args.count c.push_names.new.names.items grown free.enough (omega (arith, free.few, c.requires.few))
