use Rattle.std.proofs.Common.{◌≡◌, ◌∙◌, ℕ, ◌-◌, ◌<◌, List, [], Some, get_or, length, slice_get, subst, sym}
use Rattle.task_pieces.specs.inner.Naming.{names_under}
use Rattle.task_pieces.proofs.NamingLemmas.{index_within, name_under}
use Rattle.task_pieces.proofs.task_names.TaskNames.name.Goals as goal

pub find_name-requires : goal.find_name-requires
find_name-requires c =
    let names = c.self.inside.names.items in
    let numbers = c.self.inside.numbers.items in
    let pieces = c.self.inside.pieces.items in
    let there : c.args.index < length (names_under names numbers pieces) = subst (λ (ns : List (List ℕ)). c.args.index < length ns) (sym c.self.view_is) c.requires in
    rw (c.deref.ensures.value, c.deref-2.ensures.value, c.deref-3.ensures.value) (record { there = c.self.invariant; within = index_within names numbers pieces c.args.index there })

pub returns : goal.returns
returns c =
    let names = c.self.inside.names.items in
    let numbers = c.self.inside.numbers.items in
    let pieces = c.self.inside.pieces.items in
    let there : c.args.index < length (names_under names numbers pieces) = subst (λ (ns : List (List ℕ)). c.args.index < length ns) (sym c.self.view_is) c.requires in
    let name : c.find_name.result.now ≡ get_or (get_or names (get_or numbers c.args.index 0) []) (get_or pieces c.args.index 0 - 1) [] =
    c.find_name.ensures ∙ (λ i. get_or (get_or (c.deref.ensures.value i) (get_or (c.deref-2.ensures.value i) c.args.index 0) []) (get_or (c.deref-3.ensures.value i) c.args.index 0 - 1) []) in
    subst (λ (ns : List (List ℕ)). slice_get ns c.args.index ≡ Some c.find_name.result.now) c.self.view_is (name_under names numbers pieces c.args.index c.find_name.result.now there name)
