use Rattle.std.proofs.Common.{◌≡◌, ◌<◌, ◌≤◌, ◌∷◌, ℕ, List, length, get_or, slice_range, Some, sym, ap, ◌∙◌, arith}
use Rattle.std.proofs.lemmas.List.{get_or_read}
use Rattle.event_table.specs.declared.event_numbers.EventNumbers.{EventNumbers}
use Rattle.event_table.proofs.CutLemmas.{cut_length, cut_there, stops_there}
use Rattle.event_table.proofs.block.Block.group.Goals as goal

pub start_of-start-requires : goal.start_of-start-requires
start_of-start-requires c =
    let block = c.args.self.now in
    let count = cut_length 0 block.ends.items block.events.items in
    let lt = c.requires in
    let same : length c.deref.result.now ≡ length block.ends.items = ap (λ (xs : List ℕ). length xs) c.deref.ensures.value in
    omega arith

pub index-requires : goal.index-requires
index-requires c =
    let block = c.args.self.now in
    let count = cut_length 0 block.ends.items block.events.items in
    let lt = c.requires in
    let fits = block.ends.ok in
    omega arith

below : (c : goal.After-deref-2) → c.args.index < length c.args.self.now.ends.items
below c =
    let block = c.args.self.now in
    let count = cut_length 0 block.ends.items block.events.items in
    let lt = c.requires in
    omega arith

start : (c : goal.After-deref-2) → c.start_of-start.result ≡ get_or (0 ∷ c.args.self.now.ends.items) c.args.index 0
start c = c.start_of-start.ensures ∙ ap (λ (ends : List ℕ). get_or (0 ∷ ends) c.args.index 0) c.deref.ensures.value

end : (c : goal.After-deref-2) → c.index.result.now ≡ get_or c.args.self.now.ends.items c.args.index 0
end c = get_or_read c.args.self.now.ends.items c.args.index c.index.result.now (below c) c.index.ensures 0

pub range_of-requires-clause-rising : goal.range_of-requires-clause-rising
range_of-requires-clause-rising c =
    let block = c.args.self.now in
    let there = stops_there 0 block.ends.items (length block.events.items) c.args.index block.cut (below c) in
    let rising : get_or (0 ∷ block.ends.items) c.args.index 0 ≤ get_or block.ends.items c.args.index 0 = there.0 in
    let s = start c in
    let e = end c in
    omega arith

pub range_of-requires-clause-within : goal.range_of-requires-clause-within
range_of-requires-clause-within c =
    let block = c.args.self.now in
    let there = stops_there 0 block.ends.items (length block.events.items) c.args.index block.cut (below c) in
    let within : get_or block.ends.items c.args.index 0 ≤ length block.events.items = there.1 in
    let same : length c.deref-2.result.now ≡ length block.events.items = ap (λ (es : List EventNumbers). length es) c.deref-2.ensures.value in
    let e = end c in
    omega arith

pub returns : goal.returns
returns c =
    let block = c.args.self.now in
    let count = cut_length 0 block.ends.items block.events.items in
    let lt = c.requires in
    let inside : c.args.index < length block.ends.items = omega arith in
    let from : c.start_of-start.result ≡ get_or (0 ∷ block.ends.items) c.args.index 0 = c.start_of-start.ensures ∙ ap (λ (ends : List ℕ). get_or (0 ∷ ends) c.args.index 0) c.deref.ensures.value in
    let to : c.index.result.now ≡ get_or block.ends.items c.args.index 0 = get_or_read block.ends.items c.args.index c.index.result.now inside c.index.ensures 0 in
    let lent : c.range_of.result.now ≡ slice_range block.events.items (get_or (0 ∷ block.ends.items) c.args.index 0) (get_or block.ends.items c.args.index 0) =
    c.range_of.ensures ∙ ap (λ (es : List EventNumbers). slice_range es c.start_of-start.result c.index.result.now) c.deref-2.ensures.value ∙ (λ k. slice_range block.events.items (from k) (to k)) in
    cut_there 0 block.ends.items block.events.items c.args.index inside ∙ ap (λ (es : List EventNumbers). Some es) (sym lent)
