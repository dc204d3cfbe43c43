use Rattle.std.proofs.Common.{◌≡◌, ◌∙◌, ap, ℕ, ◌<◌, arith, List, [], ◌∷◌, ◌++◌, ◌+◌, length}
use Rattle.std.proofs.lemmas.List.{length_push, get_or_default}
use Rattle.clock_offsets.specs.declared.number_entry.NumberEntry.{NumberEntry}
use Rattle.clock_offsets.specs.NumberPlaces.{place_in}
use Rattle.clock_offsets.specs.inner.Digests.{chain_of}
use Rattle.clock_offsets.specs.inner.NumberChains.{newest_first}
use Rattle.clock_offsets.proofs.NumberChainLemmas.{table_more, place_added}
use Rattle.clock_offsets.proofs.number_places.NumberPlaces.find_or_add.Goals as goal

pub invariant_of-self-2 : goal.invariant_of-self-2
invariant_of-self-2 c =
    let es : List NumberEntry = c.self.inside.entries.items in
    let chains : List ℕ = c.self.inside.chains.items in
    let x : NumberEntry = record { group = c.args.group; number = c.args.number; place = c.args.place; older = c.index-older.result.now } in
    let items : c.push.new.self.items ≡ es ++ x ∷ [] = c.in_ok-push.ensures.items in
    let count : c.len-2.result ≡ length es + 1 = omega (arith, c.push.new.self.ok.0, ap length items, length_push es x, c.len-2.ensures) in
    let many : c.len.result ≡ length chains = omega (arith, c.self.inside.chains.ok.0, c.len.ensures) in
    let within : c.pick_chain-chain.result < length chains = omega (arith, c.pick_chain-chain.ensures.within) in
    rw (count, items) (λ _. table_more chains es x c.pick_chain-chain.result (c.self.invariant (omega (arith, within))) (c.pick_chain-chain.ensures.chain ∙ (ap (λ n. chain_of n c.mix-mixed.result) many ∙ ap (chain_of (length chains)) c.mix-mixed.ensures)) within (c.index-older.ensures ∙ get_or_default chains c.pick_chain-chain.result c.index-older.result.now 0 within))

pub returns-clause-place : goal.returns-clause-place
returns-clause-place c = ap (λ (es : List NumberEntry). place_in (newest_first es) c.args.group c.args.number) c.in_ok-push.ensures.items ∙ place_added c.self.inside.entries.items _
