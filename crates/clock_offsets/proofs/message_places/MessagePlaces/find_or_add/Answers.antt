use Rattle.std.proofs.Common.{◌≡◌, ◌∙◌, ap, ℕ, ◌<◌, arith, List, [], ◌∷◌, ◌++◌, ◌+◌, length}
use Rattle.std.proofs.lemmas.List.{length_push, get_or_default}
use Rattle.clock_offsets.specs.declared.message_entry.MessageEntry.{MessageEntry}
use Rattle.clock_offsets.specs.inner.MessagePlaces.{message_place_in}
use Rattle.clock_offsets.specs.inner.Digests.{chain_of}
use Rattle.clock_offsets.specs.inner.Chains.{newest_first}
use Rattle.clock_offsets.proofs.ChainLemmas.{table_more, place_added, digests_more}
use Rattle.clock_offsets.proofs.message_places.MessagePlaces.find_or_add.Goals as goal

pub invariant_of-self-2 : goal.invariant_of-self-2
invariant_of-self-2 c =
    let es : List MessageEntry = c.self.inside.entries.items in
    let chains : List ℕ = c.self.inside.chains.items in
    let x : MessageEntry = record { message = c.args.message; place = c.args.place; digest = c.digest-own.result; older = c.index-older.result.now } in
    let items : c.push-2.new.self.items ≡ es ++ x ∷ [] = c.in_ok-push-2.ensures.items in
    let count : c.len-2.result ≡ length es + 1 = omega (arith, c.push-2.new.self.ok.0, ap length items, length_push es x, c.len-2.ensures) in
    let many : c.len.result ≡ length chains = omega (arith, c.self.inside.chains.ok.0, c.len.ensures) in
    let within : c.pick_chain-chain.result < length chains = omega (arith, c.pick_chain-chain.ensures.within) in
    rw (count, items) (record {
      digests = digests_more es x c.self.invariant.digests c.digest-own.ensures;
      chained = λ _. table_more chains es x c.pick_chain-chain.result (c.self.invariant.chained (omega (arith, within))) (c.pick_chain-chain.ensures.chain ∙ ap (λ n. chain_of n c.digest-own.result) many) within (c.index-older.ensures ∙ get_or_default chains c.pick_chain-chain.result c.index-older.result.now 0 within);
    })

pub returns-then-is_empty-clause-place : goal.returns-then-is_empty-clause-place
returns-then-is_empty-clause-place c = ap (λ (es : List MessageEntry). message_place_in (newest_first es) c.args.message.now) c.in_ok-push.ensures.items ∙ place_added c.self.inside.entries.items _

pub returns-clause-place : goal.returns-clause-place
returns-clause-place c = ap (λ (es : List MessageEntry). message_place_in (newest_first es) c.args.message.now) c.in_ok-push-2.ensures.items ∙ place_added c.self.inside.entries.items _
