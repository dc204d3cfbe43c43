use Rattle.std.proofs.Common.{◌≡◌, ◌∙◌, ◌<◌, ◌++◌, ◌∷◌, [], List, ℕ, None, Vec, Global, cond, arith, ap, append-nil, sym, subst, get_or, length}
use Rattle.std.specs.Prelude.{is_none}
use Rattle.std.proofs.lemmas.List.{map-append}
use Rattle.span_requests.specs.declared.entry_key.EntryKey.{EntryKey}
use Rattle.span_requests.specs.inner.EntryKeys.{AreKeys, IsKeyOf, entry_numbers, indexes_of}
use Rattle.span_requests.specs.inner.Ids.{lent_spans, lent_texts}
use Rattle.span_requests.proofs.EntryLemmas.{keys_more, numbers_more, sight_of, tested_none, traces_few}
use Rattle.span_requests.proofs.entries.entry_keys.Goals as goal
use Rattle.span_requests.proofs.entries.entry_keys.Goals.{then-is_none+in_ok-push, else-is_none}

pub key_of-requires : goal.key_of-requires
key_of-requires c = omega (arith, traces_few c.args.spans.now (lent_texts c.args.traces.now.keys) c.requires.traces, c.requires.few)

pub loop-at-preserved : goal.loop-at-preserved
loop-at-preserved c =
    let xs = c.args.spans.now in
    let i = c.loop-at.at in
    let callers = c.args.callers.now in
    let texts = lent_texts c.args.traces.now.keys in
    let keys = c.loop-at.keys.items in
    let lt : i < length xs = omega arith in
    let test : c.is_none.result ≡ is_none (get_or callers i None) = tested_none (get_or callers i None) c.is_none.result c.is_none.ensures in
    elim c.if-is_none.branch [
      | then-is_none+in_ok-push w ↦
          let s = w.index-spans-at.result in
          let key : EntryKey = w.key_of.result in
          let own : IsKeyOf (lent_spans xs) s.now key = record {
            sight = sight_of xs texts s.now key.first_sight c.requires.traces w.key_of.ensures.sight;
            consumer = w.key_of.ensures.consumer;
            parented = w.key_of.ensures.parented;
            start = w.key_of.ensures.start;
            id = w.key_of.ensures.id;
          } in
          let items : c.if-is_none.keys.items ≡ keys ++ key ∷ [] = ap (λ (v : Vec EntryKey Global). v.items) w.keys-is ∙ w.in_ok-push.ensures.items in
          record {
            keys = subst (AreKeys (lent_spans xs)) (sym items) (keys_more xs keys key s i lt w.index-spans-at.is w.key_of.ensures.index own c.loop-at.invariant.keys);
            indexes = ap indexes_of items ∙ map-append (λ (k : EntryKey). k.index) keys (key ∷ []) ∙ ap (λ n. indexes_of keys ++ n ∷ []) w.key_of.ensures.index
                ∙ ap (λ (ns : List ℕ). ns ++ i ∷ []) c.loop-at.invariant.indexes
                ∙ sym (numbers_more callers i ∙ ap (λ b. entry_numbers callers i ++ cond b (i ∷ []) []) (sym test ∙ w.if-is_none.true));
          }
      | else-is_none w ↦
          let items : c.if-is_none.keys.items ≡ keys = ap (λ (v : Vec EntryKey Global). v.items) w.keys-is in
          record {
            keys = subst (AreKeys (lent_spans xs)) (sym items) c.loop-at.invariant.keys;
            indexes = ap indexes_of items ∙ c.loop-at.invariant.indexes ∙ sym (append-nil (entry_numbers callers i))
                ∙ sym (numbers_more callers i ∙ ap (λ b. entry_numbers callers i ++ cond b (i ∷ []) []) (sym test ∙ w.if-is_none.false));
          }
    ]
