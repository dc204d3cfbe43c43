use Rattle.std.proofs.Common.{◌≡◌, ◌∙◌, ◌<◌, ◌+◌, ◌++◌, ◌∷◌, [], List, Some, ℕ, ap, arith, get_or, length, slice_get, sym, subst}
use Rattle.std.specs.Prelude.{IfSome}
use Rattle.std.proofs.lemmas.List.{length-map}
use Rattle.std.proofs.lemmas.Option.{slice_get-get_or}
use Rattle.span_calls.specs.declared.call.Call.{Call}
use Rattle.call_contexts.specs.declared.context.Context.{Context}
use Rattle.call_contexts.specs.Contexts.{frame_at, frame_of, frames_of}
use Rattle.call_contexts.specs.inner.Numbering.{AreSoFar}
use Rattle.call_contexts.proofs.FrameLemmas.{caller_within, listed_more, so_far_more, so_far_none}
use Rattle.call_contexts.proofs.contexts.number_contexts.Goals as goal

here : (calls : List Call) (at : ℕ) (call : Call) → at < length calls → call ≡ get_or calls at call → slice_get calls at ≡ Some call
here calls at call lt is = slice_get-get_or calls at call lt ∙ ap (λ (x : Call). Some x) (sym is)

pub loop-at-init : goal.loop-at-init
loop-at-init c =
    let keys = ap (λ (xs : List Context). frames_of xs) c.new-seen.ensures.empty in
    record {
      found = so_far_none c.args.calls.now c.args.ordinals.now c.in_ok-numbers.numbers.items (frames_of c.new-seen.result.keys) c.in_ok-numbers.ensures.items keys;
      same = ap (λ (xs : List Context). frames_of xs) c.new-contexts.ensures.items ∙ sym keys;
    }

pub context_of-context-requires : goal.context_of-context-requires
context_of-context-requires c =
    let calls = c.args.calls.now in
    let call = c.index-calls-at.result in
    subst (λ (ns : List ℕ). IfSome call.caller (λ a. a < length ns)) (sym c.deref.ensures.value)
    (caller_within calls c.args.ordinals.now c.loop-at.at c.loop-at.numbers.items (frames_of c.loop-at.seen.keys) c.loop-at.invariant.found c.requires.before call
    (here calls c.loop-at.at call c.loop-at-test.true c.index-calls-at.is))

pub loop-at-preserved : goal.loop-at-preserved
loop-at-preserved c =
    let calls = c.args.calls.now in
    let ordinals = c.args.ordinals.now in
    let at = c.loop-at.at in
    let call = c.index-calls-at.result in
    let numbers = c.loop-at.numbers.items in
    let frames = frames_of c.loop-at.seen.keys in
    let f = frame_of c.context_of-context.result in
    let n = c.in_ok-number.number in
    let own : f ≡ frame_at numbers (get_or ordinals at 0) call = c.context_of-context.ensures ∙ ap (λ (ns : List ℕ). frame_at ns (get_or ordinals at 0) call) c.deref.ensures.value in
    let more = so_far_more calls ordinals at numbers frames c.loop-at.invariant.found c.requires.before call (here calls at call c.loop-at-test.true c.index-calls-at.is) f n own c.in_ok-number.ensures.number in
    record {
      found = subst (λ (ns : List ℕ). AreSoFar calls ordinals (at + 1) ns (frames_of c.number_context.new.seen.keys)) (sym c.in_ok-push.ensures.items)
          (subst (AreSoFar calls ordinals (at + 1) (numbers ++ n ∷ [])) (sym c.in_ok-number.ensures.seen) more);
      same = listed_more (frames_of c.loop-at.contexts.items) frames (frames_of c.push_new.new.contexts.items) f n (length c.loop-at.contexts.items) c.loop-at.invariant.same
          (sym (length-map c.loop-at.contexts.items frame_of)) c.in_ok-number.ensures.number c.in_ok-push_new.ensures ∙ sym c.in_ok-number.ensures.seen;
    }

pub returns : goal.returns
returns c =
    let calls = c.args.calls.now in
    let ordinals = c.args.ordinals.now in
    let numbers = c.loop-at.numbers.items in
    let all : c.loop-at.at ≡ length calls = omega arith in
    subst (λ k. AreSoFar calls ordinals k numbers (frames_of c.loop-at.contexts.items)) all
    (subst (AreSoFar calls ordinals c.loop-at.at numbers) (sym c.loop-at.invariant.same) c.loop-at.invariant.found)
