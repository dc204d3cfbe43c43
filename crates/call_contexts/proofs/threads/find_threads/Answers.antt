use Rattle.std.proofs.Common.{◌∙◌, ◌<◌, [], List, None, ℕ, false, ap, arith, get_or, length, sym, subst}
use Rattle.std.specs.Prelude.{IfSome}
use Rattle.std.proofs.lemmas.List.{length-map}
use Rattle.call_contexts.specs.declared.context.Context.{Context}
use Rattle.call_contexts.specs.Contexts.{frame_of, frames_of}
use Rattle.call_contexts.specs.Threads.{thread_by}
use Rattle.call_contexts.proofs.ThreadLemmas.{above_within, frame_is, threads_all, threads_more, threads_none}
use Rattle.call_contexts.proofs.threads.find_threads.Goals as goal

abbrev no_context : Context
no_context = record { above = None; service = record { ref_ptr = (0, 0); now = [] }; name = record { ref_ptr = (0, 0); now = [] }; ordinal = 0 }

pub loop-at-init : goal.loop-at-init
loop-at-init c = threads_none (frames_of c.args.contexts.now) c.args.forked.now c.in_ok-threads.threads.items c.in_ok-threads.ensures.items

pub thread_of-thread-requires : goal.thread_of-thread-requires
thread_of-thread-requires c =
    let contexts = c.args.contexts.now in
    let i = c.loop-at.at in
    let x = get_or contexts i no_context in
    subst (λ (ts : List ℕ). IfSome x.above (λ a. a < length ts)) (sym c.deref.ensures.value)
    (above_within (frames_of contexts) c.args.forked.now c.requires.above i c.loop-at.threads.items (frame_of x) (frame_is contexts i no_context c.loop-at-test.true) c.loop-at.invariant)

pub loop-at-preserved : goal.loop-at-preserved
loop-at-preserved c =
    let contexts = c.args.contexts.now in
    let i = c.loop-at.at in
    let x = get_or contexts i no_context in
    threads_more (frames_of contexts) c.args.forked.now c.requires.above i c.loop-at.threads.items (frame_of x) (frame_is contexts i no_context c.loop-at-test.true) c.loop-at.invariant
    c.thread_of-thread.result c.push.new.self.items (c.thread_of-thread.ensures ∙ ap (λ (ts : List ℕ). thread_by ts i x.above (get_or c.args.forked.now i false)) c.deref.ensures.value) c.in_ok-push.ensures.items

pub returns : goal.returns
returns c = threads_all (frames_of c.args.contexts.now) c.args.forked.now c.loop-at.at c.loop-at.threads.items (omega (arith, length-map c.args.contexts.now frame_of)) c.loop-at.invariant
