use Rattle.std.proofs.Common.{◌≡◌, ◌∙◌, ◌<◌, All, ap, length, subst, sym}
use Rattle.std.proofs.lemmas.List.{length-map}
use Rattle.call_contexts.specs.Contexts.{frame_of, frames_of}
use Rattle.span_lines.proofs.GroupLemmas.{forked_size, groups_low, groups_size}
use Rattle.span_lines.proofs.threading.thread_contexts.Goals as goal

pub find_threads-requires-clause-same : goal.find_threads-requires-clause-same
find_threads-requires-clause-same c =
    ap length (c.deref-4.ensures.value ∙ c.in_ok-forks.ensures.forked) ∙ forked_size c.args.grace c.args.calls.now _ c.len-count.result ∙ c.len-count.ensures ∙ sym c.deref-3.ensures.len

pub returns-clause-forked_size : goal.returns-clause-forked_size
returns-clause-forked_size c =
    let contexts = c.args.contexts.now.contexts.items in
    let count : c.len-count.result ≡ length (frames_of contexts) = c.len-count.ensures ∙ sym c.deref-3.ensures.len ∙ ap length c.deref-3.ensures.value ∙ sym (length-map contexts frame_of) in
    ap length c.in_ok-forks.ensures.forked ∙ forked_size c.args.grace c.args.calls.now _ c.len-count.result ∙ count

pub returns-clause-groups_size : goal.returns-clause-groups_size
returns-clause-groups_size c =
    let contexts = c.args.contexts.now.contexts.items in
    let count : c.len-count.result ≡ length (frames_of contexts) = c.len-count.ensures ∙ sym c.deref-3.ensures.len ∙ ap length c.deref-3.ensures.value ∙ sym (length-map contexts frame_of) in
    ap length c.in_ok-groups.ensures ∙ groups_size c.len-count.result c.deref-2.result.now ∙ count

pub returns-clause-grouped : goal.returns-clause-grouped
returns-clause-grouped c =
    let contexts = c.args.contexts.now.contexts.items in
    let count : c.len-count.result ≡ length (frames_of contexts) = c.len-count.ensures ∙ sym c.deref-3.ensures.len ∙ ap length c.deref-3.ensures.value ∙ sym (length-map contexts frame_of) in
    subst (λ n. All (λ g. g < n) c.in_ok-groups.groups.items) count (subst (All (λ g. g < c.len-count.result)) (sym c.in_ok-groups.ensures) (groups_low c.len-count.result c.deref-2.result.now))
