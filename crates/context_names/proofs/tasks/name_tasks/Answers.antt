use Rattle.std.proofs.Common.{◌≡◌, ◌<◌, ◌==◌, ◌∙◌, All, ap, length, sym, subst}
use Rattle.std.specs.Prelude.{slice_index}
use Rattle.std.proofs.lemmas.List.{length-map}
use Rattle.std.proofs.lemmas.List.Elements.{All-filter}
use Rattle.call_contexts.specs.Contexts.{frame_of, frames_of}
use Rattle.context_names.specs.Bases.{task_base}
use Rattle.context_names.proofs.tasks.name_tasks.Goals as goal

pub number_bases-requires : goal.number_bases-requires
number_bases-requires c =
    let contexts = c.args.contexts.now in
    let size : length contexts ≡ length c.deref-2.result.now = sym (ap length (c.deref-2.ensures.value ∙ c.in_ok-bases.ensures) ∙ length-map (frames_of contexts) task_base ∙ length-map contexts frame_of) in
    subst (λ n. All (λ x. x < n) c.deref.result.now) size
    (subst (All (λ x. x < length contexts)) (sym (c.deref.ensures.value ∙ c.in_ok-first.ensures)) (All-filter (λ x. slice_index c.args.threads.now x == x) (λ x. x < length contexts) c.args.order.now c.requires.within))
