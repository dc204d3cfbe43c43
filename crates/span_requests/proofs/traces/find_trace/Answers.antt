use Rattle.std.proofs.Common.{ap, ◌∙◌, ◌≡◌, sym, length, List, Bor, ℕ, Option}
use Rattle.std.specs.Prelude.{position, unwrap_or}
use Rattle.std.specs.Str.{bytes_eq}
use Rattle.std.proofs.lemmas.List.{length-map}
use Rattle.span_requests.specs.inner.Ids.{lent_texts}
use Rattle.span_requests.proofs.ListLemmas.{position-map}
use Rattle.span_requests.proofs.TraceLemmas.{place_or}
use Rattle.span_requests.proofs.traces.find_trace.Goals as goal

pub returns : goal.returns
returns c =
    let keys = c.args.traces.now.keys in
    let p = bytes_eq c.args.trace.now in
    let found : c.get_index_of.result ≡ position p (lent_texts keys) = c.get_index_of.ensures.index ∙ sym (position-map (λ (t : Bor (List ℕ)). t.now) p keys) in
    let long : c.len.result ≡ length (lent_texts keys) = c.len.ensures.len ∙ sym (length-map keys (λ (t : Bor (List ℕ)). t.now)) in
    c.unwrap_or.ensures ∙ ap (λ (o : Option ℕ). unwrap_or o c.len.result) found ∙ ap (unwrap_or (position p (lent_texts keys))) long ∙ place_or p (lent_texts keys)
