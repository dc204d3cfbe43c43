use Rattle.std.proofs.Common.{rules, ◌≡◌, IfOk, length, sym, ◌∙◌, ap, subst}
use Rattle.std.specs.Borrow.{Bor}
use Rattle.std.specs.List.{All}
use Rattle.rayon.proofs.ToStd.{slice-AllZip}
use Rattle.refute_tests.specs.Clearing.{HaveNamesBelow}
use Rattle.trace_types.specs.declared.named_trace.NamedTrace.{NamedTrace}
use Rattle.trace_rows.specs.declared.chunks.Piece.{Piece}
use Rattle.trace_rows.specs.inner.ShownTraces.{IsShownText}
use Rattle.trace_rows.proofs.ChunkLemmas.{lent}
use Rattle.trace_rows.proofs.MadeLemmas.{made_all, pieces_All}
use Rattle.trace_rows.proofs.trace_texts.make_texts.Goals as goal

pub collect-requires-clause-ready : goal.collect-requires-clause-ready
collect-requires-clause-ready g c κs within =
    let names = λ (t : Bor NamedTrace). HaveNamesBelow (length c.args.book.now.book.known.names) t.now in
    rw (c.map.ensures.base, c.map.ensures.f, c.with_min_len.ensures.base, c.par_iter.ensures) (λ k d lt x e. ((subst (λ (p : Piece). All names p.traces.now) (sym e) (pieces_All names c.args.pieces.now c.requires k d lt), search rules), λ y p. tt))

pub returns : goal.returns
returns g c =
    let pieces = c.args.pieces.now in
    let results = c.in_ok-made.ensures.0 in
    let chain = c.in_ok-made.ensures.1 in
    let slice = ap (λ it. it.base.slice.now) c.map.ensures.base ∙ (ap (λ it. it.slice.now) c.with_min_len.ensures.base ∙ c.par_iter.ensures) in
    let book : c.map.result.f.1.now ≡ c.args.book.now = ap (λ f. f.1.now) c.map.ensures.f in
    let texts : c.map.result.f.2.now ≡ c.args.texts.now = ap (λ f. f.2.now) c.map.ensures.f in
    made_all g.K.TraceTexts.part c.args.book.now c.map.result.f.1.now c.args.texts.now c.map.result.f.2.now pieces results c.in_ok-made.made book texts c.parts_follow.ensures.texts
    (slice-AllZip chain.0 pieces (chain.1 ∙ slice) (λ (p : Piece) y. IfOk y (λ v. IsShownText c.map.result.f.1.now (g.K.TraceTexts.part c.map.result.f.2.now) (lent p.traces.now) v.items)) results chain.2)
    c.in_ok-made.ensures.2
