-- `slice` shows the words that all places of the block lend: the bytes from the base on, 8 for each of `len` words.
use mathlib.Core.Path.{◌≡◌, refl, sym, ap, subst, ◌∙◌}
use Prim.Native.Nat.{ℕ, ◌*◌, ◌<◌, ◌^◌}
use mathlib.Core.List.{List, [], ◌∷◌, ◌++◌}
use seplogic.Ra.Ura.{Ura}
use mir.Syntax.{named, w64}
use mir.Val.{Val, vptr, vint}
use base.Logic.{SProp, ent, never, id⊢}
use base.Fml.{Lft, Share, ftrue, fat, flft}
use base.Fraction.{full_share}
use prog.Memory.{Memory}
use prog.Routine.{Routine}
use prog.Wp.{Env, Calls, Loops, WpFn, Tables}
use types.Logic.{Logic}
use contract.Monad.{Fun}
use contract.Running.{tables, tables_of}
use sound.WpLaws.{WpFn-mono}
use types.Kit.{Item, ⋆, ‵, ◌⊛◌, at_ret, ◌$◌, ◌∵◌, !, qed, by, move, keep, drop, use1, split, join, rewrite, fsplit, fjoin, feq_i, feq_l, flt_l, flt_i, suffices, frame, done}
use types.Part.{whole, sub, agg}
use types.Run.{stop, fld, of_opd, and_then, no_more, first, blocks, exec, returns, enter}
use types.ByLocal.{alloc_all, pass_all, free_all, look_at, get, get_in, sets, sets_last, env, take_at, give_at}
use denote.Builtin.{u64, usize, RefOf}
use denote.Exit.{yes}
use denote.Memory.{hidden_shr}
use denote.Opens.{hide, unhide}
use denote.Param.{layout}
use denote.RattleType.{owns}
use denote.RawPtr.{Ptr, in_a_block}
use denote.Ref.{Bor, ShrRef}
use denote.Signature.{plain}
use denote.Slice.{ShrSlice, slice_val, elements_shared}
use denote.Steps.{nothing}
use denote.Triple.Clauses.{Clauses, closing}
use denote.Triple.Entry.{on_entry}
use denote.Triple.Spec.{Meets, triple_of}
use denote.Triple.Table.{entered}
use denote.Triple.Walked.{says, needs, Stays, stay_dropped, walk_of, ends_at, Goes-dropped, walk_Meets}
use lib.ListN.{length}
use Rattle.std.specs.Prelude.{Option, Some}
use Rattle.std.proofs.lemmas.List.{length-map}
use Rattle.std_alloc.proofs.RcSteps.{word, word-Good}
use Rattle.std_alloc.proofs.VecSteps.Shapes.{after}
use Rattle.word_block.specs.inner.Filling.{words_of, IsFilled}
use Rattle.word_block.specs.inner.Ownership.{places_lent, places_lent_at}
use Rattle.word_block.proofs.PlaceLemmas.{Ps, Bs, word_had, seen_all}
use Rattle.word_block.specs.contracts.places.Places.slice as F
use Rattle.word_block.specs.contracts.places.Places.slice.Key.{name as #self}
use Rattle.word_block.proofs.places.Places.slice.Statement as stated
use Rattle.word_block.proofs.places.Places.slice.Code as code

abbrev stayed : Stays F.ended.signature.params F.ended.kept
stayed = (stay_dropped (RefOf (0 ∷ []) tt (plain (λ _. Ps)) (λ _. tt)) yes, (stay_dropped (plain (λ _. Bs)) yes, (stay_dropped (plain (λ _. usize)) yes, tt)))

module _ {M : Type 1} {𝓤 : Ura M} (𝓛 : Logic 𝓤) (at_mem : Memory → SProp 𝓤) (run : Routine → Fun 𝓤) where
  open 𝓛 use {H, A}

  abbrev clauses : Clauses 𝓤 F.ended
  clauses = F.clauses 𝓛 at_mem run

  module _ (C : Calls 𝓤 H) (Λ : Loops 𝓤 H) (κ : Lft) (q : Share) (rb ro : ℕ) (d : Ps.Denot) (base : Bs.Denot) (len : ℕ) (us0 us1 us2 : List Val) where
    abbrev self : Bor Ps.Denot
    self = record { ref_ptr = (rb, ro); now = d }

    abbrev bound : (walk_of 𝓛 F.ended stayed clauses).Ghost
    bound = (((κ, tt), (q, tt), tt, (self, (base, (len, tt))), (us0, (us1, (us2, tt)))), tt)

    abbrev Post : Val → SProp 𝓤
    Post = (walk_of 𝓛 F.ended stayed clauses).post bound

    abbrev Asks : Type 0
    Asks = (base.ptr ≡ d.at) × IsFilled len d.held

    exits : (r : (ShrSlice (named 0) κ u64).Denot) (v : Val) → r.now ≡ words_of d.held → ent 𝓤 (⋆ 𝓛 (‵ (flft κ q) ∷ ‵ ((ShrSlice (named 0) κ u64).own_val r (v ∷ [])) ∷ [])) (Post v)
    exits r v given =
        qed 𝓛 (‵ (flft κ q) ∷ ‵ ((ShrSlice (named 0) κ u64).own_val r (v ∷ [])) ∷ []) ∵
        suffices ! _ (ends_at 𝓛 F.ended stayed clauses bound v r (tt, (tt, (tt, tt))) (tt, (tt, (tt, tt)))) $ says ! given $
        nothing ! $ move ! (1 ∷ 0 ∷ []) $ join ! $ frame ! $ nothing ! $ nothing ! $ fjoin ! $ nothing ! $ fjoin ! $ nothing ! $ fjoin ! $ done !

    abbrev Had : List (Item 𝓤)
    Had = ‵ (hidden_shr Ps κ d rb ro) ∷ ‵ (flft κ q) ∷ []

    walk : Asks → len < 2 ^ 64 → ent 𝓤 (⋆ 𝓛 Had) (WpFn 𝓤 H C Λ code.function (vptr rb ro ∷ word base.ptr ∷ vint w64 len ∷ []) Post)
    walk asked fits =
        let xs = words_of d.held in let filled = asked.1.1 in
        let long : length xs ≡ len = sym (length-map xs Some) ∙ sym (ap length filled) ∙ asked.1.0 in
        qed 𝓛 Had ∵ enter ! C Λ code.function (vptr rb ro ∷ word base.ptr ∷ vint w64 len ∷ []) _ $ alloc_all ! (λ l. pass_all ! refl ((tt, tt), (word-Good [] base.ptr, ((tt, record { fits = fits }), tt))) $
        let En : Env 𝓤 H = env code.function.locals l in
        unhide ! $ fsplit ! $ drop ! $ in_a_block ! d.at (λ p. places_lent p d.held κ) (id⊢ 𝓤 (never 𝓤)) (λ b o e. fsplit ! $ flt_l ! (λ small.
        take_at ! 2 $ rewrite ! 0 (λ (p : Ptr). ‵ (fat full_share (layout Bs) (l 2) 0 (word p))) (asked.0 ∙ e) refl $ give_at ! 2 $ first ! $ blocks ! $
        rewrite ! 0 (λ (cs : List (Option ℕ)). ‵ (places_lent_at b o cs κ)) filled refl $
        use1 𝓛 (‵ (elements_shared u64 xs b o κ)) (seen_all 𝓛 b κ xs o) $ hide ! $
        sets_last ! (agg ! (and_then ! (get_in ! (fld ! refl (stop !)) (sub ! 0 refl (whole !))) (and_then ! (get ! refl) (no_more !)))) refl (tt, (tt, (record { fits = fits }, tt))) $
        exec ! C Λ En (after 1 code.function.body) (at_ret En Post) $ sets ! (of_opd ! (get ! refl)) refl (tt, (tt, (record { fits = fits }, tt))) $
        flt_i ! (length xs * 8) (2 ^ 63) (subst (λ k. k * 8 < 2 ^ 63) (ap length filled ∙ length-map xs Some) small) $ flt_i ! (length xs) (2 ^ 64) (subst (λ k. k < 2 ^ 64) (sym long) fits) $ fjoin ! $
        feq_i ! (List Val) (slice_val (b, o) len ∷ []) (slice_val (b, o) (length xs) ∷ []) (ap (λ k. slice_val (b, o) k ∷ []) (sym long)) $ fjoin ! $ fjoin ! $
        returns ! (look_at ! 0 refl) $ free_all ! refl $ keep ! (1 ∷ 0 ∷ []) $ by ! (exits (record { ref_ptr = (b, o); now = xs }) (slice_val (b, o) len) refl))))

    entry : Asks → ent 𝓤 (on_entry 𝓛 F.ended.signature (κ, tt) (q, tt) (self, (base, (len, tt))) (us0, (us1, (us2, tt)))) (WpFn 𝓤 H C Λ code.function (us0 ++ (us1 ++ (us2 ++ []))) Post)
    entry asked =
        qed 𝓛 ((‵ (flft κ q) ⊛ ‵ ftrue) ∷ ‵ (owns (ShrRef (named 0) κ Ps ∷ Bs ∷ usize ∷ []) (self, (base, (len, tt))) (us0, (us1, (us2, tt)))) ∷ []) ∵
        split ! $ move ! (2 ∷ []) $ fsplit ! $ fsplit ! $ feq_l ! (λ e0.
        move ! (1 ∷ []) $ fsplit ! $ word_had ! base.ptr us1 (λ e1.
        fsplit ! $ fsplit ! $ feq_l ! (λ e2. flt_l ! (λ fits.
        keep ! (1 ∷ 2 ∷ []) $
        by ! (subst (λ (ws : List Val × List Val × List Val). ent 𝓤 (⋆ 𝓛 Had) (WpFn 𝓤 H C Λ code.function (ws.0 ++ (ws.1 ++ (ws.2 ++ []))) Post)) (λ j. (sym e0 j, sym e1 j, sym e2 j)) (walk asked fits))))))

  meets : (𝓣 : Tables 𝓤 H) → Meets 𝓛 F.ended.signature (WpFn 𝓤 H 𝓣.C 𝓣.Λ code.function) (closing 𝓛 F.ended clauses)
  meets 𝓣 =
      walk_Meets 𝓛 F.ended stayed (Goes-dropped 𝓛 1 (RefOf (0 ∷ []) tt (plain (λ _. Ps)) (λ _. tt)) yes (λ κs x f. refl), (Goes-dropped 𝓛 1 (plain (λ _. Bs)) yes (λ κs x f. refl), (Goes-dropped 𝓛 1 (plain (λ _. usize)) yes (λ κs x f. refl), tt))) clauses (WpFn 𝓤 H 𝓣.C 𝓣.Λ code.function) (WpFn-mono 𝓤 H 𝓛.laws 𝓣 code.function)
      (λ z. needs 𝓤 (Asks 𝓣.C 𝓣.Λ z.0.0.0 z.0.1.0 z.0.3.0.ref_ptr.0 z.0.3.0.ref_ptr.1 z.0.3.0.now z.0.3.1.0 z.0.3.1.1.0 z.0.4.0 z.0.4.1.0 z.0.4.1.1.0) _ (entry 𝓣.C 𝓣.Λ z.0.0.0 z.0.1.0 z.0.3.0.ref_ptr.0 z.0.3.0.ref_ptr.1 z.0.3.0.now z.0.3.1.0 z.0.3.1.1.0 z.0.4.0 z.0.4.1.0 z.0.4.1.1.0))

pub slice_spec : {M : Type 1} → stated.statement M
unfolding tables_of
slice_spec 𝓤 𝓛 𝓜 𝓡 wired =
    let 𝓣 : Tables 𝓤 𝓛.H = tables_of 𝓤 𝓛.H 𝓜 (tables 𝓤 𝓛.H 𝓜 𝓡 𝓡.env) in
    entered 𝓤 𝓛.H (triple_of 𝓛 F.signature (F.spec 𝓛 𝓜.mem 𝓡.returns)) 𝓣.C 𝓣.Λ #self code.function (code.unfolded 𝓤 𝓛.H 𝓜 𝓡 wired) (meets 𝓛 𝓜.mem 𝓡.returns 𝓣)
