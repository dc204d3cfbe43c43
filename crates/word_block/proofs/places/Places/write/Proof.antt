-- `write` fills one empty place: the 8 bytes of the block that begin `index * 8` after the base.
use mathlib.Core.Path.{◌≡◌, refl, sym, subst, ◌∙◌}
use Prim.Native.Nat.{ℕ, ◌+◌, ◌*◌, ◌<◌, ◌^◌}
use native.Mathlib.Omega.{arith}
use mathlib.Core.List.{List, [], ◌∷◌, ◌++◌}
use seplogic.Ra.Ura.{Ura}
use base.Fraction.{full_share}
use mir.Syntax.{named, w64}
use mir.Val.{Val, vptr, vint, vunit}
use base.Logic.{SProp, ent, never, id⊢}
use base.Fml.{Lft, GName, Share, ftrue, fat, flft, fobs, fbor}
use prog.Memory.{Memory}
use prog.Routine.{Routine}
use prog.Wp.{Env, Calls, Loops, WpFn, Tables}
use types.Logic.{Logic}
use contract.Monad.{Fun}
use contract.Running.{tables, tables_of}
use sound.WpLaws.{WpFn-mono}
use types.Kit.{Item, ⋆, ‵, ◌⊛◌, at_ret, ◌$◌, ◌∵◌, !, qed, by, move, keep, use1, use2, split, join, rewrite, fsplit, fsplit3, fjoin, fjoin3, feq_i, feq_l, flt_l, flt_i, suffices, frame, done}
use types.Part.{whole, sub}
use types.Run.{init, stop, fld, lit, bin, unit_lit, of_opd, assigns_last, first, blocks, exec, returns, enter}
use types.ByLocal.{alloc_all, pass_all, free_all, look_at, get, get_in, through, sets, env, take_at, give_at}
use types.SemTy.{Body as Borrowed}
use denote.Builtin.{u64, usize, unit}
use denote.Exit.{yes}
use denote.Memory.{mem}
use denote.Param.{layout}
use denote.Plain.{uint_in}
use denote.RattleType.{owns}
use denote.RawPtr.{Ptr, in_a_block}
use denote.Ref.{MutBor, MutRef}
use denote.Signature.{plain}
use denote.Steps.{nothing, opens, closes}
use denote.Triple.Clauses.{Clauses, closing}
use denote.Triple.Entry.{on_entry}
use denote.Triple.Spec.{Meets, triple_of}
use denote.Triple.Table.{entered}
use denote.Triple.Walked.{says, needs, Stays, stay_dropped, stay_ref, walk_of, ends_at, Goes-dropped, Goes-ref, walk_Meets}
use lib.ListN.{length, set, get_or, length-set}
use Rattle.std.specs.Prelude.{Option, Some, None}
use Rattle.std_alloc.proofs.RcSteps.{word, word-Good}
use Rattle.std_alloc.proofs.VecSteps.Shapes.{after}
use Rattle.word_block.specs.inner.Filling.{IsEmptyAt}
use Rattle.word_block.specs.inner.Ownership.{place, places, places_own}
use Rattle.word_block.specs.inner.PlaceLends.{with_held}
use Rattle.word_block.proofs.PlaceLemmas.{Ps, Bs, word_had, Besides, place_out, place_in}
use Rattle.word_block.specs.contracts.places.Places.write as F
use Rattle.word_block.specs.contracts.places.Places.write.Key.{name as #self}
use Rattle.word_block.proofs.places.Places.write.Statement as stated
use Rattle.word_block.proofs.places.Places.write.Code as code

abbrev stayed : Stays F.ended.signature.params F.ended.kept
stayed = (stay_ref (0 ∷ []) tt (plain (λ _. Ps)), (stay_dropped (plain (λ _. Bs)) yes, (stay_dropped (plain (λ _. usize)) yes, (stay_dropped (plain (λ _. u64)) yes, tt))))

module _ {M : Type 1} {𝓤 : Ura M} (𝓛 : Logic 𝓤) (at_mem : Memory → SProp 𝓤) (run : Routine → Fun 𝓤) where
  open 𝓛 use {H, A}

  abbrev clauses : Clauses 𝓤 F.ended
  clauses = F.clauses 𝓛 at_mem run

  module _ (C : Calls 𝓤 H) (Λ : Loops 𝓤 H) (κ : Lft) (q : Share) (rb ro : ℕ) (γ : GName) (d : Ps.Denot) (base : Bs.Denot) (index x : ℕ) (us0 us1 us2 us3 : List Val) where
    abbrev self : MutBor Ps.Denot
    self = record { ref_ptr = (rb, ro); ghost_name = γ; now = d }

    abbrev bound : (walk_of 𝓛 F.ended stayed clauses).Ghost
    bound = (((κ, tt), (q, tt), tt, (self, (base, (index, (x, tt)))), (us0, (us1, (us2, (us3, tt))))), tt)

    abbrev Post : Val → SProp 𝓤
    Post = (walk_of 𝓛 F.ended stayed clauses).post bound

    abbrev Asks : Type 0
    Asks = (base.ptr ≡ d.at) × IsEmptyAt index d.held

    abbrev new : Ps.Denot
    new = with_held d (set d.held index (Some x))

    exits : us0 ≡ vptr rb ro ∷ [] → ent 𝓤 (⋆ 𝓛 (‵ (fobs γ (Ps.coded.code new)) ∷ ‵ (fbor κ (Borrowed (mem Ps) rb ro γ)) ∷ ‵ (flft κ q) ∷ ‵ (unit.own_val tt (vunit ∷ [])) ∷ [])) (Post vunit)
    exits passed =
        qed 𝓛 (‵ (fobs γ (Ps.coded.code new)) ∷ ‵ (fbor κ (Borrowed (mem Ps) rb ro γ)) ∷ ‵ (flft κ q) ∷ ‵ (unit.own_val tt (vunit ∷ [])) ∷ []) ∵
        suffices ! _ (ends_at 𝓛 F.ended stayed clauses bound vunit tt (new, (tt, (tt, (tt, tt)))) (tt, (tt, (tt, (tt, tt))))) $ says ! refl $
        nothing ! $ move ! (3 ∷ 0 ∷ []) $ join ! $ frame ! $ feq_i ! (List Val) us0 (vptr rb ro ∷ []) passed $ fjoin3 ! $ nothing ! $ nothing ! $ fjoin ! $ nothing ! $ fjoin ! $ nothing ! $ fjoin ! $ move ! (1 ∷ 0 ∷ []) $ fjoin ! $ done !

    abbrev Had : List (Item 𝓤)
    Had = ‵ (fobs γ (Ps.coded.code d)) ∷ ‵ (fbor κ (Borrowed (mem Ps) rb ro γ)) ∷ ‵ (flft κ q) ∷ []

    walk : us0 ≡ vptr rb ro ∷ [] → Asks → index < 2 ^ 64 → x < 2 ^ 64 → ent 𝓤 (⋆ 𝓛 Had) (WpFn 𝓤 H C Λ code.function (vptr rb ro ∷ word base.ptr ∷ vint w64 index ∷ vint w64 x ∷ []) Post)
    walk passed asked fits_index fits_x =
        let within = asked.1.0 in
        qed 𝓛 Had ∵ enter ! C Λ code.function (vptr rb ro ∷ word base.ptr ∷ vint w64 index ∷ vint w64 x ∷ []) _ $
        alloc_all ! (λ l. pass_all ! refl ((tt, tt), (word-Good [] base.ptr, ((tt, record { fits = fits_index }), ((tt, record { fits = fits_x }), tt)))) $
        let En : Env 𝓤 H = env code.function.locals l in
        opens ! tt Ps {h = d} rb ro (λ vs. move ! (1 ∷ []) $ fsplit ! $ move ! (1 ∷ []) $
        in_a_block ! d.at (λ p. places_own p d.held) (id⊢ 𝓤 (never 𝓤)) (λ b o e. fsplit ! $ flt_l ! (λ small.
        let far : index * 8 < 2 ^ 64 = omega arith in
        take_at ! 2 $ rewrite ! 0 (λ (p : Ptr). ‵ (fat full_share (layout Bs) (l 2) 0 (word p))) (asked.0 ∙ e) refl $ give_at ! 2 $ first ! $ blocks ! $
        sets ! (bin ! (get ! refl) (lit ! tt) (record { fits = far })) refl (tt, record { fits = far }) $
        sets ! (bin ! (get_in ! (fld ! refl (stop !)) (sub ! 0 refl (whole !))) (get ! refl) tt) refl (tt, tt) $
        use1 𝓛 (‵ (place b (index * 8 + o) (get_or d.held index None)) ⊛ ‵ (Besides 𝓛 b o d.held index)) (place_out 𝓛 b o d.held index within) $ split ! $ rewrite ! 0 (λ (c : Option ℕ). ‵ (place b (index * 8 + o) c)) asked.1.1 refl $
        -- [the room; the other places; the mark; its cell; the open borrow; obs; auth]
        assigns_last ! (of_opd ! (get ! refl)) (through ! refl (stop !)) (init ! 0 refl (tt, record { fits = fits_x })) $
        exec ! C Λ En (after 1 code.function.body) (at_ret En Post) $ sets ! (of_opd ! (unit_lit !)) refl (tt, tt) $
        use1 𝓛 (‵ (place b (index * 8 + o) (Some x))) (uint_in 𝓛 full_share w64 x b (index * 8 + o)) $
        use2 𝓛 (‵ (places b o new.held)) (place_in 𝓛 b o d.held index within (Some x)) $
        flt_i ! (length new.held * 8) (2 ^ 63) (subst (λ k. k * 8 < 2 ^ 63) (sym (length-set d.held index (Some x))) small) $ fjoin ! $
        rewrite ! 0 (λ (p : Ptr). ‵ (places_own p new.held)) (sym e) refl $ move ! (1 ∷ 0 ∷ []) $ fjoin ! $ move ! (1 ∷ 0 ∷ []) $ closes ! tt Ps new vs rb ro $
        returns ! (look_at ! 0 refl) $ free_all ! refl $ keep ! (0 ∷ 1 ∷ 2 ∷ []) $ feq_i ! (List Val) (vunit ∷ []) (vunit ∷ []) refl $ move ! (1 ∷ 2 ∷ 3 ∷ 0 ∷ []) $
        by ! (exits passed)))))

    entry : Asks → ent 𝓤 (on_entry 𝓛 F.ended.signature (κ, tt) (q, tt) (self, (base, (index, (x, tt)))) (us0, (us1, (us2, (us3, tt))))) (WpFn 𝓤 H C Λ code.function (us0 ++ (us1 ++ (us2 ++ (us3 ++ [])))) Post)
    entry asked =
        qed 𝓛 ((‵ (flft κ q) ⊛ ‵ ftrue) ∷ ‵ (owns (MutRef (named 0) κ Ps ∷ Bs ∷ usize ∷ u64 ∷ []) (self, (base, (index, (x, tt)))) (us0, (us1, (us2, (us3, tt))))) ∷ []) ∵
        split ! $ move ! (2 ∷ []) $ fsplit ! $ fsplit3 ! $ feq_l ! (λ e0.
        move ! (2 ∷ []) $ fsplit ! $ word_had ! base.ptr us1 (λ e1.
        fsplit ! $ fsplit ! $ feq_l ! (λ e2. flt_l ! (λ fits_index.
        fsplit ! $ fsplit ! $ feq_l ! (λ e3. flt_l ! (λ fits_x.
        keep ! (1 ∷ 2 ∷ 3 ∷ []) $
        by ! (subst (λ (ws : List Val × List Val × List Val × List Val). ent 𝓤 (⋆ 𝓛 Had) (WpFn 𝓤 H C Λ code.function (ws.0 ++ (ws.1 ++ (ws.2 ++ (ws.3 ++ [])))) Post)) (λ j. (sym e0 j, sym e1 j, sym e2 j, sym e3 j)) (walk e0 asked fits_index fits_x))))))))

  meets : (𝓣 : Tables 𝓤 H) → Meets 𝓛 F.ended.signature (WpFn 𝓤 H 𝓣.C 𝓣.Λ code.function) (closing 𝓛 F.ended clauses)
  meets 𝓣 =
      walk_Meets 𝓛 F.ended stayed (Goes-ref 𝓛 1 0 tt (plain (λ _. Ps)), (Goes-dropped 𝓛 1 (plain (λ _. Bs)) yes (λ κs x f. refl), (Goes-dropped 𝓛 1 (plain (λ _. usize)) yes (λ κs x f. refl), (Goes-dropped 𝓛 1 (plain (λ _. u64)) yes (λ κs x f. refl), tt)))) clauses (WpFn 𝓤 H 𝓣.C 𝓣.Λ code.function) (WpFn-mono 𝓤 H 𝓛.laws 𝓣 code.function)
      (λ z. needs 𝓤 (Asks 𝓣.C 𝓣.Λ z.0.0.0 z.0.1.0 z.0.3.0.ref_ptr.0 z.0.3.0.ref_ptr.1 z.0.3.0.ghost_name z.0.3.0.now z.0.3.1.0 z.0.3.1.1.0 z.0.3.1.1.1.0 z.0.4.0 z.0.4.1.0 z.0.4.1.1.0 z.0.4.1.1.1.0) _ (entry 𝓣.C 𝓣.Λ z.0.0.0 z.0.1.0 z.0.3.0.ref_ptr.0 z.0.3.0.ref_ptr.1 z.0.3.0.ghost_name z.0.3.0.now z.0.3.1.0 z.0.3.1.1.0 z.0.3.1.1.1.0 z.0.4.0 z.0.4.1.0 z.0.4.1.1.0 z.0.4.1.1.1.0))

pub write_spec : {M : Type 1} → stated.statement M
unfolding tables_of
write_spec 𝓤 𝓛 𝓜 𝓡 wired =
    let 𝓣 : Tables 𝓤 𝓛.H = tables_of 𝓤 𝓛.H 𝓜 (tables 𝓤 𝓛.H 𝓜 𝓡 𝓡.env) in
    entered 𝓤 𝓛.H (triple_of 𝓛 F.signature (F.spec 𝓛 𝓜.mem 𝓡.returns)) 𝓣.C 𝓣.Λ #self code.function (code.unfolded 𝓤 𝓛.H 𝓜 𝓡 wired) (meets 𝓛 𝓜.mem 𝓡.returns 𝓣)
