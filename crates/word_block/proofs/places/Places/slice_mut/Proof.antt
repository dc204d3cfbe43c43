-- `slice_mut` lends the words in all places of the block: the bytes from the base on, 8 for each of `len` words. The places hold what was last written through the loan.
use mathlib.Core.Path.{◌≡◌, refl, sym, ap, subst, ◌∙◌}
use Prim.Native.Nat.{ℕ, ◌*◌, ◌<◌, ◌^◌}
use mathlib.Core.List.{List, [], ◌∷◌, ◌++◌, map}
use seplogic.Ra.Ura.{Ura}
use base.Fraction.{full_share}
use mir.Syntax.{named, w64}
use mir.Val.{Val, vptr, vint}
use base.Logic.{SProp, ent, sep, never, id⊢}
use base.Fml.{Lft, GName, Share, Fml, ftrue, fsep, fat, flft, fobs, fbor}
use prog.Memory.{Memory}
use prog.Routine.{Routine}
use prog.Wp.{Env, Calls, Loops, WpFn, Tables}
use types.Logic.{Logic, sem}
use contract.Monad.{Fun}
use contract.Running.{tables, tables_of}
use sound.WpLaws.{WpFn-mono}
use types.Kit.{Item, ⋆, ‵, raw, ◌⊛◌, some, later, await, pick, at_ret, ◌$◌, ◌∵◌, !, qed, by, move, keep, use1, split, join, group, rewrite, fsplit, fsplit3, fjoin, fpack, feq_l, flt_l, flt_i, suffices, frame, done}
use types.Part.{whole, sub, agg}
use types.Run.{stop, fld, of_opd, and_then, no_more, first, blocks, exec, returns, enter}
use types.ByLocal.{alloc_all, pass_all, free_all, look_at, get, get_in, sets, sets_last, env, take_at, give_at}
use types.SemTy.{cells, Body as Borrowed}
use denote.Array.{Array}
use denote.Builtin.{u64, usize}
use denote.Exit.{no, yes}
use denote.Follow.{follows}
use denote.FollowSlice.{Elements, lends_Elements}
use denote.Memory.{mem, cell_at, part_of}
use denote.Param.{layout}
use denote.RattleType.{owns}
use denote.RawPtr.{Ptr, block_ptr, in_a_block}
use denote.Ref.{MutBor, MutRef}
use denote.Signature.{plain, mut_ref_to}
use denote.Slice.{MutSlice, slice_val}
use denote.Steps.{nothing, opens}
use denote.Triple.Clauses.{Clauses, closing}
use denote.Triple.Entry.{on_entry}
use denote.Triple.Spec.{Meets, triple_of}
use denote.Triple.Table.{entered}
use denote.Triple.Walked.{says, needs, Stays, stay_dropped, walk_of, ends_at, Goes-dropped, Goes-spent_ref, walk_Meets}
use lib.ListN.{length, drop}
use lib.Seq.{take_at as take_front}
use Rattle.std.specs.List.{refill}
use Rattle.std.specs.Prelude.{Option, Some}
use Rattle.std.proofs.lemmas.List.{length-map}
use Rattle.std_alloc.proofs.RcSteps.{word, word-Good}
use Rattle.std_alloc.proofs.VecSteps.Shapes.{after}
use Rattle.word_block.specs.inner.Filling.{words_of, IsFilled}
use Rattle.word_block.specs.inner.Ownership.{places, places_own}
use Rattle.word_block.specs.inner.PlaceLends.{with_held}
use Rattle.word_block.proofs.PlaceLemmas.{Ps, Bs, Mark, word_had, to_cells, of_cells}
use Rattle.word_block.specs.contracts.places.Places.slice_mut as F
use Rattle.word_block.specs.contracts.places.Places.slice_mut.Key.{name as #self}
use Rattle.word_block.proofs.places.Places.slice_mut.Statement as stated
use Rattle.word_block.proofs.places.Places.slice_mut.Code as code

abbrev stayed : Stays F.ended.signature.params F.ended.kept
stayed = (stay_dropped (mut_ref_to (0 ∷ []) tt (plain (λ _. Ps))) no, (stay_dropped (plain (λ _. Bs)) yes, (stay_dropped (plain (λ _. usize)) yes, tt)))

module _ {M : Type 1} {𝓤 : Ura M} (𝓛 : Logic 𝓤) (at_mem : Memory → SProp 𝓤) (run : Routine → Fun 𝓤) where
  open 𝓛 use {H, A}

  abbrev clauses : Clauses 𝓤 F.ended
  clauses = F.clauses 𝓛 at_mem run

  module _ (C : Calls 𝓤 H) (Λ : Loops 𝓤 H) (κ : Lft) (q : Share) (rb ro : ℕ) (γ : GName) (d : Ps.Denot) (base : Bs.Denot) (len : ℕ) (us0 us1 us2 : List Val) where
    abbrev self : MutBor Ps.Denot
    self = record { ref_ptr = (rb, ro); ghost_name = γ; now = d }

    abbrev bound : (walk_of 𝓛 F.ended stayed clauses).Ghost
    bound = (((κ, tt), (q, tt), tt, (self, (base, (len, tt))), (us0, (us1, (us2, tt)))), tt)

    abbrev Post : Val → SProp 𝓤
    Post = (walk_of 𝓛 F.ended stayed clauses).post bound

    abbrev Asks : Type 0
    Asks = (base.ptr ≡ d.at) × IsFilled len d.held

    -- the places, once these words were written
    abbrev new : List ℕ → Ps.Denot
    new ws = with_held d (map Some (refill (length d.held) (words_of d.held) ws))

    module _ (vs : List Val) (b o : ℕ) where
      -- what the owner of the places has beside them
      abbrev Rest : Fml
      Rest = fsep (Mark.own_val (tt, tt) vs) (cell_at full_share Ps.mir vs rb ro)

      back : d.at ≡ block_ptr b o → length d.held ≡ length (words_of d.held) → length d.held * 8 < 2 ^ 63 → (ws : List ℕ) → length ws ≡ length (words_of d.held)
          → ent 𝓤 (sep 𝓤 (sem 𝓛 (cells (mem u64) ws b o)) (sem 𝓛 Rest)) (sem 𝓛 ((mem Ps).own_at (new ws) rb ro))
      unfolding part_of
      back e count small ws same =
          let all : refill (length d.held) (words_of d.held) ws ≡ ws = take_front ws (drop (length ws) (words_of d.held)) (length d.held) (same ∙ sym count) in
          let long : length (new ws).held ≡ length d.held = length-map (refill (length d.held) (words_of d.held) ws) Some ∙ ap length all ∙ same ∙ sym count in
          qed 𝓛 (‵ (cells (mem u64) ws b o) ∷ ‵ Rest ∷ []) ∵ use1 𝓛 (‵ (places b o (map Some ws))) (of_cells 𝓛 b ws o) $
          rewrite ! 0 (λ (l : List ℕ). ‵ (places b o (map Some l))) (sym all) refl $
          flt_i ! (length (new ws).held * 8) (2 ^ 63) (subst (λ k. k * 8 < 2 ^ 63) (sym long) small) $ fjoin ! $
          rewrite ! 0 (λ (p : Ptr). ‵ (places_own p (new ws).held)) (sym e) refl $ move ! (1 ∷ []) $ fsplit ! $ move ! (2 ∷ 0 ∷ []) $ move ! (1 ∷ 0 ∷ []) $ fjoin ! $ move ! (1 ∷ 0 ∷ []) $ fjoin ! $
          fpack ! (List Val) (λ us. fsep (cell_at full_share Ps.mir us rb ro) (Ps.own_val (new ws) us)) vs $ done !

    exits : (v : Val) (r : MutBor (List ℕ)) → r.now ≡ words_of d.held
        → ent 𝓤 (sep 𝓤 (sem 𝓛 ((MutSlice (named 0) κ u64).own_val r (v ∷ []))) (sep 𝓤 (A.lft κ q) (sem 𝓛 (follows Ps (Array u64 0) γ r.ghost_name new)))) (Post v)
    exits v r e =
        qed 𝓛 (‵ ((MutSlice (named 0) κ u64).own_val r (v ∷ [])) ∷ ‵ (flft κ q) ∷ ‵ (follows Ps (Array u64 0) γ r.ghost_name new) ∷ []) ∵
        suffices ! _ (ends_at 𝓛 F.ended stayed clauses bound v r (tt, (tt, (tt, tt))) (tt, (tt, (tt, tt)))) $
        nothing ! $ nothing ! $ fjoin ! $ nothing ! $ fjoin ! $ nothing ! $ fjoin ! $ join ! $ nothing ! $ move ! (2 ∷ 0 ∷ []) $ join ! $ join ! $ frame ! $ says ! e $ done !

    abbrev Had : List (Item 𝓤)
    Had = ‵ (fobs γ (Ps.coded.code d)) ∷ ‵ (fbor κ (Borrowed (mem Ps) rb ro γ)) ∷ ‵ (flft κ q) ∷ []

    walk : Asks → len < 2 ^ 64 → ent 𝓤 (⋆ 𝓛 Had) (WpFn 𝓤 H C Λ code.function (vptr rb ro ∷ word base.ptr ∷ vint w64 len ∷ []) Post)
    walk asked fits =
        let xs = words_of d.held in let filled = asked.1.1 in
        let count : length d.held ≡ length xs = ap length filled ∙ length-map xs Some in
        let long : length xs ≡ len = sym count ∙ asked.1.0 in
        let code_of = Ps.coded.code d in
        qed 𝓛 Had ∵ enter ! C Λ code.function (vptr rb ro ∷ word base.ptr ∷ vint w64 len ∷ []) _ $ alloc_all ! (λ l. pass_all ! refl ((tt, tt), (word-Good [] base.ptr, ((tt, record { fits = fits }), tt))) $
        let En : Env 𝓤 H = env code.function.locals l in
        opens ! tt Ps {h = d} rb ro (λ vs. move ! (1 ∷ []) $ fsplit ! $ move ! (1 ∷ []) $
        in_a_block ! d.at (λ p. places_own p d.held) (id⊢ 𝓤 (never 𝓤)) (λ b o e. fsplit ! $ flt_l ! (λ small.
        take_at ! 2 $ rewrite ! 0 (λ (p : Ptr). ‵ (fat full_share (layout Bs) (l 2) 0 (word p))) (asked.0 ∙ e) refl $ give_at ! 2 $ first ! $ blocks ! $
        let way = back vs b o e count small in
        let roomy : length xs < 2 ^ 64 = subst (λ k. k < 2 ^ 64) (sym long) fits in let fitting : length xs * 8 < 2 ^ 63 = subst (λ k. k * 8 < 2 ^ 63) count small in
        rewrite ! 0 (λ (cs : List (Option ℕ)). ‵ (places b o cs)) filled refl $ use1 𝓛 (‵ (cells (mem u64) xs b o)) (to_cells 𝓛 b xs o) $
        sets_last ! (agg ! (and_then ! (get_in ! (fld ! refl (stop !)) (sub ! 0 refl (whole !))) (and_then ! (get ! refl) (no_more !)))) refl (tt, (tt, (record { fits = fits }, tt))) $
        exec ! C Λ En (after 1 code.function.body) (at_ret En Post) $ sets ! (of_opd ! (get ! refl)) refl (tt, (tt, (record { fits = fits }, tt))) $
        move ! (1 ∷ 2 ∷ []) $ fjoin ! $ move ! (2 ∷ 3 ∷ 4 ∷ 1 ∷ 0 ∷ []) $ group ! 5 $
        use1 𝓛 (later (some (λ (δ : GName). raw (Elements 𝓛 Ps u64 new (named 0) κ q rb ro b o γ xs (roomy, fitting) (sem 𝓛 (Rest vs b o)) way δ))))
        (lends_Elements 𝓛 Ps u64 new (named 0) κ q rb ro b o γ xs (roomy, fitting) (sem 𝓛 (Rest vs b o)) way code_of code_of) $ await ! tt $ pick ! (λ δ.
        let r : MutBor (List ℕ) = record { ref_ptr = (b, o); ghost_name = δ; now = xs } in
        returns ! (look_at ! 0 refl) $ free_all ! refl $ keep ! (0 ∷ []) $
        by ! (subst (λ (k : ℕ). ent 𝓤 (Elements 𝓛 Ps u64 new (named 0) κ q rb ro b o γ xs (roomy, fitting) (sem 𝓛 (Rest vs b o)) way δ) (Post (slice_val (b, o) k))) long
        (exits (slice_val (b, o) (length xs)) r refl)))))))

    entry : Asks → ent 𝓤 (on_entry 𝓛 F.ended.signature (κ, tt) (q, tt) (self, (base, (len, tt))) (us0, (us1, (us2, tt)))) (WpFn 𝓤 H C Λ code.function (us0 ++ (us1 ++ (us2 ++ []))) Post)
    entry asked =
        qed 𝓛 ((‵ (flft κ q) ⊛ ‵ ftrue) ∷ ‵ (owns (MutRef (named 0) κ Ps ∷ Bs ∷ usize ∷ []) (self, (base, (len, tt))) (us0, (us1, (us2, tt)))) ∷ []) ∵
        split ! $ move ! (2 ∷ []) $ fsplit ! $ fsplit3 ! $ feq_l ! (λ e0.
        move ! (2 ∷ []) $ fsplit ! $ word_had ! base.ptr us1 (λ e1.
        fsplit ! $ fsplit ! $ feq_l ! (λ e2. flt_l ! (λ fits.
        keep ! (1 ∷ 2 ∷ 3 ∷ []) $
        by ! (subst (λ (ws : List Val × List Val × List Val). ent 𝓤 (⋆ 𝓛 Had) (WpFn 𝓤 H C Λ code.function (ws.0 ++ (ws.1 ++ (ws.2 ++ []))) Post)) (λ j. (sym e0 j, sym e1 j, sym e2 j)) (walk asked fits))))))

  meets : (𝓣 : Tables 𝓤 H) → Meets 𝓛 F.ended.signature (WpFn 𝓤 H 𝓣.C 𝓣.Λ code.function) (closing 𝓛 F.ended clauses)
  meets 𝓣 =
      walk_Meets 𝓛 F.ended stayed (Goes-spent_ref 𝓛 1 (0 ∷ []) tt (plain (λ _. Ps)), (Goes-dropped 𝓛 1 (plain (λ _. Bs)) yes (λ κs x f. refl), (Goes-dropped 𝓛 1 (plain (λ _. usize)) yes (λ κs x f. refl), tt))) clauses (WpFn 𝓤 H 𝓣.C 𝓣.Λ code.function) (WpFn-mono 𝓤 H 𝓛.laws 𝓣 code.function)
      (λ z. needs 𝓤 (Asks 𝓣.C 𝓣.Λ z.0.0.0 z.0.1.0 z.0.3.0.ref_ptr.0 z.0.3.0.ref_ptr.1 z.0.3.0.ghost_name z.0.3.0.now z.0.3.1.0 z.0.3.1.1.0 z.0.4.0 z.0.4.1.0 z.0.4.1.1.0) _ (entry 𝓣.C 𝓣.Λ z.0.0.0 z.0.1.0 z.0.3.0.ref_ptr.0 z.0.3.0.ref_ptr.1 z.0.3.0.ghost_name z.0.3.0.now z.0.3.1.0 z.0.3.1.1.0 z.0.4.0 z.0.4.1.0 z.0.4.1.1.0))

pub slice_mut_spec : {M : Type 1} → stated.statement M
unfolding tables_of
slice_mut_spec 𝓤 𝓛 𝓜 𝓡 wired =
    let 𝓣 : Tables 𝓤 𝓛.H = tables_of 𝓤 𝓛.H 𝓜 (tables 𝓤 𝓛.H 𝓜 𝓡 𝓡.env) in
    entered 𝓤 𝓛.H (triple_of 𝓛 F.signature (F.spec 𝓛 𝓜.mem 𝓡.returns)) 𝓣.C 𝓣.Λ #self code.function (code.unfolded 𝓤 𝓛.H 𝓜 𝓡 wired) (meets 𝓛 𝓜.mem 𝓡.returns 𝓣)
