-- It hands out the memory of the region that `take` returned as space for the requested type. Assumes `Logic`.
use Rattle.std.proofs.Common.{◌≡◌, ◌%◌, ◌^◌, ◌<◌, ◌≤◌, true, false, [], ◌∷◌, refl, lit<, w64, IfSome, Ok, Err}
use Rattle.std.proofs.raw_atomic.Walks.{proved, leaves}
use Rattle.std.proofs.alloc.Calls.{Answer, answer_val, Answer-typed, Answer-Ok, Answer-err}
use Rattle.std.proofs.alloc.Shapes.{after, head, arm_body}
use base.Logic.{id⊢}
use base.Fml.{froom}
use prog.Memory.{size, align, capped}
use prog.Wp.{Wp, after_seq}
use contract.Monad.{fact}
use contract.Running.{tables}
use types.Kit.{Post, any_q, post, ‵, raw, ◌⊛◌, some, later, at_ret, ◌$◌, ◌∵◌, !, qed, by, move, drop, use0, use1, split, join, pick, fsplit, fjoin, await}
use types.Part.{whole, sub, agg}
use types.Match.{vrt, in_variant}
use types.Run.{stop, fld, lit, of_opd, no_more, and_then, first, switches_on, exec, returns, enter}
use types.ByLocal.{alloc_all, pass_all, free_all, look_at, get, get_in, get_tag, sets, sets_last, lands_as, env}
use denote.Exit.{yes}
use denote.RattleType.{owns}
use denote.Builtin.{usize, RefOf}
use denote.Ref.{shr_vals}
use denote.Plain.{uint_vals, uint_Tells}
use denote.RawPtr.{block_ptr}
use denote.Signature.{Slot, plain, types_at}
use denote.Steps.{nothing, heard}
use denote.Triple.Call.{calls_at}
use denote.Triple.Clauses.{Lasts, lasts}
use denote.Triple.Entry.{alive}
use denote.Triple.Spec.{triple_of}
use denote.Triple.Table.{framed}
use denote.Triple.Walked.{Stays, walk_of, stay_dropped, Goes-dropped}
use Rattle.region_heap.proofs.Regions.{Taken, taken, serves}
use Rattle.region_heap.specs.contracts.region.Region as region
use Rattle.region_heap.specs.contracts.one_block.OneBlock as block
use Rattle.region_heap.specs.contracts.one_block.OneBlock.take as g
use Rattle.region_heap.proofs.one_block.OneBlock.take.Met.{met}
use Rattle.region_heap.specs.contracts.one_block.OneBlockAllocator.allocate as f
use Rattle.region_heap.proofs.one_block.OneBlockAllocator.allocate.Statement.{statement}
use Rattle.region_heap.proofs.one_block.OneBlockAllocator.allocate.Code as code

abbrev self : Slot 1
self = RefOf (0 ∷ []) tt (plain (λ _. block.the_row)) (λ _. tt)

abbrev stayed : Stays f.ended.signature.params f.ended.kept
stayed = (stay_dropped self yes, (stay_dropped (plain (λ _. usize)) yes, (stay_dropped (plain (λ _. usize)) yes, tt)))

pub allocate_spec : {M : Type 1} → statement M
allocate_spec 𝓤 𝓛 𝓜 𝓡 wired =
    let c = f.clauses 𝓛 𝓜.mem 𝓡.returns in
    let W = walk_of 𝓛 f.ended stayed c in
    let 𝓣 = tables 𝓤 𝓛.H 𝓜 𝓡 𝓡.env in
    let number = Goes-dropped 𝓛 1 (plain (λ _. usize)) yes (λ κs x w. refl) in
    proved 𝓛 f.ended stayed c 𝓜 𝓡 (Goes-dropped 𝓛 1 self yes (λ κs x w. refl), (number, (number, tt)))
    f.Key.name code.function (code.unfolded 𝓤 𝓛.H 𝓜 𝓡 wired)
    (λ κs. (shr_vals, (uint_vals w64, (uint_vals w64, tt)))) (λ κs. ((λ r vs s. s.0), (uint_Tells w64, (uint_Tells w64, tt))))
    (λ κs qs bounds a τ are.
    let H = 𝓛.H in
    let fn = code.function in
    let n = a.1.0 in
    let Asked : Type 0 = (capped (size τ) ≡ n) × (capped (align τ) ≡ a.1.1.0) in
    let Fits : (region.the_row).Denot → Type 0 = λ w. (n < 2 ^ 63) × (n % 16 ≡ 0) × (n ≤ w.size) in
    let y : W.Ghost = ((κs, qs, bounds, a, (shr_vals a.0, (uint_vals w64 n, (uint_vals w64 a.1.1.0, tt)))), τ) in
    let G = triple_of 𝓛 g.signature (g.spec 𝓛 𝓜.mem 𝓡.returns) in
    let z : G.Ghost = ((κs, qs, bounds, (a.0, (n, tt)), (shr_vals a.0, (uint_vals w64 n, tt))), tt) in
    qed 𝓛 ((raw (alive 𝓛 f.ended.signature κs qs) ⊛ ‵ (owns (types_at f.ended.signature.params κs) a y.0.4)) ∷ raw (fact 𝓤 Asked) ∷ []) ∵
    move ! (1 ∷ []) $ heard ! Asked (λ asked. split ! $ move ! (1 ∷ []) $
    -- [the parameters; the tokens]: all but the alignment go to `take`
    fsplit ! $ move ! (1 ∷ []) $ fsplit ! $ move ! (1 ∷ []) $ drop ! $ nothing ! $ move ! (1 ∷ 0 ∷ []) $ fjoin ! $ move ! (1 ∷ 0 ∷ []) $ fjoin ! $
    move ! (1 ∷ 0 ∷ []) $ join ! $ nothing ! $ move ! (1 ∷ 0 ∷ []) $ join ! $ use1 𝓛 (raw (G.pre z)) (id⊢ 𝓤 _) $
    enter ! _ _ _ _ _ $
    alloc_all ! (λ l. pass_all ! refl ((tt, tt), ((tt, record { fits = are.1.0.1 }), ((tt, record { fits = are.1.1.0.1 }), tt))) $
    let En = env fn.locals l in let at_end : Post 𝓤 H = at_ret En (W.post y) in
    let then_ends : Post 𝓤 H = any_q (after_seq 𝓤 H (Wp 𝓤 H 𝓣.C 𝓣.Λ En (after 2 fn.body) (post 𝓤 H at_end)) (post 𝓤 H at_end)) in
    calls_at ! (framed 𝓤 H 𝓜 𝓣) G (met 𝓤 𝓛 𝓜 𝓡 (code.calls-region_heap::one_block::OneBlock::take 𝓡.env wired)) z (and_then ! (get ! refl) (and_then ! (get ! refl) (no_more !))) (λ v.
    use1 𝓛 (later (some (λ (x : Taken.Denot). (raw (alive 𝓛 f.ended.signature κs qs) ⊛ ‵ (Taken.own_val x (v ∷ []))) ⊛
    some (λ (ws : Lasts g.ended κs z.0.3). ‵ (lasts g.ended κs z.0.3 ws) ⊛ raw (fact 𝓤 (IfSome x Fits)))))) (id⊢ 𝓤 _) $
    await ! tt $ pick ! (λ x. split ! $ move ! (1 ∷ []) $ pick ! (λ ws. split ! $ drop ! $ heard ! (IfSome x Fits) (λ said. split ! $ move ! (1 ∷ []) $
    taken ! Fits x v said
    (λ w b o fits small is.
    use1 𝓛 (‵ (froom τ b o)) (serves 𝓛 τ n w.size b o asked.0 fits.0 fits.1 fits.2) $ nothing ! $ move ! (1 ∷ 0 ∷ []) $ join ! $
    lands_as ! is refl (tt, (record { fits = lit< tt }, ((tt, (record { fits = small }, (tt, tt))), tt))) $
    first ! $ switches_on ! (get_tag ! (vrt ! refl (fld ! refl (stop !))) (whole !)) $ exec ! 𝓣.C 𝓣.Λ En (arm_body 0 (head (after 1 fn.body))) then_ends $
    sets ! (of_opd ! (get_in ! (vrt ! refl (fld ! refl (fld ! refl (stop !)))) (sub ! 0 refl (in_variant ! 1 0 refl refl (whole !))))) refl (tt, tt) $
    sets_last ! (agg ! (and_then ! (lit ! tt) (and_then ! (get ! refl) (no_more !)))) refl (Answer-typed true b o) $
    exec ! 𝓣.C 𝓣.Λ En (after 2 fn.body) at_end $
    sets ! (of_opd ! (get ! refl)) refl (Answer-typed true b o) $
    returns ! (look_at ! 0 refl) $ free_all ! refl $
    use0 𝓛 (‵ (Answer.own_val (Ok (block_ptr b o)) (answer_val true b o ∷ []))) (Answer-Ok 𝓛 b o) $
    nothing ! $ nothing ! $ fjoin ! $ nothing ! $ fjoin ! $ nothing ! $ fjoin ! $ move ! (3 ∷ 0 ∷ 1 ∷ 2 ∷ []) $
    by ! (leaves 𝓛 f.ended stayed c y (answer_val true b o) (Ok (block_ptr b o)) (tt, (tt, (tt, tt))) (tt, (tt, (tt, tt)))))
    (λ is. nothing ! $
    lands_as ! is refl (tt, (record { fits = lit< tt }, tt)) $
    first ! $ switches_on ! (get_tag ! (vrt ! refl (fld ! refl (stop !))) (whole !)) $ exec ! 𝓣.C 𝓣.Λ En (arm_body 1 (head (after 1 fn.body))) then_ends $
    sets ! (agg ! (no_more !)) refl (tt, tt) $
    sets_last ! (agg ! (and_then ! (lit ! tt) (and_then ! (get ! refl) (no_more !)))) refl (Answer-typed false 0 0) $
    exec ! 𝓣.C 𝓣.Λ En (after 2 fn.body) at_end $
    sets ! (of_opd ! (get ! refl)) refl (Answer-typed false 0 0) $
    returns ! (look_at ! 0 refl) $ free_all ! refl $
    use0 𝓛 (‵ (Answer.own_val (Err (record {})) (answer_val false 0 0 ∷ []))) (Answer-err 𝓛) $
    nothing ! $ nothing ! $ fjoin ! $ nothing ! $ fjoin ! $ nothing ! $ fjoin ! $ move ! (3 ∷ 0 ∷ 1 ∷ 2 ∷ []) $
    by ! (leaves 𝓛 f.ended stayed c y (answer_val false 0 0) (Err (record {})) (tt, (tt, (tt, tt))) (tt, (tt, (tt, tt))))))))))))
