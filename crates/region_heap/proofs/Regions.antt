-- A region that was taken or is made, and its memory as space for a type. Assumes `Logic`.
use Rattle.std.proofs.Common.{◌≡◌, ℕ, ◌+◌, ◌-◌, ◌*◌, ◌/◌, ◌%◌, ◌^◌, ◌<◌, ◌≤◌, List, [], ◌∷◌, ◌++◌, IfSome, None, Some, refl, sym, ap, subst, ◌∙◌, w64, arith}
use seplogic.Ra.Ura.{Ura}
use mir.Syntax.{Ty, Width, w8, w16, w32, w128, ty_int, ty_array}
use mir.Val.{Val, vint, vstruct, vcons, vnil, of_list, bytes}
use base.Logic.{ent, wand, id⊢}
use base.Fml.{froom}
use prog.Align.{Dv, align_w, align-bytes}
use prog.Capped.{capped_is, capped_small}
use prog.Memory.{size, align, capped}
use types.Logic.{Logic, sem}
use types.Kit.{Item, Goal, Seq, ‵, raw, ◌⊛◌, ◌$◌, ◌∵◌, !, qed, done, move, keep, drop, use1, split, rewrite, fsplit, fjoin, fpick, fpack, feq_l, feq_i, flt_l, flt_i}
use types.Match.{live}
use denote.RattleType.{RattleType, Valss}
use denote.RawPtr.{Ptr, block_ptr, ptr_val, in_a_block}
use denote.RawPtr.Room.{room_cut, past}
use denote.Builtin.{usize}
use denote.RawPtr.{RawPtr}
use denote.Steps.{only, nothing}
use denote.Struct.Declared as Declared
use denote.Struct.Owning as Owning
use denote.Struct.Struct.{within}
use Rattle.std.specs.contracts.option.Option as option
use Rattle.region_heap.specs.contracts.region.Owner as owner
use Rattle.region_heap.specs.contracts.region.Region as region
use Rattle.region_heap.specs.Memory.{units, room_within}

-- the result of `take`
abbrev pub Taken : RattleType
Taken = option.the_row region.the_row

-- a region at run time: its owner takes no bytes
abbrev pub region_val : Ptr → ℕ → Val
region_val p n = vstruct (vcons (ptr_val p) (vcons (vint w64 n) (vcons (vstruct vnil) vnil)))

-- the units of n bytes take the whole 16 of them
pub units_sized : (n whole : ℕ) → n < 2 ^ 63 → whole ≡ n / 16 * 16 → capped (size (units n)) ≡ whole
units_sized n whole small is = capped_is (size (units n)) (omega arith) ∙ sym is

-- a region is made of its memory
pub region_made : {M : Type 1} {𝓤 : Ura M} (𝓛 : Logic 𝓤) (p : Ptr) (n : ℕ) → n < 2 ^ 64
    → ent 𝓤 (sem 𝓛 (room_within p n)) (sem 𝓛 ((region.the_row).own_val (record { start = p; size = n; owner = record { start = p; size = n }; own = (refl, refl) }) (region_val p n ∷ [])))
region_made 𝓛 p n small =
    let o : (owner.the_row).Denot = record { start = p; size = n } in
    qed 𝓛 (‵ (room_within p n) ∷ []) ∵
    nothing ! $ feq_i ! (List Val) (vstruct vnil ∷ []) (vstruct vnil ∷ []) refl $ fjoin ! $ fpack ! (Valss []) (within (Owning.shape owner.the_type) tt (vstruct vnil ∷ [])) tt $ fjoin ! $
    nothing ! $ move ! (1 ∷ 0 ∷ []) $ fjoin ! $
    flt_i ! n (2 ^ 64) small $ feq_i ! (List Val) (vint w64 n ∷ []) (vint w64 n ∷ []) refl $ fjoin ! $ fjoin ! $
    feq_i ! (List Val) (ptr_val p ∷ []) (ptr_val p ∷ []) refl $ fjoin ! $
    feq_i ! (List Val) (region_val p n ∷ []) (region_val p n ∷ []) refl $ fjoin ! $
    fpack ! (Valss (RawPtr ∷ usize ∷ owner.the_row ∷ [])) (within (Declared.shape region.the_type) (p, (n, (o, tt))) (region_val p n ∷ []))
    (ptr_val p ∷ [], (vint w64 n ∷ [], (vstruct vnil ∷ [], tt))) $ done !

-- no type has a greater alignment than a unit
aligned : (τ : Ty) → Dv (align τ) 16
aligned τ = subst (λ (k : ℕ). Dv k 16) (sym (align-bytes τ)) (of_width (align_w τ))
  where
    of_width : (w : Width) → Dv (bytes w) 16
    of_width w8 = tt
    of_width w16 = tt
    of_width w32 = tt
    of_width w64 = tt
    of_width w128 = tt

-- the first units of a region's memory are space for a type that fits into them exactly
pub serves : {M : Type 1} {𝓤 : Ura M} (𝓛 : Logic 𝓤) (τ : Ty) (n m b o : ℕ) → capped (size τ) ≡ n → n < 2 ^ 63 → n % 16 ≡ 0 → n ≤ m → ent 𝓤 (sem 𝓛 (room_within (block_ptr b o) m)) (𝓛.H.room τ b o)
serves {𝓤 = 𝓤} 𝓛 τ n m b o sized small whole within =
    let short : size τ < 2 ^ 63 = capped_small (size τ) (omega arith) in
    let same : n ≡ size τ = sym sized ∙ capped_is (size τ) (omega arith) in
    let parts : m / 16 ≡ n / 16 + (m / 16 - n / 16) = omega arith in
    let exact : size τ ≡ n / 16 * 16 = omega arith in
    qed 𝓛 (‵ (room_within (block_ptr b o) m) ∷ []) ∵ rewrite ! 0 (λ (k : ℕ). ‵ (froom (ty_array (ty_int w128) k) b o)) parts refl $
    use1 𝓛 (‵ (froom (units n) b o) ⊛ raw (𝓛.H.room (ty_array (ty_int w128) (m / 16 - n / 16)) b (past (ty_int w128) (n / 16) o))) (room_cut 𝓛 (ty_int w128) (n / 16) (m / 16 - n / 16) b o) $
    split ! $ keep ! (0 ∷ []) $
    use1 𝓛 (‵ (froom τ b o) ⊛ raw (wand 𝓤 (𝓛.H.room τ b o) (𝓛.H.room (units n) b o))) (𝓛.laws.room_as (units n) τ b o exact (aligned τ)) $ split ! $ keep ! (0 ∷ []) $ done !

module _ {M : Type 1} {𝓤 : Ura M} {𝓛 : Logic 𝓤} {K : Type 0} {Γ : List (Item 𝓤)} {G : Goal 𝓤 𝓛.H} where
  -- a step of a proof: the two cases of the result of `take`
  pub taken : K → (P : (region.the_row).Denot → Type 0) (x : Taken.Denot) (v : Val) → IfSome x P
      → ((w : (region.the_row).Denot) (b o : ℕ) → P w → w.size < 2 ^ 64 → v ≡ live 1 (vcons (region_val (block_ptr b o) w.size) vnil) → Seq K 𝓛 (‵ (room_within (block_ptr b o) w.size) ∷ Γ) G)
      → (v ≡ live 0 vnil → Seq K 𝓛 Γ G) → Seq K 𝓛 (‵ (Taken.own_val x (v ∷ [])) ∷ Γ) G
  taken t P None v is some none =
      fpick t (λ us. fsplit t $ feq_l t (λ e. fpick t (λ vss. fsplit t $ feq_l t (λ e'. drop t $ none (ap only e ∙ ap (λ (ws : List Val). live 0 (of_list ws)) e')))))
  taken t P (Some w) v is some none =
      fpick t (λ us. fsplit t $ feq_l t (λ e. fpick t (λ vss. fsplit t $ feq_l t (λ e'. fsplit t $ move t (1 ∷ []) $ drop t $
      -- [the fields of the region, and what its owner owns]
      fpick t (λ rs. fsplit t $ feq_l t (λ e''. fsplit t $ feq_l t (λ start. fsplit t $ fsplit t $ feq_l t (λ number. flt_l t (λ small. fsplit t $ move t (1 ∷ []) $ drop t $
      fsplit t $ fpick t (λ os. fsplit t $ feq_l t (λ owner. drop t $
      rewrite t 0 (λ (u : Ptr × ℕ). ‵ (room_within u.0 u.1)) (λ i. (w.own.0 i, w.own.1 i)) refl $ in_a_block t w.start (λ p. room_within p w.size) (id⊢ 𝓤 _) (λ b o at.
      let words : vss.0 ≡ region_val w.start w.size ∷ [] = e'' ∙ (λ i. vstruct (of_list (start i ++ (number i ++ (owner i ++ [])))) ∷ []) in
      some w b o is small
      (ap only e ∙ ap (λ (ws : List Val). live 1 (of_list ws)) (e' ∙ ap (λ (ws : List Val). ws ++ []) words) ∙ (λ i. live 1 (vcons (region_val (at i) w.size) vnil)))))))))))))))
