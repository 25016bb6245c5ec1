-- The gate and the tally at a call: the arguments of each, a `&` to it with a token of the lifetime, and what a caller
-- has of it. Assumes `Logic`.
--     Asks         the gate decides whether the next allocation fails, by the number of an allocation
--     Counts       the tally counts a block that is allocated or freed: one contract, because neither says anything
use Rattle.std.specs.Prelude.{T}
use Rattle.std.proofs.lemmas.Bool.{false≢true}
use Rattle.std.proofs.Common.{◌≡◌, ℕ, ◌^◌, ◌<◌, Bool, true, false, not, List, [], ◌∷◌, refl, ap, w64}
use seplogic.Ra.Ura.{Ura}
use mir.Val.{Val, vunit, vbool, vint, vptr}
use base.Logic.{SProp, ent, sep, ex, guard, id⊢}
use base.Fml.{Lft, Share, ftrue, fsep, flft}
use prog.Memory.{Memory}
use prog.Routine.{Routine}
use types.Logic.{Logic, sem}
use contract.Monad.{Fun, fact}
use types.Kit.{‵, raw, ◌⊛◌, some, later, ◌$◌, ◌∵◌, !, qed, move, keep, use1, split, join, pick, fjoin, feq_i, feq_l, flt_i, check, show, await, updating, now as at_once, done}
use denote.Memory.{hidden_shr}
use denote.Builtin.{bool, unit}
use denote.Steps.{heard, nothing, only}
use denote.Triple.Statement.{Contract}
use denote.Triple.Spec.{triple_of}
use Rattle.test_memory.specs.declared.refusals.Refusals.{Refusals}
use Rattle.test_memory.specs.Refused.{IsSaidOf, IsLetPass}
use Rattle.test_memory.specs.contracts.gate.Gate as GA
use Rattle.test_memory.specs.contracts.gate.Gate.refuses_next as GR
use Rattle.test_memory.specs.contracts.tally.Tally as TA
use Rattle.test_memory.specs.contracts.tally.Tally.give as TG

-- the gate's decision, and its number
abbrev pub Ruling : Refusals → Type 0
Ruling refusals = (refused : Bool) × IsSaidOf refusals refused

-- an allocation that the gate doesn't refuse is passed on
pub let_pass : (refusals : Refusals) (refused : Bool) → IsSaidOf refusals refused → T (not refused) → IsLetPass refusals
let_pass refusals true said passed = absurd passed
let_pass refusals false said passed = record { number = said.number; from_one = said.from_one; below = said.below; passes = λ is. false≢true (said.refused_is.1 is) }

module _ {M : Type 1} {𝓤 : Ura M} (𝓛 : Logic 𝓤) (at_mem : Memory → SProp 𝓤) (run : Routine → Fun 𝓤) where
  abbrev pub Asks : Contract 𝓤
  Asks = triple_of 𝓛 GR.signature (GR.spec 𝓛 at_mem run)

  abbrev pub Counts : Contract 𝓤
  Counts = triple_of 𝓛 TG.signature (TG.spec 𝓛 at_mem run)

  abbrev pub at_asks : Lft → Share → (GA.the_row).Denot → ℕ × ℕ → Asks.Ghost
  at_asks κ q g p = (((κ, tt), (q, tt), tt, (record { ref_ptr = p; now = g }, tt), (vptr p.0 p.1 ∷ [], tt)), tt)

  abbrev pub at_counts : Lft → Share → (TA.the_row).Denot → ℕ × ℕ → ℕ → Counts.Ghost
  at_counts κ q c p n = (((κ, tt), (q, tt), tt, (record { ref_ptr = p; now = c }, (n, tt)), (vptr p.0 p.1 ∷ [], (vint w64 n ∷ [], tt))), tt)

module _ {M : Type 1} {𝓤 : Ura M} (𝓛 : Logic 𝓤) (at_mem : Memory → SProp 𝓤) (run : Routine → Fun 𝓤) (κ : Lft) (q : Share) (p : ℕ × ℕ) where
  open 𝓛 use {H, A}

  pub Asks-goes : (g : (GA.the_row).Denot) → ent 𝓤 (sep 𝓤 (sem 𝓛 (hidden_shr GA.the_row κ g p.0 p.1)) (A.lft κ q)) ((Asks 𝓛 at_mem run).pre (at_asks 𝓛 at_mem run κ q g p))
  Asks-goes g =
      qed 𝓛 (‵ (hidden_shr GA.the_row κ g p.0 p.1) ∷ ‵ (flft κ q) ∷ []) ∵ feq_i ! (List Val) (vptr p.0 p.1 ∷ []) (vptr p.0 p.1 ∷ []) refl $ fjoin ! $
      nothing ! $ move ! (1 ∷ []) $ fjoin ! $ nothing ! $ move ! (2 ∷ []) $ join ! $ join ! $ nothing ! $ move ! (1 ∷ []) $ done !

  pub Asks-gives : (g : (GA.the_row).Denot) (v : Val) → ent 𝓤 ((Asks 𝓛 at_mem run).post (at_asks 𝓛 at_mem run κ q g p) v) (H.⇛ (ex 𝓤 (λ (s : Ruling g.refusals). guard 𝓤 (v ≡ vbool s.0) (A.lft κ q))))
  Asks-gives g v =
      qed 𝓛 (raw ((Asks 𝓛 at_mem run).post (at_asks 𝓛 at_mem run κ q g p) v) ∷ []) ∵ updating ! $
      use1 𝓛 (later (some (λ (y : Bool). ((‵ (flft κ q) ⊛ ‵ ftrue) ⊛ ‵ (bool.own_val y (v ∷ []))) ⊛ some
      (λ (ws : Unit {0} × Unit {0}). ‵ (fsep ftrue ftrue) ⊛ raw (fact 𝓤 (IsSaidOf g.refusals y)))))) (id⊢ 𝓤 _) $ await ! tt $ pick ! (λ y.
      split ! $ split ! $ move ! (1 ∷ []) $ feq_l ! (λ e. move ! (1 ∷ []) $ pick ! (λ ws. split ! $ move ! (1 ∷ []) $ heard ! (IsSaidOf g.refusals y) (λ said.
      move ! (1 ∷ []) $ split ! $ at_once ! $ show ! (λ (s : Ruling g.refusals). guard 𝓤 (v ≡ vbool s.0) (A.lft κ q)) (y, said) $ check ! (ap only e) $ keep ! (0 ∷ []) $ done !))))

  pub Counts-goes : (c : (TA.the_row).Denot) (n : ℕ) → n < 2 ^ 64 → ent 𝓤 (sep 𝓤 (sem 𝓛 (hidden_shr TA.the_row κ c p.0 p.1)) (A.lft κ q)) ((Counts 𝓛 at_mem run).pre (at_counts 𝓛 at_mem run κ q c p n))
  Counts-goes c n fn =
      qed 𝓛 (‵ (hidden_shr TA.the_row κ c p.0 p.1) ∷ ‵ (flft κ q) ∷ []) ∵ nothing ! $
      flt_i ! n (2 ^ 64) fn $ feq_i ! (List Val) (vint w64 n ∷ []) (vint w64 n ∷ []) refl $ fjoin ! $ fjoin ! $
      move ! (1 ∷ []) $ feq_i ! (List Val) (vptr p.0 p.1 ∷ []) (vptr p.0 p.1 ∷ []) refl $ fjoin ! $ move ! (0 ∷ 1 ∷ []) $ fjoin ! $
      nothing ! $ move ! (2 ∷ []) $ join ! $ join ! $ nothing ! $ move ! (1 ∷ []) $ done !

  pub Counts-gives : (c : (TA.the_row).Denot) (n : ℕ) (v : Val) → ent 𝓤 ((Counts 𝓛 at_mem run).post (at_counts 𝓛 at_mem run κ q c p n) v) (H.⇛ (guard 𝓤 (v ≡ vunit) (A.lft κ q)))
  Counts-gives c n v =
      qed 𝓛 (raw ((Counts 𝓛 at_mem run).post (at_counts 𝓛 at_mem run κ q c p n) v) ∷ []) ∵ updating ! $
      use1 𝓛 (later (some (λ (r : Unit {0}). ((‵ (flft κ q) ⊛ ‵ ftrue) ⊛ ‵ (unit.own_val r (v ∷ []))) ⊛ some
      (λ (ws : Unit {0} × (Unit {0} × Unit {0})). ‵ (fsep ftrue (fsep ftrue ftrue)) ⊛ ‵ ftrue)))) (id⊢ 𝓤 _) $ await ! tt $ pick ! (λ r.
      split ! $ split ! $ move ! (1 ∷ []) $ feq_l ! (λ e. split ! $ at_once ! $ check ! (ap only e) $ keep ! (0 ∷ []) $ done !))
