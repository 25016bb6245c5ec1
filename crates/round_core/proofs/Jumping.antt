-- A jump replaces a root's parent by the parent's parent.
use Rattle.std.proofs.Common.{◌≡◌, ◌≢◌, ℕ, ◌+◌, ◌<◌, ◌≤◌, ◌⊎◌, List, get_or, set, Contains, sym, ap, ◌∙◌, subst, inl, inr, below_more, arith}
use Rattle.std.specs.Prelude.{Option}
use Rattle.std.specs.List.{sum_by}
use Rattle.std.proofs.lemmas.Bool.{cases_eq}
use Rattle.std.proofs.lemmas.List.{length-set, set-get_or, get_or-set_same, get_or-set_other}
use Rattle.std.proofs.lemmas.List.Sums.{sum_by-set}
use Rattle.links.specs.declared.links.Link.{Link}
use Rattle.round_theory.specs.Labelling.{JoinsOver}
use Rattle.round_core.specs.Picks.{Picked}
use Rattle.round_core.specs.Roots.{ArePointers, AreParents, jumped, IsSettled, Descend}
use Rattle.round_core.proofs.HookWalks.{over_then}

module _ (roots old : List ℕ) (c : ℕ) (c_in : Contains roots c) (pointers : ArePointers roots old) where
  abbrev up : ℕ → ℕ
  up x = get_or old x 0

  abbrev new : List ℕ
  new = jumped old c

  abbrev up' : ℕ → ℕ
  up' x = get_or new x 0

  parent_in : Contains roots (up c)
  parent_in = pointers.closed c c_in

  at : up' c ≡ up (up c)
  at = get_or-set_same old c (up (up c)) 0 (pointers.within c c_in)

  off : (x : ℕ) → x ≢ c → up' x ≡ up x
  off x other = get_or-set_other old c x (up (up c)) 0 other

  jump_points : ArePointers roots new
  jump_points = record {
    within = λ x x_in. subst (λ n. x < n) (sym (length-set old c (up (up c)))) (pointers.within x x_in);
    closed = λ x x_in. elim (cases_eq x c) [
      | inl is ↦ subst (Contains roots) (sym (ap up' is ∙ at)) (pointers.closed (up c) parent_in)
      | inr other ↦ subst (Contains roots) (sym (off x other)) (pointers.closed x x_in)
    ];
  }

  -- A value that is the same along the new parents is the same along the old ones. The parent that was jumped over
  -- still has its own parent, the new one of the root.
  jump_joins : (labels : List ℕ) (picks : List (Option Link)) → AreParents labels roots picks old → AreParents labels roots picks new
  jump_joins labels picks are = record {
    joined = λ x x_in. elim (cases_eq x c) [
      | inl is ↦ subst (λ y. JoinsOver labels (Picked picks) y (up' y)) (sym is)
          (subst (JoinsOver labels (Picked picks) c) (sym at) (over_then labels (Picked picks) (Picked picks) (λ l l_in. l_in) c (up c) (up (up c)) (are.joined c c_in) (are.joined (up c) parent_in)))
      | inr other ↦ subst (JoinsOver labels (Picked picks) x) (sym (off x other)) (are.joined x x_in)
    ];
    together = λ f along. are.together f (λ x x_in. elim (cases_eq x c) [
      | inl is ↦ subst (λ y. f y ≡ f (up y)) (sym is) (at_root f along)
      | inr other ↦ along x x_in ∙ ap f (off x other)
    ]);
  }
    where
      at_root : (f : ℕ → ℕ) → ((x : ℕ) → Contains roots x → f x ≡ f (up' x)) → f c ≡ f (up c)
      at_root f along = search (arith, cases_eq, at, off, parent_in)

  pub settled_on : (x : ℕ) → IsSettled old x → IsSettled new x
  settled_on x settled = search (arith, cases_eq, set, set-get_or, off, at)

  -- ranks still descend along the parents: the rank of the root's new parent is at most that of the old one, and less
  -- if that wasn't settled
  module _ (rank : ℕ → ℕ) (down : Descend roots rank old) where
    jump_descends : Descend roots rank new
    jump_descends x x_in = search (arith, cases_eq, at, parent_in, off)

    sums : sum_by rank new + rank (up c) ≡ sum_by rank old + rank (up (up c))
    sums = sum_by-set rank old c (up (up c)) 0 (pointers.within c c_in)

    no_more : sum_by rank new ≤ sum_by rank old
    no_more = search (arith, parent_in, sums)

    fewer : ¬ (IsSettled old c) → sum_by rank new < sum_by rank old
    fewer moves = search (arith, parent_in, sums)

pub record HaveJumped (roots old new : List ℕ) : Type 0 where
  pub pointers : ArePointers roots new
  pub parents : (labels : List ℕ) (picks : List (Option Link)) → AreParents labels roots picks old → AreParents labels roots picks new
  pub descend : (rank : ℕ → ℕ) → Descend roots rank old → Descend roots rank new × (sum_by rank new ≤ sum_by rank old)

pub jumped_more : (roots old new : List ℕ) (c : ℕ) → Contains roots c → HaveJumped roots old new → HaveJumped roots old (jumped new c)
jumped_more roots old new c c_in have = record {
  pointers = jump_points roots new c c_in have.pointers;
  parents = λ labels picks are. jump_joins roots new c c_in have.pointers labels picks (have.parents labels picks are);
  descend = λ rank down.
      let (down', le) = have.descend rank down in
      let le' = no_more roots new c c_in have.pointers rank down' in
      (jump_descends roots new c c_in have.pointers rank down', omega (arith, le, le'));
}

-- the sum of the parents' ranks is less than before
abbrev pub LowersRanks : List ℕ → List ℕ → List ℕ → Type 0
LowersRanks roots old new = (rank : ℕ → ℕ) → Descend roots rank old → sum_by rank new < sum_by rank old

-- this holds after a root's parent led to another
pub lower_by_last : (roots old new : List ℕ) (c : ℕ) → Contains roots c → HaveJumped roots old new → ¬ (IsSettled new c) → LowersRanks roots old (jumped new c)
lower_by_last roots old new c c_in have moves rank down = search (arith, fewer)

pub lower_still : (roots old new : List ℕ) (c : ℕ) → Contains roots c → HaveJumped roots old new → LowersRanks roots old new → LowersRanks roots old (jumped new c)
lower_still roots old new c c_in have lower rank down = search (arith, no_more)

-- if a root has no new parent to jump to, and those before it had none, all of them are settled
pub settled_more : (roots new : List ℕ) (k : ℕ) → ((j : ℕ) → j < k → IsSettled new (get_or roots j 0)) → get_or new (get_or new (get_or roots k 0) 0) 0 ≡ get_or new (get_or roots k 0) 0
    → (j : ℕ) → j < k + 1 → IsSettled (set new (get_or roots k 0) (get_or new (get_or new (get_or roots k 0) 0) 0)) (get_or roots j 0)
settled_more roots new k before rests j lt = search (arith, set, set-get_or, below_more)
