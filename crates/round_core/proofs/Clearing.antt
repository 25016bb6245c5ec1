-- Labels whose picks are removed.
use Rattle.std.proofs.Common.{◌≡◌, ◌≢◌, ℕ, ◌+◌, ◌-◌, ◌<◌, ◌≤◌, List, length, map, get_or, set, Some, None, refl, sym, ap, ◌∙◌, subst, inl, inr, below_more, arith}
use Rattle.std.specs.Prelude.{Option, All}
use Rattle.std.proofs.lemmas.Bool.{cases_eq}
use Rattle.std.proofs.lemmas.List.{length-map, get_or-map, get_or-set_same, get_or-set_other, get_or_default}
use Rattle.links.specs.declared.links.Link.{Link}
use Rattle.round_core.specs.Picks.{AreNoPicks, HaveAllPicks}
use Rattle.round_core.specs.PickNumbers.{no_pick, IsPickNumber, AreCleared, pick_in}
use Rattle.round_core.proofs.PickNumbers.{no_pick_is_none}

pub cleared_more : (labels old new : List ℕ) (k : ℕ) → 1 ≤ get_or labels k 0 → get_or labels k 0 - 1 < length new
    → AreCleared labels k old new → AreCleared labels (k + 1) old (set new (get_or labels k 0 - 1) no_pick)
cleared_more labels old new k one within are i = search (arith, cases_eq, get_or-set_same, get_or-set_other, below_more, set)

-- the numbers that are left are those of picks
pub cleared_are_numbers : (labels old new : List ℕ) → length new ≡ length old → AreCleared labels (length labels) old new → All IsPickNumber old → All IsPickNumber new
cleared_are_numbers labels old new long are all i d lt =
    let at : get_or new i d ≡ get_or new i 0 = get_or_default new i d 0 lt in
    elim (are i) [
      | inl none ↦ inl (at ∙ none)
      | inr (same, _) ↦ subst IsPickNumber (sym (at ∙ same)) (all i 0 (omega (arith, lt, long)))
    ]

-- and if only these labels had picks, none are left
pub cleared_have_none : (labels old new : List ℕ) → length new ≡ length old → AreCleared labels (length labels) old new → HaveAllPicks (map pick_in old) labels → AreNoPicks (map pick_in new)
cleared_have_none labels old new long are have i d lt = get_or-map pick_in new i 0 d within ∙ elim (are i) [
  | inl none ↦ no_pick_is_none (get_or new i 0) none
  | inr (same, not) ↦ ap pick_in same ∙ by_pick (pick_in (get_or old i 0)) refl not
]
  where
    within : i < length new
    within = omega (arith, lt, length-map new pick_in)

    by_pick : (pick : Option Link) → pick_in (get_or old i 0) ≡ pick → ((j : ℕ) → j < length labels → get_or labels j 0 ≢ i + 1) → pick_in (get_or old i 0) ≡ None
    by_pick None is not = is
    by_pick (Some l) is not =
        let (j, j_lt, at) = have i l (get_or-map pick_in old i 0 None (omega (arith, within, long)) ∙ is) in
        absurd (not j j_lt (get_or_default labels j 0 (i + 1) j_lt ∙ at))
