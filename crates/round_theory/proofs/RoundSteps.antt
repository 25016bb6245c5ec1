-- The rounds, one after the other, until one adds nothing.
use Rattle.std.proofs.Common.{sym, ◌≡◌, subst₂, ◌-◌, get_or, refl, ℕ, suc, ◌+◌, ◌<◌, List, [], ◌∷◌, ◌++◌, length, Contains, subst, inl, inr, arith, add-one}
use Rattle.std.proofs.lemmas.Bool.{cases_lt}
use Rattle.std.specs.Prelude.{AllPairs}
use Rattle.std.proofs.lemmas.List.{nil_from_length, length-append, get_or_append_left, get_or-append_right}
use Rattle.std.proofs.lemmas.List.Elements.{Contains-get_or}
use Rattle.links.specs.declared.links.Link.{Link}
use Rattle.links.specs.Link.{EndsUpTo}
use Rattle.links.proofs.Members.{contains_head, contains_none}
use Rattle.round_theory.specs.LinkSet.{SameLinks}
use Rattle.round_theory.specs.Offers.{Leaves, IsPick}
use Rattle.round_theory.specs.Rounds.{AreRoundPicks, TakenAfter, IsMergingRounds}
use Rattle.round_theory.proofs.Labels.{labelling_alike}
use Rattle.round_theory.proofs.Leaving.{least_leaving_exists}
use Rattle.round_theory.proofs.Rounds.{round_by_round, adds_nothing}

pub nothing_taken : (n : ℕ) (links : List Link) → SameLinks (Contains []) (TakenAfter n links 0)
nothing_taken n links l = (contains_none l, λ none. absurd none)

pub taken_more : (n : ℕ) (links taken added : List Link) (i : ℕ) → SameLinks (Contains taken) (TakenAfter n links i)
    → AreRoundPicks n links taken added → SameLinks (Contains (taken ++ added)) (TakenAfter n links (i + 1))
taken_more n links taken added i before picks = rw (add-one) (round_by_round n links taken added i before picks)

-- what is taken after a number of rounds, each of which added something, and what the next round adds
pub record AreRoundsSoFar (n : ℕ) (links taken added : List Link) (rounds : ℕ) : Type 0 where
  pub same : SameLinks (Contains taken) (TakenAfter n links rounds)
  pub next : AreRoundPicks n links taken added
  pub earlier : (k : ℕ) → k < rounds → ¬ (SameLinks (TakenAfter n links (suc k)) (TakenAfter n links k))

-- if the next round has links to add, it adds them
pub round_adds : (n : ℕ) (links taken added : List Link) (rounds : ℕ) → EndsUpTo n links → AreRoundsSoFar n links taken added rounds
    → 0 < length added → ¬ (SameLinks (TakenAfter n links (suc rounds)) (TakenAfter n links rounds))
round_adds n links taken [] rounds ends are some same = omega arith
round_adds n links taken (x ∷ added) rounds ends are some same =
    let (labels, is, picks) = are.next in
    let (c, least) = (picks x).0 (contains_head x added) in
    (adds_nothing n links ends rounds labels (labelling_alike n (Contains taken) (TakenAfter n links rounds) labels are.same is)).0 same x c least.member least.leaves

-- if the next round has none, the number of merging rounds is found
pub rounds_end : (n : ℕ) (links taken added : List Link) (rounds : ℕ) → EndsUpTo n links → AreRoundsSoFar n links taken added rounds → length added ≡ 0 → IsMergingRounds n links rounds
rounds_end n links taken added rounds ends are none = record { still = still; first = are.earlier }
  where
    still : SameLinks (TakenAfter n links (suc rounds)) (TakenAfter n links rounds)
    still =
        let (labels, is, picks) = are.next in
        (adds_nothing n links ends rounds labels (labelling_alike n (Contains taken) (TakenAfter n links rounds) labels are.same is)).1
        (nothing_leaves labels picks)
      where
        nothing_leaves : (labels : List ℕ) → SameLinks (Contains added) (IsPick labels (Contains links)) → (l : Link) (c : ℕ) → Contains links l → ¬ (Leaves labels l c)
        nothing_leaves labels picks l c l_in leaves =
            let best = least_leaving_exists links labels c l l_in leaves in
            contains_none best.0 (subst (λ xs. Contains xs best.0) (nil_from_length added none) ((picks best.0).1 (c, best.1)))

-- if R holds between the elements of each of two lists and across them, it holds between all elements of both
pub all_pairs_append : {X : Type 0} (R : X → X → Type 0) (xs ys : List X) → AllPairs R xs → AllPairs R ys → ((x y : X) → Contains xs x → Contains ys y → R x y) → AllPairs R (xs ++ ys)
all_pairs_append R xs ys xs_pairs ys_pairs across i j d lt within = elim (cases_lt j (length xs)) [
  | inl j_left ↦ subst₂ R (sym (get_or_append_left xs ys d i (omega arith))) (sym (get_or_append_left xs ys d j j_left)) (xs_pairs i j d lt j_left)
  | inr j_right ↦
      let j_in : j - length xs < length ys = omega (arith, within, length-append xs ys) in
      let at_j = get_or-append_right xs ys (length xs) j d refl j_right in
      elim (cases_lt i (length xs)) [
        | inl i_left ↦ subst₂ R (sym (get_or_append_left xs ys d i i_left)) (sym at_j)
            (across (get_or xs i d) (get_or ys (j - length xs) d) (Contains-get_or xs i d i_left) (Contains-get_or ys (j - length xs) d j_in))
        | inr i_right ↦
            let order : i - length xs < j - length xs = omega arith in
            subst₂ R (sym (get_or-append_right xs ys (length xs) i d refl i_right)) (sym at_j) (ys_pairs (i - length xs) (j - length xs) d order j_in)
      ]
]
