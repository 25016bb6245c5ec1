-- A seat's way around, step by step.
use Rattle.std.proofs.Common.{◌≡◌, ℕ, ◌+◌, ◌<◌, ◌≤◌, List, [], ◌∷◌, ◌++◌, map, refl, sym, ap, subst, ◌∙◌, arith}
use Rattle.std.proofs.lemmas.List.{map-append}
use Rattle.std.proofs.lemmas.List.Elements.{All-push}
use Rattle.std.proofs.lemmas.List.Quantifiers.{all_pairs_push}
use Rattle.claim_board.specs.State.{BoardState, SeatState}
use Rattle.port_rounds.specs.Ferries.{first_of, shard_at, AreOnWay, IsWayOf}

pub none_passed : (first shards : ℕ) → AreOnWay first shards 0 []
none_passed first shards = record { chosen = []; ascending = λ i j d l b. absurd (omega arith); within = λ i d b. absurd (omega arith); passed_are = refl }

-- more steps, at which nothing was kept
pub passed_on : (first shards steps more : ℕ) (passed : List ℕ) → steps ≤ more → AreOnWay first shards steps passed → AreOnWay first shards more passed
passed_on first shards steps more passed le way = search arith

-- the answer about the shard at the next step is kept
pub passed_one : (first shards steps : ℕ) (passed : List ℕ) (shard : ℕ) → shard ≡ shard_at first steps shards → AreOnWay first shards steps passed
    → AreOnWay first shards (steps + 1) (passed ++ shard ∷ [])
passed_one first shards steps passed shard here way = record {
  chosen = way.chosen ++ steps ∷ [];
  ascending = all_pairs_push (λ (i j : ℕ). i < j) way.chosen steps way.ascending (λ k d b. way.within k d b);
  within = All-push (λ (i : ℕ). i < steps + 1) way.chosen steps (λ k d b. omega (arith, way.within k d b)) (omega arith);
  passed_are =
      ap (λ xs. xs ++ shard ∷ []) way.passed_are
      ∙ (ap (λ s. map (λ step. shard_at first step shards) way.chosen ++ s ∷ []) here ∙ sym (map-append (λ step. shard_at first step shards) way.chosen (steps ∷ [])));
}

-- a way from the seat's own beginning is the seat's
pub whole_way : (board : BoardState) (seat : SeatState) (first shards steps : ℕ) (passed : List ℕ) → seat.board ≡ board → board.shards ≡ shards → first ≡ first_of seat.number board.seats shards
    → steps ≤ shards → AreOnWay first shards steps passed → IsWayOf seat passed
whole_way board seat first shards steps passed of_board same first_is le way = search (arith, passed_on)
