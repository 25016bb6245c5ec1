-- The picks of a list of links, as those of one answer.
use Rattle.std.proofs.Common.{ℕ, zero, suc, List, [], ◌∷◌, Contains, Some, None, sym, subst, arith}
use Rattle.std.specs.Prelude.{Option, Any}
use Rattle.std.proofs.lemmas.List.Elements.{All-from_recursion}
use Rattle.links.specs.declared.links.Link.{Link}
use Rattle.links.proofs.Members.{contains_head}
use Rattle.round_theory.specs.Offers.{Hearing, Names, IsNamed, HaveLinksOf, AreLightOffers, AreAllLight}
use Rattle.round_theory.proofs.Cutting.{any_from, light_offers_suffice}
use Rattle.round_theory.proofs.LightOffers.{light_offers_exist}
use Rattle.round_core.specs.Picks.{pick_of, IsPickOf, ArePicks, ArePicksOfHearings}

-- the picks of a list are those of its light offers, as those of one shard
module _ (links : List Link) (labels : List ℕ) (picks : List (Option Link)) (are : ArePicks labels (Contains links) picks) where
  abbrev whole : Hearing
  whole = record { shard = links; offers = (light_offers_exist links labels).0 }

  from_one : (P : Hearing → Type 0) → Any P (whole ∷ []) → P whole
  from_one P (zero, h, lt, at, here) = subst P (sym at) here
  from_one P (suc k, h, lt, at, here) = absurd (omega (arith, lt))

  have_all : HaveLinksOf (whole ∷ []) links
  have_all l = (λ l_in. any_from (λ (h : Hearing). Contains h.shard l) (whole ∷ []) whole (contains_head whole []) l_in, from_one (λ (h : Hearing). Contains h.shard l))

  all_light : AreAllLight labels (whole ∷ [])
  all_light = All-from_recursion (λ (h : Hearing). AreLightOffers h.shard labels h.offers) (whole ∷ []) ((light_offers_exist links labels).1, tt)

  of_named : (c : ℕ) (pick : Option Link) → IsPickOf labels (Contains links) c pick → IsPickOf labels (IsNamed (whole ∷ [])) c pick
  of_named c (Some l) least = (light_offers_suffice links labels (whole ∷ []) have_all all_light c l).1 least
  of_named c None none = λ m named leaves. let names = from_one (λ (h : Hearing). Names h m) named in none m (names.place, names.within, names.here) leaves

  pub picks_of_hearings : ArePicksOfHearings labels picks
  picks_of_hearings = (whole ∷ [], record { each_vertex = are.each_vertex; ends = are.ends; least = λ c vertex. of_named c (pick_of picks c) (are.least c vertex) })
