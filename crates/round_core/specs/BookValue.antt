-- A round's book, as contracts see it.
use Rattle.std.specs.Prelude.{◌≡◌, ◌≢◌, ℕ, ◌+◌, ◌<◌, ◌≤◌, ◌==◌, ◌↔◌, Bool, true, false, not, cond, List, [], ◌∷◌, ◌++◌, length, map, replicate, All, AllPairs, Any, Contains, Option, Some, None, slice_get, slice_index_or, slice_set, count_by, flat_map, if◌then◌else◌}
use Rattle.std.specs.List.{list_all}
use Rattle.std.specs.Option.{option_map_or, option_to_list}
use Rattle.limits.specs.declared.TheConstants.{MAX_SHARDS}
use Rattle.links.specs.declared.links.Link.{Link}
use Rattle.links.specs.Link.{EndsUpTo}
use Rattle.links.specs.Labels.{label_of, AreLabels}
use Rattle.links.specs.Offers.{Offer}
use Rattle.links.specs.Cut.{joined, links_at}
use Rattle.links.specs.AnswerValue.{AnswerValue}
use Rattle.round_theory.specs.Offers.{Hearing, AreLightOffers, IsNamed, HaveLinksOf, AreAllLight}
use Rattle.round_core.specs.Picks.{ArePicks, AreNoPicks}
use Rattle.round_core.specs.declared.refusals.Refusal.{Refusal}
use Rattle.round_core.specs.declared.refusals.Refusal.TheVariants.{Stale, Stranger, Double, NotALink}

-- the round, the cut and the labels that are asked about, which shards have an answer, and the answers taken, in order
pub record BookValue : Type 0 where
  pub round : ℕ
  pub cut : List (List Link)
  pub labels : List ℕ
  pub taken : List Bool
  pub answers : List AnswerValue

-- no answer is taken yet
abbrev pub opened : ℕ → List (List Link) → List ℕ → BookValue
opened round cut labels = record { round = round; cut = cut; labels = labels; taken = replicate (length cut) false; answers = [] }

-- whether an answer for the shard was taken
abbrev pub is_taken : BookValue → ℕ → Bool
is_taken p s = slice_index_or p.taken s true

abbrev pub missing : BookValue → ℕ
missing p = count_by not p.taken

-- whether exactly one endpoint of the link has the label `c`
abbrev pub is_leaving : List ℕ → ℕ → Link → Bool
is_leaving labels c l = cond (label_of labels l.low == c) (not (label_of labels l.high == c)) (label_of labels l.high == c)

-- whether the offer names a link of the list that leaves its component
abbrev pub is_offer : List Link → List ℕ → Offer → Bool
is_offer links labels o = option_map_or (is_leaving labels o.0) (slice_get links o.1) false

-- why an answer to an ask about the shard is rejected, if it is
abbrev pub refusal : BookValue → ℕ → AnswerValue → Option Refusal
refusal p s a =
    if a.round == p.round then (if a.shard == s then (if is_taken p s then Some Double
    else (if list_all (is_offer (links_at p.cut s) p.labels) a.offers then None else Some NotALink))
    else Some Stranger) else Some Stale

-- the book after it takes an answer
abbrev pub with_answer : BookValue → AnswerValue → BookValue
with_answer p a = record { round = p.round; cut = p.cut; labels = p.labels; taken = slice_set p.taken a.shard true; answers = p.answers ++ a ∷ [] }

-- an answer together with the links of its shard
abbrev pub hearing_of : List (List Link) → AnswerValue → Hearing
hearing_of cut a = record { shard = links_at cut a.shard; offers = a.offers }

-- what was heard about the shards
abbrev pub hearings : BookValue → List Hearing
hearings p = map (hearing_of p.cut) p.answers

-- the answer is of this round and for a shard of the cut, and each of its offers names a link that leaves its component
pub record IsRight (round : ℕ) (cut : List (List Link)) (labels : List ℕ) (a : AnswerValue) : Type 0 where
  pub round_is : a.round ≡ round
  pub within : a.shard < length cut
  pub offers : list_all (is_offer (links_at cut a.shard) labels) a.offers ≡ true

-- one of the answers taken is for the shard
abbrev pub IsAnswered : BookValue → ℕ → Type 0
IsAnswered p s = Any (λ (a : AnswerValue). a.shard ≡ s) p.answers

-- what holds for each book: the shards that were taken are those with an answer, and each has at most one
pub record IsBookValue (p : BookValue) : Type 0 where
  pub labels : AreLabels p.labels
  pub ends : All (EndsUpTo (length p.labels)) p.cut
  pub few : length p.cut ≤ MAX_SHARDS
  pub each_shard : length p.taken ≡ length p.cut
  pub counted : missing p + length p.answers ≡ length p.cut
  pub right : All (IsRight p.round p.cut p.labels) p.answers
  pub answered : (s : ℕ) → s < length p.cut → (is_taken p s ≡ true) ↔ IsAnswered p s
  pub once : AllPairs (λ (a b : AnswerValue). a.shard ≢ b.shard) p.answers

-- a book that looks up its own labels, and has memory for an answer of each shard and a pick of each label
pub record IsBook (p : BookValue) (looked_up : List ℕ) (room : ℕ) (best : List (Option Link)) : Type 0 where
  pub value : IsBookValue p
  pub same_labels : looked_up ≡ p.labels
  pub room_for_answers : length p.cut ≤ room
  pub room_for_picks : length best ≡ length p.labels
  pub no_picks : AreNoPicks best

-- the links of a shard that its offers name, in their order
abbrev pub named_links : List Link → List Offer → List Link
named_links links offers = flat_map (λ (o : Offer). option_to_list (slice_get links o.1)) offers

-- the links that the answers name, in their order
abbrev pub all_named : List (List Link) → List AnswerValue → List Link
all_named cut answers = flat_map (λ (a : AnswerValue). named_links (links_at cut a.shard) a.offers) answers

-- offers about a shard that can be counted: each names a link that leaves its component
pub record CanCountOffers (links : List Link) (labels : List ℕ) (offers : List Offer) : Type 0 where
  pub labelled : AreLabels labels
  pub ends : EndsUpTo (length labels) links
  pub leaving : list_all (is_offer links labels) offers ≡ true

-- answers that can be counted: each is for a shard of the cut, and each of its offers names a link that leaves its
-- component
pub record CanCount (cut : List (List Link)) (labels : List ℕ) (answers : List AnswerValue) : Type 0 where
  pub labelled : AreLabels labels
  pub ends : All (EndsUpTo (length labels)) cut
  pub right : All (λ (a : AnswerValue). IsRight a.round cut labels a) answers

-- An answer of this round and for a missing shard isn't rejected if it has the shard's light offers.
abbrev pub LightOffersAreTaken : Type 0
LightOffersAreTaken =
    (p : BookValue) (s : ℕ) (a : AnswerValue) → is_taken p s ≡ false → a.round ≡ p.round → a.shard ≡ s
    → AreLightOffers (links_at p.cut s) p.labels a.offers → refusal p s a ≡ None

-- If no shard is missing, the links of the shards that were heard about are exactly those of the cut.
abbrev pub FullBookHasAllLinks : Type 0
FullBookHasAllLinks = (p : BookValue) → IsBookValue p → missing p ≡ 0 → HaveLinksOf (hearings p) (joined p.cut)

-- If each answer also has the light offers of its shard, the picks are those among all links of the cut.
abbrev pub FullBookIsLeast : Type 0
FullBookIsLeast =
    (p : BookValue) (picks : List (Option Link)) → IsBookValue p → missing p ≡ 0 → AreAllLight p.labels (hearings p)
    → ArePicks p.labels (IsNamed (hearings p)) picks → ArePicks p.labels (Contains (joined p.cut)) picks
