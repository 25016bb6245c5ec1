-- Another merging round, and what light answers pick.
use Rattle.std.proofs.Common.{◌≡◌, ℕ, List, [], ◌∷◌, ◌++◌, refl, sym, subst}
use Rattle.std.specs.Prelude.{All, Contains, Option}
use Rattle.std.proofs.lemmas.List.Elements.{All-map}
use Rattle.links.specs.declared.links.Link.{Link}
use Rattle.links.specs.Cut.{joined}
use Rattle.round_theory.specs.Offers.{Hearing, IsNamed, AreLightOffers, AreAllLight}
use Rattle.round_core.specs.BookValue.{BookValue, hearing_of, hearings}
use Rattle.round_core.specs.Picks.{ArePicks}
use Rattle.round_core.specs.Solver.{Progress}
use Rattle.round_core.proofs.Full.{full_book_is_least}
use Rattle.port_rounds.specs.Asks.{IsLight}
use Rattle.port_rounds.specs.Runs.{IsFullBook}
use Rattle.port_rounds.specs.Chains.{MergesBook, MergesBooks, MergesFromStart}

-- ---- another book

more : (old : Progress) (books : List BookValue) (middle : Progress) (book : BookValue) (new : Progress) → MergesBooks old books middle
    → MergesBook middle book new → MergesBooks old (books ++ book ∷ []) new
more old [] middle book new so_far m = (new, subst (λ (p : Progress). MergesBook p book new) so_far m, refl)
more old (b ∷ books) middle book new so_far m = (so_far.0, so_far.1, more so_far.0 books middle book new so_far.2 m)

pub merged_then : (n : ℕ) (books : List BookValue) (old : Progress) (book : BookValue) (new : Progress) → MergesFromStart n books old → MergesBook old book new
    → MergesFromStart n (books ++ book ∷ []) new
merged_then n books old book new s m = record { start = s.start; at_start = s.at_start; merged = more s.start books old book new s.merged m }

-- ---- light answers

light_hearings : (book : BookValue) → All (IsLight book) book.answers → AreAllLight book.labels (hearings book)
light_hearings book light =
    All-map (λ (h : Hearing). AreLightOffers h.shard book.labels h.offers) (hearing_of book.cut) book.answers (λ i d b. (light i d b).light)

-- the picks of a full book of light answers are those of the whole list
pub light_picks : (cut : List (List Link)) (labels : List ℕ) (book : BookValue) (picks : List (Option Link)) → IsFullBook cut book → book.labels ≡ labels → All (IsLight book) book.answers
    → ArePicks labels (IsNamed (hearings book)) picks → ArePicks labels (Contains (joined cut)) picks
light_picks cut labels book picks whole same light are =
    let mine : ArePicks book.labels (IsNamed (hearings book)) picks = subst (λ (ls : List ℕ). ArePicks ls (IsNamed (hearings book)) picks) (sym same) are in
    let least : ArePicks book.labels (Contains (joined book.cut)) picks = full_book_is_least book picks whole.value whole.all (light_hearings book light) mine in
    subst (λ (c : List (List Link)). ArePicks labels (Contains (joined c)) picks) whole.cut_is (subst (λ (ls : List ℕ). ArePicks ls (Contains (joined book.cut)) picks) same least)
