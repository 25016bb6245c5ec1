-- The books of a run, one after the other, and the solver to which they lead.
use Rattle.std.specs.Prelude.{◌≡◌, ℕ, ◌+◌, List, [], ◌∷◌, Option}
use Rattle.links.specs.declared.links.Link.{Link}
use Rattle.round_theory.specs.Offers.{IsNamed}
use Rattle.round_core.specs.BookValue.{BookValue, IsBookValue, hearings}
use Rattle.round_core.specs.Picks.{ArePicks}
use Rattle.round_core.specs.Solver.{Progress, IsAtStart, IsMerged}

-- a book of the cut for the solver's next round, under its labels, as far as it is filled
pub record IsNextBook (cut : List (List Link)) (p : Progress) (book : BookValue) : Type 0 where
  pub value : IsBookValue book
  pub cut_is : book.cut ≡ cut
  pub round : book.round ≡ p.rounds + 1
  pub labels : book.labels ≡ p.labels

-- the book is of the solver's next round, under its labels, and these are its picks
pub record HasPicks (p : Progress) (book : BookValue) (picks : List (Option Link)) : Type 0 where
  pub round : book.round ≡ p.rounds + 1
  pub labels : book.labels ≡ p.labels
  pub picked : ArePicks p.labels (IsNamed (hearings book)) picks

-- the solver took the book's picks, and there were some
pub record MergesBook (old : Progress) (book : BookValue) (new : Progress) : Type 0 where
  pub picks : List (Option Link)
  pub count : ℕ
  pub picked : HasPicks old book picks
  pub merged : IsMerged picks count old new

-- the solver took the picks of each of the books, in their order
abbrev pub MergesBooks : Progress → List BookValue → Progress → Type 0
MergesBooks old [] new = new ≡ old
MergesBooks old (book ∷ books) new = (middle : Progress) × MergesBook old book middle × MergesBooks middle books new

-- a solver for the vertices 1 to `n` has come so far by a merging round with each of the books, and by no other round
pub record MergesFromStart (n : ℕ) (books : List BookValue) (p : Progress) : Type 0 where
  pub start : Progress
  pub at_start : IsAtStart n start
  pub merged : MergesBooks start books p
