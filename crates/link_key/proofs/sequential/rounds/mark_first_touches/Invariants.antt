use Rattle.std.proofs.Common.{◌≡◌, ℕ, ◌<◌, ◌≤◌, List, ◌++◌, take, length, get_or}
use Rattle.links.specs.declared.links.Link.{Link}
use Rattle.link_key.specs.declared.sequential.rounds.Open.{Open}
use Rattle.link_key.specs.OpenLinks.{links_of, marked, AreOpenOf, AreNumbers, AreTouched, HaveNumbers}
use Rattle.link_key.proofs.Keeping.{kept_of}
use Rattle.link_key.proofs.sequential.rounds.mark_first_touches.Given as goal

abbrev pub invariant-loop-i : goal.invariant-loop-i
invariant-loop-i l = record {
  len : length l.candidates ≡ length l.initial.candidates;
  ahead : (k : ℕ) (o : Open) → l.i ≤ k → get_or l.candidates k o ≡ get_or l.initial.candidates k o;
  few : l.kept ≤ l.i;
  kept : take l.kept l.candidates ≡ kept_of l.numbers (take l.i l.initial.candidates);
  given : HaveNumbers l.numbers (take l.i l.initial.candidates);
  numbers : AreNumbers l.last l.numbers;
  fresh : l.i ≡ 0 → (c : ℕ) → get_or l.numbers c 0 ≡ 0;
  fewer : 0 < l.i → l.kept < l.i;
  touched : (d : Link) (links before : List Link) (labels : List ℕ) → length links ≡ length l.initial.marks → AreOpenOf labels d links l.initial.candidates
      → AreTouched labels (links_of d links l.initial.candidates) (take l.i (links_of d links l.initial.candidates)) l.numbers
      (before ++ marked links l.initial.marks) (before ++ marked links l.marks);
}
