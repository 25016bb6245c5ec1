use Rattle.std.proofs.Common.{◌≡◌, ℕ, ◌*◌, ◌<◌, ◌≤◌, get_or}
use Rattle.shard_scans.specs.declared.numbers.MarkWord.{MarkWord}
use Rattle.shard_scans.specs.Numbers.{marks_of, marked_in}
use Rattle.shard_scans.proofs.numbers.Numbers.count.Given as goal

-- each of the words so far says how many labels are marked before it
abbrev pub invariant-loop-word : goal.invariant-loop-word
invariant-loop-word g l = record {
  marks : marks_of l.word-items ≡ marks_of l.initial.word-items;
  total : l.total ≡ marked_in (marks_of l.word-items) l.word-index;
  few : l.total ≤ 64 * l.word-index;
  before : (w : ℕ) (d : MarkWord) → w < l.word-index → (get_or l.word-items w d).before ≡ marked_in (marks_of l.word-items) w;
}
