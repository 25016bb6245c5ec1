-- the bytes so far are digits, and write the number, of which the last 64 bits are stored
use Rattle.std.proofs.Common.{◌≡◌, ◌<◌, ◌^◌, ◌%◌, take}
use Rattle.std.specs.List.{AllByRecursion}
use Rattle.gr_text.specs.Fields.{IsDigit, number_written}
use Rattle.gr_text.proofs.usual_line.number_before.Given as goal

abbrev pub invariant-loop-place : goal.invariant-loop-place
invariant-loop-place l = record {
  digits : AllByRecursion IsDigit (take l.place l.bytes);
  value : l.number ≡ number_written (take l.place l.bytes) % 2 ^ 64;
  below : number_written (take l.place l.bytes) < 10 ^ l.place;
}
