-- The total weight of edges in the caller's memory.
use Rattle.std.specs.Prelude.{ℤ, pos, ◌+ℤ◌, ◌*ℤ◌, ◌^◌, List, fold}
use Rattle.caller_forests.specs.declared.given.GivenLink.{GivenLink}
use Rattle.boruvka_c.specs.declared.totals.Sum.{Sum}

-- the sum of the weights of the caller's edges, counting repeats
abbrev pub sum_of_given : List GivenLink → ℤ
sum_of_given given = fold (λ sum l. sum +ℤ l.weight) (pos 0) given

-- the number that these two words represent
abbrev pub number_in : Sum → ℤ
number_in sum = sum.high *ℤ pos (2 ^ 64) +ℤ pos sum.low
