use Rattle.std.proofs.Common.{◌++◌, Contains, arith}
use Rattle.round_theory.specs.Offers.{IsNamed}
use Rattle.round_theory.proofs.Steps.{append_either}
use Rattle.round_theory.proofs.Unions.{named_either, least_of_both, least_of_first, least_of_second}
use Rattle.round_theory.proofs.laws.least_of_both.Goals as goal

pub returns : goal.returns
returns c = search (arith, append_either, named_either, least_of_both, least_of_first, least_of_second)
