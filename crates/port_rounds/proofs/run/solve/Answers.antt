use Rattle.std.proofs.Common.{List, subst, rules, arith}
use Rattle.std.specs.Prelude.{All, IfOk, IfErr}
use Rattle.port_rounds.specs.Lanes.{LaneState, IsIdle}
use Rattle.port_rounds.specs.Solved.{AsksInRun, IsSolveFault, FindsForest}
use Rattle.std.proofs.lemmas.Result.{IfErr-weaker}
use Rattle.port_rounds.proofs.Ending.{honest_fault}
use Rattle.port_rounds.proofs.run.solve.Goals as goal

-- the lanes at the end are those that `find_forest` left, and at first they were those that were given

pub returns-clause-went : goal.returns-clause-went
returns-clause-went g c = search arith

pub returns-clause-ports : goal.returns-clause-ports
returns-clause-ports g c = search arith

pub returns-clause-fault : goal.returns-clause-fault
returns-clause-fault g c = search arith

pub returns-clause-idle : goal.returns-clause-idle
returns-clause-idle g c = subst (λ (ys : List (LaneState g.row.P.Denot)). All IsIdle ys) (search rules) c.find_forest.new.self.idle

pub find_forest-requires-clause-can : goal.find_forest-requires-clause-can
find_forest-requires-clause-can g c κs within = search arith

pub returns-clause-honest_fault : goal.returns-clause-honest_fault
returns-clause-honest_fault g c = search (arith, honest_fault, returns-clause-fault)
