use Rattle.std.proofs.Common.{◌-◌, ◌/◌, arith}
use Rattle.links.proofs.Sharing.{worth_parts}
use Rattle.links.proofs.shares.shares_of.Goals as goal

pub returns-clause-worth : goal.returns-clause-worth
returns-clause-worth c =
    let t = c.min-threads.result in
    let are = worth_parts c.args.links t (t - t / 2) (t / 2) (omega (arith, c.if-threads-lt2.false)) (omega (arith, c.min-threads.ensures)) (omega arith) in
    omega (arith, are.0, are.1, c.saturating_mul.ensures, c.min-first.ensures, c.ranges.links.fits)

pub returns-clause-rest_worth : goal.returns-clause-rest_worth
returns-clause-rest_worth c =
    let t = c.min-threads.result in
    let are = worth_parts c.args.links t (t - t / 2) (t / 2) (omega (arith, c.if-threads-lt2.false)) (omega (arith, c.min-threads.ensures)) (omega arith) in
    omega (arith, are.1, c.saturating_mul.ensures, c.min-first.ensures)
