-- The texts of errors, built from their parts.
use Rattle.std.proofs.Common.{◌≡◌, ℕ, ℤ, List, [], ◌++◌, sym, ap, ◌∙◌, arith}
use Rattle.std.specs.Prelude.{codes, decimal}
use Rattle.std.specs.Fmt.{signed_decimal}
use Rattle.links.specs.declared.links.Link.{Link}
use Rattle.plain_run.specs.FaultText.{fault_text}
use Rattle.plain_run.specs.declared.fault.RunFault.{RunFault}
use Rattle.plain_run.specs.declared.fault.RunFault.TheVariants as fault

pub rounds_text : (l0 l1 l2 : List ℕ) (why : RunFault) (round n : ℕ) → l0 ≡ [] → why ≡ fault.Rounds round → n ≡ round → l1 ≡ l0 ++ codes "round " ++ decimal n → l2 ≡ l1 ++ codes " is past the bound"
    → l2 ≡ fault_text why
rounds_text l0 l1 l2 why round n empty is same e1 e2 = search arith

pub missed_text : (l0 l1 l2 l3 l4 : List ℕ) (why : RunFault) (l : Link) (low high : ℕ) (weight : ℤ) → l0 ≡ [] → why ≡ fault.Missed l → low ≡ l.low → high ≡ l.high → weight ≡ l.weight
    → l1 ≡ l0 ++ codes "link " ++ decimal low → l2 ≡ l1 ++ codes " " ++ decimal high → l3 ≡ l2 ++ codes " " ++ signed_decimal weight → l4 ≡ l3 ++ codes " was missed"
    → l4 ≡ fault_text why
missed_text l0 l1 l2 l3 l4 why l low high weight empty is low_is high_is weight_is e1 e2 e3 e4 = search arith
