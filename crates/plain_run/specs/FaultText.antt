-- The texts of a run's errors.
use Rattle.std.specs.Prelude.{ℕ, List, ◌++◌, codes, decimal}
use Rattle.std.specs.Fmt.{signed_decimal}
use Rattle.links.specs.declared.cuts.CutFault.{CutFault}
use Rattle.links.specs.declared.cuts.CutFault.TheVariants as cut
use Rattle.gr_text.specs.FaultText.{read_text, unwritten_text}
use Rattle.plain_run.specs.declared.fault.PartFault.{PartFault}
use Rattle.plain_run.specs.declared.fault.PartFault.TheVariants as part
use Rattle.plain_run.specs.declared.fault.RunFault.{RunFault}
use Rattle.plain_run.specs.declared.fault.RunFault.TheVariants as fault

-- why the list isn't split: the name of each cause
abbrev pub cut_text : CutFault → List ℕ
cut_text cut.NoShards = codes "cut refused: NoShards"
cut_text cut.TooManyShards = codes "cut refused: TooManyShards"
cut_text cut.ShardTooLarge = codes "cut refused: ShardTooLarge"
cut_text cut.BadPlaces = codes "cut refused: BadPlaces"
cut_text cut.Memory = codes "no memory"

-- why a run failed
abbrev pub fault_text : RunFault → List ℕ
fault_text (fault.Read why) = read_text why
fault_text (fault.Cut why) = cut_text why
fault_text (fault.Rounds round) = codes "round " ++ decimal round ++ codes " is past the bound"
fault_text (fault.Missed l) =
    codes "link " ++ decimal l.low ++ codes " " ++ decimal l.high ++ codes " " ++ signed_decimal l.weight ++ codes " was missed"
fault_text fault.Memory = codes "no memory"
fault_text (fault.Write written) = unwritten_text written

-- why a file can't be joined with those before it
abbrev pub part_text : PartFault → List ℕ
part_text (part.Read why) = read_text why
part_text (part.OtherVertices vertices wanted) = decimal vertices ++ codes " vertices in place of " ++ decimal wanted
