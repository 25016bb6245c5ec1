-- The text of a report.
use Rattle.std.specs.Prelude.{ℕ, List, ◌++◌, codes, decimal}
use Rattle.std.specs.Fmt.{signed_decimal}
use Rattle.plain_run.specs.declared.report.Report.{Report}

-- its nine numbers in this order, each after its name, separated by spaces
abbrev pub report_text : Report → List ℕ
report_text r =
    codes "vertices=" ++ decimal r.vertices ++ codes " links=" ++ decimal r.links
    ++ codes " rounds=" ++ decimal r.rounds ++ codes " shards=" ++ decimal r.shards
    ++ codes " asked=" ++ decimal r.asked ++ codes " answered=" ++ decimal r.answered
    ++ codes " alone=" ++ decimal r.alone ++ codes " closed=" ++ decimal r.closed
    ++ codes " total=" ++ signed_decimal r.total
