use Rattle.std.proofs.Common.{◌≡◌, length, inl, rules, arith}
use Rattle.std.proofs.lemmas.Result.{IfOk-weaker, IfErr-weaker, err_from_is_err_and}
use Rattle.frames.specs.FrameValue.{value_of}
use Rattle.frames.proofs.Pieces.{whole_came, whole_refused, unpassed_so_many}
use Rattle.frames.proofs.frame_reader.read_rest.Goals as goal

pub returns-in_err-read_bytes-clause-refused : goal.returns-in_err-read_bytes-clause-refused
returns-in_err-read_bytes-clause-refused g c = search (arith, err_from_is_err_and, unpassed_so_many)

pub returns-clause-came : goal.returns-clause-came
returns-clause-came g c = search (arith, whole_came)

pub returns-clause-refused : goal.returns-clause-refused
returns-clause-refused g c = search (arith, whole_refused)
