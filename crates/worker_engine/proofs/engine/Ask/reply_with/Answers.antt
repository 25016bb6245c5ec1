use Rattle.std.proofs.Common.{refl, arith}
use Rattle.worker_replies.proofs.Offering.{light_answer_is_lawful}
use Rattle.worker_engine.proofs.engine.Ask.reply_with.Goals as goal

pub returns-in-Some : goal.returns-in-Some
returns-in-Some g c = λ links labels few ask are.
    let offered = rw c.in-Some.is at are in (
      record { round_is = refl; shard_is = refl; ends = offered.0; light = offered.1 },
      light_answer_is_lawful links labels _ few ask.labels offered.0 ask.round (omega (arith, ask.shard)) offered.1,
    )
