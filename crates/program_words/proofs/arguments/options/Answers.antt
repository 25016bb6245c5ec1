use Rattle.std.proofs.Common.{map, ap, length, ◌∙◌, ◌≡◌, arith}
use Rattle.program_words.specs.Arguments.{kinds_of}
use Rattle.program_words.proofs.WordMeanings.{refused_first, told_is, refused_together, not_memory}
use Rattle.program_words.proofs.arguments.options.Goals as goal

pub returns-in-Err-clause-refused : goal.returns-in-Err-clause-refused
returns-in-Err-clause-refused g c = refused_first (map g.S.AsStr.text c.args.words.now) c.in-Err.fault c.in-Err.ensures.refused

pub returns-in-Some-clause-refused : goal.returns-in-Some-clause-refused
returns-in-Some-clause-refused g c =
    let long : c.len.result ≡ length c.in-Ok.found.0.files.items = omega (arith, c.len.ensures, c.in-Ok.found.0.files.ok.0) in
    refused_together (map g.S.AsStr.text c.args.words.now) c.in-Some.kind _
    (told_is (map g.S.AsStr.text c.args.words.now) c.in-Ok.found.0 _ _ c.told_together.result c.in-Ok.ensures.lawful c.in-Ok.ensures.names_threads
    c.in-Ok.ensures.files c.in-Ok.ensures.plain long c.told_together.ensures.kinds
    ∙ ap kinds_of c.in-Some.is)
    c.wrong_words.ensures

pub returns-in-Some-clause-memory : goal.returns-in-Some-clause-memory
returns-in-Some-clause-memory g c = not_memory c.in-Some.kind _ c.in-Some.ensures.memory c.wrong_words.ensures

pub returns-in-None-clause-lawful : goal.returns-in-None-clause-lawful
returns-in-None-clause-lawful g c =
    let long : c.len.result ≡ length c.in-Ok.found.0.files.items = omega (arith, c.len.ensures, c.in-Ok.found.0.files.ok.0) in
    told_is (map g.S.AsStr.text c.args.words.now) c.in-Ok.found.0 _ _ c.told_together.result c.in-Ok.ensures.lawful c.in-Ok.ensures.names_threads
    c.in-Ok.ensures.files c.in-Ok.ensures.plain long c.told_together.ensures.kinds
    ∙ ap kinds_of c.in-None.is
