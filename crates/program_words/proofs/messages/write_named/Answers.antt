use Rattle.std.proofs.Common.{◌≡◌, ℕ, List, ◌++◌, length, take, drop, sym, ap, ◌∙◌, subst, append_assoc, map-id}
use Rattle.std.specs.List.{flat_map}
use Rattle.std.specs.Str.{chars}
use Rattle.std.proofs.lemmas.Iterator.{YieldsList-from_chars}
use Rattle.std.proofs.lemmas.Iterator.Consumers.{YieldsList-so_far, YieldsList-end}
use Rattle.std.proofs.lemmas.List.{flat_map_more, take-append-drop}
use Rattle.std.proofs.lemmas.List.Concat.{flat_map-append}
use Rattle.program_words.specs.Messages.{IsWritten, IsPartWritten, escaped_char}
use Rattle.program_words.proofs.Writing.{part_then, part_hindered, part_more}
use Rattle.program_words.proofs.messages.write_named.Goals as goal

-- a line that is written up to some character, and the rest of it
line_split : (front end done cs : List ℕ) (n : ℕ) → done ≡ take n cs
    → (front ++ flat_map escaped_char done) ++ (flat_map escaped_char (drop n cs) ++ end) ≡ front ++ (flat_map escaped_char cs ++ end)
line_split front end done cs n is =
    let all : flat_map escaped_char done ++ flat_map escaped_char (drop n cs) ≡ flat_map escaped_char cs =
    sym (flat_map-append escaped_char done (drop n cs))
    ∙ ap (λ (t : List ℕ). flat_map escaped_char t) (ap (λ (t : List ℕ). t ++ drop n cs) is ∙ take-append-drop n cs) in
    append_assoc front (flat_map escaped_char done) (flat_map escaped_char (drop n cs) ++ end)
    ∙ ap (λ (t : List ℕ). front ++ t) (sym (append_assoc (flat_map escaped_char done) (flat_map escaped_char (drop n cs)) end) ∙ ap (λ (t : List ℕ). t ++ end) all)

pub loop-c-preserved : goal.loop-c-preserved
loop-c-preserved g c = record {
  went = subst (λ (t : List ℕ). IsPartWritten t c.push_or_write.new.line.bytes (g.S.Sink.state c.args.sink.now) (g.S.Sink.state c.push_or_write.new.sink))
      (flat_map_more escaped_char c.args.front.now c.loop-c.yielded c.in-Some.c)
      (part_more _ _ _ _ _ _ _ c.loop-c.invariant.went c.in-Ok.ensures.went);
  room = c.in-Ok.ensures.room;
  can = c.in-Ok.ensures.again;
}

pub returns-in-Err : goal.returns-in-Err
returns-in-Err g c =
    let cs = chars c.args.name.now in
    let n = length c.loop-c.yielded in
    let so_far = YieldsList-so_far (YieldsList-from_chars c.args.name.now c.utf8.name cc) c.loop-c.yielded _ c.loop-c.yielded_by in
    subst (λ (t : List ℕ). IsWritten t (g.S.Sink.state c.args.sink.now) (g.S.Sink.state c.push_or_write.new.sink))
    (line_split c.args.front.now c.args.end.now c.loop-c.yielded cs n (sym (map-id c.loop-c.yielded) ∙ so_far))
    (part_hindered _ _ (flat_map escaped_char (drop n cs) ++ c.args.end.now) _ _ _ _ c.loop-c.invariant.went c.in-Err.ensures.part)

pub returns : goal.returns
returns g c =
    let done = YieldsList-end (YieldsList-from_chars c.args.name.now c.utf8.name cc) c.loop-c.yielded _ c.loop-c.yielded_by _ _ c.in-None.is c.next.ensures.steps in
    let all : c.loop-c.yielded ≡ chars c.args.name.now = sym (map-id c.loop-c.yielded) ∙ done.0 in
    let last : IsWritten (c.loop-c.line.bytes ++ c.args.end.now) (g.S.Sink.state c.loop-c.sink) (g.S.Sink.state c.write_text.new.sink) =
    subst (λ (t : List ℕ). IsWritten t (g.S.Sink.state c.loop-c.sink) (g.S.Sink.state c.write_text.new.sink))
    (c.as_bytes.ensures.value ∙ (c.as_str.ensures.value ∙ c.push_str-2.ensures.bytes)) c.write_text.ensures in
    subst (λ (t : List ℕ). IsWritten t (g.S.Sink.state c.args.sink.now) (g.S.Sink.state c.write_text.new.sink))
    (ap (λ (cs : List ℕ). (c.args.front.now ++ flat_map escaped_char cs) ++ c.args.end.now) all
    ∙ append_assoc c.args.front.now (flat_map escaped_char (chars c.args.name.now)) c.args.end.now)
    (part_then _ _ c.args.end.now _ _ _ c.loop-c.invariant.went last)
