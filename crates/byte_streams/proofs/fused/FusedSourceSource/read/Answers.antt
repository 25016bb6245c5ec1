use Rattle.std.proofs.Common.{rules, ◌≡◌, ◌≢◌, ℕ, ◌+◌, ◌-◌, ◌≤◌, List, ◌++◌, length, take, drop, sym, ap, ◌∙◌, arith, length-drop, length-take-le, take_all}
use Rattle.std.proofs.Math.Seq.{take-add}
use Rattle.std.proofs.lemmas.List.{drop-drop, take-append-le, take_rest}
use Rattle.std.proofs.lemmas.List.Folds.{drop_split}
use Rattle.std.proofs.lemmas.Grind.{common_steps}
use Rattle.byte_streams.specs.FusedSource.{FusedSourceState, given_to, after_read}
use Rattle.byte_streams.proofs.fused.FusedSourceSource.read.Goals as goal

-- what was copied from `all[at..]` to the beginning of a buffer
copied_there : (all part tail : List ℕ) (at n : ℕ) → at + n ≤ length all
    → part ≡ take n (take (length all - at) (drop at all)) → take n (part ++ tail) ≡ take n (drop at all)
copied_there all part tail at n within copied =
    let copy : part ≡ take n (drop at all) = copied ∙ ap (take n) (take_rest all at) in
    let fits : n ≤ length (drop at all) = omega (arith, length-drop at all) in
    let len : length part ≡ n = ap length copy ∙ length-take-le n (drop at all) fits in
    take-append-le n part tail (omega arith) ∙ take_all n part (omega arith) ∙ copy

-- what is left after it
left_behind : (all : List ℕ) (at n : ℕ) → at + n ≤ length all → drop at all ≡ take n (drop at all) ++ drop (at + n) all
left_behind all at n within =
    let amount : at + n - at ≡ n = omega arith in
    drop_split all at (at + n) (omega arith) ∙ ap (λ m. take m (drop at all) ++ drop (at + n) all) amount

-- the source after it gave n of the bytes that are left
after_some : (s : FusedSourceState) (room n : ℕ) (given rest : List ℕ) → s.budget ≢ 0 → n ≡ given_to s room → n ≢ 0
    → given ≡ s.given ++ take n s.rest → rest ≡ drop n s.rest
    → record s { given = given; rest = rest; budget = s.budget - n } ≡ after_read s room
after_some s room n given rest can is some grown left = search rules

pub returns-clause-gave : goal.returns-clause-gave
returns-clause-gave g c =
    let all = c.self.inside.bytes.items in
    let at = c.self.inside.given in
    let n = c.min-n.result in
    let within : at + n ≤ length all = search rules in
    let copied : c.copy_from_slice.new.self ≡ take n (take (length all - at) (drop at all)) = rw c.deref.ensures.value at c.copy_from_slice.ensures.after in
    let came = copied_there all c.copy_from_slice.new.self (drop n c.args.buf.now) at n within copied in
    let rest : c.args.self.now.rest ≡ drop at all = search rules in
    let given : c.args.self.now.given ≡ take at all = search rules in (
      λ some. record {
        left = rest ∙ left_behind all at n within ∙ ap (λ l. l ++ drop (at + n) all) (sym came);
        given = λ _. take-add at n all ∙ ap (λ l. l ++ take n (drop at all)) (sym given) ∙ ap (λ l. c.args.self.now.given ++ l) (sym came);
        failures = search rules;
        ends = search rules;
        at_end = λ ended. absurd (omega arith);
      },
      λ none. absurd (c.if-n-eq0.false none),
    )

pub returns-clause-after : goal.returns-clause-after
returns-clause-after g c =
    let all = c.self.inside.bytes.items in
    let at = c.self.inside.given in
    let n = c.min-n.result in
    let room : ℕ = length c.args.buf.now in
    let s : FusedSourceState = record {
      given = take at all;
      rest = drop at all;
      budget = c.self.inside.budget;
      piece = c.self.inside.piece;
      failures = c.self.inside.failures;
      ends = c.self.inside.ends;
    } in
    let view : c.args.self.now ≡ s = search rules in
    let is : n ≡ given_to s room = grind (arith, common_steps) in
    let can : s.budget ≢ 0 = search rules in
    let some : n ≢ 0 = search rules in
    let left : drop (at + n) all ≡ drop n (drop at all) = sym (drop-drop n at all) in
    rw view (after_some s room n (take (at + n) all) (drop (at + n) all) can is some (take-add at n all) left)
