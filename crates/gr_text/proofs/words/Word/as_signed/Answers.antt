use Rattle.std.proofs.Common.{pos, neg_ℤ, subst, inl, inr, refl, rules}
use Rattle.gr_text.specs.Word.{WordMeans}
use Rattle.gr_text.specs.declared.words.Word.{Word}
use Rattle.gr_text.proofs.FieldBytes.{kept_as_number, kept_as_negative}
use Rattle.gr_text.proofs.words.Word.as_signed.Goals as goal

pub returns-in-Number : goal.returns-in-Number
returns-in-Number c = λ field means.
    let (n, writes, capped) = subst (λ (w : Word). WordMeans w field) c.in-Number.is means in
    (pos n, inl (n, writes, refl), (n, refl, capped))

pub returns-in-Negative : goal.returns-in-Negative
returns-in-Negative c = λ field means.
    let (digits, n, is, writes, capped) = subst (λ (w : Word). WordMeans w field) c.in-Negative.is means in
    (neg_ℤ (pos n), inr (digits, n, is, writes, refl), (n, refl, capped))

pub returns-in-Empty : goal.returns-in-Empty
returns-in-Empty c = λ field means z writes.
    let other = c.in-Empty.is in
    elim writes [
      | inl (n, writes, is) ↦
          let kept = kept_as_number c.args.self field n means writes in
          let same = kept.1 in
          search rules
      | inr (digits, n, is, writes, signed) ↦
          let kept = kept_as_negative c.args.self field digits n means is writes in
          let same = kept.1 in
          search rules
    ]
