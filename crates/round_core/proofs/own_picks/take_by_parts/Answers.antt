use Rattle.std.proofs.Common.{◌+◌, sym, ◌∙◌, subst, inl, inr, zero-add}
use Rattle.round_core.specs.PickNumbers.{IsKeyNumber}
use Rattle.round_core.specs.OwnPicks.{IsOfferedIn}
use Rattle.round_core.proofs.own_picks.take_by_parts.Goals as goal

pub returns : goal.returns
returns g c = λ i lt.
    let offered = IsOfferedIn c.args.cut.now c.args.answers.now in
    let here = (c.for_each_chunk_mut.ensures.by_index i 0 lt).1 in
    elim (here.call here.offset here.offset_in_chunk) [
      | inl stayed ↦ inl (sym here.new_element ∙ stayed ∙ here.old_element)
      | inr (l, is, key) ↦ inr (l, subst (λ k. offered (k + 1) l) (here.start_plus_offset ∙ sym (zero-add i)) is, subst (IsKeyNumber l) here.new_element key)
    ]
