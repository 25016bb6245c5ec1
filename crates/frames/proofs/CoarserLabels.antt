-- Labels of an ask that coarsen those of the last one, one piece at a time.
use Rattle.std.proofs.Common.{◌≡◌, ℕ, ◌+◌, ◌*◌, ◌-◌, ◌/◌, ◌≤◌, List, ◌++◌, length, take, drop, Bool, Option, Some, None, Vec, refl, sym, ap, subst, ◌∙◌, arith}
use Rattle.std.specs.Prelude.{◌≢◌, ◌↔◌, IsTrue, IfSome, IfNone}
use Rattle.std.specs.List.{flat_map}
use Rattle.std.proofs.Math.ListN.{get_or-append}
use Rattle.std.proofs.lemmas.List.{length-append, length-take-le, take-append-drop, take_all}
use Rattle.links.specs.Labels.{label_of, IsLabelled, AreLabels, Coarsens}
use Rattle.byte_streams.specs.Streams.{SourceState}
use Rattle.frames.specs.FrameValue.{FrameValue, AskFrame}
use Rattle.frames.specs.FrameText.{u32_text, kind_of, body_of}
use Rattle.frames.specs.NextFrame.{AreCoarserUpTo, AreOthers, HearsMore, numbers_of_ask, BodyCame}
use Rattle.frames.proofs.Texts.{u32_length, three_length, items_length}
use Rattle.frames.proofs.NextFrames.{bytes_of}

-- the label of one of the first vertices, whatever follows them
label_front : (front more : List ℕ) (v : ℕ) → 1 ≤ v → v ≤ length front → label_of (front ++ more) v ≡ label_of front v
label_front front more v one to = get_or-append front more 0 (v - 1) (omega arith)

labelled_front : (front more : List ℕ) (v : ℕ) → 1 ≤ v → v ≤ length front → IsLabelled front v → IsLabelled (front ++ more) v
labelled_front front more v one to is = search (arith, label_front)

labelled_back : (front more : List ℕ) (v : ℕ) → 1 ≤ v → v ≤ length front → IsLabelled (front ++ more) v → IsLabelled front v
labelled_back front more v one to is = search (arith, label_front)

-- `k` numbers came, after `came` others
pub record CameMore {A : Type 0} (last : List ℕ) (came k : ℕ) (before after : Option (Vec ℕ A)) (more : List ℕ) : Type 0 where
  pub within : came + k ≤ length last
  pub counted : length (numbers_of_ask (take came last) before) ≡ came
  pub long : length (numbers_of_ask (take (came + k) last) after) ≡ came + k
  pub is : numbers_of_ask (take (came + k) last) after ≡ numbers_of_ask (take came last) before ++ more

-- those that the bytes encode
pub came_more : {A : Type 0} (last : List ℕ) (came k : ℕ) (piece : List ℕ) (before after : Option (Vec ℕ A)) → length piece ≡ 4 * k → came + k ≤ length last
    → length (numbers_of_ask (take came last) before) ≡ came → (heard : HearsMore last came piece before after) → CameMore last came k before after heard.more
came_more last came k piece before after count within counted heard = search (arith, length-append, bytes_of)

module _ (last : List ℕ) (are : AreLabels last) where
  pub same_coarser : (to : ℕ) → to ≤ length last → AreCoarserUpTo last last to
  same_coarser to within = search arith

  -- numbers that are followed by more
  pub coarser_on : (front more : List ℕ) → length front ≤ length last → AreCoarserUpTo last front (length front) → AreCoarserUpTo last (front ++ more) (length front)
  coarser_on front more within is = record {
    labelled = λ v one most. labelled_front front more v one most (is.labelled v one most);
    coarser = λ v one most.
        let finer = are.labelled v one (omega arith) in
        label_front front more v one most ∙ is.coarser v one most ∙ sym (label_front front more (label_of last v) finer.from_one (omega (arith, finer.at_most_itself)));
  }

  pub coarser_off : (front more : List ℕ) → length front ≤ length last → AreCoarserUpTo last (front ++ more) (length front) → AreCoarserUpTo last front (length front)
  coarser_off front more within is = record {
    labelled = λ v one most. labelled_back front more v one most (is.labelled v one most);
    coarser = λ v one most.
        let finer = are.labelled v one (omega arith) in
        sym (label_front front more v one most) ∙ is.coarser v one most ∙ label_front front more (label_of last v) finer.from_one (omega (arith, finer.at_most_itself));
  }

  pub coarser_of : (numbers : List ℕ) → AreLabels numbers → Coarsens numbers last → AreCoarserUpTo last numbers (length last)
  coarser_of numbers labels coarsens = search arith

  -- labels that don't coarsen them, as was checked
  pub others_dont : (numbers : List ℕ) → AreLabels numbers → (AreCoarserUpTo last numbers (length last) → ⊥) → (rd sh r s : ℕ) (labels : List ℕ)
      → AskFrame rd sh numbers ≡ AskFrame r s labels → ¬ Coarsens labels last
  others_dont numbers of never rd sh r s labels is coarsens = search (arith, coarser_of)

  same_front : (to : ℕ) → to ≤ length last → AreCoarserUpTo last (take to last) to
  same_front to within =
      let long : length (take to last) ≡ to = length-take-le to last within in
      subst (λ (n : ℕ). AreCoarserUpTo last (take to last) n) long
      (coarser_off (take to last) (drop to last) (omega (arith, long, within))
      (subst (λ (ns : List ℕ). AreCoarserUpTo last ns (length (take to last))) (sym (take-append-drop to last)) (same_coarser (length (take to last)) (omega (arith, long, within)))))

  -- the numbers that came so far, and `k` more
  module _ {A : Type 0} (before after : Option (Vec ℕ A)) (came k : ℕ) (more : List ℕ) (heard : CameMore last came k before after more) where
    pub others_within : IfSome after (λ list. (came ≤ length list.items) × (length list.items ≤ length last))
    others_within = search arith

    pub others_so_far : AreCoarserUpTo last (numbers_of_ask (take came last) before) came → IfSome after (λ list. AreCoarserUpTo last list.items came)
    others_so_far so = search (arith, coarser_on)

    pub stayed : (b : Bool) → IfSome after (λ list. IsTrue b ↔ AreCoarserUpTo last list.items (length list.items)) → IfNone after (IsTrue b)
        → IsTrue b ↔ AreCoarserUpTo last (numbers_of_ask (take (came + k) last) after) (came + k)
    stayed b = search (arith, same_front)

    pub not_again : (AreCoarserUpTo last (numbers_of_ask (take came last) before) came → ⊥) → AreCoarserUpTo last (numbers_of_ask (take (came + k) last) after) (came + k) → ⊥
    not_again never all =
        never (subst (λ (n : ℕ). AreCoarserUpTo last (numbers_of_ask (take came last) before) n) heard.counted
        (coarser_off (numbers_of_ask (take came last) before) more (omega (arith, heard.counted, heard.within))
        (up_to (numbers_of_ask (take came last) before ++ more) (came + k) (length (numbers_of_ask (take came last) before)) (omega (arith, heard.counted))
        (subst (λ (ns : List ℕ). AreCoarserUpTo last ns (came + k)) heard.is all))))
      where
        up_to : (ns : List ℕ) (n m : ℕ) → m ≤ n → AreCoarserUpTo last ns n → AreCoarserUpTo last ns m
        up_to ns n m le are = record { labelled = λ v one most. are.labelled v one (omega arith); coarser = λ v one most. are.coarser v one (omega arith) }

-- the numbers of an ask after all came
pub all_of_ask : {A : Type 0} (last : List ℕ) (came : ℕ) (numbers : Option (Vec ℕ A)) → length last ≤ came → numbers_of_ask (take came last) numbers ≡ numbers_of_ask last numbers
all_of_ask a1 a2 a3 a4 = search (arith, take_all)

-- and they differ from the last ones
pub all_others : {A : Type 0} (last : List ℕ) (came : ℕ) (numbers : Option (Vec ℕ A)) → length last ≤ came → AreOthers last came numbers → IfSome numbers (λ list. list.items ≢ last)
all_others a1 a2 a3 a4 a5 = search (arith, take_all)

-- a frame of another length asks with another number of labels
pub other_length : (v : FrameValue) (kind len : ℕ) (s t : SourceState) (last : List ℕ) → BodyCame v kind len s t → (kind ≡ 3 → len ≡ 12 + 4 * length last → ⊥)
    → (r sh : ℕ) (labels : List ℕ) → v ≡ AskFrame r sh labels → ¬ Coarsens labels last
other_length v kind len s t last came never r sh labels is coarsens = search (arith, three_length, items_length, u32_length)
