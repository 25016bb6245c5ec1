-- An answer that is written in pieces.
use Rattle.std.proofs.Common.{◌≡◌, ℕ, ◌+◌, List, [], ◌++◌, length, take, refl, sym, ap, subst, ◌∙◌, append_assoc, arith}
use Rattle.std.specs.List.{flat_map}
use Rattle.std.proofs.Math.Seq.{take-append-add}
use Rattle.std.proofs.lemmas.List.{length-append}
use Rattle.std.proofs.lemmas.Grind.{flat_map-append}
use Rattle.byte_streams.specs.Streams.{SinkState, Took}
use Rattle.byte_streams.proofs.Streaming.{took_more}
use Rattle.links.specs.Offers.{Offer}
use Rattle.frames.specs.FrameText.{offer_text}
use Rattle.worker_engine.specs.Served.{WroteSome, CutOff}

-- a head, and the first and the other offers after it
joined : (head : List ℕ) (offers first rest : List Offer) → offers ≡ first ++ rest → (head ++ flat_map offer_text first) ++ flat_map offer_text rest ≡ head ++ flat_map offer_text offers
joined head offers first rest split = search (arith, append_assoc, flat_map-append)

-- a text was written, and then a write failed within what follows it
cut_behind : (first text : List ℕ) (s t u : SinkState) → Took 0 first s t → CutOff text t u → CutOff (first ++ text) s u
cut_behind first text s t u took cut = record {
  count = length first + cut.count;
  short = omega (arith, length-append first text, cut.short);
  took = subst (λ (bytes : List ℕ). Took 1 bytes s u) (sym (take-append-add first text cut.count)) (took_more 1 first (take cut.count text) s t u took cut.took);
}

-- the first offers were written, and then more of them
pub wrote_more : (head : List ℕ) (offers rest rest' : List Offer) (s t u : SinkState) → WroteSome head offers rest s t → WroteSome [] rest rest' t u → WroteSome head offers rest' s u
wrote_more head offers rest rest' s t u some more = record {
  first = some.first ++ more.first;
  split = some.split ∙ ap (λ (os : List Offer). some.first ++ os) more.split ∙ sym (append_assoc some.first more.first rest');
  took = subst (λ (text : List ℕ). Took 0 text s u) (joined head (some.first ++ more.first) some.first more.first refl)
      (took_more 0 (head ++ flat_map offer_text some.first) (flat_map offer_text more.first) s t u some.took more.took);
}

-- the first offers were written, and then a write failed within the others
pub wrote_then_cut : (head : List ℕ) (offers rest : List Offer) (s t u : SinkState) → WroteSome head offers rest s t → CutOff ([] ++ flat_map offer_text rest) t u
    → CutOff (head ++ flat_map offer_text offers) s u
wrote_then_cut head offers rest s t u some cut =
    subst (λ (text : List ℕ). CutOff text s u) (joined head offers some.first rest some.split)
    (cut_behind (head ++ flat_map offer_text some.first) (flat_map offer_text rest) s t u some.took cut)
