-- A text is what was written: the head, and then the fields one after the other.
use Rattle.std.proofs.Common.{◌≡◌, ℕ, ◌+◌, ◌*◌, ◌≤◌, List, ◌∷◌, ◌++◌, length, take, append_assoc, sym, ap, ◌∙◌, arith}
use Rattle.std.specs.List.{flat_map}
use Rattle.std.proofs.lemmas.List.{length-append, take_all, take_at}
use Rattle.links.specs.declared.links.Link.{Link}
use Rattle.links.specs.AnswerValue.{AnswerValue}
use Rattle.frames.specs.FrameValue.{ShardFrame, AskFrame, AnswerFrame}
use Rattle.frames.specs.FrameText.{u32_text, offer_text, body_of, text_of}
use Rattle.frames.specs.Spellings.{spelled_in, size_in, kind_in, spelling_of}
use Rattle.frames.specs.declared.spelling.Spelling.{Spelling}
use Rattle.frames.proofs.Texts.{u32_length, offer_length, items_length}
use Rattle.frames.proofs.Spelled.{length_in, text_in, kind_by_spelling}

two_fields : (kind len a b : ℕ) (list : List ℕ) → len ≡ 8 + length list
    → (((kind ∷ u32_text len) ++ u32_text a) ++ u32_text b) ++ list ≡ kind ∷ (u32_text (length (u32_text a ++ (u32_text b ++ list))) ++ (u32_text a ++ (u32_text b ++ list)))
unfolding u32_text
two_fields kind len a b list long = ap (λ (n : ℕ). kind ∷ (u32_text n ++ (u32_text a ++ (u32_text b ++ list)))) (omega (arith, long))

three_fields : (kind len a b c : ℕ) (list : List ℕ) → len ≡ 12 + length list
    → ((((kind ∷ u32_text len) ++ u32_text a) ++ u32_text b) ++ u32_text c) ++ list
    ≡ kind ∷ (u32_text (length (u32_text a ++ (u32_text b ++ (u32_text c ++ list)))) ++ (u32_text a ++ (u32_text b ++ (u32_text c ++ list))))
unfolding u32_text
three_fields kind len a b c list long = ap (λ (n : ℕ). kind ∷ (u32_text n ++ (u32_text a ++ (u32_text b ++ (u32_text c ++ list))))) (omega (arith, long))

pub shard_written : (s : Spelling) (number len : ℕ) (links : List Link) → spelling_of links ≡ s → len ≡ 8 + size_in s * length links
    → (((kind_in s ∷ u32_text len) ++ u32_text number) ++ u32_text (length links)) ++ flat_map (spelled_in s) links ≡ text_of (ShardFrame number links)
shard_written s number len links spelling long =
    let a : List ℕ = u32_text number in
    let b : List ℕ = u32_text (length links) in
    two_fields (kind_in s) len number (length links) (flat_map (spelled_in s) links) (long ∙ ap (λ (n : ℕ). 8 + n) (sym (length_in s links)))
    ∙ ap (λ (t : List ℕ). kind_in s ∷ (u32_text (length (a ++ (b ++ t))) ++ (a ++ (b ++ t)))) (sym (text_in s links spelling))
    ∙ ap (λ (k : ℕ). k ∷ (u32_text (length (body_of (ShardFrame number links))) ++ body_of (ShardFrame number links))) (sym (kind_by_spelling s links spelling))

pub ask_written : (round shard count : ℕ) (labels : List ℕ) → count ≡ length labels
    → ((((3 ∷ u32_text (12 + 4 * count)) ++ u32_text round) ++ u32_text shard) ++ u32_text count) ++ flat_map u32_text labels ≡ text_of (AskFrame round shard labels)
ask_written round shard count labels counted =
    rw counted (three_fields 3 (12 + 4 * length labels) round shard (length labels) (flat_map u32_text labels) (omega (arith, items_length u32_text 4 u32_length labels)))

pub answer_written : (a : AnswerValue) (count : ℕ) → count ≡ length a.offers
    → ((((4 ∷ u32_text (12 + 8 * count)) ++ u32_text a.round) ++ u32_text a.shard) ++ u32_text count) ++ flat_map offer_text a.offers ≡ text_of (AnswerFrame a)
answer_written a count counted =
    rw counted (three_fields 4 (12 + 8 * length a.offers) a.round a.shard (length a.offers) (flat_map offer_text a.offers) (omega (arith, items_length offer_text 8 offer_length a.offers)))

-- a list that is written over the bytes after a head
pub put_behind : (m : ℕ) (head text fill now put post rest : List ℕ) (room len : ℕ) → length head ≡ m → text ≡ head → now ≡ take room text ++ fill → m ≤ room → len ≡ m + length put
    → take len ((take m now ++ (put ++ post)) ++ rest) ≡ head ++ put
put_behind m head text fill now put post rest room len long same is wide counted =
    let whole : take room text ≡ head = take_all room text (omega (arith, ap length same, long, wide)) ∙ same in
    let begun : take m now ≡ head = ap (take m) (is ∙ ap (λ (t : List ℕ). t ++ fill) whole) ∙ take_at head fill m long in
    ap (take len) (append_assoc (take m now) (put ++ post) rest ∙ ap (λ (t : List ℕ). take m now ++ t) (append_assoc put post rest)
    ∙ sym (append_assoc (take m now) put (post ++ rest)))
    ∙ take_at (take m now ++ put) (post ++ rest) len (omega (arith, length-append (take m now) put, ap length begun, long, counted))
    ∙ ap (λ (t : List ℕ). t ++ put) begun
