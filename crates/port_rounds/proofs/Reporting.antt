-- How many links the shards of a cut have.
use Rattle.std.proofs.Common.{◌≡◌, ℕ, ◌+◌, ◌<◌, List, [], ◌∷◌, ◌++◌, length, get_or, take, ap, ◌∙◌, arith, length-append, append-nil}
use Rattle.std.proofs.lemmas.Grind.{flat_map-append}
use Rattle.std.proofs.lemmas.List.{take_more, take_all}
use Rattle.links.specs.declared.links.Link.{Link}
use Rattle.links.specs.Cut.{joined, links_at}

pub joined_more : (cut : List (List Link)) (i : ℕ) → i < length cut → length (joined (take (i + 1) cut)) ≡ length (joined (take i cut)) + length (links_at cut i)
joined_more cut i within =
    ap (λ (shards : List (List Link)). length (joined shards)) (take_more cut i [] within)
    ∙ (ap length (flat_map-append (λ (s : List Link). s) (take i cut) (get_or cut i [] ∷ []) ∙ ap (λ (xs : List Link). joined (take i cut) ++ xs) (append-nil (get_or cut i [])))
    ∙ length-append (joined (take i cut)) (get_or cut i []))

pub joined_all : (cut : List (List Link)) → length (joined (take (length cut) cut)) ≡ length (joined cut)
joined_all cut = ap (λ (shards : List (List Link)). length (joined shards)) (take_all (length cut) cut (omega arith))
