-- Links in either spelling.
use Rattle.std.proofs.Common.{◌≡◌, ℕ, ◌+◌, ◌*◌, ◌/◌, ◌%◌, ◌<◌, ◌≤◌, Bool, true, false, cond, List, [], ◌∷◌, ◌++◌, length, take, drop, refl, sym, ap, ◌∙◌, append_assoc, append-nil, arith}
use Rattle.std.specs.List.{flat_map}
use Rattle.std.proofs.lemmas.Bool.{and_parts, and_from}
use Rattle.std.proofs.lemmas.List.{length-append, length-take, take-append-drop}
use Rattle.std.proofs.lemmas.Grind.{flat_map-append}
use Rattle.links.specs.declared.links.Link.{Link}
use Rattle.frames.specs.FrameText.{are_narrow, links_text}
use Rattle.frames.specs.Refusals.{AreNoLinks, IsNoLink}
use Rattle.frames.specs.Spellings.{spelled_in, size_in, kind_in, spelling_of, FitIn, Spells}
use Rattle.frames.specs.declared.spelling.Spelling.{Spelling}
use Rattle.frames.specs.declared.spelling.Spelling.TheVariants.{Narrow, Wide}
use Rattle.frames.proofs.Texts.{parts_same, link_length, wide_link_length, items_length, narrow_text, wide_text}
use Rattle.frames.proofs.Listed.{narrow-append, no_links_behind}
use Rattle.frames.proofs.OneText.{narrow_same, wide_same}

-- ---- sizes

pub size_some : (s : Spelling) → 0 < size_in s
size_some a1 = search arith

pub spelled_length : (s : Spelling) (l : Link) → length (spelled_in s l) ≡ size_in s
spelled_length a1 a2 = search (arith, link_length, wide_link_length)

pub length_in : (s : Spelling) (links : List Link) → length (flat_map (spelled_in s) links) ≡ size_in s * length links
length_in s links = items_length (spelled_in s) (size_in s) (spelled_length s) links

-- this many bytes are those of this many links
pub counted_in : (s : Spelling) (len count : ℕ) → len ≡ size_in s * count → len / size_in s ≡ count
counted_in a1 a2 a3 a4 = search arith

fewer : (s : Spelling) (k m n : ℕ) → size_in s * k + m ≡ size_in s * n → k ≤ n
fewer a1 a2 a3 a4 a5 = search arith

-- ---- the spelling of a list

cond_narrow : (b : Bool) → cond b Narrow Wide ≡ Narrow → b ≡ true
cond_narrow a1 a2 = search arith

cond_wide : (b : Bool) → cond b Narrow Wide ≡ Wide → b ≡ false
cond_wide a1 a2 = search arith

pub fit_of : (s : Spelling) (links : List Link) → spelling_of links ≡ s → FitIn s links
fit_of a1 a2 a3 = search (arith, cond_narrow)

pub text_in : (s : Spelling) (links : List Link) → spelling_of links ≡ s → links_text links ≡ flat_map (spelled_in s) links
text_in a1 a2 a3 = search (arith, narrow_text, cond_narrow, wide_text, cond_wide)

kind_cond : (b : Bool) (s : Spelling) → cond b 2 6 ≡ kind_in s → cond b Narrow Wide ≡ s
kind_cond a1 a2 a3 = search arith

cond_kind : (b : Bool) (s : Spelling) → cond b Narrow Wide ≡ s → cond b 2 6 ≡ kind_in s
cond_kind a1 a2 a3 = search arith

pub spelling_by_kind : (s : Spelling) (links : List Link) → cond (are_narrow links) 2 6 ≡ kind_in s → spelling_of links ≡ s
spelling_by_kind s links is = kind_cond (are_narrow links) s is

pub kind_by_spelling : (s : Spelling) (links : List Link) → spelling_of links ≡ s → cond (are_narrow links) 2 6 ≡ kind_in s
kind_by_spelling s links is = cond_kind (are_narrow links) s is

-- ---- links that fit

pub fit_append : (s : Spelling) (a b : List Link) → FitIn s a → FitIn s b → FitIn s (a ++ b)
fit_append a1 a2 a3 a4 a5 = search (arith, narrow-append, and_from)

pub fit_parts : (s : Spelling) (a b : List Link) → FitIn s (a ++ b) → FitIn s a × FitIn s b
fit_parts a1 a2 a3 a4 = search (arith, and_parts, narrow-append)

-- links that fit a spelling and have one text are the same
pub spelled_same : (s : Spelling) (a b : List Link) → FitIn s a → FitIn s b → flat_map (spelled_in s) a ≡ flat_map (spelled_in s) b → a ≡ b
spelled_same a1 a2 a3 a4 a5 a6 = search (arith, narrow_same, wide_same)

-- ---- links and more links

pub spells_more : (s : Spelling) (a b : List Link) (x y : List ℕ) → Spells s a x → Spells s b y → Spells s (a ++ b) (x ++ y)
spells_more s a b x y first second = search (arith, fit_append, flat_map-append)

-- bytes of `k` links, and those after them, are split where the links are
links_split : (s : Spelling) (links : List Link) (x y : List ℕ) (k : ℕ) → length x ≡ size_in s * k → flat_map (spelled_in s) links ≡ x ++ y
    → (flat_map (spelled_in s) (take k links) ≡ x) × (flat_map (spelled_in s) (drop k links) ≡ y)
links_split s links x y k count same =
    let f = spelled_in s in
    let total : size_in s * k + length y ≡ size_in s * length links = ap (λ (n : ℕ). n + length y) (sym count) ∙ sym (length-append x y) ∙ sym (ap length same) ∙ length_in s links in
    let enough : k ≤ length links = fewer s k (length y) (length links) total in
    let taken : length (take k links) ≡ k = omega (arith, length-take k links) in
    let parted : flat_map f (take k links) ++ flat_map f (drop k links) ≡ x ++ y = sym (flat_map-append f (take k links) (drop k links)) ∙ ap (flat_map f) (take-append-drop k links) ∙ same in
    parts_same (flat_map f (take k links)) x (flat_map f (drop k links)) y (length_in s (take k links) ∙ ap (λ (n : ℕ). size_in s * n) taken ∙ sym count) parted

pub none_before : (s : Spelling) (x y : List ℕ) (k : ℕ) → length x ≡ size_in s * k → AreNoLinks (spelled_in s) x → AreNoLinks (spelled_in s) (x ++ y)
none_before s x y k count none links same = none (take k links) (links_split s links x y k count same).0

pub none_behind_them : (s : Spelling) (x y : List ℕ) (k : ℕ) → length x ≡ size_in s * k → AreNoLinks (spelled_in s) y → AreNoLinks (spelled_in s) (x ++ y)
none_behind_them s x y k count none links same = none (drop k links) (links_split s links x y k count same).1

-- ---- one link after another

pub whole_behind : (s : Spelling) (m n : ℕ) → n % size_in s ≡ 0 → m + size_in s ≡ n → m % size_in s ≡ 0
whole_behind a1 a2 a3 a4 a5 = search arith

-- a link that was appended to those of the bytes before its own
pub pushed_one : (s : Spelling) (new old before more : List Link) (link : Link) (bytes rest first behind : List ℕ)
    → new ≡ old ++ link ∷ [] → old ≡ before ++ more → flat_map (spelled_in s) more ++ rest ≡ bytes → FitIn s more
    → first ≡ take (size_in s) rest → behind ≡ drop (size_in s) rest → spelled_in s link ≡ first → FitIn s (link ∷ [])
    → (new ≡ before ++ (more ++ link ∷ [])) × (flat_map (spelled_in s) (more ++ link ∷ []) ++ behind ≡ bytes) × FitIn s (more ++ link ∷ [])
pushed_one s new old before more link bytes rest first behind pushed so_far read fits front back spelled fit = search (arith, take-append-drop, append_assoc, flat_map-append, append-nil, fit_append)

pub no_link_behind : (s : Spelling) (more : List Link) (bytes rest first behind : List ℕ) → flat_map (spelled_in s) more ++ rest ≡ bytes
    → first ≡ take (size_in s) rest → behind ≡ drop (size_in s) rest
    → length first ≡ size_in s → IsNoLink (spelled_in s) first → AreNoLinks (spelled_in s) bytes
no_link_behind s more bytes rest first behind = no_links_behind (spelled_in s) (size_in s) (size_some s) (spelled_length s) more bytes rest first behind
