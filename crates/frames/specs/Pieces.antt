-- Bytes, and the offers of an answer, as they arrive in pieces.
use Rattle.std.specs.Prelude.{◌≡◌, ℕ, List, ◌++◌, length, All}
use Rattle.std.specs.List.{flat_map}
use Rattle.byte_streams.specs.Streams.{SourceState, Gave}
use Rattle.links.specs.Offers.{Offer}
use Rattle.frames.specs.FrameText.{offer_text}
use Rattle.frames.specs.Lawful.{IsU32}

-- this many bytes came
pub record BytesCame (count : ℕ) (before after : SourceState) : Type 0 where
  pub bytes : List ℕ
  pub counted : length bytes ≡ count
  pub gave : Gave 0 0 bytes before after

-- these bytes encode these offers, in any order of components
pub record SpellOffers (offers : List Offer) (bytes : List ℕ) : Type 0 where
  pub bytes_are : flat_map offer_text offers ≡ bytes
  pub fit : All (λ o. IsU32 o.0 × IsU32 o.1) offers

-- the offers that these bytes encode were appended
abbrev pub PushesOffers : List ℕ → List Offer → List Offer → Type 0
PushesOffers bytes before after = (more : List Offer) × (after ≡ before ++ more) × SpellOffers more bytes

-- this many bytes came, and a list took them
pub record ListCame {L : Type 0} (Heard : L → List ℕ → Type 0) (len : ℕ) (list : L) (before after : SourceState) : Type 0 where
  pub bytes : List ℕ
  pub counted : length bytes ≡ len
  pub gave : Gave 0 0 bytes before after
  pub heard : Heard list bytes
