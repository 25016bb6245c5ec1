-- One bit per shard: what writing one bit does to all bits.
use Rattle.std.proofs.Common.{◌≡◌, ◌≢◌, ℕ, ◌*◌, ◌/◌, ◌%◌, ◌^◌, ◌-◌, ◌<◌, ◌≤◌, ◌==◌, ◌&&◌, ◌||◌, not, false, List, length, set, get_or, replicate, bit_or, bit_and, refl, ap, ◌∙◌, ⊎_elim}
use Rattle.std.proofs.Common.{arith, w64, eq-eqb, ne_eqb, get_or-set_same, get_or-set_other}
use Rattle.std.specs.Int.{bit_at}
use Rattle.std.proofs.lemmas.Bool.{cases_eq, cases_lt}
use Rattle.std.proofs.lemmas.List.{get_or-replicate, get_or_past, length-replicate}
use Rattle.std.proofs.lemmas.Nat.Bits.{bit_at-zero, bit_at_set_same, bit_at_set_other, bit_at_clear_same, bit_at_clear_other}
use Rattle.claim_board.specs.Shards.{has_shard}

zeros : (n k : ℕ) → get_or {A = ℕ} (replicate n 0) k 0 ≡ 0
zeros n k = ⊎_elim (λ (h : k < n). get_or-replicate {A = ℕ} n k 0 0 h) (λ (h : n ≤ k). get_or_past {X = ℕ} (replicate n 0) k 0 (rw (length-replicate {A = ℕ}) h)) (cases_lt k n)

pub has-empty : (shard : ℕ) → has_shard (replicate 64 0) shard ≡ false
has-empty shard = ap (λ word. bit_at word (shard % 64) == 1) (zeros 64 (shard / 64)) ∙ ap (λ bit. bit == 1) (bit_at-zero (shard % 64))

-- the word with the shard's bit set, and the word with it cleared
abbrev pub word_with : ℕ → ℕ → ℕ
word_with word shard = bit_or word (1 * 2 ^ (shard % 64) % 18446744073709551616)

abbrev pub word_without : ℕ → ℕ → ℕ
word_without word shard = bit_and word (18446744073709551615 - 1 * 2 ^ (shard % 64) % 18446744073709551616)

module _ (bits : List ℕ) (shard s : ℕ) (len : length bits ≡ 64) (below : shard < 4096) where
  within : shard / 64 < length bits
  within = omega arith

  small : (k : ℕ) → k % 64 < 64
  small k = omega arith

  -- two shards in the same word have different bits
  other_bit : s ≢ shard → s / 64 ≡ shard / 64 → s % 64 ≢ shard % 64
  other_bit apart same bit = apart (omega arith)

  pub has-insert : has_shard (set bits (shard / 64) (word_with (get_or bits (shard / 64) 0) shard)) s ≡ (s == shard || has_shard bits s)
  has-insert =
      let word = get_or bits (shard / 64) 0 in
      let new = word_with word shard in
      ⊎_elim
      (λ (e : s ≡ shard). rw (e, get_or-set_same bits (shard / 64) new 0 within, bit_at_set_same w64 word (shard % 64) (small shard), eq-eqb shard shard refl) refl)
      (λ (apart : s ≢ shard).
      rw (ne_eqb s shard apart)
      (⊎_elim
      (λ (e : s / 64 ≡ shard / 64). rw (e, get_or-set_same bits (shard / 64) new 0 within, bit_at_set_other w64 word (shard % 64) (small shard) (s % 64) (other_bit apart e)) refl)
      (λ (far : s / 64 ≢ shard / 64). rw (get_or-set_other bits (shard / 64) (s / 64) new 0 far) refl)
      (cases_eq (s / 64) (shard / 64))))
      (cases_eq s shard)

  pub has-remove : has_shard (set bits (shard / 64) (word_without (get_or bits (shard / 64) 0) shard)) s ≡ (not (s == shard) && has_shard bits s)
  has-remove =
      let word = get_or bits (shard / 64) 0 in
      let new = word_without word shard in
      ⊎_elim
      (λ (e : s ≡ shard). rw (e, get_or-set_same bits (shard / 64) new 0 within, bit_at_clear_same w64 word (shard % 64) (small shard), eq-eqb shard shard refl) refl)
      (λ (apart : s ≢ shard).
      rw (ne_eqb s shard apart)
      (⊎_elim
      (λ (e : s / 64 ≡ shard / 64). rw (e, get_or-set_same bits (shard / 64) new 0 within, bit_at_clear_other w64 word (shard % 64) (small shard) (s % 64) (small s) (other_bit apart e)) refl)
      (λ (far : s / 64 ≢ shard / 64). rw (get_or-set_other bits (shard / 64) (s / 64) new 0 far) refl)
      (cases_eq (s / 64) (shard / 64))))
      (cases_eq s shard)
