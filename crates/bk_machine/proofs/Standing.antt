-- Code in the text: parts of it, and its words.
use Rattle.std.proofs.Common.{◌≡◌, ℕ, zero, suc, ◌+◌, ◌-◌, ◌*◌, ◌/◌, ◌%◌, List, [], ◌∷◌, ◌++◌, length, drop, ap, ◌∙◌, subst, refl, arith, Option, Some, None, Bool, true, false, cond}
use Rattle.std.specs.Prelude.{slice_get, ◌==◌, nat_le, ◌&&◌}
use Rattle.std.proofs.lemmas.Bool.Decides.{nat_tests}
use Rattle.bk_num.specs.Addresses.{text_base, halt}
use Rattle.bk_machine.specs.Texts.{decoded, fetch, HasAt, Begins}

pub guard : {A : Type 0} (b : Bool) (x : Option A) (i : A) → cond b x None ≡ Some i → b ≡ true
guard true x i h = refl
guard false x i h = cc

-- the text and the return address that halts are apart
pub apart : (pc : ℕ) → nat_le text_base pc && pc % 4 == 0 ≡ true → (pc == halt) ≡ false
apart pc h = grind (arith, nat_tests)

get_drop : (text : List ℕ) (k w : ℕ) (ws : List ℕ) → drop k text ≡ w ∷ ws → (slice_get text k ≡ Some w) × (drop (suc k) text ≡ ws)
get_drop [] zero w ws h = cc
get_drop [] (suc k) w ws h = cc
get_drop (x ∷ text) zero w ws h = (let q = h in cc, let q = h in cc)
get_drop (x ∷ text) (suc k) w ws h = get_drop text k w ws h

module _ {I : Type 0} (decoding : ℕ → Option I) where
  -- where an instruction is fetched, the machine has not returned
  pub not_halted : (text : List ℕ) (pc : ℕ) (i : I) → fetch decoding text pc ≡ Some i → (pc == halt) ≡ false
  not_halted text pc i h = apart pc (guard (nat_le text_base pc && pc % 4 == 0) (decoded decoding (slice_get text ((pc - text_base) / 4))) i h)

  pub has_front : (a b : List I) (text : List ℕ) (pc : ℕ) → HasAt decoding text pc (a ++ b) → HasAt decoding text pc a
  has_front [] b text pc h = tt
  has_front (i ∷ a) b text pc h = (h.0, has_front a b text (pc + 4) h.1)

  pub has_back : (a b : List I) (text : List ℕ) (pc : ℕ) → HasAt decoding text pc (a ++ b) → HasAt decoding text (pc + 4 * length a) b
  has_back [] b text pc h = let e : pc ≡ pc + 4 * 0 = omega arith in subst (λ p. HasAt decoding text p b) e h
  has_back (i ∷ a) b text pc h =
      let e : pc + 4 + 4 * length a ≡ pc + 4 * suc (length a) = omega arith in
      subst (λ p. HasAt decoding text p b) e (has_back a b text (pc + 4) h.1)

  -- the instruction behind k words is that of the word there
  pub fetch_at : (text : List ℕ) (k : ℕ) → fetch decoding text (text_base + 4 * k) ≡ decoded decoding (slice_get text k)
  fetch_at text k =
      let t : nat_le text_base (text_base + 4 * k) && (text_base + 4 * k) % 4 == 0 ≡ true = grind (arith, nat_tests) in
      let e : (text_base + 4 * k - text_base) / 4 ≡ k = omega arith in
      ap (λ b. cond b (decoded decoding (slice_get text ((text_base + 4 * k - text_base) / 4))) None) t ∙ ap (λ j. decoded decoding (slice_get text j)) e

  -- where the words behind k words begin with the code, it stands at their address
  pub has_words : (is : List I) (text words : List ℕ) (k : ℕ) → drop k text ≡ words → Begins decoding words is → HasAt decoding text (text_base + 4 * k) is
  has_words [] text words k e h = tt
  has_words (i ∷ is) text [] k e h = elim h [ ]
  has_words (i ∷ is) text (w ∷ ws) k e h =
      let g = get_drop text k w ws e in
      let p : text_base + 4 * suc k ≡ text_base + 4 * k + 4 = omega arith in
      (fetch_at text k ∙ ap (decoded decoding) g.0 ∙ h.0, subst (λ q. HasAt decoding text q is) p (has_words is text ws (suc k) g.1 h.1))
