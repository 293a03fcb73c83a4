-- Patched words are those of the instructions with the address in them.
use Rattle.std.proofs.Common.{◌≡◌, ℕ, ◌+◌, ◌/◌, ◌%◌, ◌^◌, ◌<◌, [], ◌∷◌, ap, ◌∙◌, sym, refl, arith, true, ℤ, pos}
use Rattle.std.specs.Prelude.{map, nat_lt, ◌&&◌}
use Rattle.std.proofs.lemmas.Bool.Decides.{nat_tests}
use Rattle.bk_num.specs.Word.{residue, signed, fits_signed}
use Rattle.bk_num.proofs.Signs.{residue_signed, signed_fits}
use Rattle.bk_fixup.specs.Patches as patches
use Rattle.bk_rv_isa.specs.declared.inst.ImmediateOp.TheVariants.{Addi}
use Rattle.bk_rv_isa.specs.declared.inst.LoadOp.TheVariants.{Ld}
use Rattle.bk_rv_isa.specs.declared.inst.Inst.{Inst}
use Rattle.bk_rv_isa.specs.declared.inst.Inst.TheVariants as i
use Rattle.bk_rv_isa.specs.Encoding.{fits, word}
use Rattle.bk_rv_emit.specs.Lines.{word_of}
use Rattle.bk_rv_emit_laws.specs.Patched.{AddrBecomes, PoolBecomes, CallBecomes}
use Rattle.bk_rv_emit_laws.proofs.Standing.{word_is}

-- the words with a number in them

upper_lui : (d n : ℕ) → d < 32 → patches.with_upper (patches.upper n) (word (i.Lui d (pos 0))) ≡ word (i.Lui d (signed 20 ((n + 2048) / 2 ^ 12)))
upper_lui d n h =
    let e : residue 20 (signed 20 ((n + 2048) / 2 ^ 12)) ≡ (n + 2048) / 2 ^ 12 % 2 ^ 20 = residue_signed 20 ((n + 2048) / 2 ^ 12) (omega arith) in
    let z : residue 20 (pos 0) ≡ 0 = refl in
    omega arith

lower_addi : (d n : ℕ) → d < 32 → patches.with_lower (patches.lower n) (word (i.OpImm Addi d d (pos 0))) ≡ word (i.OpImm Addi d d (signed 12 n))
lower_addi d n h =
    let e : residue 12 (signed 12 n) ≡ n % 2 ^ 12 = residue_signed 12 n (omega arith) in
    omega arith

lower_ld : (d n : ℕ) → d < 32 → patches.with_lower (patches.lower n) (word (i.Load Ld d d (pos 0))) ≡ word (i.Load Ld d d (signed 12 n))
lower_ld d n h =
    let e : residue 12 (signed 12 n) ≡ n % 2 ^ 12 = residue_signed 12 n (omega arith) in
    omega arith

lower_jalr : (n : ℕ) → patches.with_lower (patches.lower n) (word (i.Jalr 1 31 (pos 0))) ≡ word (i.Jalr 1 31 (signed 12 n))
lower_jalr n =
    let e : residue 12 (signed 12 n) ≡ n % 2 ^ 12 = residue_signed 12 n (omega arith) in
    omega arith

upper_auipc : (n : ℕ) → patches.with_upper (patches.upper n) (word (i.Auipc 31 (pos 0))) ≡ word (i.Auipc 31 (signed 20 ((n + 2048) / 2 ^ 12)))
upper_auipc n =
    let e : residue 20 (signed 20 ((n + 2048) / 2 ^ 12)) ≡ (n + 2048) / 2 ^ 12 % 2 ^ 20 = residue_signed 20 ((n + 2048) / 2 ^ 12) (omega arith) in
    omega arith

two_are : (a b c d : ℕ) → a ≡ c → b ≡ d → a ∷ b ∷ [] ≡ c ∷ d ∷ []
two_are a b c d h k = cc

-- the words of instructions that fit
words_are : (x y : Inst) → fits x ≡ true → fits y ≡ true → map word_of (x ∷ y ∷ []) ≡ word x ∷ word y ∷ []
words_are x y h k = two_are (word_of x) (word_of y) (word x) (word y) (word_is x h) (word_is y k)

-- fields

low_is : (d : ℕ) → d < 32 → nat_lt d 32 ≡ true
low_is d h = grind (arith, nat_tests)

lui_fits : (d : ℕ) (z : ℤ) → d < 32 → fits_signed 20 z ≡ true → fits (i.Lui d z) ≡ true
lui_fits d z h k = ap (λ b. b && fits_signed 20 z) (low_is d h) ∙ k

addi_fits : (d : ℕ) (z : ℤ) → d < 32 → fits_signed 12 z ≡ true → fits (i.OpImm Addi d d z) ≡ true
addi_fits d z h k = ap (λ b. b && (b && fits_signed 12 z)) (low_is d h) ∙ k

ld_fits : (d : ℕ) (z : ℤ) → d < 32 → fits_signed 12 z ≡ true → fits (i.Load Ld d d z) ≡ true
ld_fits d z h k = ap (λ b. b && (b && fits_signed 12 z)) (low_is d h) ∙ k

upper_fits : (n : ℕ) → fits_signed 20 (signed 20 ((n + 2048) / 2 ^ 12)) ≡ true
upper_fits n = signed_fits 20 ((n + 2048) / 2 ^ 12) (omega arith)

lower_fits : (n : ℕ) → fits_signed 12 (signed 12 n) ≡ true
lower_fits n = signed_fits 12 n (omega arith)

whole : (n : ℕ) → n < 2 ^ 32 → n % 2 ^ 32 ≡ n
whole n h = omega arith

-- units

patched_words : (x y : Inst) (n : ℕ) (z w : Inst) → fits x ≡ true → fits y ≡ true → fits z ≡ true → fits w ≡ true →
    patches.with_upper (patches.upper n) (word x) ≡ word z → patches.with_lower (patches.lower n) (word y) ≡ word w →
    patches.with_number (map word_of (x ∷ y ∷ [])) n ≡ map word_of (z ∷ w ∷ [])
patched_words x y n z w fx fy fz fw ez ew =
    ap (λ l. patches.with_number l n) (words_are x y fx fy) ∙ two_are _ _ (word z) (word w) ez ew ∙ sym (words_are z w fz fw)

pub addr_becomes : AddrBecomes
addr_becomes d target place h lt =
    let n = target % 2 ^ 32 in
    let f = lui_fits d (signed 20 ((n + 2048) / 2 ^ 12)) h (upper_fits n) in
    let g = addi_fits d (signed 12 n) h (lower_fits n) in
    record {
      words = ap (patches.with_number (map word_of (i.Lui d (pos 0) ∷ i.OpImm Addi d d (pos 0) ∷ []))) (sym (whole target lt))
          ∙ patched_words (i.Lui d (pos 0)) (i.OpImm Addi d d (pos 0)) n (i.Lui d (signed 20 ((n + 2048) / 2 ^ 12))) (i.OpImm Addi d d (signed 12 n)) (lui_fits d (pos 0) h refl) (addi_fits d (pos 0) h refl) f g (upper_lui d n h) (lower_addi d n h);
      fit = (f, (g, tt));
    }

pub pool_becomes : PoolBecomes
pool_becomes d target place h lt =
    let n = target % 2 ^ 32 in
    let f = lui_fits d (signed 20 ((n + 2048) / 2 ^ 12)) h (upper_fits n) in
    let g = ld_fits d (signed 12 n) h (lower_fits n) in
    record {
      words = ap (patches.with_number (map word_of (i.Lui d (pos 0) ∷ i.Load Ld d d (pos 0) ∷ []))) (sym (whole target lt))
          ∙ patched_words (i.Lui d (pos 0)) (i.Load Ld d d (pos 0)) n (i.Lui d (signed 20 ((n + 2048) / 2 ^ 12))) (i.Load Ld d d (signed 12 n)) (lui_fits d (pos 0) h refl) (ld_fits d (pos 0) h refl) f g (upper_lui d n h) (lower_ld d n h);
      fit = (f, (g, tt));
    }

pub call_becomes : CallBecomes
call_becomes target place =
    let n = patches.distance place target in
    let k = n % 2 ^ 32 in
    let f = upper_fits k in
    let g = lower_fits k in
    record {
      words = ap (patches.with_number (map word_of (i.Auipc 31 (pos 0) ∷ i.Jalr 1 31 (pos 0) ∷ []))) (sym (whole n (omega arith)))
          ∙ patched_words (i.Auipc 31 (pos 0)) (i.Jalr 1 31 (pos 0)) k (i.Auipc 31 (signed 20 ((k + 2048) / 2 ^ 12))) (i.Jalr 1 31 (signed 12 k)) refl refl f g (upper_auipc k) (lower_jalr k);
      fit = (f, (g, tt));
    }
