-- What reaches fits.
use Rattle.std.proofs.Common.{◌≡◌, ℕ, ◌+◌, ◌/◌, ◌^◌, ◌<◌, [], ◌∷◌, refl, arith, Bool, true, false, cond, not, ℤ, pos, ◌-ℤ◌, inl, inr}
use Rattle.std.specs.Prelude.{◌==◌}
use Rattle.std.proofs.lemmas.Bool.{cases_lt}
use Rattle.std.proofs.lemmas.Bool.Decides.{nat_tests}
use Rattle.std.proofs.lemmas.Int.{ints}
use Rattle.bk_num.specs.Word.{residue, fits_signed}
use Rattle.bk_num.proofs.Signs.{signed_fits}
use Rattle.bk_fixup.specs.Sizes.{spans}
use Rattle.bk_rv_isa.specs.declared.inst.Inst.TheVariants as i
use Rattle.bk_rv_isa.specs.Encoding.{fits, is_even_signed}
use Rattle.bk_emit.specs.Code.{distance}
use Rattle.bk_rv_emit.specs.Numbers.{upper, lower}
use Rattle.bk_rv_emit.specs.Written.{branch_on}
use Rattle.bk_rv_emit_laws.specs.Does.{AreFit}
use Rattle.bk_rv_emit_laws.specs.Jumps.{JumpFits, BranchFits}

-- an even offset of 21 bits, and of 13
jal_fits : (at to : ℕ) → at < 2 ^ 26 → to < 2 ^ 26 → spans 262144 at to ≡ true → is_even_signed 21 (distance at to) ≡ true
jal_fits at to h k s = elim (cases_lt to at) [
  | inl l ↦ grind (arith, ints, nat_tests)
  | inr l ↦ grind (arith, ints, nat_tests)
]

jal_behind_fits : (at to : ℕ) → at < 2 ^ 26 → to < 2 ^ 26 → spans 262144 (at + 1) to ≡ true → is_even_signed 21 (distance at to -ℤ pos 4) ≡ true
jal_behind_fits at to h k s = elim (cases_lt to (at + 1)) [
  | inl l ↦ grind (arith, ints, nat_tests)
  | inr l ↦ grind (arith, ints, nat_tests)
]

branch_offset_fits : (at to : ℕ) → at < 2 ^ 26 → to < 2 ^ 26 → spans 1024 at to ≡ true → is_even_signed 13 (distance at to) ≡ true
branch_offset_fits at to h k s = elim (cases_lt to at) [
  | inl l ↦ grind (arith, ints, nat_tests)
  | inr l ↦ grind (arith, ints, nat_tests)
]

long_fits : (z : ℤ) → AreFit (i.Auipc 31 (upper z) ∷ i.Jalr 0 31 (lower z) ∷ [])
long_fits z =
    let a : fits_signed 20 (upper z) ≡ true = signed_fits 20 ((residue 32 z + 2048) / 2 ^ 12) (omega arith) in
    let b : fits_signed 12 (lower z) ≡ true = signed_fits 12 (residue 32 z) (omega arith) in
    (a, (b, tt))

branch_fit : (bit : Bool) (z : ℤ) → is_even_signed 13 z ≡ true → fits (branch_on bit z) ≡ true
branch_fit true z h = h
branch_fit false z h = h

jump_fits_by : (t : Bool) (at to : ℕ) → at < 2 ^ 26 → to < 2 ^ 26 → cond t (spans 262144 at to) true ≡ true →
    AreFit (cond t (i.Jal 0 (distance at to) ∷ []) (i.Auipc 31 (upper (distance at to)) ∷ i.Jalr 0 31 (lower (distance at to)) ∷ []))
jump_fits_by true at to h k s = (jal_fits at to h k s, tt)
jump_fits_by false at to h k s = long_fits (distance at to)

pub jump_fits : JumpFits
jump_fits size at to h k s = jump_fits_by (size == 1) at to h k s

branch_fits_by : (bit t u : Bool) (at to : ℕ) → at < 2 ^ 26 → to < 2 ^ 26 → cond t (spans 1024 at to) (cond u (spans 262144 (at + 1) to) true) ≡ true →
    AreFit (cond t (branch_on bit (distance at to) ∷ []) (cond u (branch_on (not bit) (pos 8) ∷ i.Jal 0 (distance at to -ℤ pos 4) ∷ [])
    (branch_on (not bit) (pos 12) ∷ i.Auipc 31 (upper (distance at to -ℤ pos 4)) ∷ i.Jalr 0 31 (lower (distance at to -ℤ pos 4)) ∷ [])))
branch_fits_by bit true u at to h k s = (branch_fit bit (distance at to) (branch_offset_fits at to h k s), tt)
branch_fits_by bit false true at to h k s = (branch_fit (not bit) (pos 8) refl, (jal_behind_fits at to h k s, tt))
branch_fits_by bit false false at to h k s = (branch_fit (not bit) (pos 12) refl, long_fits (distance at to -ℤ pos 4))

pub branch_fits : BranchFits
branch_fits bit size at to h k s = branch_fits_by bit (size == 1) (size == 2) at to h k s
