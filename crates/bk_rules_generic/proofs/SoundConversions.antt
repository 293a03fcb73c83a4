-- Families of shifts, extensions, masks, pointers and choices are sound.
use Rattle.std.proofs.Common.{ℕ, ◌%◌, ◌^◌, ◌≤◌, ap, sym, ◌∙◌, inl, inr}
use Rattle.std.proofs.Math.Nat.{mod-eq_of_lt}
use Rattle.bk_num.specs.Word.{signed, residue}
use Rattle.bk_num.proofs.Signs.{residue_signed}
use Rattle.bk_ops.specs.declared.types.Target.{Target}
use Rattle.bk_ops.specs.declared.family.Family.TheVariants.{Lsh, Rsh, RshU, SignExt, ZeroExt}
use Rattle.bk_ops.specs.Types.{word_width}
use Rattle.bk_ops.specs.Table.{row, entry}
use Rattle.bk_ops.specs.Formulas.{formula}
use Rattle.bk_ops.proofs.LowBits.{residue-low}
use Rattle.bk_rule.specs.Sound.{SoundRule}
use Rattle.bk_rule.proofs.Opened.{opened}
use Rattle.bk_rules_generic.specs.Families.{shift_none, sign_const, zero_const, trunc_const, trunc_ext, zero_mask, full_mask, sign_mask, no_offset, offset_twice, add_offset, select_first, select_second}
use Rattle.bk_rules_generic.proofs.Laws.{add_law}
use Rattle.bk_rules_generic.proofs.Numbers.{zero_is}
use Rattle.bk_rules_generic.proofs.Offsets.{left_none, right_none, signed_none, wider, not_zero_kept, mask_of, sign_of, no_offset_law, offsets_law, one_offset_law, word_at_most}

pub no_left : (t : Target) (w u : ℕ) → 1 ≤ w → w ≤ 64 → SoundRule t (shift_none Lsh w u)
unfolding SoundRule opened formula
no_left t w u l h e v (_, _, (x, lx, _, ex, (y, ly, _, (_, _, (ky, ey)), (_, _, ev)))) d i = ex ∙ left_none w x y v (zero_is u y ey) lx ev

pub no_signed : (t : Target) (w u : ℕ) → 1 ≤ w → w ≤ 64 → SoundRule t (shift_none Rsh w u)
unfolding SoundRule opened formula
no_signed t w u l h e v (_, _, (x, lx, _, ex, (y, ly, _, (_, _, (ky, ey)), (_, _, ev)))) d i = ex ∙ signed_none w x y v l (zero_is u y ey) lx ev

pub no_right : (t : Target) (w u : ℕ) → 1 ≤ w → w ≤ 64 → SoundRule t (shift_none RshU w u)
unfolding SoundRule opened formula
no_right t w u l h e v (_, _, (x, lx, _, ex, (y, ly, _, (_, _, (ky, ey)), (_, _, ev)))) d i = ex ∙ right_none x y v (zero_is u y ey) ev

pub sign_const_sound : (t : Target) (w u : ℕ) → 1 ≤ w → w ≤ u → SoundRule t (sign_const w u)
unfolding SoundRule opened formula
sign_const_sound t w u l h e v (_, _, (x, lx, _, (_, _, (kx, ex)), (_, _, ev))) d i = ap (residue u) (sym kx ∙ ap (signed w) ex) ∙ ev

pub zero_const_8 : (t : Target) (u : ℕ) → 8 ≤ u → SoundRule t (zero_const 8 u)
unfolding SoundRule opened formula
zero_const_8 t u h e v (_, _, (x, lx, _, (_, _, (kx, ex)), (_, _, ev))) d i = ap (λ n. n % 2 ^ u) ex ∙ (wider 8 u x h lx ∙ ev)

pub zero_const_16 : (t : Target) (u : ℕ) → 16 ≤ u → SoundRule t (zero_const 16 u)
unfolding SoundRule opened formula
zero_const_16 t u h e v (_, _, (x, lx, _, (_, _, (kx, ex)), (_, _, ev))) d i = ap (λ n. n % 2 ^ u) ex ∙ (wider 16 u x h lx ∙ ev)

pub zero_const_32 : (t : Target) (u : ℕ) → 32 ≤ u → SoundRule t (zero_const 32 u)
unfolding SoundRule opened formula
zero_const_32 t u h e v (_, _, (x, lx, _, (_, _, (kx, ex)), (_, _, ev))) d i = ap (λ n. n % 2 ^ u) ex ∙ (wider 32 u x h lx ∙ ev)

pub trunc_const_sound : (t : Target) (w u : ℕ) → 1 ≤ w → w ≤ u → SoundRule t (trunc_const w u)
unfolding SoundRule opened formula
trunc_const_sound t w u l h e v (_, _, (x, lx, _, (_, _, (kx, ex)), (_, _, ev))) d i = sym (residue-low w u (e.int 0) h) ∙ (ap (λ n. n % 2 ^ w) ex ∙ ev)

pub trunc_sign : (t : Target) (w u : ℕ) → 1 ≤ w → w ≤ u → SoundRule t (trunc_ext SignExt w u)
unfolding SoundRule opened formula
trunc_sign t w u l h e v (_, _, (y, ly, _, (_, _, (x, lx, _, ex, (_, _, ey))), (_, _, ev))) d i =
    ex ∙ (sym (mod-eq_of_lt lx) ∙ (sym (residue_signed w x l) ∙ (sym (residue-low w u (signed w x) h) ∙ (ap (λ n. n % 2 ^ w) ey ∙ ev))))

pub trunc_zero : (t : Target) (w u : ℕ) → 1 ≤ w → w ≤ u → SoundRule t (trunc_ext ZeroExt w u)
unfolding SoundRule opened formula
trunc_zero t w u l h e v (_, _, (y, ly, _, (_, _, (x, lx, _, ex, (_, _, ey))), (_, _, ev))) d i = ex ∙ (sym (mod-eq_of_lt lx) ∙ (ap (λ n. n % 2 ^ w) ey ∙ ev))

pub zero_mask_sound : (t : Target) → SoundRule t (zero_mask)
unfolding SoundRule opened formula
zero_mask_sound t e v (_, _, (x, lx, _, (_, _, (kx, ex)), (_, _, ev))) d i = rw (← ex) at ev

pub full_mask_sound : (t : Target) → SoundRule t (full_mask)
unfolding SoundRule opened formula
full_mask_sound t e v (_, _, (x, lx, _, (_, _, (kx, ex)), (_, _, ev))) d i = mask_of (residue 32 (e.int 0)) x v (not_zero_kept (e.int 0) kx d) ex ev

pub sign_mask_sound : (t : Target) → SoundRule t (sign_mask)
unfolding SoundRule opened formula
sign_mask_sound t e v (_, _, (x, lx, _, (_, _, (kx, ex)), (_, _, ev))) d i = sign_of (e.int 0) x v kx ex lx ev

pub no_offset_sound : (t : Target) → SoundRule t (no_offset)
unfolding SoundRule opened formula
no_offset_sound t e v (_, _, (x, lx, _, ex, (_, ev))) d i = ex ∙ no_offset_law (word_width t) x v lx ev

pub offset_twice_sound : (t : Target) → SoundRule t (offset_twice)
unfolding SoundRule opened formula
offset_twice_sound t e v (_, _, (y, ly, _, (_, _, (x, lx, _, ex, (kd, ey))), (kc, ev))) d i =
    rw ex (offsets_law (word_width t) x y _ (residue (word_width t) (e.int 0)) (residue (word_width t) (e.int 1)) v lx (add_law (word_width t) (e.int 0) (e.int 1) (word_at_most t)) ey ev)

pub add_offset_sound : (t : Target) (w : ℕ) → SoundRule t (add_offset w)
unfolding SoundRule opened formula row entry
add_offset_sound t w e v (_, _, (x, lx, _, ex, (y, ly, inl f, (_, _, (ky, ey)), (_, _, ev)))) d i = cc
add_offset_sound t w e v (_, _, (x, lx, _, ex, (y, ly, inr q, (_, _, (ky, ey)), (_, _, ev)))) d i =
    rw ex (one_offset_law (word_width t) x y (residue (word_width t) (e.int 1)) v lx (ap (λ n. residue n (e.int 1)) (sym q) ∙ ey) ev)

pub select_first_sound : (t : Target) → SoundRule t (select_first)
unfolding SoundRule opened formula
select_first_sound t e v (_, _, (x, lx, _, ex, (y, ly, _, ey, (c, lc, _, (_, _, (_, ec)), (_, _, ev))))) d i = ex ∙ (rw (← ec) at ev)

pub select_second_sound : (t : Target) → SoundRule t (select_second)
unfolding SoundRule opened formula
select_second_sound t e v (_, _, (x, lx, _, ex, (y, ly, _, ey, (c, lc, _, (_, _, (_, ec)), (_, _, ev))))) d i = ey ∙ (rw (← ec) at ev)
