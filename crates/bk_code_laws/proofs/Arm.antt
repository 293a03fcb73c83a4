-- Arm's code has only the handles of values.
use Rattle.std.proofs.Common.{◌≡◌, refl, sym, ap, ℕ, ℤ, pos, [], ◌∷◌, map, Option}
use Rattle.std.specs.Option.{option_map}
use Rattle.bk_num.specs.Word.{residue}
use Rattle.bk_ops.specs.declared.family.ArmOp.TheVariants as machine
use Rattle.bk_ops.specs.declared.family.Family.{Family}
use Rattle.bk_ops.specs.declared.family.Family.TheVariants as op
use Rattle.bk_arm_isa.specs.declared.Condition.TheVariants.{Al}
use Rattle.bk_arm_isa.specs.declared.Inst.TheVariants as i
use Rattle.bk_piece.specs.declared.Handle.{Handle}
use Rattle.bk_piece.specs.declared.Patch.TheVariants as patch
use Rattle.bk_emit.specs.declared.table.Regs.{Regs}
use Rattle.bk_arm_emit.specs.Blocks as blocks
use Rattle.bk_arm_emit.specs.Code.{arm}
use Rattle.bk_arm_emit.specs.Insts.{number}
use Rattle.bk_arm_emit.specs.Lines.{inst, word_of}
use Rattle.bk_arm_emit.specs.Units.{family_unit, machine_unit, word_offset}
use Rattle.bk_arm_emit.specs.Words.{load_at, store_at}
use Rattle.bk_code_laws.proofs.Blind.{IsBlind}
use Rattle.bk_code_laws.proofs.Renamed.{renamed, plain_words, renamed_opening}

renamed_family : (r : Handle → Handle) (o : Family) (w : ℕ) (g : Regs) (c : ℤ) (h : Option Handle) (f : ℕ) → family_unit o w g c (option_map r h) f ≡ map (renamed r) (family_unit o w g c h f)
unfolding family_unit
renamed_family r (op.Arm machine.Const) w g c h f = sym (plain_words word_of (number g.d (residue 32 c)) r)
renamed_family r (op.Arm machine.Addr) w g c h f = ap (λ l. l ∷ inst (i.Movt Al g.d 0) ∷ []) (renamed_opening r patch.Addr h (word_of (i.Movw Al g.d 0)))
renamed_family r (op.Arm o) w g c h f = sym (plain_words word_of (machine_unit o w g c) r)
renamed_family r op.ArgWord w g c h f = sym (plain_words word_of (load_at g.d (word_offset f c)) r)
renamed_family r op.RetWord w g c h f = sym (plain_words word_of (store_at g.a (word_offset f c)) r)
renamed_family r op.ResWord w g c h f = sym (plain_words word_of (load_at g.d (word_offset 0 c)) r)
renamed_family r op.OutWord w g c h f = sym (plain_words word_of (store_at g.a (word_offset 0 c)) r)
renamed_family r op.Call w g c h f = ap (λ l. l ∷ []) (renamed_opening r patch.Call h (word_of (i.Bl Al (pos 0))))
renamed_family r _ w g c h f = refl

pub arm_is_blind : IsBlind arm
arm_is_blind = record {
  entry = λ f. plain_words word_of (blocks.entry f);
  leave = λ f. plain_words word_of (blocks.leave f);
  load = λ d n. plain_words word_of (load_at d n);
  store = λ a n. plain_words word_of (store_at a n);
  copy = λ d a. plain_words word_of (blocks.copy_to d a);
  unit = λ r e g f. renamed_family r e.0.op.family e.0.op.a g e.0.int e.1 f;
  test = λ control. plain_words word_of (blocks.bit_test control);
  exit = λ r. refl;
}
