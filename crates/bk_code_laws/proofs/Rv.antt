-- The code of riscv64 has only the handles of values.
use Rattle.std.proofs.Common.{◌≡◌, refl, sym, ap, ℕ, ℤ, pos, Bool, true, false, if◌then◌else◌, List, [], ◌∷◌, map, Option}
use Rattle.std.specs.Option.{option_map}
use Rattle.bk_num.specs.Word.{fits_signed}
use Rattle.bk_ops.specs.declared.family.Family.{Family}
use Rattle.bk_ops.specs.declared.family.Family.TheVariants as op
use Rattle.bk_ops.specs.declared.family.RvOp.TheVariants as machine
use Rattle.bk_rv_isa.specs.declared.inst.ImmediateOp.TheVariants.{Addi}
use Rattle.bk_rv_isa.specs.declared.inst.Inst.TheVariants as i
use Rattle.bk_rv_isa.specs.declared.inst.LoadOp.TheVariants.{Ld}
use Rattle.bk_piece.specs.declared.Handle.{Handle}
use Rattle.bk_piece.specs.declared.Patch.TheVariants as patch
use Rattle.bk_emit.specs.declared.lines.Line.{Line}
use Rattle.bk_emit.specs.declared.table.Regs.{Regs}
use Rattle.bk_emit.specs.Lines.{opening}
use Rattle.bk_rv_emit.specs.Blocks as blocks
use Rattle.bk_rv_emit.specs.Code.{riscv64}
use Rattle.bk_rv_emit.specs.Lines.{inst, word_of}
use Rattle.bk_rv_emit.specs.Numbers.{upper, lower}
use Rattle.bk_rv_emit.specs.Units.{const_unit, call_unit, family_unit, machine_unit, word_offset}
use Rattle.bk_rv_emit.specs.Words.{load_at, store_at}
use Rattle.bk_code_laws.proofs.Blind.{IsBlind}
use Rattle.bk_code_laws.proofs.Renamed.{renamed, IsPlain, plain_words, renamed_opening}

renamed_call : (r : Handle → Handle) (h : Option Handle) → call_unit (option_map r h) ≡ map (renamed r) (call_unit h)
renamed_call r h = ap (λ l. l ∷ inst (i.Jalr 1 31 (pos 0)) ∷ []) (renamed_opening r patch.Call h (word_of (i.Auipc 31 (pos 0))))

-- of three forms the last has a handle
renamed_form : (r : Handle → Handle) (a b : Bool) (short long pool moved : List Line) → IsPlain short → IsPlain long → moved ≡ map (renamed r) pool
    → (if a then short else (if b then long else moved)) ≡ map (renamed r) (if a then short else (if b then long else pool))
renamed_form r true b short long pool moved s l e = sym (s r)
renamed_form r false true short long pool moved s l e = sym (l r)
renamed_form r false false short long pool moved s l e = e

abbrev pool_unit : ℕ → Option Handle → List Line
pool_unit d h = opening patch.Pool h (word_of (i.Lui d (pos 0))) ∷ inst (i.Load Ld d d (pos 0)) ∷ []

renamed_const : (r : Handle → Handle) (d : ℕ) (c : ℤ) (h : Option Handle) → const_unit d c (option_map r h) ≡ map (renamed r) (const_unit d c h)
renamed_const r d c h =
    let pool : pool_unit d (option_map r h) ≡ map (renamed r) (pool_unit d h) =
    ap (λ l. l ∷ inst (i.Load Ld d d (pos 0)) ∷ []) (renamed_opening r patch.Pool h (word_of (i.Lui d (pos 0)))) in
    renamed_form r (fits_signed 12 c) (fits_signed 32 c) (inst (i.OpImm Addi d 0 c) ∷ []) (inst (i.Lui d (upper c)) ∷ inst (i.Addiw d d (lower c)) ∷ [])
    (pool_unit d h) (pool_unit d (option_map r h)) (λ _. refl) (λ _. refl) pool

renamed_family : (r : Handle → Handle) (o : Family) (w : ℕ) (g : Regs) (c : ℤ) (h : Option Handle) (f : ℕ) → family_unit o w g c (option_map r h) f ≡ map (renamed r) (family_unit o w g c h f)
unfolding family_unit
renamed_family r (op.Rv machine.Const) w g c h f = renamed_const r g.d c h
renamed_family r (op.Rv machine.Addr) w g c h f = ap (λ l. l ∷ inst (i.OpImm Addi g.d g.d (pos 0)) ∷ []) (renamed_opening r patch.Addr h (word_of (i.Lui g.d (pos 0))))
renamed_family r (op.Rv o) w g c h f = sym (plain_words word_of (machine_unit o w g c) r)
renamed_family r op.ArgWord w g c h f = sym (plain_words word_of (load_at g.d (word_offset f c)) r)
renamed_family r op.RetWord w g c h f = sym (plain_words word_of (store_at g.a (word_offset f c)) r)
renamed_family r op.ResWord w g c h f = sym (plain_words word_of (load_at g.d (word_offset 0 c)) r)
renamed_family r op.OutWord w g c h f = sym (plain_words word_of (store_at g.a (word_offset 0 c)) r)
renamed_family r op.Call w g c h f = renamed_call r h
renamed_family r op.CallRegs w g c h f = renamed_call r h
renamed_family r _ w g c h f = refl

pub riscv64_is_blind : IsBlind riscv64
riscv64_is_blind = record {
  entry = λ f. plain_words word_of (blocks.entry f);
  leave = λ f. plain_words word_of (blocks.leave f);
  load = λ d n. plain_words word_of (load_at d n);
  store = λ a n. plain_words word_of (store_at a n);
  copy = λ d a. plain_words word_of (blocks.copy d a);
  unit = λ r e g f. renamed_family r e.0.op.family e.0.op.a g e.0.int e.1 f;
  test = λ control. plain_words word_of (blocks.test control);
  exit = λ r. refl;
}
