-- That rules of the lists are read and keep types: some of them.
use Rattle.std.proofs.Common.{◌≡◌, refl, ap, sym, ◌∙◌, arith, inl, [], ◌∷◌, true, false, pos}
use Rattle.std.proofs.lemmas.Int.{ints}
use Rattle.bk_ops.specs.Table.{info_of, is_op, row, entry, rv_row}
use Rattle.bk_ops.specs.declared.types.Target.TheVariants.{Riscv64}
use Rattle.bk_ops.specs.declared.family.Family.TheVariants as family
use Rattle.bk_ops.specs.declared.family.RvOp.TheVariants as rv
use Rattle.bk_func.specs.Records.{PackageRecord}
use Rattle.bk_func.specs.Form.Signatures.{whole}
use Rattle.bk_func.specs.Form.Shapes.{slot}
use Rattle.bk_func.specs.Form.{setting}
use Rattle.bk_func.specs.Form.Parts.{symbol_of}
use Rattle.bk_rule.specs.declared.trees.Rule.{Rule}
use Rattle.bk_rule.specs.Trees.{op, var, node, node_at, named, make_with, number, rule}
use Rattle.bk_rule.proofs.Opened.{opened}
use Rattle.bk_form_laws.specs.Rules.{IsRead}
use Rattle.bk_ops.specs.Types.{width_of}
use Rattle.bk_form_laws.specs.Typed.{Seen, KeepsTypes}

-- (Add32 (Const32 [0]) x) => x
add_zero : Rule
add_zero = rule (node (op family.Add 32 0) (node_at (op family.Const 32 0) (pos 0) [] ∷ var 0 ∷ [])) (named 0)

add_zero_types : (p : PackageRecord) → KeepsTypes (setting p Riscv64 whole false) add_zero
unfolding KeepsTypes opened add_zero info_of is_op row entry slot
add_zero_types p e w x (n, ty, b, r, (a, ((z, sh, q), u))) c =
    let d : width_of (w 0).ty Riscv64 ≡ 32 = ap (λ (y : Seen). width_of y.ty Riscv64) q ∙ sh.1 in
    (ap (λ (y : Seen). y.base) q ∙ sh.0, (λ i. absurd (omega (arith, r, i)), d ∙ sym r))

-- (Not x) => (RVXORI [1] x)
not_rule : Rule
not_rule = rule (node (op family.Not 0 0) (var 0 ∷ [])) (make_with (op (family.Rv rv.Xori) 0 0) (number (pos 1)) (named 0 ∷ []))

not_types : (p : PackageRecord) → KeepsTypes (setting p Riscv64 whole true) not_rule
unfolding KeepsTypes opened not_rule info_of is_op row entry slot rv_row
not_types p e w x (n, ty, b, r, ((z, sh, q), u)) c =
    let d : ¬ (width_of (w 0).ty Riscv64 ≡ 0) = λ i. sh.1 (ap (λ (y : Seen). width_of y.ty Riscv64) (sym q) ∙ i) in
    (record { width = refl; truth = λ i. i; memory = λ i. i; memory_back = λ i. i }, r, ((ap (λ (y : Seen). y.base) q ∙ sh.0, d), tt, tt))

not_read : IsRead not_rule
unfolding opened not_rule info_of is_op row entry rv_row symbol_of
not_read = record {
  node = tt;
  left = (record { family = refl; copy = λ e. cc }, (tt, tt));
  right = (record { is_one = refl; plain = refl; copy = λ e. cc; store = λ e. cc; arity = refl; number = (omega (arith, ints), omega (arith, ints)); symbol = tt }, (inl refl, tt));
}
