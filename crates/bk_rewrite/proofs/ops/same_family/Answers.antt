use Rattle.std.proofs.Common.{rules, sym, ◌∙◌, ap}
use denote.Enum.Bare.{sameb, same_true}
use denote.Enum.Declared.{intoss}
use Rattle.bk_ops.specs.contracts.family.Family.{the_type}
use Rattle.bk_ops.specs.contracts.family.ArmOp as arm
use Rattle.bk_ops.specs.contracts.family.RvOp as rv
use Rattle.bk_ops.specs.declared.family.ArmOp.{ArmOp}
use Rattle.bk_ops.specs.declared.family.RvOp.{RvOp}
use Rattle.bk_ops.specs.contracts.family.FamilyEq.TheImpl.Laws.{laws-law}
use Rattle.bk_rewrite.proofs.Variants.{same_choice, other_than}
use Rattle.bk_rewrite.proofs.ops.same_family.Goals as goal

pub returns-clause-same : goal.returns-clause-same
returns-clause-same c is =
    the_type.to_one c.args.a c.args.b (ap (intoss the_type.parts) (same_choice the_type.parts ((λ x y. sameb arm.the_type x.0 y.0), ((λ x y. sameb rv.the_type x.0 y.0), tt))
    ((λ x y e. ap (λ (z : ArmOp). (z, tt)) (same_true arm.the_type (search rules) x.0 y.0 e)), ((λ x y e. ap (λ (z : RvOp). (z, tt)) (same_true rv.the_type (search rules) x.0 y.0 e)), tt)) _ _ (sym c.eq.ensures ∙ is)))

pub returns-clause-other : goal.returns-clause-other
returns-clause-other c is = other_than laws-law c.args.a c.args.b (sym c.eq.ensures ∙ is)
