use Rattle.std.proofs.Common.{◌∙◌, refl, sym, arith, length}
use Rattle.std.proofs.lemmas.Option.{slice_get_read}
use Rattle.bk_rewrite.proofs.Rooted.{root_here, all_roots}
use Rattle.bk_rewrite.proofs.roots.have_roots.Goals as goal

pub loop-rule-preserved : goal.loop-rule-preserved
loop-rule-preserved c = root_here c.args.rules.now c.loop-rule.rule-index c.rule-item.result c.in-Some._op
    (slice_get_read c.args.rules.now (length c.args.rules.now) c.loop-rule.rule-index c.rule-item.result refl (omega arith) c.rule-item.is)
    (sym c.root_op.ensures ∙ c.in-Some.is) c.loop-rule.invariant

pub returns : goal.returns
returns c = λ e. all_roots c.args.rules.now c.loop-rule.rule-index (omega arith) c.loop-rule.invariant
