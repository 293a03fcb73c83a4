use Rattle.std.proofs.Common.{rules, subst, w64, ℤ}
use Rattle.std.proofs.lemmas.Int.{to_z-of_z}
use Rattle.std.proofs.lemmas.Result.{IfOk-weaker}
use Rattle.bk_func.specs.Records.{ValueRecord}
use Rattle.bk_rewrite.specs.Trials.{Binds, Misses, PartsMatch, parts_past}
use Rattle.bk_rule.specs.Match.{NameMatches, TypeMatches, IntMatches, AuxMatches, past, past_int}
use Rattle.bk_rewrite.proofs.Standing.{binds_four, misses_third, misses_fourth, next_int, next_aux}
use Rattle.bk_rewrite.proofs.parts.bind_node.Goals as goal

pub returns-clause-fits : goal.returns-clause-fits
returns-clause-fits c =
    let v = c.value.inside in
    IfOk-weaker c.bind_aux.result _ _
    (λ r h q. subst (λ (w : ValueRecord). Binds (parts_past c.args.name c.args.ty c.args.int c.args.aux) (λ bs. PartsMatch bs c.args.name c.args.ty c.args.int c.args.aux w) c.args.binds.now.items c.bind_aux.new.binds.items) c.value.view_is
    (binds_four (past c.args.name) (past c.args.ty) (past_int c.args.int) (past c.args.aux)
    (λ bs. NameMatches bs c.args.name v.id) (λ bs. TypeMatches bs c.args.ty v.ty) (λ bs. IntMatches bs c.args.int v.int) (λ bs. AuxMatches bs c.args.aux v.aux)
    c.args.binds.now.items c.bind_name.new.binds.items c.bind_type.new.binds.items c.bind_int.new.binds.items c.bind_aux.new.binds.items
    (c.in_ok-bind_name.ensures.fits (search rules)) (c.in_ok-bind_type.ensures.fits (search rules))
    (subst (λ (z : ℤ). Binds (past_int c.args.int) (λ bs. IntMatches bs c.args.int z) c.bind_type.new.binds.items c.bind_int.new.binds.items) (to_z-of_z w64 v.int (search rules)) (c.in_ok-bind_int.ensures.fits (search rules))) (h q)))
    c.bind_aux.ensures.fits

pub returns-then-not-branch-3-clause-misses : goal.returns-then-not-branch-3-clause-misses
returns-then-not-branch-3-clause-misses c = λ h q.
    let v = c.value.inside in
    let a = c.in_ok-bind_name.ensures.fits (search rules) in
    let b = c.in_ok-bind_type.ensures.fits (search rules) in
    subst (λ (w : ValueRecord). Misses (λ bs. PartsMatch bs c.args.name c.args.ty c.args.int c.args.aux w) c.args.binds.now.items) c.value.view_is
    (misses_third (past c.args.name) (past c.args.ty)
    (λ bs. NameMatches bs c.args.name v.id) (λ bs. TypeMatches bs c.args.ty v.ty) (λ bs. IntMatches bs c.args.int v.int) (λ bs. AuxMatches bs c.args.aux v.aux)
    c.args.binds.now.items c.bind_name.new.binds.items c.bind_type.new.binds.items a b
    (subst (λ (z : ℤ). Misses (λ bs. IntMatches bs c.args.int z) c.bind_type.new.binds.items) (to_z-of_z w64 v.int (search rules))
    (c.in_ok-bind_int.ensures.misses (next_int c.args.name c.args.ty c.args.int c.args.aux _ _ c.args.binds.now.items c.bind_name.new.binds.items c.bind_type.new.binds.items h a b) (search rules))))

pub returns-clause-misses : goal.returns-clause-misses
returns-clause-misses c = λ h.
    let v = c.value.inside in
    let a = c.in_ok-bind_name.ensures.fits (search rules) in
    let b = c.in_ok-bind_type.ensures.fits (search rules) in
    let i = c.in_ok-bind_int.ensures.fits (search rules) in
    IfOk-weaker c.bind_aux.result _ _
    (λ r k q. subst (λ (w : ValueRecord). Misses (λ bs. PartsMatch bs c.args.name c.args.ty c.args.int c.args.aux w) c.args.binds.now.items) c.value.view_is
    (misses_fourth (past c.args.name) (past c.args.ty) (past_int c.args.int)
    (λ bs. NameMatches bs c.args.name v.id) (λ bs. TypeMatches bs c.args.ty v.ty) (λ bs. IntMatches bs c.args.int v.int) (λ bs. AuxMatches bs c.args.aux v.aux)
    c.args.binds.now.items c.bind_name.new.binds.items c.bind_type.new.binds.items c.bind_int.new.binds.items a b
    (subst (λ (z : ℤ). Binds (past_int c.args.int) (λ bs. IntMatches bs c.args.int z) c.bind_type.new.binds.items c.bind_int.new.binds.items) (to_z-of_z w64 v.int (search rules)) i) (k q)))
    (c.bind_aux.ensures.misses (next_aux c.args.name c.args.ty c.args.int c.args.aux _ _ _ c.args.binds.now.items c.bind_name.new.binds.items c.bind_type.new.binds.items c.bind_int.new.binds.items h a b i))
