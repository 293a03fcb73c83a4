use Rattle.std.proofs.Common.{rules, ℤ, Bool, ◌≡◌, ◌∙◌, ◌↔◌, sym, ap, subst, true}
use Rattle.std.specs.Bool.{IsTrue}
use Rattle.bk_ops.specs.Table.{is_width}
use Rattle.bk_func.specs.Records.{ValueRecord, SigRecord}
use Rattle.bk_func.specs.Form.Parts.{IsSigned, IsBetween, IsArgumentWord, IsResultWord, IsInRegister}
use Rattle.bk_form.specs.Names.{measure, seen_callee}
use Rattle.bk_form.proofs.Families.{const_range, truth_range, trap_range, result_range, argument_word_range, return_word_range, result_word_range, argument_range, argument_register_range, result_register_range, other_number}
use Rattle.bk_form.specs.declared.sent.Question.TheVariants.{Counted}
use Rattle.bk_form.proofs.Ops.{const_width}
use Rattle.bk_form.proofs.Sending.{answer_of}
use Rattle.bk_form.proofs.Signatures.{passed}
use Rattle.bk_form.proofs.Tables.{through}
use Rattle.bk_form.proofs.width.is_in_range.Goals as goal

pub is_signed-requires : goal.is_signed-requires
is_signed-requires c =
    let is = sym (ap (λ v. v.op.family) c.value.view_is) ∙ c.in-Const.is in
    ap (λ v. is_width v.op.a) c.value.view_is ∙ const_width c.args.value.now.op is c.requires.op

pub is_result-requires-clause-named : goal.is_result-requires-clause-named
is_result-requires-clause-named c = let (b, has) = c.requires.there in c.requires.named.args b c.args.value.now has

pub is_word_of_result-requires-clause-named : goal.is_word_of_result-requires-clause-named
is_word_of_result-requires-clause-named c = let (b, has) = c.requires.there in c.requires.named.args b c.args.value.now has

pub returns-in-Const : goal.returns-in-Const
returns-in-Const c =
    let s = measure c.args.scope.now in
    let f = c.args.scope.now.func.now in
    let v = c.args.value.now in
    through (subst (λ (w : ValueRecord). IsTrue c.is_signed.result ↔ IsSigned w.op.a w.int) c.value.view_is
    (passed (λ (z : ℤ). IsTrue c.is_signed.result ↔ IsSigned c.value.inside.op.a z) c.value.inside.int (search rules) c.is_signed.ensures))
    (const_range s f v v.op.family (sym (ap (λ v. v.op.family) c.value.view_is) ∙ c.in-Const.is))

pub returns-in-ConstBool : goal.returns-in-ConstBool
returns-in-ConstBool c =
    let s = measure c.args.scope.now in
    let f = c.args.scope.now.func.now in
    let v = c.args.value.now in
    through (subst (λ (w : ValueRecord). IsTrue c.is_between.result ↔ IsBetween w.int 0 2) c.value.view_is
    (passed (λ (z : ℤ). IsTrue c.is_between.result ↔ IsBetween z 0 2) c.value.inside.int (search rules) c.is_between.ensures))
    (truth_range s f v v.op.family (sym (ap (λ v. v.op.family) c.value.view_is) ∙ c.in-ConstBool.is))

pub returns-in-Trap : goal.returns-in-Trap
returns-in-Trap c =
    let s = measure c.args.scope.now in
    let f = c.args.scope.now.func.now in
    let v = c.args.value.now in
    through (subst (λ (w : ValueRecord). IsTrue c.is_between-in-Trap.result ↔ IsBetween w.int 1 7) c.value.view_is
    (passed (λ (z : ℤ). IsTrue c.is_between-in-Trap.result ↔ IsBetween z 1 7) c.value.inside.int (search rules) c.is_between-in-Trap.ensures))
    (trap_range s f v v.op.family (sym (ap (λ v. v.op.family) c.value.view_is) ∙ c.in-Trap.is))

pub returns-in-SelectN : goal.returns-in-SelectN
returns-in-SelectN c =
    let s = measure c.args.scope.now in
    let f = c.args.scope.now.func.now in
    let v = c.args.value.now in
    through c.is_result.ensures (result_range s f v v.op.family (sym (ap (λ v. v.op.family) c.value.view_is) ∙ c.in-SelectN.is))

pub returns-in-ArgWord : goal.returns-in-ArgWord
returns-in-ArgWord c =
    let s = measure c.args.scope.now in
    let f = c.args.scope.now.func.now in
    let v = c.args.value.now in
    through (subst (λ (g : SigRecord). IsTrue c.is_argument_word.result ↔ IsArgumentWord s g v.int) c.own.ensures
    (subst (λ (w : ValueRecord). IsTrue c.is_argument_word.result ↔ IsArgumentWord s (seen_callee c.own.result) w.int) c.value.view_is
    (passed (λ (z : ℤ). IsTrue c.is_argument_word.result ↔ IsArgumentWord s (seen_callee c.own.result) z) c.value.inside.int (search rules) c.is_argument_word.ensures)))
    (argument_word_range s f v v.op.family (sym (ap (λ v. v.op.family) c.value.view_is) ∙ c.in-ArgWord.is))

pub returns-in-RetWord : goal.returns-in-RetWord
returns-in-RetWord c =
    let s = measure c.args.scope.now in
    let f = c.args.scope.now.func.now in
    let v = c.args.value.now in
    through (subst (λ (g : SigRecord). IsTrue c.is_result_word.result ↔ IsResultWord s g v.int) c.own-in-RetWord.ensures
    (subst (λ (w : ValueRecord). IsTrue c.is_result_word.result ↔ IsResultWord s (seen_callee c.own-in-RetWord.result) w.int) c.value.view_is
    (passed (λ (z : ℤ). IsTrue c.is_result_word.result ↔ IsResultWord s (seen_callee c.own-in-RetWord.result) z) c.value.inside.int (search rules) c.is_result_word.ensures)))
    (return_word_range s f v v.op.family (sym (ap (λ v. v.op.family) c.value.view_is) ∙ c.in-RetWord.is))

pub returns-in-ResWord : goal.returns-in-ResWord
returns-in-ResWord c =
    let s = measure c.args.scope.now in
    let f = c.args.scope.now.func.now in
    let v = c.args.value.now in
    through c.is_word_of_result.ensures (result_word_range s f v v.op.family (sym (ap (λ v. v.op.family) c.value.view_is) ∙ c.in-ResWord.is))

pub is_register_of_result-requires-clause-named : goal.is_register_of_result-requires-clause-named
is_register_of_result-requires-clause-named c = let (b, has) = c.requires.there in c.requires.named.args b c.args.value.now has

pub returns-in-ArgReg : goal.returns-in-ArgReg
returns-in-ArgReg c =
    let s = measure c.args.scope.now in
    let f = c.args.scope.now.func.now in
    let v = c.args.value.now in
    through (subst (λ (g : SigRecord). IsTrue c.is_in_register.result ↔ IsInRegister s g.args v.int) c.own-in-ArgReg.ensures
    (subst (λ (w : ValueRecord). IsTrue c.is_in_register.result ↔ IsInRegister s (seen_callee c.own-in-ArgReg.result).args w.int) c.value.view_is
    (passed (λ (z : ℤ). IsTrue c.is_in_register.result ↔ IsInRegister s (seen_callee c.own-in-ArgReg.result).args z) c.value.inside.int (search rules) c.is_in_register.ensures)))
    (argument_register_range s f v v.op.family (sym (ap (λ v. v.op.family) c.value.view_is) ∙ c.in-ArgReg.is))

pub returns-in-ResReg : goal.returns-in-ResReg
returns-in-ResReg c =
    let s = measure c.args.scope.now in
    let f = c.args.scope.now.func.now in
    let v = c.args.value.now in
    through c.is_register_of_result.ensures (result_register_range s f v v.op.family (sym (ap (λ v. v.op.family) c.value.view_is) ∙ c.in-ResReg.is))

pub returns-in-OutWord : goal.returns-in-OutWord
returns-in-OutWord c =
    let s = measure c.args.scope.now in
    let f = c.args.scope.now.func.now in
    let v = c.args.value.now in
    let (b, has) = c.requires.there in
    let is = sym (ap (λ v. v.op.family) c.value.view_is) ∙ c.in-OutWord.is in
    through (subst (λ (r : Bool). IsTrue c.is_marked.result ↔ (r ≡ true)) c.is_marked.ensures ((λ t. t), (λ t. t)))
    (through (answer_of s f Counted c.args.counted.now b v c.requires.counted (c.requires.named.own b v has) has is) (argument_range s f v v.op.family is))

pub returns-in_default : goal.returns-in_default
returns-in_default c =
    let s = measure c.args.scope.now in
    let f = c.args.scope.now.func.now in
    let v = c.args.value.now in
    let d = c.in_default in
    let family = ap (λ v. v.op.family) c.value.view_is in
    through (subst (λ (w : ValueRecord). IsTrue c.is_signed-in_default.result ↔ IsSigned 64 w.int) c.value.view_is
    (passed (λ (z : ℤ). IsTrue c.is_signed-in_default.result ↔ IsSigned 64 z) c.value.inside.int (search rules) c.is_signed-in_default.ensures))
    (other_number s f v v.op.family (λ e. d.not-Const (family ∙ e)) (λ e. d.not-ConstBool (family ∙ e)) (λ e. d.not-Trap (family ∙ e)) (λ e. d.not-SelectN (family ∙ e))
    (λ e. d.not-ArgWord (family ∙ e)) (λ e. d.not-RetWord (family ∙ e)) (λ e. d.not-ResWord (family ∙ e)) (λ e. d.not-OutWord (family ∙ e))
    (λ e. d.not-ArgReg (family ∙ e)) (λ e. d.not-ResReg (family ∙ e)))
