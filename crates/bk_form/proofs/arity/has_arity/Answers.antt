use Rattle.std.proofs.Common.{◌≡◌, ◌∙◌, sym, ap, subst, refl, true, ℕ, ◌+◌, ◌<◌, ◌↔◌, List, [], length, take, Option, Some, None}
use Rattle.std.specs.Bool.{IsTrue}
use Rattle.std.specs.Option.{IfSome}
use Rattle.std.proofs.lemmas.Bool.{false≢true}
use Rattle.bk_ops.specs.Table.{info_of}
use Rattle.bk_func.specs.Form.Signatures.{sig_of}
use Rattle.bk_func.specs.Records.{SigRecord}
use Rattle.bk_func.specs.Words.{register_words}
use Rattle.bk_form.specs.Names.{measure, seen_callee}
use Rattle.bk_form.proofs.Tables.{fixed_arity, phi_arity, result_arity, call_arity_is, no_call_arity, registers_arity_is, returned_arity, through}
use Rattle.bk_form.proofs.arity.has_arity.Goals as goal

pub returns-in-Phi : goal.returns-in-Phi
returns-in-Phi c =
    let v = c.args.value.now in
    let is = sym (ap (λ v. v.op.family) c.value.view_is) ∙ c.in-Phi.is in
    let preds = c.deref.ensures.value ∙ ap (λ b. b.preds) c.block.view_is in
    through (subst (λ (ps : List ℕ). IsTrue c.takes_each.result ↔ ((length v.args ≡ length ps) × ¬ (v.args ≡ []))) preds c.takes_each.ensures)
    (phi_arity (measure c.args.scope.now) c.args.scope.now.func.now c.args.block.now v v.op.family is)

pub returns-in-MakeResult : goal.returns-in-MakeResult
returns-in-MakeResult c =
    let v = c.args.value.now in
    let s = c.args.scope.now in
    let is = sym (ap (λ v. v.op.family) c.value.view_is) ∙ c.in-MakeResult.is in
    through (subst (λ n. IsTrue c.has_count.result ↔ (length v.args ≡ n + 1)) (ap (λ g. length g.results) c.own.ensures) c.has_count.ensures)
    (result_arity s.pkg.now s.target s.func.now c.args.block.now v v.op.family is)

pub returns-in-RetRegs : goal.returns-in-RetRegs
returns-in-RetRegs c =
    let v = c.args.value.now in
    let s = c.args.scope.now in
    let is = sym (ap (λ v. v.op.family) c.value.view_is) ∙ c.in-RetRegs.is in
    through (subst (λ (g : SigRecord). IsTrue c.returns_registers.result ↔ ((length v.args ≡ length (take (register_words s.target) g.results) + 1) × (1 < length v.args))) c.own-in-RetRegs.ensures c.returns_registers.ensures)
    (returned_arity s.pkg.now s.target s.func.now c.args.block.now v v.op.family is)

pub returns-in-CallRegs : goal.returns-in-CallRegs
returns-in-CallRegs c =
    let v = c.args.value.now in
    let s = c.args.scope.now in
    let is = sym (ap (λ v. v.op.family) c.value.view_is) ∙ c.in-CallRegs.is in
    let sig = c.callee_of-in-CallRegs.ensures ∙ ap (λ v. sig_of s.pkg.now v.aux) c.value.view_is in
    through (subst (λ (o : Option SigRecord). IsTrue c.takes_registers_of.result ↔ ((g : SigRecord) × (o ≡ Some g) × (length v.args ≡ length (take (register_words s.target) g.args) + 1))) sig c.takes_registers_of.ensures)
    (registers_arity_is s.pkg.now s.target s.func.now c.args.block.now v v.op.family is)

pub returns-in-Some : goal.returns-in-Some
returns-in-Some c =
    let v = c.args.value.now in
    let s = c.args.scope.now in
    let is = sym (ap (λ v. v.op.family) c.value.view_is) ∙ c.in-StaticLECall.is in
    let sig = sym (ap (λ v. sig_of s.pkg.now v.aux) c.value.view_is) ∙ sym c.in-Some.ensures in
    through c.has_count-in-Some.ensures (call_arity_is s.pkg.now s.target s.func.now c.args.block.now v v.op.family (seen_callee c.in-Some.callee) is sig)

pub returns-in-None : goal.returns-in-None
returns-in-None c =
    let v = c.args.value.now in
    let s = c.args.scope.now in
    let is = sym (ap (λ v. v.op.family) c.value.view_is) ∙ c.in-StaticLECall.is in
    let sig = sym (ap (λ v. sig_of s.pkg.now v.aux) c.value.view_is) ∙ sym c.in-None.ensures in
    ((λ t. absurd (false≢true t)), (λ h. absurd (no_call_arity s.pkg.now s.target s.func.now c.args.block.now v v.op.family is sig h)))

pub returns-in-Some-arity : goal.returns-in-Some-arity
returns-in-Some-arity c =
    let v = c.args.value.now in
    let d = c.in_default in
    let family = ap (λ v. v.op.family) c.value.view_is in
    let row : (info_of v.op).arity ≡ Some c.in-Some-arity.arity =
    sym (ap (λ i. i.arity) (c.op_info.ensures ∙ ap (λ v. info_of v.op) c.value.view_is)) ∙ c.in-Some-arity.is in
    let h : IsTrue c.has_count-in-Some-arity.result ↔ IfSome (info_of v.op).arity (λ n. length v.args ≡ n) = rw row c.has_count-in-Some-arity.ensures in
    through h (fixed_arity (measure c.args.scope.now) c.args.scope.now.func.now c.args.block.now v v.op.family
    (λ e. d.not-Phi (family ∙ e)) (λ e. d.not-MakeResult (family ∙ e)) (λ e. d.not-StaticLECall (family ∙ e)) (λ e. d.not-CallRegs (family ∙ e)) (λ e. d.not-RetRegs (family ∙ e)))

pub returns-in-None-arity : goal.returns-in-None-arity
returns-in-None-arity c =
    let v = c.args.value.now in
    let d = c.in_default in
    let family = ap (λ v. v.op.family) c.value.view_is in
    let row : (info_of v.op).arity ≡ None = sym (ap (λ i. i.arity) (c.op_info.ensures ∙ ap (λ v. info_of v.op) c.value.view_is)) ∙ c.in-None-arity.is in
    let h : IsTrue true ↔ IfSome (info_of v.op).arity (λ n. length v.args ≡ n) = rw row ((λ _. tt), (λ _. refl)) in
    through h (fixed_arity (measure c.args.scope.now) c.args.scope.now.func.now c.args.block.now v v.op.family
    (λ e. d.not-Phi (family ∙ e)) (λ e. d.not-MakeResult (family ∙ e)) (λ e. d.not-StaticLECall (family ∙ e)) (λ e. d.not-CallRegs (family ∙ e)) (λ e. d.not-RetRegs (family ∙ e)))
