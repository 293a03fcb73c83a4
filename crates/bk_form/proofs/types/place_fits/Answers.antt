use Rattle.std.proofs.Common.{◌≡◌, ◌∙◌, ◌↔◌, sym, ap, subst, Option, MatchOption}
use Rattle.std.specs.Bool.{IsTrue}
use Rattle.std.specs.List.{slice_get}
use Rattle.bk_ops.specs.declared.types.Ty.TheVariants.{Mem}
use Rattle.bk_func.specs.Records.{SigRecord}
use Rattle.bk_func.specs.Form.Signatures.{in_registers, sig_of}
use Rattle.bk_func.specs.Form.Shapes.{Slot, slot, FitsSlot, FitsList, IsFree, IsAlike}
use Rattle.bk_form.specs.Names.{measure}
use Rattle.bk_form.specs.Slots.{seen_slot}
use Rattle.bk_form.proofs.Families.{call_place, own_place, register_place, own_register_place, slot_place}
use Rattle.bk_form.proofs.Slotted.{argument_at}
use Rattle.bk_form.proofs.Tables.{through}
use Rattle.bk_form.proofs.types.place_fits.Goals as goal

pub returns-in-StaticLECall : goal.returns-in-StaticLECall
returns-in-StaticLECall c =
    let s = measure c.args.scope.now in
    let f = c.args.scope.now.func.now in
    let v = c.args.value.now in
    let u = c.args.arg.now in
    let i = c.args.place in
    let is = sym (ap (λ v. v.op.family) c.value.view_is) ∙ c.in-StaticLECall.is in
    let sig = c.callee_of.ensures ∙ ap (λ v. sig_of c.args.scope.now.pkg.now v.aux) c.value.view_is in
    through (subst (λ (o : Option SigRecord). IsTrue c.list_fits.result ↔ FitsList s o (λ g. g.args) i u) sig c.list_fits.ensures) (call_place s f v u v.op.family i is)

pub returns-in-MakeResult : goal.returns-in-MakeResult
returns-in-MakeResult c =
    let s = measure c.args.scope.now in
    let f = c.args.scope.now.func.now in
    let v = c.args.value.now in
    let u = c.args.arg.now in
    let i = c.args.place in
    let is = sym (ap (λ v. v.op.family) c.value.view_is) ∙ c.in-MakeResult.is in
    through (subst (λ (g : SigRecord). IsTrue c.types_fit.result ↔ MatchOption (slice_get g.results i) (u.ty ≡ Mem) (λ x. IsFree u × IsAlike s x u.ty)) c.own.ensures c.types_fit.ensures)
    (own_place s f v u v.op.family i is)

pub returns-in-CallRegs : goal.returns-in-CallRegs
returns-in-CallRegs c =
    let s = measure c.args.scope.now in
    let f = c.args.scope.now.func.now in
    let v = c.args.value.now in
    let u = c.args.arg.now in
    let i = c.args.place in
    let is = sym (ap (λ v. v.op.family) c.value.view_is) ∙ c.in-CallRegs.is in
    let sig = c.callee_of-in-CallRegs.ensures ∙ ap (λ v. sig_of c.args.scope.now.pkg.now v.aux) c.value.view_is in
    through (subst (λ (o : Option SigRecord). IsTrue c.registers_fit.result ↔ FitsList s o (λ g. in_registers s g.args) i u) sig c.registers_fit.ensures) (register_place s f v u v.op.family i is)

pub returns-in-RetRegs : goal.returns-in-RetRegs
returns-in-RetRegs c =
    let s = measure c.args.scope.now in
    let f = c.args.scope.now.func.now in
    let v = c.args.value.now in
    let is = sym (ap (λ v. v.op.family) c.value.view_is) ∙ c.in-RetRegs.is in
    through c.own_registers_fit.ensures (own_register_place s f v c.args.arg.now v.op.family c.args.place is)

pub slot_fits-requires : goal.slot_fits-requires
slot_fits-requires c = λ e.
    let v = c.args.value.now in
    let at : seen_slot c.slot_of.result ≡ slot v.op v.op.family c.args.place = c.slot_of.ensures ∙ ap (λ v. slot v.op v.op.family c.args.place) c.value.view_is in
    let (word, first) = argument_at v.op v.op.family c.args.place (sym at ∙ e) in
    c.requires.word word first

pub returns-in_default : goal.returns-in_default
returns-in_default c =
    let s = measure c.args.scope.now in
    let f = c.args.scope.now.func.now in
    let v = c.args.value.now in
    let u = c.args.arg.now in
    let i = c.args.place in
    let d = c.in_default in
    let family = ap (λ v. v.op.family) c.value.view_is in
    let at : seen_slot c.slot_of.result ≡ slot v.op v.op.family i = c.slot_of.ensures ∙ ap (λ v. slot v.op v.op.family i) c.value.view_is in
    through (subst (λ (x : Slot). IsTrue c.slot_fits.result ↔ FitsSlot s f v u x) at c.slot_fits.ensures)
    (slot_place s f v u v.op.family i (λ e. d.not-StaticLECall (family ∙ e)) (λ e. d.not-MakeResult (family ∙ e)) (λ e. d.not-CallRegs (family ∙ e)) (λ e. d.not-RetRegs (family ∙ e)))
