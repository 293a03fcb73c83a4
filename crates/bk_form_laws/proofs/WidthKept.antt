-- Width after a visit.
use Rattle.std.proofs.Common.{◌≡◌, refl, ap, sym, subst, ◌∙◌, inl, inr, List, Some, true}
use Rattle.std.specs.Prelude.{slice_get}
use Rattle.std.proofs.lemmas.Bool.{cases_eq}
use Rattle.bk_ops.specs.Families.{is_call as is_call_family, is_call_result}
use Rattle.bk_ops.specs.Table.{info_of}
use Rattle.bk_ops.specs.declared.family.Family.{Family}
use Rattle.bk_ops.specs.declared.family.Family.TheVariants as op
use Rattle.bk_ops.specs.declared.table.AuxKind.{AuxKind}
use Rattle.bk_ops.specs.declared.table.AuxKind.TheVariants as aux
use Rattle.bk_func.specs.Records.{ValueRecord, BlockRecord, FuncRecord, SigRecord}
use Rattle.bk_func.specs.declared.form.FormKind.TheVariants.{Ty, Width}
use Rattle.bk_func.specs.Form.{Keeps}
use Rattle.bk_func.specs.Form.Text.{HasValue}
use Rattle.bk_func.specs.Form.Signatures.{Setting, ResultOf, ArgumentOf, sig_of}
use Rattle.bk_func.specs.Form.Parts.{InRange, HasRange}
use Rattle.bk_func.specs.Form.Shapes.{slot, FitsPlace, is_call_of}
use Rattle.bk_form_laws.specs.Visits.{IsNew}
use Rattle.bk_form_laws.specs.Fits.{IsCall, Replaces, SameNames}
use Rattle.bk_form_laws.proofs.Steps.{Step, after, block_after, here, root_in, partner_at, stays, is_v, each, old_value, argument_there, word_call}
use Rattle.bk_form_laws.proofs.WordsKept.{argument_over}

abbrev pub TakesResults : Family → Type 0
TakesResults o = is_call_result o ≡ true

called : (o p : Family) → is_call_of o p ≡ true → is_call_family p ≡ true
called op.SelectN op.StaticLECall e = refl
called op.SelectN _ e = absurd cc
called _ p e = word_call p e

call_place : (s : Setting) (f : FuncRecord) (u w : ValueRecord) (o : Family) → TakesResults o → FitsPlace s f u o 0 w → is_call_of u.op.family w.op.family ≡ true
unfolding FitsPlace slot
call_place s f u w op.SelectN e h = h
call_place s f u w op.ResWord e h = h
call_place s f u w op.ResReg e h = h
call_place s f u w _ e h = absurd cc

pub is_call : (s : Setting) (f : FuncRecord) → Keeps s f Ty → (c b : BlockRecord) (u w : ValueRecord) → HasValue f c u → TakesResults u.op.family → HasValue f b w → slice_get u.args 0 ≡ Some w.id → IsCall w
is_call s f k c b u w h r i e = called u.op.family w.op.family (call_place s f u w u.op.family r (((k c h.0).value u h.1).args 0 b w i e))

pub result_over : (t : Step) → Replaces t.s.target t.v t.root → Keeps t.s t.f Ty → (c : BlockRecord) (u : ValueRecord) → HasValue t.f c u → TakesResults u.op.family → (g : SigRecord) →
    ResultOf t.s.pkg t.f u g → ResultOf t.s.pkg (after t) u g
result_over t r k c u h q g (b, w, i, e, z) = elim (cases_eq w.id t.v.id) [
  | inl d ↦ (let y = (is_v t b w i d).1 in
      let call : IsCall t.v = (let P : ValueRecord → Type 0 = λ a. IsCall a in subst P y (is_call t.s t.f k c b u w h q i e)) in
      (block_after t, t.root, root_in t, e ∙ ap Some (d ∙ sym t.visit.same), ap (sig_of t.s.pkg) (r.aux call) ∙ (ap (λ (a : ValueRecord). sig_of t.s.pkg a.aux) (sym y) ∙ z)))
  | inr d ↦ (let j = partner_at t b i.0 in (j.0, w, stays t b j.0 w j.1 i d, e, z))
]

pub result_back : (t : Step) → Replaces t.s.target t.v t.root → Keeps t.s t.f Ty → (c : BlockRecord) (u : ValueRecord) → HasValue t.f c u → TakesResults u.op.family → (g : SigRecord) →
    ResultOf t.s.pkg (after t) u g → ResultOf t.s.pkg t.f u g
result_back t r k c u h q g (b, w, i, e, z) = elim (old_value t b w i (argument_there t c u h 0 w.id e)) [
  | inl y ↦ (let d : slice_get u.args 0 ≡ Some t.v.id = e ∙ ap Some (ap (λ (a : ValueRecord). a.id) y ∙ t.visit.same) in
      let call : IsCall t.v = is_call t.s t.f k c t.x u t.v h q (here t) d in
      (t.x, t.v, here t, d, ap (sig_of t.s.pkg) (sym (r.aux call)) ∙ (ap (λ (a : ValueRecord). sig_of t.s.pkg a.aux) (sym y) ∙ z)))
  | inr y ↦ (y.0, w, y.2, e, z)
]

range_over : (s : Setting) (f : FuncRecord) (bs : List BlockRecord) (u : ValueRecord) (o : Family) →
    (TakesResults o → (g : SigRecord) → ResultOf s.pkg f u g → ResultOf s.pkg (record f { blocks = bs }) u g) →
    ((g : SigRecord) → ArgumentOf s.pkg f u g → ArgumentOf s.pkg (record f { blocks = bs }) u g) → InRange s f u o → InRange s (record f { blocks = bs }) u o
unfolding InRange
range_over s f bs u op.SelectN r a (g, h, k) = (g, r refl g h, k)
range_over s f bs u op.ResWord r a (g, h, k) = (g, r refl g h, k)
range_over s f bs u op.ResReg r a (g, h, k) = (g, r refl g h, k)
range_over s f bs u op.OutWord r a (g, h, k) = (g, a g h, k)
range_over s f bs u op.Const r a h = h
range_over s f bs u op.ConstBool r a h = h
range_over s f bs u op.Trap r a h = h
range_over s f bs u op.ArgWord r a h = h
range_over s f bs u op.RetWord r a h = h
range_over s f bs u op.ArgReg r a h = h
range_over s f bs u _ r a h = h

has_range_over : (s : Setting) (f : FuncRecord) (bs : List BlockRecord) (u : ValueRecord) (x : AuxKind) →
    (InRange s f u u.op.family → InRange s (record f { blocks = bs }) u u.op.family) → HasRange s f u x → HasRange s (record f { blocks = bs }) u x
has_range_over s f bs u aux.Int k h = k h
has_range_over s f bs u aux.None k h = h
has_range_over s f bs u aux.Name k h = h
has_range_over s f bs u aux.Ty k h = h

-- A visit keeps Width, where the numbers beside the new values are in range, root may stand for v, and names mean what they meant.
-- It needs Missing and Type of f: a result's argument is a call.
pub width_kept : (t : Step) → Replaces t.s.target t.v t.root → SameNames t.f (after t) t.v t.root t.made → Keeps t.s t.f Ty → ((w : ValueRecord) → IsNew t.root t.made w → HasRange t.s (after t) w (info_of w.op).aux) →
    Keeps t.s t.f Width → Keeps t.s (after t) Width
width_kept t r n k new h d i = record {
  block = tt;
  value = λ w j. each t (λ d w. HasRange t.s (after t) w (info_of w.op).aux) (new t.root (inl refl)) (λ w j. new w (inr j))
      (λ c d u p q a. has_range_over t.s t.f (after t).blocks u (info_of u.op).aux
      (range_over t.s t.f (after t).blocks u u.op.family (result_over t r k c u q) (argument_over t r n t.s.pkg c u q a)) ((h c q.0).value u q.1)) d w (i, j);
}
