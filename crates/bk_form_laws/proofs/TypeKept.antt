-- Type after a visit.
use Rattle.std.proofs.Common.{◌≡◌, ℕ, refl, ap, sym, subst, ◌∙◌, inl, inr, List, Some, None, Option, Bool, true, false, ℤ}
use Rattle.std.specs.Prelude.{slice_get, IfSome, MatchOption, MatchBool}
use Rattle.std.proofs.lemmas.Bool.{cases_eq}
use Rattle.bk_ops.specs.Table.{info_of}
use Rattle.bk_ops.specs.Types.{width_of, word_width}
use Rattle.bk_ops.specs.declared.types.Target.{Target}
use Rattle.bk_ops.specs.declared.family.Family.{Family}
use Rattle.bk_ops.specs.declared.family.Family.TheVariants as op
use Rattle.bk_ops.specs.declared.table.Class.{Class}
use Rattle.bk_ops.specs.declared.table.Class.TheVariants.{Number, Word, Bool as Truth, Mem as State, Void as Nothing, Tuple as Results, ByType}
use Rattle.bk_ops.specs.declared.types.Ty.{Ty as Types}
use Rattle.bk_ops.specs.declared.types.Ty.TheVariants.{Bool as Boolean, Mem}
use Rattle.bk_func.specs.declared.parts.Aux.{Aux}
use Rattle.bk_func.specs.declared.parts.Aux.TheVariants as beside
use Rattle.bk_func.specs.declared.parts.Kind.{Kind}
use Rattle.bk_func.specs.declared.parts.Kind.TheVariants.{Plain, If, First, Ret, Exit}
use Rattle.bk_func.specs.Records.{ValueRecord, BlockRecord, FuncRecord, SigRecord}
use Rattle.bk_func.specs.declared.form.FormKind.TheVariants.{Ty}
use Rattle.bk_func.specs.Form.{Keeps}
use Rattle.bk_func.specs.Form.Text.{HasValue}
use Rattle.bk_func.specs.Form.States.{StandsFor}
use Rattle.bk_func.specs.Form.Signatures.{Setting, in_registers, ResultOf, ArgumentOf, sig_of}
use Rattle.bk_func.specs.Form.Parts.{IsValueNumber}
use Rattle.bk_func.specs.Form.Shapes.{IsData, FitsBits, FitsTruth, IsAlike, Slot, bits, word, truth, memory, same, stored, base, call, argument, result, slot, IsFree, is_call_of, FitsStored, FitsWordOf, FitsSlot, FitsList, FitsPlace, GivesByType, GivesWord, GivesResults, Gives, HasTypes, IsMemory, FitsControl, HasControlType}
use Rattle.bk_form_laws.specs.Visits.{IsNew}
use Rattle.bk_form_laws.specs.Fits.{IsThere, Replaces, SameNames}
use Rattle.bk_form_laws.proofs.Pairs.{shape, in_old}
use Rattle.bk_form_laws.proofs.EasyKinds.{each_block}
use Rattle.bk_form_laws.proofs.Steps.{Step, after, block_after, Pairs, here, root_in, partner_at, turned_at, stays, is_v, each, old_value, there, argument_there}
use Rattle.bk_form_laws.proofs.WordsKept.{Stays, word_call_stays, argument_back}
use Rattle.bk_form_laws.proofs.WidthKept.{TakesResults, result_over, result_back}

-- ---- what a value gives, and takes, by the signatures of g
abbrev Back : Setting → FuncRecord → List BlockRecord → ValueRecord → Type 0
Back s f bs u = (g : SigRecord) → ArgumentOf s.pkg (record f { blocks = bs }) u g → ArgumentOf s.pkg f u g

gives_over : (s : Setting) (f : FuncRecord) (bs : List BlockRecord) (u : ValueRecord) →
    (TakesResults u.op.family → (g : SigRecord) → ResultOf s.pkg f u g → ResultOf s.pkg (record f { blocks = bs }) u g) →
    (TakesResults u.op.family → (g : SigRecord) → ResultOf s.pkg (record f { blocks = bs }) u g → ResultOf s.pkg f u g) → (c : Class) → Gives s f u c → Gives s (record f { blocks = bs }) u c
unfolding GivesWord GivesResults GivesByType
gives_over s f bs u r q (Number n) h = h
gives_over s f bs u r q Word h = go u.op.family r q h
  where
    go : (o : Family) → (TakesResults o → (g : SigRecord) → ResultOf s.pkg f u g → ResultOf s.pkg (record f { blocks = bs }) u g) →
        (TakesResults o → (g : SigRecord) → ResultOf s.pkg (record f { blocks = bs }) u g → ResultOf s.pkg f u g) → GivesWord s f u o → GivesWord s (record f { blocks = bs }) u o
    go op.ArgWord r q h = h
    go op.ResWord r q h = (h.0, λ g z. h.1 g (q refl g z))
    go op.ArgReg r q h = h
    go op.ResReg r q h = (h.0, λ g z. h.1 g (q refl g z))
    go _ r q h = h
gives_over s f bs u r q Truth h = h
gives_over s f bs u r q State h = h
gives_over s f bs u r q Nothing h = h
gives_over s f bs u r q Results h = go u.op.family h
  where
    go : (o : Family) → GivesResults s f u o → GivesResults s (record f { blocks = bs }) u o
    go op.MakeResult h = h
    go _ h = h
gives_over s f bs u r q ByType h = go u.op.family r h
  where
    go : (o : Family) → (TakesResults o → (g : SigRecord) → ResultOf s.pkg f u g → ResultOf s.pkg (record f { blocks = bs }) u g) → GivesByType s f u o → GivesByType s (record f { blocks = bs }) u o
    go op.Phi r h = h
    go op.Copy r h = h
    go op.Arg r h = h
    go op.SelectN r h = (h.0, r refl h.0 h.1, h.2)
    go _ r h = h

slot_over : (s : Setting) (f : FuncRecord) (bs : List BlockRecord) (u w : ValueRecord) → Back s f bs u → (z : Slot) → FitsSlot s f u w z → FitsSlot s (record f { blocks = bs }) u w z
slot_over s f bs u w a (bits n) h = h
slot_over s f bs u w a word h = h
slot_over s f bs u w a truth h = h
slot_over s f bs u w a memory h = h
slot_over s f bs u w a same h = h
slot_over s f bs u w a stored h = h
slot_over s f bs u w a base h = h
slot_over s f bs u w a call h = h
slot_over s f bs u w a argument h = (h.0, h.1, λ g z. h.2 g (a g z))
slot_over s f bs u w a result h = h

pub place_over : (s : Setting) (f : FuncRecord) (bs : List BlockRecord) (u w : ValueRecord) → Back s f bs u → (o : Family) (i : ℕ) → FitsPlace s f u o i w → FitsPlace s (record f { blocks = bs }) u o i w
unfolding FitsPlace
place_over s f bs u w a op.StaticLECall i h = h
place_over s f bs u w a op.MakeResult i h = h
place_over s f bs u w a op.CallRegs i h = h
place_over s f bs u w a op.RetRegs i h = h
place_over s f bs u w a o i h = slot_over s f bs u w a (slot u.op o i) h

-- ---- root at a place where v was
data_root : (s : Setting) (v root : ValueRecord) → Replaces s.target v root → IsData s v.ty → IsData s root.ty
data_root s v root r h e = h (sym r.width ∙ e)

bits_root : (s : Setting) (v root : ValueRecord) → Replaces s.target v root → (n : ℕ) → FitsBits s n v.ty → FitsBits s n root.ty
bits_root s v root r n h = go s.loose h
  where
    go : (l : Bool) → MatchBool l (IsData s v.ty) (width_of v.ty s.target ≡ n) → MatchBool l (IsData s root.ty) (width_of root.ty s.target ≡ n)
    go true h = data_root s v root r h
    go false h = r.width ∙ h

pub truth_root : (s : Setting) (v root : ValueRecord) → Replaces s.target v root → FitsTruth s v.ty → FitsTruth s root.ty
truth_root s v root r h = go s.loose h
  where
    go : (l : Bool) → MatchBool l (IsData s v.ty) (v.ty ≡ Boolean) → MatchBool l (IsData s root.ty) (root.ty ≡ Boolean)
    go true h = data_root s v root r h
    go false h = r.truth h

free_root : (t : Target) (v root : ValueRecord) → Replaces t v root → IsFree v → IsFree root
free_root t v root r h e = h (r.special_back op.Sb refl e)

word_of_root : (s : Setting) (v root : ValueRecord) → Replaces s.target v root → (g : SigRecord) (n : ℤ) → FitsWordOf s g n v.ty → FitsWordOf s g n root.ty
word_of_root s v root r g n h k y e q = (let z = h k y e q in (z.0, bits_root s v root r (width_of y s.target) z.1))

stored_root : (s : Setting) (v root : ValueRecord) → Replaces s.target v root → (a : Aux) → FitsStored s a v.ty → FitsStored s a root.ty
stored_root s v root r (beside.Ty x) h = (h.0, bits_root s v root r (width_of x s.target) h.1)
stored_root s v root r beside.Nothing h = h
stored_root s v root r (beside.Sym n) h = h
stored_root s v root r (beside.Arg n) h = h

call_stays : (u a b : Family) → Stays a b → is_call_of u a ≡ true → is_call_of u b ≡ true
call_stays op.SelectN op.StaticLECall b h e = ap (is_call_of op.SelectN) (h op.StaticLECall refl refl)
call_stays op.SelectN _ b h e = absurd cc
call_stays _ a b h e = word_call_stays a b h e

pub slot_root : (s : Setting) (f : FuncRecord) (u v root : ValueRecord) → Replaces s.target v root → (z : Slot) → FitsSlot s f u v z → FitsSlot s f u root z
slot_root s f u v root r (bits n) h = (free_root s.target v root r h.0, bits_root s v root r n h.1)
slot_root s f u v root r word h = (free_root s.target v root r h.0, bits_root s v root r (word_width s.target) h.1)
slot_root s f u v root r truth h = (free_root s.target v root r h.0, truth_root s v root r h.1)
slot_root s f u v root r memory h = r.memory h
slot_root s f u v root r same (inl h) = inl (h.0, r.memory h.1)
slot_root s f u v root r same (inr h) = inr (free_root s.target v root r h.0, (h.1.0, bits_root s v root r (width_of u.ty s.target) h.1.1))
slot_root s f u v root r stored h = (free_root s.target v root r h.0, stored_root s v root r u.aux h.1)
slot_root s f u v root r base h = r.special op.Sb refl h
slot_root s f u v root r call h = call_stays u.op.family v.op.family root.op.family r.special h
slot_root s f u v root r argument h = (free_root s.target v root r h.0, data_root s v root r h.1, λ g a. word_of_root s v root r g u.int (h.2 g a))
slot_root s f u v root r result h = (free_root s.target v root r h.0, data_root s v root r h.1, word_of_root s v root r f.sig u.int h.2)

list_root : (s : Setting) (v root : ValueRecord) → Replaces s.target v root → (o : Option SigRecord) (part : SigRecord → List Types) (i : ℕ) → FitsList s o part i v → FitsList s o part i root
list_root s v root r None part i h = h
list_root s v root r (Some g) part i h = go (slice_get (s.places (part g)) i) h
  where
    go : (o : Option Types) → MatchOption o (v.ty ≡ Mem) (λ x. IsFree v × IsAlike s x v.ty) → MatchOption o (root.ty ≡ Mem) (λ x. IsFree root × IsAlike s x root.ty)
    go None h = r.memory h
    go (Some x) h = (free_root s.target v root r h.0, (h.1.0, bits_root s v root r (width_of x s.target) h.1.1))

pub place_root : (s : Setting) (f : FuncRecord) (u v root : ValueRecord) → Replaces s.target v root → (o : Family) (i : ℕ) → FitsPlace s f u o i v → FitsPlace s f u o i root
unfolding FitsPlace
place_root s f u v root r op.StaticLECall i h = list_root s v root r (sig_of s.pkg u.aux) (λ g. g.args) i h
place_root s f u v root r op.MakeResult i h = list_root s v root r (Some f.sig) (λ g. g.results) i h
place_root s f u v root r op.CallRegs i h = list_root s v root r (sig_of s.pkg u.aux) (λ g. in_registers s g.args) i h
place_root s f u v root r op.RetRegs i h = list_root s v root r (Some f.sig) (λ g. in_registers s g.results) i h
place_root s f u v root r o i h = slot_root s f u v root r (slot u.op o i) h

-- ---- controls
memory_over : (t : Step) → Replaces t.s.target t.v t.root → SameNames t.f (after t) t.v t.root t.made → (P : ValueRecord → Type 0) → (P t.v → P t.root) → (n : ℕ) → IsMemory t.f n P → IsMemory (after t) n P
memory_over t r h P k n (b, u, i, st, e, p) = elim (cases_eq u.id t.v.id) [
  | inl d ↦ (let z = (is_v t b u i d).1 in
      (block_after t, t.root, root_in t, subst (λ m. StandsFor (after t) n m) (d ∙ sym t.visit.same) (h.stands n u.id st), r.memory (sym (ap (λ (y : ValueRecord). y.ty) z) ∙ e), k (subst P z p)))
  | inr d ↦ (let j = partner_at t b i.0 in (j.0, u, stays t b j.0 u j.1 i d, h.stands n u.id st, e, p))
]

control_over : (t : Step) → Replaces t.s.target t.v t.root → SameNames t.f (after t) t.v t.root t.made → (u : ValueRecord) (k : Kind) → FitsControl t.s t.f u k → FitsControl t.s (after t) u k
control_over t r n u Plain h = h
control_over t r n u First h = h
control_over t r n u If h = h
control_over t r n u Ret (inl h) = inl h
control_over t r n u Ret (inr (inl h)) = inr (inl h)
control_over t r n u Ret (inr (inr (inl h))) = inr (inr (inl h))
control_over t r n u Ret (inr (inr (inr h))) = inr (inr (inr (h.0, memory_over t r n (λ u. Unit {0}) (λ z. z) u.id h.1)))
control_over t r n u Exit h = memory_over t r n (λ u. ¬ (u.op.family ≡ op.MakeResult)) (λ a e. a (r.special_back op.MakeResult refl e)) u.id h

control_root : (t : Step) → Replaces t.s.target t.v t.root → SameNames t.f (after t) t.v t.root t.made → (k : Kind) → FitsControl t.s t.f t.v k → FitsControl t.s (after t) t.root k
control_root t r n Plain h = h
control_root t r n First h = h
control_root t r n If h = (free_root t.s.target t.v t.root r h.0, truth_root t.s t.v t.root r h.1)
control_root t r n Ret (inl h) = inl (r.special op.MakeResult refl h)
control_root t r n Ret (inr (inl h)) = inr (inl (r.special op.RetWord refl h))
control_root t r n Ret (inr (inr (inl h))) = inr (inr (inl (r.special op.RetRegs refl h)))
control_root t r n Ret (inr (inr (inr h))) = inr (inr (inr (h.0, subst (λ m. IsMemory (after t) m (λ u. Unit {0})) (sym t.visit.same) (memory_over t r n (λ u. Unit {0}) (λ z. z) t.v.id h.1))))
control_root t r n Exit h = subst (λ m. IsMemory (after t) m (λ u. ¬ (u.op.family ≡ op.MakeResult))) (sym t.visit.same)
    (memory_over t r n (λ u. ¬ (u.op.family ≡ op.MakeResult)) (λ a e. a (r.special_back op.MakeResult refl e)) t.v.id h)

at_some : (P : ℕ → Type 0) (o : Option ℕ) (n : ℕ) → IfSome o P → o ≡ Some n → P n
at_some P None n h e = absurd cc
at_some P (Some m) n h e = (let d : m ≡ n = cc in subst P d h)

controls : (t : Step) → Replaces t.s.target t.v t.root → SameNames t.f (after t) t.v t.root t.made → Keeps t.s t.f Ty → (c d : BlockRecord) → Pairs t c d → HasControlType t.s (after t) d
controls t r n k c d p b w i e =
    let q = shape t.f (after t) t.x (block_after t) c d (turned_at t).shape p in
    let j = in_old t.f (after t) t.x (block_after t) c d p in
    let e2 : c.control ≡ Some w.id = q.control ∙ e in
    let l : IsThere t.f w.id = there t.f w.id (at_some (IsValueNumber t.f) c.control w.id (t.missing c j).block.control e2) in
    let ks : HasControlType t.s t.f c = (k c j).block in
    subst (λ y. FitsControl t.s (after t) w y) q.kind (elim (old_value t b w i l) as (λ _. FitsControl t.s (after t) w c.kind) [
      | inl z ↦ (let e3 : c.control ≡ Some t.v.id = e2 ∙ ap Some (ap (λ (y : ValueRecord). y.id) z ∙ t.visit.same) in
          let P : ValueRecord → Type 0 = λ y. FitsControl t.s (after t) y c.kind in
          subst P (sym z) (control_root t r n c.kind (ks t.x t.v (here t) e3)))
      | inr z ↦ control_over t r n w c.kind (ks z.0 w z.2 e2)
    ])

-- ---- all values
old_types : (t : Step) → Replaces t.s.target t.v t.root → SameNames t.f (after t) t.v t.root t.made → Keeps t.s t.f Ty → (c : BlockRecord) (u : ValueRecord) → HasValue t.f c u → ¬ (u.id ≡ t.v.id) → HasTypes t.s (after t) u
old_types t r n k c u h y =
    let q = (k c h.0).value u h.1 in
    let a : Back t.s t.f (after t).blocks u = argument_back t r n t.s.pkg c u h y in record {
      op = q.op;
      result = gives_over t.s t.f (after t).blocks u (result_over t r k c u h) (result_back t r k c u h) (info_of u.op).result q.result;
      aux = q.aux;
      args = λ i b w j e. elim (old_value t b w j (argument_there t c u h i w.id e)) as (λ _. FitsPlace t.s (after t) u u.op.family i w) [
        | inl z ↦ (let e2 : slice_get u.args i ≡ Some t.v.id = e ∙ ap Some (ap (λ (y : ValueRecord). y.id) z ∙ t.visit.same) in
            let P : ValueRecord → Type 0 = λ y. FitsPlace t.s (after t) u u.op.family i y in
            subst P (sym z) (place_over t.s t.f (after t).blocks u t.root a u.op.family i (place_root t.s t.f u t.v t.root r u.op.family i (q.args i t.x t.v (here t) e2))))
        | inr z ↦ place_over t.s t.f (after t).blocks u w a u.op.family i (q.args i z.0 w z.2 e)
      ];
    }

-- A visit keeps Type, where the new values have their types in g, root may stand for v and names mean what they meant.
pub type_kept : (t : Step) → Replaces t.s.target t.v t.root → SameNames t.f (after t) t.v t.root t.made → ((w : ValueRecord) → IsNew t.root t.made w → HasTypes t.s (after t) w) → Keeps t.s t.f Ty → Keeps t.s (after t) Ty
type_kept t r n new k d i = record {
  block = each_block t.f t.b t.k t.x t.v t.root t.made t.visit (HasControlType t.s (after t)) (controls t r n k) d i;
  value = λ w j. each t (λ d w. HasTypes t.s (after t) w) (new t.root (inl refl)) (λ w j. new w (inr j)) (λ c d u p q a. old_types t r n k c u q a) d w (i, j);
}
