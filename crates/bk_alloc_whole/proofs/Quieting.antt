-- Words that were passed in registers are taken first, from registers that are open.
use Rattle.std.proofs.Common.{◌≡◌, ◌∙◌, sym, refl, ap, subst, ℕ, ◌+◌, ◌<◌, inl, inr, ⊎_elim, Bool, true, false, cond, not, List, [], ◌∷◌, ◌++◌, length, map, get_or, get_or-set_other, Some, None, arith}
use Rattle.std.proofs.lemmas.Bool.{and_left, false≢true}
use Rattle.std.proofs.lemmas.List.{length-set}
use Rattle.bk_ops.specs.Families.{is_nil_check, is_word_call, is_word_result}
use Rattle.bk_ops.specs.Table as table
use Rattle.bk_ops.specs.Table.{info_of, is_op, row, unknown}
use Rattle.bk_ops.specs.declared.family.Family.{Family}
use Rattle.bk_ops.specs.declared.family.Family.TheVariants as op
use Rattle.bk_ops.specs.declared.table.Class.{Class}
use Rattle.bk_ops.specs.declared.table.Class.TheVariants as class
use Rattle.bk_ops.specs.declared.table.Op.{Op}
use Rattle.bk_ops.specs.declared.types.Target.{Target}
use Rattle.bk_func.specs.declared.form.FormKind.TheVariants.{Ty as Typed}
use Rattle.bk_func.specs.Numbers.{natural}
use Rattle.bk_func.specs.Records.{ValueRecord, BlockRecord, FuncRecord}
use Rattle.bk_func.specs.Form.Shapes.{Gives, GivesWord, HasTypes, IsData}
use Rattle.bk_func.specs.Form.Signatures.{Setting}
use Rattle.bk_func.specs.Form.Text.{HasValue}
use Rattle.bk_func.proofs.Faults.{In}
use Rattle.bk_live.specs.Live.{IsOrdered}
use Rattle.bk_places.proofs.Elements.{to_in}
use Rattle.bk_alloc.specs.Placement.{has_word, has_word_of, role_by, role_of, task_of}
use Rattle.bk_alloc.specs.Registers.{Registers, Uses, is_open, put}
use Rattle.bk_alloc.specs.Tasks.{TaskRecord, after_task, passing}
use Rattle.bk_alloc_quality.specs.Pressure.{AreQuiet, IsQuietAs}
use Rattle.bk_alloc_quality.specs.Flows.{IsCalmAs}
use Rattle.bk_alloc_quality.proofs.Allotting.{calm_quiet}
use Rattle.bk_alloc.specs.Tasks.{after_role}
use Rattle.bk_alloc_whole.specs.Whole.{IsLoweredLeaf, TakesWord}
use Rattle.bk_alloc_whole.proofs.Beginning.{data_word}
use Rattle.bk_alloc_whole.proofs.Words.{map_in}

-- rows of ops

result_at : (o : Op) (g : Family) (c : Class) → o.family ≡ g → is_op o.family o.a o.b ≡ true → (row g o.a o.b).info.result ≡ c → (info_of o).result ≡ c
unfolding info_of
result_at o g c e h r =
    ap (λ (b : Bool). (cond b (row o.family o.a o.b).info unknown).result) h ∙ (ap (λ (x : Family). (row x o.a o.b).info.result) e ∙ r)

leaves_row : (a b : ℕ) → (row op.RetRegs a b).info.result ≡ class.Mem
unfolding row table.entry
leaves_row a b = refl

takes_row : (a b : ℕ) → (row op.ArgReg a b).info.result ≡ class.Word
unfolding row table.entry
takes_row a b = refl

leaves_no_word : (s : Setting) (f : FuncRecord) (v : ValueRecord) → HasTypes s f v → v.op.family ≡ op.RetRegs → has_word_of v.ty ≡ false
leaves_no_word s f v h e =
    let c = result_at v.op op.RetRegs class.Mem e h.op (leaves_row v.op.a v.op.b) in
    ap has_word_of (subst (λ (k : Class). Gives s f v k) c h.result)

takes_data : (s : Setting) (f : FuncRecord) (v : ValueRecord) (g : Family) → GivesWord s f v g → g ≡ op.ArgReg → IsData s v.ty
unfolding GivesWord
takes_data s f v g h e = (subst (λ (x : Family). GivesWord s f v x) e h).0

pub takes_word : (s : Setting) (f : FuncRecord) (v : ValueRecord) → HasTypes s f v → TakesWord v → has_word_of v.ty ≡ true
takes_word s f v h e =
    let c = result_at v.op op.ArgReg class.Word e h.op (takes_row v.op.a v.op.b) in
    data_word s v.ty (takes_data s f v v.op.family (subst (λ (k : Class). Gives s f v k) c h.result) e)

-- a value that takes no word is calm

calm_by : (word : ℕ → Bool) (v : ValueRecord) (g : Family) (w : ℕ) → (g ≡ op.ArgReg → ⊥) → is_word_call g ≡ false → is_word_result g ≡ false → (g ≡ op.RetRegs → has_word v ≡ false) → IsCalmAs (task_of word v) (role_by g w)
calm_by word v op.ArgReg w n c r l = absurd (n refl)
calm_by word v op.ResReg w n c r l = absurd cc
calm_by word v op.Call w n c r l = absurd cc
calm_by word v op.CallRegs w n c r l = absurd cc
calm_by word v op.RetRegs w n c r l = l refl
calm_by word v _ w n c r l = tt

pub calm_value : (t : Target) (f : FuncRecord) (os : List (List ℕ)) → IsLoweredLeaf t f → IsOrdered f os → (word : ℕ → Bool) (b : BlockRecord) (v : ValueRecord) → HasValue f b v → ¬ TakesWord v
    → IsCalmAs (task_of word v) (role_of v)
calm_value t f os free o word b v hv n =
    let types = (o.formed.kinds Typed b hv.0).value v hv.1 in
    calm_by word v v.op.family (natural v.int) n (free.calls b v hv).0 (free.calls b v hv).1
    (λ e. and_left (has_word_of v.ty) (not (is_nil_check v.op.family)) (leaves_no_word o.setting f v types e))

-- words are taken one after the other

abbrev takes_test : Family → Bool
takes_test op.ArgReg = true
takes_test _ = false

takes_yes : (g : Family) → takes_test g ≡ true → g ≡ op.ArgReg
takes_yes op.ArgReg e = refl
takes_yes _ e = absurd (false≢true e)

takes_no : (v : ValueRecord) → takes_test v.op.family ≡ false → ¬ TakesWord v
takes_no v e h = false≢true (sym e ∙ ap takes_test h)

after_taken : (word : ℕ → Bool) (n : Uses) (v : ValueRecord) (rs : Registers) → TakesWord v → after_task n (task_of word v) rs ≡ put rs (passing (natural v.int)) v.id
unfolding after_task
after_taken word n v rs e = ap (λ (g : Family). after_role (role_by g (natural v.int)) n (task_of word v) rs) e

abbrev IsAt : Registers → ValueRecord → Type 0
IsAt rs v = (passing (natural v.int) < length rs) × (is_open (get_or rs (passing (natural v.int)) None) ≡ true)

taken_quiet : (word : ℕ → Bool) (rs : Registers) (v : ValueRecord) → TakesWord v → has_word v ≡ true → IsAt rs v → IsQuietAs rs (task_of word v) (role_of v)
taken_quiet word rs v e w at = subst (λ (g : Family). IsQuietAs rs (task_of word v) (role_by g (natural v.int))) (sym e) (w, at.0, at.1)

still_open : (rs : Registers) (v u : ValueRecord) → ¬ (natural v.int ≡ natural u.int) → IsAt rs u → IsAt (put rs (passing (natural v.int)) v.id) u
still_open rs v u n (l, o) = (
  omega (arith, l, length-set rs (passing (natural v.int)) (Some v.id)),
  ap is_open (get_or-set_other rs (passing (natural v.int)) (passing (natural u.int)) (Some v.id) None (λ e. n (omega arith))) ∙ o,
)

-- values of which those that take words are first, from registers of their own
pub record AreTaken (word : ℕ → Bool) (ts : List ValueRecord) (rs : Registers) : Type 0 where
  pub first : (pre : List ValueRecord) (v : ValueRecord) (post : List ValueRecord) → ts ≡ pre ++ v ∷ post → (u : ValueRecord) → In u post → TakesWord u → TakesWord v
  pub apart : (pre : List ValueRecord) (v : ValueRecord) (post : List ValueRecord) → ts ≡ pre ++ v ∷ post → (u : ValueRecord) → In u post → TakesWord v → TakesWord u → ¬ (natural v.int ≡ natural u.int)
  pub at : (u : ValueRecord) → In u ts → TakesWord u → (passing (natural u.int) < length rs) × (is_open (get_or rs (passing (natural u.int)) None) ≡ true)
  pub gives : (u : ValueRecord) → In u ts → TakesWord u → has_word u ≡ true
  pub calm : (u : ValueRecord) → In u ts → ¬ TakesWord u → IsCalmAs (task_of word u) (role_of u)

all_calm : (word : ℕ → Bool) (next : ℕ → Uses) (k : ℕ) (ts : List ValueRecord) (rs : Registers) → ((u : ValueRecord) → In u ts → IsCalmAs (task_of word u) (role_of u)) → AreQuiet next k (map (task_of word) ts) rs
all_calm word next k ts rs h = calm_quiet next k (map (task_of word) ts) rs (λ x c. (let (u, iu, e) = map_in (task_of word) ts x (to_in x (map (task_of word) ts) c) in
    subst (λ (y : TaskRecord). IsCalmAs y y.role) e (h u iu)))

quiet_by : (word : ℕ → Bool) (next : ℕ → Uses) (k : ℕ) (v : ValueRecord) (ts : List ValueRecord) (rs : Registers) → AreTaken word (v ∷ ts) rs
    → (AreTaken word ts (put rs (passing (natural v.int)) v.id) → AreQuiet next (k + 1) (map (task_of word) ts) (put rs (passing (natural v.int)) v.id)) → (b : Bool) → takes_test v.op.family ≡ b
    → AreQuiet next k (map (task_of word) (v ∷ ts)) rs
unfolding AreQuiet
quiet_by word next k v ts rs h r true e =
    let t : TakesWord v = takes_yes v.op.family e in (
      taken_quiet word rs v t (h.gives v (inl refl) t) (h.at v (inl refl) t),
      subst (λ (l : Registers). AreQuiet next (k + 1) (map (task_of word) ts) l) (sym (after_taken word (next (k + 1)) v rs t)) (r (record {
        first = λ pre x post w. h.first (v ∷ pre) x post (ap (λ l. v ∷ l) w);
        apart = λ pre x post w. h.apart (v ∷ pre) x post (ap (λ l. v ∷ l) w);
        at = λ u i q. still_open rs v u (h.apart [] v ts refl u i t q) (h.at u (inr i) q);
        gives = λ u i. h.gives u (inr i);
        calm = λ u i. h.calm u (inr i);
      })),
    )
quiet_by word next k v ts rs h r false e =
    let n : ¬ TakesWord v = takes_no v e in
    all_calm word next k (v ∷ ts) rs (λ u i. h.calm u i (λ q. ⊎_elim (λ (same : v ≡ u). n (subst TakesWord (sym same) q)) (λ (j : In u ts). n (h.first [] v ts refl u j q)) i))

pub quiet_from : (word : ℕ → Bool) (next : ℕ → Uses) (k : ℕ) (ts : List ValueRecord) (rs : Registers) → AreTaken word ts rs → AreQuiet next k (map (task_of word) ts) rs
unfolding AreQuiet
quiet_from word next k [] rs h = tt
quiet_from word next k (v ∷ ts) rs h = quiet_by word next k v ts rs h (quiet_from word next (k + 1) ts (put rs (passing (natural v.int)) v.id)) (takes_test v.op.family) refl
