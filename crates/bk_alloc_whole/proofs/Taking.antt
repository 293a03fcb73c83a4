-- Words that were passed in registers are scheduled before all values but phis.
use Rattle.std.proofs.Common.{◌≡◌, ◌∙◌, sym, refl, ap, subst, ℕ, ◌≤◌, ◌⊎◌, inl, inr, ⊎_elim, Bool, true, false, cond, ◌||◌, ◌&&◌, not, List, [], ◌∷◌, ◌++◌, length, Option, Some, arith}
use Rattle.std.specs.Prelude.{IfSome}
use Rattle.std.proofs.lemmas.Bool.{and_parts, both_ways, false≢true, or_from}
use Rattle.bk_ops.specs.Table as table
use Rattle.bk_ops.specs.Table.{info_of, is_op, row, unknown}
use Rattle.bk_ops.specs.declared.family.Family.{Family}
use Rattle.bk_ops.specs.declared.family.Family.TheVariants as op
use Rattle.bk_ops.specs.declared.family.ArmOp.TheVariants as arm
use Rattle.bk_ops.specs.declared.family.RvOp.TheVariants as rv
use Rattle.bk_ops.specs.declared.table.Op.{Op}
use Rattle.bk_ops.specs.declared.types.Ty.{Ty}
use Rattle.bk_ops.specs.declared.types.Ty.TheVariants as ty
use Rattle.bk_func.specs.Numbers.{is_copy, is_mem}
use Rattle.bk_func.specs.Records.{ValueRecord, BlockRecord, FuncRecord}
use Rattle.bk_func.specs.Form.Before.{IsLoad, IsNilCheck}
use Rattle.bk_func.specs.Form.Parts.{HasArity}
use Rattle.bk_func.specs.Form.Signatures.{Setting}
use Rattle.bk_func.proofs.Faults.{In}
use Rattle.bk_sched.specs.Order.{ComesBefore, Precedes, are_results, is_call, is_state, argument, state, checks, needed, unneeded, right, onward}
use Rattle.bk_sched.specs.Schedule.{IsReady, Scheduled, done, next, rank_by, rank_of}
use Rattle.bk_sched.proofs.Keeping.{in_scheduled}
use Rattle.bk_places.proofs.Elements.{in_either, to_contains}
use Rattle.bk_alloc.specs.Placement.{has_word_of}
use Rattle.bk_alloc_whole.specs.Whole.{TakesWord}

arity_at : (o : Op) (g : Family) (n : Option ℕ) → o.family ≡ g → is_op o.family o.a o.b ≡ true → (row g o.a o.b).info.arity ≡ n → (info_of o).arity ≡ n
unfolding info_of
arity_at o g n e h r =
    ap (λ (b : Bool). (cond b (row o.family o.a o.b).info unknown).arity) h ∙ (ap (λ (x : Family). (row x o.a o.b).info.arity) e ∙ r)

takes_none : (a b : ℕ) → (row op.ArgReg a b).info.arity ≡ Some 0
unfolding row table.entry
takes_none a b = refl

args_by : (s : Setting) (f : FuncRecord) (b : BlockRecord) (v : ValueRecord) (g : Family) → HasArity s f b v g → g ≡ op.ArgReg → IfSome (info_of v.op).arity (λ n. length v.args ≡ n)
unfolding HasArity
args_by s f b v g h e = subst (λ (x : Family). HasArity s f b v x) e h

pub no_args : (s : Setting) (f : FuncRecord) (b : BlockRecord) (v : ValueRecord) → HasArity s f b v v.op.family → is_op v.op.family v.op.a v.op.b ≡ true → TakesWord v → length v.args ≡ 0
no_args s f b v h o e = subst (λ (n : Option ℕ). IfSome n (λ m. length v.args ≡ m)) (arity_at v.op op.ArgReg (Some 0) e o (takes_none v.op.a v.op.b)) (args_by s f b v v.op.family h e)

no_memory : (x : Ty) → has_word_of x ≡ true → is_mem x ≡ false
no_memory ty.Mem w = absurd (false≢true w)
no_memory _ w = refl

no_state : (v : ValueRecord) → TakesWord v → has_word_of v.ty ≡ true → is_state v ≡ true → ⊥
no_state v e w h =
    let a = (and_parts (is_call v.op.family || is_mem v.ty) (not (is_copy v.op.family)) (and_parts ((is_call v.op.family || is_mem v.ty) && not (is_copy v.op.family)) (not (are_results v.op.family)) h).0).0 in
    both_ways (is_call v.op.family || is_mem v.ty) (or_from (is_call v.op.family) (is_mem v.ty) (ap is_call e) (no_memory v.ty w)) a

no_check : (v : ValueRecord) → TakesWord v → IsNilCheck v → ⊥
no_check v e h = ⊎_elim (λ a. absurd cc) (λ r. ⊎_elim (λ b. absurd cc) (λ c. absurd cc) r) h

no_load : (v : ValueRecord) → TakesWord v → IsLoad v → ⊥
no_load v e h = ⊎_elim (λ a. absurd cc) (λ r. ⊎_elim (λ b. absurd cc) (λ c. absurd cc) r) h

-- a value that takes a word, and has no arguments
abbrev pub IsBare : ValueRecord → Type 0
IsBare v = TakesWord v × (length v.args ≡ 0) × (has_word_of v.ty ≡ true)

none_comes : (b : BlockRecord) (u v : ValueRecord) → ComesBefore b u v → ¬ IsBare v
none_comes b _ _ (argument u v (iu, iv, other, (k, l, q))) (e, none, w) = omega (arith, l, none)
none_comes b _ _ (state u v s inside role names within is named) (e, none, w) = no_state v e w is
none_comes b _ _ (checks u v s cu (iv, cv, nv) listed) (e, none, w) = no_check v e cv
none_comes b _ _ (needed u v x s cu (iv, lv, nv) cw needs first listed) (e, none, w) = no_load v e lv
none_comes b _ _ (unneeded u v s cu (iv, lv, nv) free) (e, none, w) = no_load v e lv

none_precedes : (b : BlockRecord) (u v : ValueRecord) → Precedes b u v → ¬ IsBare v
none_precedes b _ _ (right u v c) h = none_comes b u v c h
none_precedes b _ _ (onward t u v c rest) h = none_precedes b u v rest h

bare_rank : (v : ValueRecord) → TakesWord v → rank_of v ≡ 1
bare_rank v e = ap (λ (g : Family). rank_by g (is_state v)) e

abbrev pub IsEarly : Family → Type 0
IsEarly g = (g ≡ op.Phi) ⊎ ((g ≡ op.ArgReg) ⊎ (g ≡ op.ResReg))

rank_low : (g : Family) (x : Bool) → rank_by g x ≤ 1 → IsEarly g
rank_low op.Phi x l = inl refl
rank_low op.ArgReg x l = inr (inl refl)
rank_low op.ResReg x l = inr (inr refl)
rank_low op.ArgWord x l = absurd (omega (arith, l))
rank_low op.NilCheck x l = absurd (omega (arith, l))
rank_low op.ResWord x l = absurd (omega (arith, l))
rank_low (op.Arm arm.Nil) x l = absurd (omega (arith, l))
rank_low (op.Rv rv.Nil) x l = absurd (omega (arith, l))
rank_low (op.Arm _) true l = absurd (omega (arith, l))
rank_low (op.Arm _) false l = absurd (omega (arith, l))
rank_low (op.Rv _) true l = absurd (omega (arith, l))
rank_low (op.Rv _) false l = absurd (omega (arith, l))
rank_low _ true l = absurd (omega (arith, l))
rank_low _ false l = absurd (omega (arith, l))

pub words_first : (b : BlockRecord) (xs zs : List ValueRecord) → Scheduled b xs zs → (pre : List ValueRecord) (v : ValueRecord) (post : List ValueRecord) → zs ≡ pre ++ v ∷ post → (u : ValueRecord) → In u post → IsBare u → IsEarly v.op.family
words_first b _ _ (done xs none) [] v post e u i h = absurd cc
words_first b _ _ (done xs none) (p ∷ pre) v post e u i h = absurd cc
words_first b _ _ (next xs ys zs w ready front back g) (p ∷ pre) v post e u i h =
    let q : zs ≡ pre ++ v ∷ post = cc in
    words_first b (xs ++ ys) zs g pre v post q u i h
words_first b _ _ (next xs ys zs w ready front back g) [] v post e u i h =
    let d : w ≡ v = cc in
    let q : zs ≡ post = cc in
    let inside : In u (xs ++ ys) = in_scheduled b (xs ++ ys) zs g u (subst (λ (ws : List ValueRecord). In u ws) (sym q) i) in
    let free : IsReady b (xs ++ w ∷ ys) u = λ t c before. none_precedes b t u before h in
    let one = bare_rank u h.0 in
    subst (λ (x : ValueRecord). IsEarly x.op.family) d (⊎_elim
    (λ (j : In u xs). rank_low w.op.family (is_state w) (omega (arith, front u (to_contains u xs j) free, one)))
    (λ (j : In u ys). rank_low w.op.family (is_state w) (omega (arith, back u (to_contains u ys j) free, one)))
    (in_either u xs ys inside))
