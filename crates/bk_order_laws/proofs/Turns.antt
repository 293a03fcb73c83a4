-- The states that nil checks, loads and results of a reached block name are in turn.
use Rattle.std.proofs.Common.{◌≡◌, ℕ, zero, suc, ◌<◌, refl, ap, sym, ◌∙◌, subst, arith, ◌⊎◌, inl, inr, List, [], ◌∷◌, length, Some, true, false}
use Rattle.std.specs.Prelude.{slice_get}
use Rattle.bk_ops.specs.Families.{is_word_call, is_call_result, is_word_result}
use Rattle.bk_ops.specs.declared.family.Family.{Family}
use Rattle.bk_ops.specs.declared.family.Family.TheVariants as op
use Rattle.bk_func.specs.Records.{ValueRecord, BlockRecord, FuncRecord}
use Rattle.bk_func.specs.Effects.{has_effect}
use Rattle.bk_func.specs.Form.Text.{HasValue}
use Rattle.bk_func.specs.Form.Walks.{IsReached}
use Rattle.bk_func.specs.Form.States.{IsState, StandsFor, itself, Names, IsStateIn}
use Rattle.bk_func.specs.Form.Before.{IsLoad, IsNilCheck, IsResult}
use Rattle.bk_func.specs.Form.Signatures.{Setting}
use Rattle.bk_func.specs.Form.Shapes.{FitsPlace, slot, is_call_of}
use Rattle.bk_mean.proofs.Dominance.{reached_block}
use Rattle.bk_mean.proofs.Roles.{calls_result, result_families}
use Rattle.bk_mean.proofs.Typed.{effect_is_state}
use Rattle.bk_order_laws.specs.Base.{state, BasePrecedes, onward, AreInTurn, KeepsAllButOrder}
use Rattle.bk_order_laws.proofs.Standing.{Standing, standing, stands_once, names_place, names_once, names_no_phi}
use Rattle.bk_order_laws.proofs.Chained.{InTurn, reach_named, states_in_turn}

got_below : (xs : List ℕ) (k x : ℕ) → slice_get xs k ≡ Some x → k < length xs
got_below [] k x e = absurd cc
got_below (y ∷ ys) zero x e = omega arith
got_below (y ∷ ys) (suc k) x e = (let q = got_below ys k x e in omega (arith, q))

-- loads and nil checks are neither results of the function nor of a call
record Reads (v : ValueRecord) : Type 0 where
  ends : ¬ (v.op.family ≡ op.MakeResult)
  result : is_call_result v.op.family ≡ false

reads : (v : ValueRecord) → IsLoad v ⊎ IsNilCheck v → Reads v
reads v (inl (inl e)) = record { ends = λ q. (let z = sym e ∙ q in cc); result = rw e refl }
reads v (inl (inr (inl e))) = record { ends = λ q. (let z = sym e ∙ q in cc); result = rw e refl }
reads v (inl (inr (inr e))) = record { ends = λ q. (let z = sym e ∙ q in cc); result = rw e refl }
reads v (inr (inl e)) = record { ends = λ q. (let z = sym e ∙ q in cc); result = rw e refl }
reads v (inr (inr (inl e))) = record { ends = λ q. (let z = sym e ∙ q in cc); result = rw e refl }
reads v (inr (inr (inr e))) = record { ends = λ q. (let z = sym e ∙ q in cc); result = rw e refl }

read_state : (s : Setting) (f : FuncRecord) → Standing s f → (b : BlockRecord) → IsReached f b → (v : ValueRecord) → HasValue f b v → IsLoad v ⊎ IsNilCheck v → (x : ℕ) → Names f v x → IsStateIn f b x
read_state s f h b r v i o x names = go names
  where
    go : Names f v x → IsStateIn f b x
    go (k, n, at, got, stands) =
        let w = (h.memory b v i).names k (names_no_phi s f h b v i x names) (reads v o).ends (reads v o).result r at (got_below v.args k n got) in
        subst (λ y. IsStateIn f b y) (names_once s f h b v i w.0 x w.1 names) w.2

-- ---- results of calls
abbrev IsCallFamily : Family → Type 0
IsCallFamily o = (o ≡ op.StaticLECall) ⊎ (o ≡ op.Call) ⊎ (o ≡ op.CallRegs)

of_select : (o : Family) → is_call_of op.SelectN o ≡ true → IsCallFamily o
of_select op.StaticLECall e = inl refl
of_select _ e = absurd cc

of_word : (o : Family) → is_word_call o ≡ true → IsCallFamily o
of_word op.Call e = inr (inl refl)
of_word op.CallRegs e = inr (inr refl)
of_word _ e = absurd cc

by_call : (s : Setting) (f : FuncRecord) (u v : ValueRecord) → (u.op.family ≡ op.SelectN) ⊎ (u.op.family ≡ op.ResWord) ⊎ (u.op.family ≡ op.ResReg) → FitsPlace s f u u.op.family 0 v → IsCallFamily v.op.family
unfolding FitsPlace slot
by_call s f u v (inl o) h = of_select v.op.family (ap (λ (z : Family). is_call_of z v.op.family) (sym o) ∙ (let P : Family → Type 0 = λ g. FitsPlace s f u g 0 v in subst P o h))
by_call s f u v (inr (inl o)) h = of_word v.op.family (ap (λ (z : Family). is_call_of z v.op.family) (sym o) ∙ (let P : Family → Type 0 = λ g. FitsPlace s f u g 0 v in subst P o h))
by_call s f u v (inr (inr o)) h = of_word v.op.family (ap (λ (z : Family). is_call_of z v.op.family) (sym o) ∙ (let P : Family → Type 0 = λ g. FitsPlace s f u g 0 v in subst P o h))

acts : (v : ValueRecord) → IsCallFamily v.op.family → has_effect v ≡ true
acts v (inl d) = rw d refl
acts v (inr (inl d)) = rw d refl
acts v (inr (inr d)) = rw d refl

word_results : (o : Family) → is_word_result o ≡ true → is_call_result o ≡ true
word_results op.ResWord e = refl
word_results op.ResReg e = refl
word_results _ e = absurd cc

results : (v : ValueRecord) → IsResult v → is_call_result v.op.family ≡ true
results v (inl e) = word_results v.op.family e
results v (inr e) = ap is_call_result e.0

result_state : (s : Setting) (f : FuncRecord) → Standing s f → (b : BlockRecord) (v : ValueRecord) → HasValue f b v → is_call_result v.op.family ≡ true → (x : ℕ) → Names f v x → IsStateIn f b x
result_state s f h b v i e x (k, n, at, got, stands) =
    let q = names_place s f h b v i k 0 at (inr (inl (e, refl))) in
    let g : slice_get v.args 0 ≡ Some n = ap (λ j. slice_get v.args j) (sym q) ∙ got in
    let (c, ic, d) = (h.memory b v i).call e n g in
    let hc : HasValue f b c = (i.0, ic) in
    let o : IsCallFamily c.op.family = by_call s f v c (result_families v (calls_result v.op.family e)) ((h.types b v i).args 0 b c hc (g ∙ ap Some (sym d))) in
    let st : IsState f b c = effect_is_state s f b c (h.types b c hc) hc (acts c o) in
    inl (c, st, stands_once f h.named c.id c.id x (itself b c hc (λ y. st.1 y.0)) (subst (λ j. StandsFor f j x) (sym d) stands))

-- ---- all of them
pub in_turn : (s : Setting) (f : FuncRecord) → KeepsAllButOrder s f → (b : BlockRecord) → IsReached f b → AreInTurn f b
in_turn s f kinds b r u v p x y cu lv cp o np = go (states_in_turn s f h b r x y (read_state s f h b r u iu (inr cu.1) x cu.2) (other o))
  where
    h : Standing s f
    h = standing s f kinds

    iu : HasValue f b u
    iu = (reached_block f b r, cu.0)

    iv : HasValue f b v
    iv = (reached_block f b r, lv.0)

    ip : HasValue f b p
    ip = (reached_block f b r, cp)

    other : IsLoad p ⊎ IsNilCheck p ⊎ IsResult p → IsStateIn f b y
    other (inl e) = read_state s f h b r p ip (inl e) y np
    other (inr (inl e)) = read_state s f h b r p ip (inr e) y np
    other (inr (inr e)) = result_state s f h b p ip (results p e) y np

    go : InTurn f b x y → (x ≡ y) ⊎ BasePrecedes f b u p ⊎ BasePrecedes f b p v
    go (inl e) = inl e
    go (inr (inl k)) = inr (inl (onward u k.value p (state u k.value x cu.0 (inr (inl cu.1)) cu.2 k.state k.names) (reach_named s f h b r k.value k.state.0 y k.way p ip np)))
    go (inr (inr k)) = inr (inr (onward p k.value v (state p k.value y cp o np k.state k.names) (reach_named s f h b r k.value k.state.0 x k.way v iv lv.2)))
