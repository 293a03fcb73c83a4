-- What is known of a function that breaks no kind of form but perhaps the last.
use Rattle.std.proofs.Common.{◌≡◌, ℕ, refl, ap, sym, ◌∙◌, subst, arith, inl, inr, Some}
use Rattle.std.specs.Prelude.{slice_get}
use Rattle.bk_ops.specs.Families.{is_call_result}
use Rattle.bk_func.specs.Records.{ValueRecord, BlockRecord, FuncRecord}
use Rattle.bk_func.specs.declared.form.FormKind.{FormKind}
use Rattle.bk_func.specs.declared.form.FormKind.TheVariants.{Missing, Arity, Ty, Use, Memory, Order}
use Rattle.bk_func.specs.Form.{Keeps, rank}
use Rattle.bk_func.specs.Form.Text.{HasBlock, HasValue, IsPhi}
use Rattle.bk_func.specs.Form.States.{CopiesMemory, StandsFor, itself, copied as through_copy, NamesAt, Names, KeepsStates, KeepsMemory}
use Rattle.bk_func.specs.Form.Signatures.{Setting}
use Rattle.bk_func.specs.Form.Shapes.{HasTypes}
use Rattle.bk_mean.proofs.Named.{IsNamed, is_named}
use Rattle.bk_mean.proofs.Roles.{HasRow, phi_no_memory, result_args, calls_result, copy_args}
use Rattle.bk_order_laws.specs.Base.{KeepsAllButOrder}

-- numbers name one thing each, ops have their rows, uses are behind definitions, and memory is one chain
pub record Standing (s : Setting) (f : FuncRecord) : Type 0 where
  pub named : IsNamed f
  pub rows : (b : BlockRecord) (v : ValueRecord) → HasValue f b v → HasRow s f b v
  pub uses : Keeps s f Use
  pub memory : (b : BlockRecord) (v : ValueRecord) → HasValue f b v → KeepsMemory f b v
  pub types : (b : BlockRecord) (v : ValueRecord) → HasValue f b v → HasTypes s f v
  pub states : (b : BlockRecord) → HasBlock f b → KeepsStates f b

no_order : (k : FormKind) (n : ℕ) → rank k ≡ n → ¬ (n ≡ 7) → ¬ (k ≡ Order)
no_order k n e d q = d (sym e ∙ ap rank q)

pub standing : (s : Setting) (f : FuncRecord) → KeepsAllButOrder s f → Standing s f
standing s f h = record {
  named = is_named s f (h Missing (no_order Missing 1 refl (λ e. omega (arith, e))));
  rows = λ b v i. record { op = ((types b i.0).value v i.1).op; arity = (h Arity (no_order Arity 2 refl (λ e. omega (arith, e))) b i.0).value v i.1 };
  uses = h Use (no_order Use 5 refl (λ e. omega (arith, e)));
  memory = λ b v i. (memory b i.0).value v i.1;
  types = λ b v i. (types b i.0).value v i.1;
  states = λ b i. (memory b i).block;
}
  where
    types : Keeps s f Ty
    types = h Ty (no_order Ty 3 refl (λ e. omega (arith, e)))

    memory : Keeps s f Memory
    memory = h Memory (no_order Memory 6 refl (λ e. omega (arith, e)))

-- ---- one state is named
pub stands_once : (f : FuncRecord) → IsNamed f → (n m o : ℕ) → StandsFor f n m → StandsFor f n o → m ≡ o
stands_once f h n m o t u = go n m t n u refl
  where
    go : (n m : ℕ) → StandsFor f n m → (k : ℕ) → StandsFor f k o → n ≡ k → m ≡ o
    go _ _ (itself b v i c) _ (itself d w j e) q = q
    go _ _ (itself b v i c) _ (through_copy d w x y j e g t) q = absurd (c (let P : ValueRecord → Type 0 = λ z. CopiesMemory z in subst P (h.same_value d b w v j i (sym q)) e))
    go _ _ (through_copy b v x y i c g t) _ (itself d w j e) q = absurd (e (let P : ValueRecord → Type 0 = λ z. CopiesMemory z in subst P (h.same_value b d v w i j q) c))
    go _ _ (through_copy b v x y i c g t) _ (through_copy d w z _ j e k u) q =
        let p = h.same_value b d v w i j q in
        let l : Some x ≡ Some z = sym g ∙ (ap (λ (y : ValueRecord). slice_get y.args 0) p ∙ k) in
        let r : x ≡ z = cc in
        go x y t z u r

pub names_place : (s : Setting) (f : FuncRecord) → Standing s f → (b : BlockRecord) (v : ValueRecord) → HasValue f b v → (k j : ℕ) → NamesAt v k → NamesAt v j → k ≡ j
names_place s f h b v i k j (inl a) (inl c) = a.1 ∙ sym c.1
names_place s f h b v i k j (inl a) (inr (inl c)) = a.1 ∙ sym c.1
names_place s f h b v i k j (inl a) (inr (inr c)) = absurd (let q = (copy_args s f b v (h.rows b v i) a.0.0).1 in let d = c.0 in cc)
names_place s f h b v i k j (inr (inl a)) (inl c) = a.1 ∙ sym c.1
names_place s f h b v i k j (inr (inl a)) (inr (inl c)) = a.1 ∙ sym c.1
names_place s f h b v i k j (inr (inl a)) (inr (inr c)) = absurd (let q = (result_args s f b v (h.rows b v i) (calls_result v.op.family a.0)).1 in let d = c.0 in cc)
names_place s f h b v i k j (inr (inr a)) (inl c) = absurd (let q = (copy_args s f b v (h.rows b v i) c.0.0).1 in let d = a.0 in cc)
names_place s f h b v i k j (inr (inr a)) (inr (inl c)) = absurd (let q = (result_args s f b v (h.rows b v i) (calls_result v.op.family c.0)).1 in let d = a.0 in cc)
names_place s f h b v i k j (inr (inr a)) (inr (inr c)) = (let x = a.1 in let y = c.1 in omega (arith, x, y))

pub names_once : (s : Setting) (f : FuncRecord) → Standing s f → (b : BlockRecord) (v : ValueRecord) → HasValue f b v → (m o : ℕ) → Names f v m → Names f v o → m ≡ o
names_once s f h b v i m o (k, x, a, g, t) (j, y, c, e, u) =
    let q = names_place s f h b v i k j a c in
    let l : Some x ≡ Some y = sym g ∙ (ap (λ n. slice_get v.args n) q ∙ e) in
    let r : x ≡ y = cc in
    stands_once f h.named y m o (subst (λ n. StandsFor f n m) r t) u

-- a value that names a state is no phi
pub names_no_phi : (s : Setting) (f : FuncRecord) → Standing s f → (b : BlockRecord) (v : ValueRecord) → HasValue f b v → (n : ℕ) → Names f v n → ¬ IsPhi v
names_no_phi s f h b v i n (k, m, inl c, g, t) p = (let z = sym c.0.0 ∙ p in cc)
names_no_phi s f h b v i n (k, m, inr (inl c), g, t) p = (let z = ap is_call_result p in let d = c.0 in cc)
names_no_phi s f h b v i n (k, m, inr (inr c), g, t) p = (let q = phi_no_memory s f b v (h.rows b v i) p in let d = c.0 in cc)
