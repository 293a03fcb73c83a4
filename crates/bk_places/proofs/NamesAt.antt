-- By which argument values name states.
use Rattle.std.proofs.Common.{◌≡◌, ◌∙◌, sym, refl, ap, subst, ℕ, ◌+◌, ◌↔◌, true, false, cond, List, length, Option, None, Some, inl, inr, ⊎_elim, arith}
use Rattle.std.specs.List.{slice_get}
use Rattle.std.specs.Option.{MatchOption}
use Rattle.std.proofs.lemmas.Bool.{false≢true}
use Rattle.std.proofs.lemmas.Option.{none-some, same_Some}
use Rattle.bk_ops.specs.Table.{info_of, is_op, row, entry, unknown}
use Rattle.bk_ops.specs.declared.table.Op.{Op}
use Rattle.bk_ops.specs.declared.family.Family.{Family}
use Rattle.bk_ops.specs.declared.family.Family.TheVariants.{Copy, Phi, ResReg, ResWord, SelectN}
use Rattle.bk_ops.specs.Families.{is_call_result}
use Rattle.bk_func.specs.Records.{ValueRecord}
use Rattle.bk_func.specs.Form.Text.{IsPhi}
use Rattle.bk_func.specs.Form.States.{CopiesMemory, NamesAt}
use Rattle.bk_places.specs.Named.{NamesBy, NamesFirst}

-- the ops that name a state by their first argument take no memory last
no_memory : (o : Op) (g : Family) → o.family ≡ g → ((a b : ℕ) → (row g a b).info.memory ≡ false) → (info_of o).memory ≡ false
unfolding info_of
no_memory o g e none =
    elim (is_op o.family o.a o.b) as (λ t. (cond t (row o.family o.a o.b).info unknown).memory ≡ false) [
      | true ↦ subst (λ (h : Family). (row h o.a o.b).info.memory ≡ false) (sym e) (none o.a o.b)
      | false ↦ refl
    ]

copy_none : (a b : ℕ) → (row Copy a b).info.memory ≡ false
unfolding row entry
copy_none a b = refl

result_none : (a b : ℕ) → (row SelectN a b).info.memory ≡ false
unfolding row entry
result_none a b = refl

word_none : (a b : ℕ) → (row ResWord a b).info.memory ≡ false
unfolding row entry
word_none a b = refl

register_none : (a b : ℕ) → (row ResReg a b).info.memory ≡ false
unfolding row entry
register_none a b = refl

-- a result of a call takes no memory last
call_result_none : (f : Family) → is_call_result f ≡ true → (a b : ℕ) → (row f a b).info.memory ≡ false
call_result_none SelectN e a b = result_none a b
call_result_none ResWord e a b = word_none a b
call_result_none ResReg e a b = register_none a b
call_result_none _ e a b = absurd (false≢true e)

phi_none : (a b : ℕ) → (row Phi a b).info.memory ≡ false
unfolding row entry
phi_none a b = refl

pub first_none : (v : ValueRecord) → NamesFirst v → (info_of v.op).memory ≡ false
first_none v h = ⊎_elim
    (λ (copies : CopiesMemory v). no_memory v.op Copy copies.0 copy_none)
    (λ (result : is_call_result v.op.family ≡ true). no_memory v.op v.op.family refl (call_result_none v.op.family result))
    h

-- where the state is named
pub at_first : (v : ValueRecord) → NamesFirst v → (k : ℕ) → NamesAt v k → k ≡ 0
at_first v h k at = ⊎_elim
    (λ (copies : CopiesMemory v × (k ≡ 0)). copies.1)
    (λ rest. ⊎_elim (λ (one : (is_call_result v.op.family ≡ true) × (k ≡ 0)). one.1)
    (λ (last : ((info_of v.op).memory ≡ true) × (k + 1 ≡ length v.args)). absurd (false≢true (sym (first_none v h) ∙ last.0)))
    rest)
    at

pub first_at : (v : ValueRecord) → NamesFirst v → NamesAt v 0
first_at v h = ⊎_elim
    (λ copies. inl (copies, refl))
    (λ e. inr (inl (e, refl)))
    h

pub at_last : (v : ValueRecord) → ¬ NamesFirst v → (k : ℕ) → NamesAt v k → ((info_of v.op).memory ≡ true) × (k + 1 ≡ length v.args)
at_last v other k at = ⊎_elim
    (λ (copies : CopiesMemory v × (k ≡ 0)). absurd (other (inl copies.0)))
    (λ rest. ⊎_elim (λ (one : (is_call_result v.op.family ≡ true) × (k ≡ 0)). absurd (other (inr one.0))) (λ last. last) rest)
    at

-- what the argument by which a state is named is
pub by_first : (v : ValueRecord) (ns : List ℕ) → ns ≡ v.args → NamesFirst v → (o : Option ℕ) → o ≡ slice_get ns 0
    → MatchOption o ((n : ℕ) → ¬ NamesBy v n) (λ n. (m : ℕ) → NamesBy v m ↔ (m ≡ n))
by_first v ns same h None e = λ n (k, at, g).
    none-some n (e ∙ (ap (λ us. slice_get us 0) same ∙ (ap (slice_get v.args) (sym (at_first v h k at)) ∙ g)))
by_first v ns same h (Some x) e = λ m. (
  λ (k, at, g). sym (same_Some x m (e ∙ (ap (λ us. slice_get us 0) same ∙ (ap (slice_get v.args) (sym (at_first v h k at)) ∙ g)))),
  λ is. (0, first_at v h, sym (e ∙ ap (λ us. slice_get us 0) same) ∙ ap Some (sym is)),
)

pub by_last : (v : ValueRecord) (ns : List ℕ) → ns ≡ v.args → ¬ NamesFirst v → (info_of v.op).memory ≡ true → (l : ℕ) (o : Option ℕ) → o ≡ slice_get ns l → l + 1 ≡ length ns
    → MatchOption o ((n : ℕ) → ¬ NamesBy v n) (λ n. (m : ℕ) → NamesBy v m ↔ (m ≡ n))
by_last v ns same other memory l None e long = λ n (k, at, g).
    let end = (at_last v other k at).1 in
    let is : k ≡ l = omega (arith, end, long, ap length same) in
    none-some n (e ∙ (ap (λ us. slice_get us l) same ∙ (ap (slice_get v.args) (sym is) ∙ g)))
by_last v ns same other memory l (Some x) e long = λ m. (
  λ (k, at, g).
      let end = (at_last v other k at).1 in
      let is : k ≡ l = omega (arith, end, long, ap length same) in
      sym (same_Some x m (e ∙ (ap (λ us. slice_get us l) same ∙ (ap (slice_get v.args) (sym is) ∙ g)))),
  λ is. (l, inr (inr (memory, long ∙ ap length same)), sym (e ∙ ap (λ us. slice_get us l) same) ∙ ap Some (sym is)),
)

-- a phi names nothing
pub phi_names : (v : ValueRecord) → IsPhi v → (k : ℕ) → ¬ NamesAt v k
phi_names v phi k at = ⊎_elim
    (λ (copies : CopiesMemory v × (k ≡ 0)). other Copy (sym phi ∙ copies.0.0) (λ e. cc))
    (λ more. ⊎_elim (λ (one : (is_call_result v.op.family ≡ true) × (k ≡ 0)). false≢true (sym (ap is_call_result phi) ∙ one.0))
    (λ (last : ((info_of v.op).memory ≡ true) × (k + 1 ≡ length v.args)). false≢true (sym (no_memory v.op Phi phi phi_none) ∙ last.0))
    more)
    at
  where
    other : (g : Family) → Phi ≡ g → (Phi ≡ g → ⊥) → ⊥
    other g e apart = apart e

-- a copy of memory names what it copies
pub copies_first_arg : (v : ValueRecord) (n : ℕ) → CopiesMemory v → NamesBy v n → slice_get v.args 0 ≡ Some n
copies_first_arg v n copies (k, at, g) = ap (slice_get v.args) (sym (at_first v (inl copies) k at)) ∙ g
