-- What is asked of each argument of a value, and of the control of a block.
use Rattle.std.proofs.Common.{◌≡◌, ◌∙◌, sym, ap, subst, ℕ, ◌+◌, ◌<◌, ◌≤◌, ◌↔◌, length, None, Some, ⊎_elim, arith}
use Rattle.std.specs.List.{slice_get}
use Rattle.std.proofs.lemmas.Bool.{cases_lt}
use Rattle.std.proofs.lemmas.Option.{none-some, same_Some, slice_get_within}
use Rattle.bk_func.specs.Records.{ValueRecord, BlockRecord, FuncRecord}
use Rattle.bk_func.specs.Form.Text.{HasValue}
use Rattle.bk_func.specs.Form.Signatures.{Setting}
use Rattle.bk_func.specs.Form.Parts.{IsValueNumber}
use Rattle.bk_func.specs.Form.Shapes.{FitsPlace, FitsControl, HasControlType}
use Rattle.bk_form.specs.Places.{value_with}
use Rattle.bk_form.proofs.Named.{the_value}

-- the first i arguments fit their places
pub record FitUpTo (s : Setting) (f : FuncRecord) (v : ValueRecord) (i : ℕ) : Type 0 where
  pub each : (j : ℕ) (b : BlockRecord) (u : ValueRecord) → j < i → HasValue f b u → slice_get v.args j ≡ Some u.id → FitsPlace s f v v.op.family j u

pub fit_none : (s : Setting) (f : FuncRecord) (v : ValueRecord) → FitUpTo s f v 0
fit_none s f v = record { each = λ j b u l h e. absurd (omega arith) }

pub fit_more : (s : Setting) (f : FuncRecord) (v : ValueRecord) (i n : ℕ) → FitUpTo s f v i → slice_get v.args i ≡ Some n
    → ((b : BlockRecord) (u : ValueRecord) → HasValue f b u → u.id ≡ n → FitsPlace s f v v.op.family i u) → FitUpTo s f v (i + 1)
fit_more s f v i n fits at here = record { each = next }
  where
    next : (j : ℕ) (b : BlockRecord) (u : ValueRecord) → j < i + 1 → HasValue f b u → slice_get v.args j ≡ Some u.id → FitsPlace s f v v.op.family j u
    next j b u l h e = ⊎_elim
        (λ (low : j < i). fits.each j b u low h e)
        (λ (high : i ≤ j).
        let same : j ≡ i = omega arith in
        let there : slice_get v.args i ≡ Some u.id = subst (λ (k : ℕ). slice_get v.args k ≡ Some u.id) same e in
        subst (λ (k : ℕ). FitsPlace s f v v.op.family k u) (sym same) (here b u h (same_Some u.id n (sym there ∙ at))))
        (cases_lt j i)

pub fit_all : (s : Setting) (f : FuncRecord) (v : ValueRecord) (i : ℕ) → FitUpTo s f v i → length v.args ≤ i
    → (j : ℕ) (b : BlockRecord) (u : ValueRecord) → HasValue f b u → slice_get v.args j ≡ Some u.id → FitsPlace s f v v.op.family j u
fit_all s f v i fits over j b u h e = let within = slice_get_within v.args j u.id e in fits.each j b u (omega arith) h e

pub fit_here : (s : Setting) (f : FuncRecord) (v : ValueRecord) (i n : ℕ) → slice_get v.args i ≡ Some n
    → ((j : ℕ) (b : BlockRecord) (u : ValueRecord) → HasValue f b u → slice_get v.args j ≡ Some u.id → FitsPlace s f v v.op.family j u)
    → (b : BlockRecord) (u : ValueRecord) → HasValue f b u → u.id ≡ n → FitsPlace s f v v.op.family i u
fit_here s f v i n at all b u h e = all i b u h (at ∙ ap Some (sym e))

-- the control of a block
pub control_is : (s : Setting) (f : FuncRecord) (b : BlockRecord) (n : ℕ) (v : ValueRecord) → b.control ≡ Some n → IsValueNumber f n → value_with f n ≡ Some v
    → FitsControl s f v b.kind ↔ HasControlType s f b
control_is s f b n v e one w =
    let (to, from) = the_value f n v (λ (u : ValueRecord). FitsControl s f u b.kind) one w in (
      (λ fits c u h k. to fits c u h (same_Some u.id n (sym k ∙ e))),
      (λ all. from (λ c u h k. all c u h (e ∙ ap Some (sym k)))),
    )

pub no_control : (s : Setting) (f : FuncRecord) (b : BlockRecord) → b.control ≡ None → HasControlType s f b
no_control s f b e = λ c v h k. absurd (none-some v.id (sym e ∙ k))
