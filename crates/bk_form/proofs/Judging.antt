-- From what each kind asks to what the check answers.
use Rattle.std.proofs.Common.{◌≡◌, ◌∙◌, sym, refl, ap, subst, ℕ, zero, suc, ◌+◌, ◌<◌, ◌≤◌, Option, None, Some, Result, Ok, Err, MatchResult, [], inr, ⊎_elim, arith}
use Rattle.std.specs.Result.{IfErr, OnOk}
use Rattle.std.proofs.lemmas.Bool.{cases_lt}
use Rattle.bk_func.specs.declared.form.FormKind.{FormKind}
use Rattle.bk_func.specs.declared.form.FormKind.TheVariants.{Control, Missing, Arity, Ty, Width, Use, Memory, Order}
use Rattle.bk_func.specs.declared.form.Place.{Place}
use Rattle.bk_ops.specs.declared.types.Target.{Target}
use Rattle.bk_func.specs.Records.{FuncRecord, PackageRecord}
use Rattle.bk_func.specs.Form.{Keeps, IsFirstBreach, IsFirstFault, IsInForm, strict, rank, AsksBlock, AsksValue}
use Rattle.bk_func.specs.Form.Signatures.{Setting}
use Rattle.bk_form.specs.declared.FormError.{FormError}
use Rattle.bk_form.specs.declared.FormError.TheVariants.{FormFault, Memory as NoMemory}
use Rattle.bk_form.specs.Finds.{Finds}
use Rattle.bk_form.specs.Judged.{KeepsBefore, IsCause, IsRefusal}
use Rattle.bk_form.specs.Places.{AllNamed}

-- a kind has its rank alone
kind_at : ℕ → FormKind
kind_at zero = Control
kind_at (suc zero) = Missing
kind_at (suc (suc zero)) = Arity
kind_at (suc (suc (suc zero))) = Ty
kind_at (suc (suc (suc (suc zero)))) = Width
kind_at (suc (suc (suc (suc (suc zero))))) = Use
kind_at (suc (suc (suc (suc (suc (suc zero)))))) = Memory
kind_at (suc (suc (suc (suc (suc (suc (suc n))))))) = Order

ranked : (k : FormKind) → kind_at (rank k) ≡ k
unfolding kind_at
ranked Control = refl
ranked Missing = refl
ranked Arity = refl
ranked Ty = refl
ranked Width = refl
ranked Use = refl
ranked Memory = refl
ranked Order = refl

same_rank : (j k : FormKind) → rank j ≡ rank k → j ≡ k
same_rank j k e = sym (ranked j) ∙ (ap kind_at e ∙ ranked k)

-- one more kind
pub kept_more : (s : Setting) (f : FuncRecord) (k : FormKind) (n : ℕ) → rank k + 1 ≡ n → KeepsBefore s f (rank k) → Keeps s f k → KeepsBefore s f n
kept_more s f k n e before here = record { kinds = at }
  where
    at : (j : FormKind) → rank j < n → Keeps s f j
    at j l = ⊎_elim
        (λ (b : rank j < rank k). before.kinds j b)
        (λ (b : rank k ≤ rank j). subst (λ (i : FormKind). Keeps s f i) (sym (same_rank j k (omega arith))) here)
        (cases_lt (rank j) (rank k))

-- what a search that finds nothing says
pub kept_here : (s : Setting) (f : FuncRecord) (k : FormKind) (r : Option Place) → Finds (AsksBlock s f k) (AsksValue s f k) f r → r ≡ None → Keeps s f k
kept_here s f k r finds e = subst (λ (o : Option Place). Finds (AsksBlock s f k) (AsksValue s f k) f o) e finds

-- and one that finds a place
pub refused : (s : Setting) (f : FuncRecord) (k : FormKind) (r : Option Place) (e : FormError) → KeepsBefore s f (rank k) → Finds (AsksBlock s f k) (AsksValue s f k) f r
    → (place : Place) × (r ≡ Some place) × (e ≡ FormFault k place) → IsCause s f e
refused s f k r e before finds (place, at, is) =
    let here : IsFirstBreach s f k place = subst (λ (o : Option Place). Finds (AsksBlock s f k) (AsksValue s f k) f o) at finds in
    let fault : IsFirstFault s f k place = record { before = before.kinds; here = here } in
    subst (λ (x : FormError). IsCause s f x) (sym is) fault

-- where nothing is missing, numbers name one value each
pub all_named : (s : Setting) (f : FuncRecord) → Keeps s f Missing → AllNamed f
all_named s f k = record {
  own = λ b v (h, m). ((k b h).value v m).own;
  args = λ b v (h, m). ((k b h).value v m).args;
  controls = λ b h. (k b h).block.control;
}

-- what follows from a result, case by case
pub on_result : {T E : Type 0} (r : Result T E) {P Q : T → Type 0} {R S : E → Type 0} → ((x : T) → P x → Q x) → ((e : E) → R e → S e) → MatchResult r P R → MatchResult r Q S
on_result (Ok x) p q h = p x h
on_result (Err e) p q h = q e h

-- all kinds
ranks_below : (k : FormKind) → rank k < 8
ranks_below Control = omega arith
ranks_below Missing = omega arith
ranks_below Arity = omega arith
ranks_below Ty = omega arith
ranks_below Width = omega arith
ranks_below Use = omega arith
ranks_below Memory = omega arith
ranks_below Order = omega arith

pub in_form : (p : PackageRecord) (t : Target) (f : FuncRecord) → ¬ (f.blocks ≡ []) → KeepsBefore (strict p t) f 8 → IsInForm p f t
in_form p t f some kept = record { blocks = some; kinds = λ k. kept.kinds k (ranks_below k) }

pub refused_for : (p : PackageRecord) (t : Target) (f : FuncRecord) (e : FormError) → ¬ (f.blocks ≡ []) → IsCause (strict p t) f e → IsRefusal p f t e
refused_for p t f (FormFault k place) some cause = inr (some, cause)
refused_for p t f NoMemory some cause = tt

-- one side of a result
pub on_ok : {T E : Type 0} (r : Result T E) (P : T → Type 0) (R : E → Type 0) {Q : Type 0} → ((x : T) → P x → Q) → MatchResult r P R → OnOk r Q
on_ok (Ok x) P R q h = q x h
on_ok (Err e) P R q h = tt

pub on_err : {T E : Type 0} (r : Result T E) (P : T → Type 0) (R : E → Type 0) {S : E → Type 0} → ((e : E) → R e → S e) → MatchResult r P R → IfErr r S
on_err (Ok x) P R s h = tt
on_err (Err e) P R s h = s e h
