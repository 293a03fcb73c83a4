-- Values that name the same have the same number in two functions.
use Rattle.std.proofs.Common.{◌≡◌, ℕ, ◌%◌, ◌^◌, refl, ap, sym, ◌∙◌}
use Rattle.bk_func.specs.Records.{ValueRecord, FuncRecord}
use Rattle.bk_func.specs.Numbers.{Program, Env, Origin, phi, argument, argument_word, result, address, loaded, checked, same, computed, number_by, state_of, callee_of}
use Rattle.bk_func.proofs.Kept.{Alike}
use Rattle.bk_func.proofs.Unchanged.{number_by_alike}
use Rattle.bk_rule.specs.WordSound.{bits}
use Rattle.bk_refine_laws.specs.Possible.{MayBe}

itself_alike : (p : Program) → Alike p p
itself_alike p = record { target = refl; places_of = refl; frames = refl; sigs = λ s. refl; places = λ s. refl }

pub number_same : (c : Origin) (p : Program) (f g : FuncRecord) (e : Env) (m : ℕ → ℕ) (u : ValueRecord) → state_of f u ≡ state_of g u → (c ≡ result → callee_of f u ≡ callee_of g u) →
    number_by c p f e m u ≡ number_by c p g e m u
number_same phi p f g e m u s k = refl
number_same argument p f g e m u s k = refl
number_same argument_word p f g e m u s k = refl
number_same result p f g e m u s k = number_by_alike result p p (itself_alike p) refl f g e m u s (k refl)
number_same address p f g e m u s k = refl
number_same loaded p f g e m u s k = rw s refl
number_same checked p f g e m u s k = refl
number_same same p f g e m u s k = refl
number_same computed p f g e m u s k = refl

-- a value that stayed may have the numbers that it may have in the other function
pub may_alike : (c : Origin) (p : Program) (f g : FuncRecord) (e : Env) (m : ℕ → ℕ) (u : ValueRecord) (n : ℕ) → state_of f u ≡ state_of g u → (c ≡ result → callee_of f u ≡ callee_of g u) →
    MayBe c p g e m u n → MayBe c p f e m u n
may_alike computed p f g e m u n s k h = h
may_alike phi p f g e m u n s k h = h
may_alike argument p f g e m u n s k h = h
may_alike argument_word p f g e m u n s k h = h
may_alike result p f g e m u n s k h = h ∙ sym (number_same result p f g e m u s k)
may_alike address p f g e m u n s k h = h
may_alike loaded p f g e m u n s k h = h ∙ ap (λ z. z % 2 ^ bits p.target u) (sym (number_same loaded p f g e m u s k))
may_alike checked p f g e m u n s k h = h
may_alike same p f g e m u n s k h = h
