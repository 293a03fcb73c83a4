-- What a call reads, said in other words.
use Rattle.std.proofs.Common.{◌≡◌, ℕ, zero, suc, ◌+◌, List, [], ◌∷◌, ◌++◌, map, ap, ◌∙◌, sym, subst, arith, Option, None, Result, Ok, Err}
use Rattle.std.specs.Result.{IsErrAnd}
use Rattle.bk_rule_text.specs.declared.errors.RuleError.{RuleError}
use Rattle.bk_rule_text.specs.declared.errors.RuleError.TheVariants as error
use Rattle.bk_rule_text.specs.declared.errors.Unread.{Unread}
use Rattle.bk_rule_text.specs.declared.errors.Unread.TheVariants as unread
use Rattle.bk_rule_text.specs.Front.{unblanked}
use Rattle.bk_rule_text.specs.Names.{Variables}
use Rattle.bk_rule_text.specs.Exprs.{operand_at, operand_in}
use Rattle.bk_rule_text.specs.Builds.{build_at, build_in}
use Rattle.bk_rule_text.specs.Patterns.{pattern_at, pattern_in}
use Rattle.bk_rule_text.specs.Rules.{numbers_from}
use Rattle.bk_rule_text.specs.Views.{Reads, Answers}

-- a call that reads x, where x is y
pub read_as : {X Y : Type 0} (view : X → Y) (r : Result X Unread) (x y : Option Y) → x ≡ y → Reads view r x → Reads view r y
read_as {X} {Y} view r x y e h = let P : Option Y → Type 0 = λ o. Reads view r o in subst P e h

-- ---- one level deeper
pub operand_is : (s : Variables) (n m : ℕ) (text u : List ℕ) → n ≡ m + 1 → u ≡ unblanked text → operand_in s (operand_at s m) u ≡ operand_at s n text
unfolding operand_at
operand_is s n m text u e h =
    ap (operand_in s (operand_at s m)) h ∙ (let d : suc m ≡ n = omega (arith, e) in ap (λ k. operand_at s k text) d)

pub build_is : (s : Variables) (n m : ℕ) (text : List ℕ) → n ≡ m + 1 → build_in s m (build_at s m) text ≡ build_at s n text
unfolding build_at
build_is s n m text e = let d : suc m ≡ n = omega (arith, e) in ap (λ k. build_at s k text) d

pub pattern_is : (n m : ℕ) (names : List (List ℕ)) (text : List ℕ) → n ≡ m + 1 → pattern_in (pattern_at m) names text ≡ pattern_at n names text
unfolding pattern_at
pattern_is n m names text e = let d : suc m ≡ n = omega (arith, e) in ap (λ k. pattern_at k names text) d

-- ---- so many numbers
one_number_more : {A : Type 0} (f : ℕ → A) (first n : ℕ) → map f (numbers_from first (suc n)) ≡ map f (numbers_from first n) ++ f (first + n) ∷ []
unfolding numbers_from
one_number_more f first zero = let e : first ≡ first + 0 = omega arith in ap (λ k. f k ∷ []) e
one_number_more f first (suc n) =
    ap (λ xs. f first ∷ xs) (one_number_more f (suc first) n)
    ∙ (let e : suc first + n ≡ first + suc n = omega arith in ap (λ k. map f (numbers_from first (suc n)) ++ f k ∷ []) e)

pub no_number : {A : Type 0} (f : ℕ → A) (first : ℕ) (xs : List A) → xs ≡ [] → xs ≡ map f (numbers_from first 0)
unfolding numbers_from
no_number f first xs e = e

pub number_pushed : {A : Type 0} (f : ℕ → A) (first n : ℕ) (xs ys : List A) → xs ≡ map f (numbers_from first n) → ys ≡ xs ++ f (first + n) ∷ [] → ys ≡ map f (numbers_from first (n + 1))
number_pushed f first n xs ys e h =
    h ∙ ap (λ zs. zs ++ f (first + n) ∷ []) e ∙ sym (one_number_more f first n) ∙ (let d : suc n ≡ n + 1 = omega arith in ap (λ k. map f (numbers_from first k)) d)

-- a part that was not read, where the whole is not read then
pub erred : {X Y W Z : Type 0} (view : X → Y) (seen : W → Z) (r : Result X Unread) (e : Unread) (o : Option Z) (y : Option Y) → IsErrAnd r (λ f. f ≡ e) → Reads seen (Err e) o → (o ≡ None → y ≡ None) → Reads view r y
erred view seen (Ok x) e o y h k g = absurd h
erred {X} {Y} view seen (Err f) unread.Syntax o y h k g = let P : Unread → Type 0 = λ u. Reads view (Err u) y in subst P (sym h) (g k)
erred {X} {Y} view seen (Err f) unread.Memory o y h k g = let P : Unread → Type 0 = λ u. Reads view (Err u) y in subst P (sym h) tt

-- a line at fault, which decides for its text
pub failed : {X Y W Z : Type 0} (view : X → Y) (seen : W → Z) (r : Result X RuleError) (e : RuleError) (o : Result Z RuleError) (y : Result Y RuleError) → IsErrAnd r (λ f. f ≡ e) → Answers seen (Err e) o → ((f : RuleError) → o ≡ Err f → y ≡ Err f) → Answers view r y
failed view seen (Ok x) e o y h k g = absurd h
failed {X} {Y} view seen (Err f) (error.RuleSyntax n) o y h k g = let P : RuleError → Type 0 = λ u. Answers view (Err u) y in subst P (sym h) (g (error.RuleSyntax n) k)
failed {X} {Y} view seen (Err f) (error.RuleOp n) o y h k g = let P : RuleError → Type 0 = λ u. Answers view (Err u) y in subst P (sym h) (g (error.RuleOp n) k)
failed {X} {Y} view seen (Err f) error.Memory o y h k g = let P : RuleError → Type 0 = λ u. Answers view (Err u) y in subst P (sym h) tt
