-- Words from a place on, one after the other.
use Rattle.std.proofs.Common.{◌≡◌, ℕ, suc, ◌+◌, ◌-◌, ◌<◌, ◌≤◌, ap, sym, ◌∙◌, arith, List, [], ◌∷◌, ◌++◌, append_assoc, append-nil}
use Rattle.bk_func.specs.Words.{words_at}

-- one more word is taken
pub words_more : (word : ℕ → ℕ) (k n : ℕ) (list all : List ℕ) → k < n → list ++ words_at word k (n - k) ≡ all → (list ++ word k ∷ []) ++ words_at word (k + 1) (n - (k + 1)) ≡ all
words_more word k n list all l e =
    let a : k + 1 ≡ suc k = omega arith in
    let b : n - k ≡ suc (n - (k + 1)) = omega (arith, l) in
    append_assoc list (word k ∷ []) (words_at word (k + 1) (n - (k + 1)))
    ∙ ap (λ j. list ++ word k ∷ words_at word j (n - (k + 1))) a
    ∙ ap (λ j. list ++ words_at word k j) (sym b)
    ∙ e

pub words_none : (word : ℕ → ℕ) (k n : ℕ) (list all : List ℕ) → n ≤ k → list ++ words_at word k (n - k) ≡ all → list ≡ all
words_none word k n list all l e =
    let a : n - k ≡ 0 = omega (arith, l) in
    sym (append-nil list) ∙ ap (λ j. list ++ words_at word k j) (sym a) ∙ e
