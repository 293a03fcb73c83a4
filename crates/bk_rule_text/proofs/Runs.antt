-- The longest front of elements that pass a test.
use Rattle.std.proofs.Common.{◌≡◌, suc, ◌+◌, List, [], ◌∷◌, ◌++◌, length, take, ap, ◌∙◌, refl, arith, Bool, true, false, cond}
use Rattle.std.specs.List.{prefix_len, AllByRecursion}

front_step : {X : Type 0} (p : X → Bool) (x : X) (xs : List X) (b : Bool) → p x ≡ b → AllByRecursion (λ y. p y ≡ true) (take (prefix_len p xs) xs) → AllByRecursion (λ y. p y ≡ true) (take (cond b (1 + prefix_len p xs) 0) (x ∷ xs))
front_step p x xs true e h = let q : suc (prefix_len p xs) ≡ 1 + prefix_len p xs = omega arith in rw (← q) (e, h)
front_step p x xs false e h = tt

pub front_passes : {X : Type 0} (p : X → Bool) (xs : List X) → AllByRecursion (λ y. p y ≡ true) (take (prefix_len p xs) xs)
front_passes p [] = tt
front_passes p (x ∷ xs) = front_step p x xs (p x) refl (front_passes p xs)

pub front_append : {X : Type 0} (p : X → Bool) (xs ys : List X) → AllByRecursion (λ y. p y ≡ true) xs → prefix_len p ys ≡ 0 → prefix_len p (xs ++ ys) ≡ length xs
front_append p [] ys h e = e
front_append p (x ∷ xs) ys h e = ap (λ b. cond b (1 + prefix_len p (xs ++ ys)) 0) h.0 ∙ ap (λ n. 1 + n) (front_append p xs ys h.1 e) ∙ (omega arith)
