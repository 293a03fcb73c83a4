-- Elements that belong together, one more pair at a time.
use Rattle.std.proofs.Common.{◌≡◌, ℕ, ◌+◌, ◌<◌, List, [], ◌∷◌, ◌++◌, length, get_or, take, sym, subst}
use Rattle.std.proofs.lemmas.List.{take_more}
use Rattle.bk_work.specs.Each.{Each, none, more}

each_push : {A B : Type 0} (R : A → B → Type 0) (xs : List A) (ys : List B) (x : A) (y : B) → Each R xs ys → R x y → Each R (xs ++ x ∷ []) (ys ++ y ∷ [])
each_push R _ _ x y none r = more x y [] [] r none
each_push R _ _ x y (more a b xs ys s h) r = more a b (xs ++ x ∷ []) (ys ++ y ∷ []) s (each_push R xs ys x y h r)

pub each_none : {A B : Type 0} (R : A → B → Type 0) (xs : List A) (ys : List B) → ys ≡ [] → Each R (take 0 xs) ys
each_none R xs ys e = subst (Each R []) (sym e) none

pub each_next : {A B : Type 0} (R : A → B → Type 0) (xs : List A) (i : ℕ) (x : A) (before after : List B) (y : B) → i < length xs → x ≡ get_or xs i x
    → Each R (take i xs) before → R x y → after ≡ before ++ y ∷ [] → Each R (take (i + 1) xs) after
each_next R xs i x before after y lt is h r grown =
    subst (Each R (take (i + 1) xs)) (sym grown)
    (subst (λ l. Each R l (before ++ y ∷ [])) (sym (take_more xs i x lt))
    (subst (λ z. Each R (take i xs ++ z ∷ []) (before ++ y ∷ [])) is (each_push R (take i xs) before x y h r)))
