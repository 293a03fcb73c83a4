-- Numbers that fit types, one after the other.
use Rattle.std.proofs.Common.{◌≡◌, ℕ, suc, ◌+◌, ◌<◌, ◌≤◌, ◌%◌, ◌^◌, refl, ap, sym, ◌∙◌, List, [], ◌∷◌, ◌++◌, length, drop, drop-cons, get_or, add-one, append_assoc, append-nil}
use Rattle.std.proofs.Math.ListN.{drop_of_length-le}
use Rattle.bk_ops.specs.Types.{width_of}
use Rattle.bk_ops.specs.declared.types.Target.{Target}
use Rattle.bk_ops.specs.declared.types.Ty.{Ty}
use Rattle.bk_func.specs.Words.{fitted}

-- one more number is fitted
pub one_more : (t : Target) (tys : List Ty) (ns : List ℕ) (i : ℕ) (ty : Ty) (list all : List ℕ) → i < length tys → i < length ns → ty ≡ get_or tys i ty →
    list ++ fitted t (drop i tys) (drop i ns) ≡ all → (list ++ get_or ns i 0 % 2 ^ width_of ty t ∷ []) ++ fitted t (drop (i + 1) tys) (drop (i + 1) ns) ≡ all
one_more t tys ns i ty list all h k e q =
    append_assoc list (get_or ns i 0 % 2 ^ width_of ty t ∷ []) (fitted t (drop (i + 1) tys) (drop (i + 1) ns))
    ∙ ap (λ zs. list ++ zs) (sym (here ∙ ap (λ j. get_or ns i 0 % 2 ^ width_of ty t ∷ fitted t (drop j tys) (drop j ns)) (sym (add-one i))))
    ∙ q
  where
    here : fitted t (drop i tys) (drop i ns) ≡ get_or ns i 0 % 2 ^ width_of ty t ∷ fitted t (drop (suc i) tys) (drop (suc i) ns)
    here =
        ap (λ xs. fitted t xs (drop i ns)) (drop-cons tys i ty h)
        ∙ ap (λ xs. fitted t (get_or tys i ty ∷ drop (suc i) tys) xs) (drop-cons ns i 0 k)
        ∙ ap (λ y. get_or ns i 0 % 2 ^ width_of y t ∷ fitted t (drop (suc i) tys) (drop (suc i) ns)) (sym e)

-- no more types, or no more numbers
pub none_more : (t : Target) (tys : List Ty) (ns : List ℕ) (i : ℕ) (list all : List ℕ) → length ns ≤ i → list ++ fitted t (drop i tys) (drop i ns) ≡ all → list ≡ all
none_more t tys ns i list all h q =
    sym (append-nil list) ∙ ap (λ zs. list ++ zs) (sym (ap (fitted t (drop i tys)) (drop_of_length-le ns h) ∙ nothing (drop i tys))) ∙ q
  where
    nothing : (xs : List Ty) → fitted t xs [] ≡ []
    nothing [] = refl
    nothing (x ∷ xs) = refl
