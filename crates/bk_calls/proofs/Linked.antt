-- Chains that are listed value by value.
use Rattle.std.proofs.Common.{◌≡◌, ◌∙◌, sym, ap, ℕ, ◌+◌, ◌<◌, ◌≤◌, List, [], ◌∷◌, ◌++◌, length, drop, get_or, append_assoc, append-nil, add-one, drop-cons}
use Rattle.std.proofs.lemmas.List.{drop_all}
use Rattle.bk_ops.specs.declared.family.Family.{Family}
use Rattle.bk_func.specs.Records.{ValueRecord}
use Rattle.bk_calls.specs.Chains.{area_word, chain, memory_after}

pub chain_next : (o : Family) (xs : List ℕ) (i n w m n' w' m' : ℕ) (out now whole : List ValueRecord) → i < length xs
    → n' ≡ n + 1 → w' ≡ w + 1 → m' ≡ n → now ≡ out ++ area_word o n w m (get_or xs i 0) ∷ [] → out ++ chain o n w m (drop i xs) ≡ whole
    → now ++ chain o n' w' m' (drop (i + 1) xs) ≡ whole
chain_next o xs i n w m n' w' m' out now whole l number word memory is before =
    let e : drop i xs ≡ get_or xs i 0 ∷ drop (i + 1) xs = drop-cons xs i 0 l ∙ ap (λ j. get_or xs i 0 ∷ drop j xs) (sym (add-one i)) in
    rw (number, word, memory) (ap (λ zs. zs ++ chain o (n + 1) (w + 1) n (drop (i + 1) xs)) is
    ∙ (append_assoc out (area_word o n w m (get_or xs i 0) ∷ []) (chain o (n + 1) (w + 1) n (drop (i + 1) xs))
    ∙ (ap (λ zs. out ++ chain o n w m zs) (sym e) ∙ before)))

pub chain_all : (o : Family) (xs : List ℕ) (i n w m : ℕ) (out whole : List ValueRecord) → length xs ≤ i → out ++ chain o n w m (drop i xs) ≡ whole → out ≡ whole
chain_all o xs i n w m out whole l e = sym (append-nil out) ∙ (ap (λ zs. out ++ chain o n w m zs) (sym (drop_all i xs l)) ∙ e)

pub memory_next : (xs : List ℕ) (i n m n' m' whole : ℕ) → i < length xs → n' ≡ n + 1 → m' ≡ n → memory_after n m (drop i xs) ≡ whole
    → memory_after n' m' (drop (i + 1) xs) ≡ whole
memory_next xs i n m n' m' whole l number memory before =
    let e : drop i xs ≡ get_or xs i 0 ∷ drop (i + 1) xs = drop-cons xs i 0 l ∙ ap (λ j. get_or xs i 0 ∷ drop j xs) (sym (add-one i)) in
    rw (number, memory) (ap (memory_after n m) (sym e) ∙ before)

pub memory_all : (xs : List ℕ) (i n m whole : ℕ) → length xs ≤ i → memory_after n m (drop i xs) ≡ whole → m ≡ whole
memory_all xs i n m whole l e = ap (memory_after n m) (sym (drop_all i xs l)) ∙ e
