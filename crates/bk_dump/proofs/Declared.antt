-- The declarations of a package, one function further at a time.
use Rattle.std.proofs.Common.{◌≡◌, ℕ, ◌+◌, ◌<◌, ◌≤◌, List, [], ◌∷◌, ◌++◌, length, take, drop, slice_index_or, suc, add-one, append_assoc, drop-cons, ap, sym, subst, ◌∙◌}
use Rattle.std.proofs.Math.ListN.{drop_of_length-le}
use Rattle.bk_func.specs.Records.{FuncRecord, VarRecord, PackageRecord}
use Rattle.bk_dump.specs.Print.{before, declarations, function_text, variable_lines}

-- what stands before the first function, and the function, are written
pub first_declared : (p : PackageRecord) (f : FuncRecord) (fs : List FuncRecord) (vs : List VarRecord) (out with_vars with_func : List ℕ) → with_vars ≡ out ++ variable_lines p.names (take (before f.name vs) vs) → with_func ≡ with_vars ++ function_text p f → with_func ++ declarations p fs (drop (before f.name vs) vs) ≡ out ++ declarations p (f ∷ fs) vs
unfolding declarations
first_declared p f fs vs out with_vars with_func e g =
    let V = variable_lines p.names (take (before f.name vs) vs) in
    let F = function_text p f in
    let D = declarations p fs (drop (before f.name vs) vs) in
    ap (λ xs. xs ++ D) g ∙ append_assoc with_vars F D ∙ ap (λ xs. xs ++ (F ++ D)) e ∙ append_assoc out V (F ++ D)

-- the function at place i is written
pub next_declared : (p : PackageRecord) (f : FuncRecord) (fs items : List FuncRecord) (vs front rest : List VarRecord) (i k : ℕ) (out with_vars with_func all : List ℕ) → items ≡ fs → i < length items → f ≡ slice_index_or items i f → k ≡ before f.name vs → front ≡ take k vs → rest ≡ drop k vs → with_vars ≡ out ++ variable_lines p.names front → with_func ≡ with_vars ++ function_text p f → out ++ declarations p (drop i fs) vs ≡ all → with_func ++ declarations p (drop (i + 1) fs) rest ≡ all
next_declared p f fs items vs front rest i k out with_vars with_func all same below is count front_is rest_is e g so_far =
    let within : i < length fs = subst (λ (xs : List FuncRecord). i < length xs) same below in
    let there : f ≡ slice_index_or fs i f = is ∙ ap (λ (xs : List FuncRecord). slice_index_or xs i f) same in
    let cut : drop i fs ≡ f ∷ drop (i + 1) fs = rw (add-one, drop-cons fs i f) (ap (λ (x : FuncRecord). x ∷ drop (suc i) fs) (sym there)) in
    let written : with_vars ≡ out ++ variable_lines p.names (take (before f.name vs) vs) = e ∙ ap (λ (ws : List VarRecord). out ++ variable_lines p.names ws) (front_is ∙ ap (λ n. take n vs) count) in
    ap (λ (ws : List VarRecord). with_func ++ declarations p (drop (i + 1) fs) ws) (rest_is ∙ ap (λ n. drop n vs) count)
    ∙ first_declared p f (drop (i + 1) fs) vs out with_vars with_func written g
    ∙ ap (λ (gs : List FuncRecord). out ++ declarations p gs vs) (sym cut)
    ∙ so_far

-- behind the last function stand the variables that are left
pub last_declared : (p : PackageRecord) (fs items : List FuncRecord) (vs : List VarRecord) (i : ℕ) (out whole all : List ℕ) → items ≡ fs → length items ≤ i → whole ≡ out ++ variable_lines p.names vs → out ++ declarations p (drop i fs) vs ≡ all → whole ≡ all
unfolding declarations
last_declared p fs items vs i out whole all same above e so_far =
    let past : length fs ≤ i = subst (λ (xs : List FuncRecord). length xs ≤ i) same above in
    let none : drop i fs ≡ [] = drop_of_length-le fs past in
    e ∙ ap (λ (gs : List FuncRecord). out ++ declarations p gs vs) (sym none) ∙ so_far
