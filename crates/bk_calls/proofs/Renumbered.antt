-- Lists that are changed element by element, each element under a number.
use Rattle.std.proofs.Common.{◌≡◌, ◌∙◌, sym, ap, refl, ℕ, ◌+◌, ◌<◌, ◌≤◌, List, [], ◌∷◌, ◌++◌, length, take, drop, get_or, slice_set, sum_by, append_assoc, append-nil, add-one, arith, drop-cons, take_all, flat_map}
use Rattle.std.proofs.lemmas.List.{take_more_set, drop-set-lt, drop_all}
use Rattle.std.proofs.lemmas.List.Sums.{sum_by-cons}
use Rattle.std.proofs.lemmas.List.Concat.{flat_map-cons}
use Rattle.bk_calls.specs.Areas.{numbered}

-- what is left of a list at an element
pub at_element : {A : Type 0} (xs ys : List A) (i : ℕ) (d : A) → i < length xs → i < length ys → drop i xs ≡ drop i ys
    → drop i ys ≡ get_or xs i d ∷ drop (i + 1) ys
at_element xs ys i d l m e =
    let a = drop-cons xs i d l in
    let b = drop-cons ys i d m in
    rw (add-one i) (cc)

pub left_after : {A : Type 0} (xs ys : List A) (i : ℕ) (x y : A) → i < length xs → i < length ys → drop i xs ≡ drop i ys → drop (i + 1) (slice_set xs i y) ≡ drop (i + 1) ys
left_after xs ys i x y l m e =
    let a = drop-cons xs i x l in
    let b = drop-cons ys i x m in
    drop-set-lt (i + 1) xs i y (omega arith) ∙ (rw (add-one i) (cc))

numbered-cons : {A B : Type 0} (change : ℕ → A → B) (takes : A → ℕ) (n : ℕ) (x : A) (xs : List A)
    → numbered change takes n (x ∷ xs) ≡ change n x ∷ numbered change takes (n + takes x) xs
unfolding numbered
numbered-cons change takes n x xs = refl

numbered-nil : {A B : Type 0} (change : ℕ → A → B) (takes : A → ℕ) (n : ℕ) → numbered change takes n [] ≡ []
unfolding numbered
numbered-nil change takes n = refl

-- what is done and what is left make up the whole, also after one more element
pub changed_next : {A : Type 0} (change : ℕ → A → A) (takes : A → ℕ) (xs ys whole : List A) (i n m : ℕ) (x y : A) → i < length xs
    → drop i ys ≡ x ∷ drop (i + 1) ys → y ≡ change n x → m ≡ n + takes x
    → take i xs ++ numbered change takes n (drop i ys) ≡ whole
    → take (i + 1) (slice_set xs i y) ++ numbered change takes m (drop (i + 1) ys) ≡ whole
changed_next {A = A} change takes xs ys whole i n m x y l e is next before =
    let rest : List A = numbered change takes (n + takes x) (drop (i + 1) ys) in
    rw (take_more_set xs i y l, next, is) (append_assoc (take i xs) (change n x ∷ []) rest
    ∙ (ap (λ zs. take i xs ++ zs) (sym (ap (numbered change takes n) e ∙ numbered-cons change takes n x (drop (i + 1) ys))) ∙ before))

pub changed_all : {A : Type 0} (change : ℕ → A → A) (takes : A → ℕ) (xs ys whole : List A) (i n : ℕ) → length xs ≤ i → length ys ≤ i
    → take i xs ++ numbered change takes n (drop i ys) ≡ whole → xs ≡ whole
changed_all change takes xs ys whole i n l m e =
    sym (append-nil xs) ∙ (ap (λ zs. xs ++ zs) (sym (ap (numbered change takes n) (drop_all i ys m) ∙ numbered-nil change takes n))
    ∙ (ap (λ zs. zs ++ numbered change takes n (drop i ys)) (sym (take_all i xs l)) ∙ e))

-- the same of lists that are made for each element
pub listed_next : {A B : Type 0} (make : ℕ → A → List B) (takes : A → ℕ) (ys : List A) (out now whole : List B) (i n m : ℕ) (x : A)
    → drop i ys ≡ x ∷ drop (i + 1) ys → now ≡ out ++ make n x → m ≡ n + takes x
    → out ++ flat_map (λ ws. ws) (numbered make takes n (drop i ys)) ≡ whole
    → now ++ flat_map (λ ws. ws) (numbered make takes m (drop (i + 1) ys)) ≡ whole
listed_next make takes ys out now whole i n m x e is next before =
    let rest = numbered make takes (n + takes x) (drop (i + 1) ys) in
    rw (next, is) (append_assoc out (make n x) (flat_map (λ ws. ws) rest)
    ∙ (ap (λ zs. out ++ zs) (sym (ap (λ zs. flat_map (λ ws. ws) (numbered make takes n zs)) e
    ∙ (ap (flat_map (λ ws. ws)) (numbered-cons make takes n x (drop (i + 1) ys)) ∙ flat_map-cons (λ ws. ws) (make n x) rest))) ∙ before))

pub listed_all : {A B : Type 0} (make : ℕ → A → List B) (takes : A → ℕ) (ys : List A) (out whole : List B) (i n : ℕ) → length ys ≤ i
    → out ++ flat_map (λ ws. ws) (numbered make takes n (drop i ys)) ≡ whole → out ≡ whole
listed_all make takes ys out whole i n m e =
    sym (append-nil out) ∙ (ap (λ zs. out ++ zs) (sym (ap (λ zs. flat_map (λ ws. ws) (numbered make takes n zs)) (drop_all i ys m)
    ∙ ap (flat_map (λ ws. ws)) (numbered-nil make takes n))) ∙ e)

-- the number after all
pub number_next : {A : Type 0} (takes : A → ℕ) (ys : List A) (i n m last : ℕ) (x : A) → drop i ys ≡ x ∷ drop (i + 1) ys → m ≡ n + takes x
    → n + sum_by takes (drop i ys) ≡ last → m + sum_by takes (drop (i + 1) ys) ≡ last
number_next takes ys i n m last x e next before =
    let a : sum_by takes (drop i ys) ≡ takes x + sum_by takes (drop (i + 1) ys) = ap (sum_by takes) e ∙ sum_by-cons takes x (drop (i + 1) ys) in
    omega (arith, a, next, before)

pub number_all : {A : Type 0} (takes : A → ℕ) (ys : List A) (i n last : ℕ) → length ys ≤ i → n + sum_by takes (drop i ys) ≡ last → n ≡ last
number_all takes ys i n last m e =
    let a : sum_by takes (drop i ys) ≡ 0 = ap (sum_by takes) (drop_all i ys m) in
    omega (arith, a, e)
