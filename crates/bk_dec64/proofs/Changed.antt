-- Lists that are made for the elements of a list, and the elements changed under their numbers.
use Rattle.std.proofs.Common.{◌≡◌, ◌∙◌, sym, ap, refl, ℕ, ◌+◌, ◌<◌, ◌≤◌, List, [], ◌∷◌, ◌++◌, length, take, drop, get_or, slice_set, append_assoc, append-nil, add-one, length-append, arith, drop-cons, take_all}
use Rattle.std.proofs.lemmas.List.{take_more_set, drop-set-lt, drop_all}
use Rattle.bk_dec64.specs.Decomposed.{listed, changed}

-- what is left of a list at an element
pub at_element : {A : Type 0} (xs ys : List A) (i : ℕ) (d : A) → i < length xs → i < length ys → drop i xs ≡ drop i ys
    → drop i ys ≡ get_or xs i d ∷ drop (i + 1) ys
at_element xs ys i d l m e =
    let a = drop-cons xs i d l in
    let b = drop-cons ys i d m in
    rw (add-one i) (cc)

pub left_after : {A : Type 0} (xs ys : List A) (i : ℕ) (x y : A) → i < length xs → i < length ys → drop i xs ≡ drop i ys → drop (i + 1) (slice_set xs i y) ≡ drop (i + 1) ys
left_after xs ys i x y l m e =
    let a = drop-cons xs i x l in
    let b = drop-cons ys i x m in
    drop-set-lt (i + 1) xs i y (omega arith) ∙ (rw (add-one i) (cc))

listed-cons : {A B : Type 0} (make : ℕ → A → List B) (n : ℕ) (x : A) (xs : List A)
    → listed make n (x ∷ xs) ≡ make n x ++ listed make (n + length (make n x)) xs
unfolding listed
listed-cons make n x xs = refl

listed-nil : {A B : Type 0} (make : ℕ → A → List B) (n : ℕ) → listed make n [] ≡ []
unfolding listed
listed-nil make n = refl

changed-cons : {A B C : Type 0} (make : ℕ → A → List B) (change : ℕ → A → C) (n : ℕ) (x : A) (xs : List A)
    → changed make change n (x ∷ xs) ≡ change n x ∷ changed make change (n + length (make n x)) xs
unfolding changed
changed-cons make change n x xs = refl

changed-nil : {A B C : Type 0} (make : ℕ → A → List B) (change : ℕ → A → C) (n : ℕ) → changed make change n [] ≡ []
unfolding changed
changed-nil make change n = refl

-- what is done and what is left make up the whole, also after one more element
pub changed_next : {A B : Type 0} (make : ℕ → A → List B) (change : ℕ → A → A) (xs ys whole : List A) (i n m : ℕ) (x y : A) → i < length xs
    → drop i ys ≡ x ∷ drop (i + 1) ys → y ≡ change n x → m ≡ n + length (make n x)
    → take i xs ++ changed make change n (drop i ys) ≡ whole
    → take (i + 1) (slice_set xs i y) ++ changed make change m (drop (i + 1) ys) ≡ whole
changed_next {A = A} make change xs ys whole i n m x y l e is next before =
    let rest : List A = changed make change (n + length (make n x)) (drop (i + 1) ys) in
    rw (take_more_set xs i y l, next, is) (append_assoc (take i xs) (change n x ∷ []) rest
    ∙ (ap (λ zs. take i xs ++ zs) (sym (ap (changed make change n) e ∙ changed-cons make change n x (drop (i + 1) ys))) ∙ before))

pub changed_all : {A B : Type 0} (make : ℕ → A → List B) (change : ℕ → A → A) (xs ys whole : List A) (i n : ℕ) → length xs ≤ i → length ys ≤ i
    → take i xs ++ changed make change n (drop i ys) ≡ whole → xs ≡ whole
changed_all make change xs ys whole i n l m e =
    sym (append-nil xs) ∙ (ap (λ zs. xs ++ zs) (sym (ap (changed make change n) (drop_all i ys m) ∙ changed-nil make change n))
    ∙ (ap (λ zs. zs ++ changed make change n (drop i ys)) (sym (take_all i xs l)) ∙ e))

-- the same of what is made
pub listed_next : {A B : Type 0} (make : ℕ → A → List B) (ys : List A) (out now whole : List B) (i n m : ℕ) (x : A)
    → drop i ys ≡ x ∷ drop (i + 1) ys → now ≡ out ++ make n x → m ≡ n + length (make n x)
    → out ++ listed make n (drop i ys) ≡ whole → now ++ listed make m (drop (i + 1) ys) ≡ whole
listed_next make ys out now whole i n m x e is next before =
    rw (next, is) (append_assoc out (make n x) (listed make (n + length (make n x)) (drop (i + 1) ys))
    ∙ (ap (λ zs. out ++ zs) (sym (ap (listed make n) e ∙ listed-cons make n x (drop (i + 1) ys))) ∙ before))

pub listed_all : {A B : Type 0} (make : ℕ → A → List B) (ys : List A) (out whole : List B) (i n : ℕ) → length ys ≤ i
    → out ++ listed make n (drop i ys) ≡ whole → out ≡ whole
listed_all make ys out whole i n m e =
    sym (append-nil out) ∙ (ap (λ zs. out ++ zs) (sym (ap (listed make n) (drop_all i ys m) ∙ listed-nil make n)) ∙ e)

-- the number behind all
pub number_next : {A B : Type 0} (make : ℕ → A → List B) (ys : List A) (i n m last : ℕ) (x : A) → drop i ys ≡ x ∷ drop (i + 1) ys
    → m ≡ n + length (make n x) → n + length (listed make n (drop i ys)) ≡ last → m + length (listed make m (drop (i + 1) ys)) ≡ last
number_next make ys i n m last x e next before =
    let rest = listed make (n + length (make n x)) (drop (i + 1) ys) in
    let a : length (listed make n (drop i ys)) ≡ length (make n x) + length rest =
    ap length (ap (listed make n) e ∙ listed-cons make n x (drop (i + 1) ys)) ∙ length-append (make n x) rest in
    rw next (omega (arith, a, before))

pub number_all : {A B : Type 0} (make : ℕ → A → List B) (ys : List A) (i n last : ℕ) → length ys ≤ i → n + length (listed make n (drop i ys)) ≡ last → n ≡ last
number_all make ys i n last m e =
    let a : length (listed make n (drop i ys)) ≡ 0 = ap length (ap (listed make n) (drop_all i ys m) ∙ listed-nil make n) in
    omega (arith, a, e)
