-- Halves that are made one after the other.
use Rattle.std.proofs.Common.{◌≡◌, ◌∙◌, sym, ap, refl, ℕ, zero, suc, ◌+◌, ◌<◌, ◌≤◌, Bool, true, false, cond, List, [], ◌∷◌, ◌++◌, length, drop, get_or, append_assoc, append-nil, length-append, add-one, drop-cons, min, ⊎_elim, arith}
use Rattle.std.proofs.lemmas.Bool.{cases_lt}
use Rattle.std.proofs.lemmas.List.{drop_all}
use Rattle.bk_ops.specs.declared.family.Family.{Family}
use Rattle.bk_ops.specs.declared.family.Family.TheVariants as op
use Rattle.bk_ops.specs.declared.types.Ty.{Ty}
use Rattle.bk_dec64.specs.Halves.{made, half, halves_in, first_is_double, parts, in_words}
use Rattle.bk_dec64.specs.Words.{double_at, words_of, parts_of, listed_words}

-- lists that grow towards a whole

pub grown : {A : Type 0} (out now more rest left whole : List A) → left ≡ more ++ rest → now ≡ out ++ more → out ++ left ≡ whole → now ++ rest ≡ whole
grown out now more rest left whole e is before = rw is (append_assoc out more rest ∙ (ap (λ zs. out ++ zs) (sym e) ∙ before))

pub grown_all : {A : Type 0} (out left whole : List A) → left ≡ [] → out ++ left ≡ whole → out ≡ whole
grown_all out left whole e before = sym (append-nil out) ∙ (ap (λ zs. out ++ zs) (sym e) ∙ before)

pub counted : {A : Type 0} (more rest left : List A) (n m whole : ℕ) → left ≡ more ++ rest → m ≡ n + length more → n + length left ≡ whole → m + length rest ≡ whole
counted more rest left n m whole e is before =
    let l : length left ≡ length more + length rest = ap length e ∙ length-append more rest in
    omega (arith, l, is, before)

pub counted_all : {A : Type 0} (left : List A) (n whole : ℕ) → left ≡ [] → n + length left ≡ whole → n ≡ whole
counted_all left n whole e before =
    let l : length left ≡ 0 = ap length e in
    omega (arith, l, before)

element : (xs : List ℕ) (i : ℕ) → i < length xs → drop i xs ≡ get_or xs i 0 ∷ drop (i + 1) xs
element xs i l = drop-cons xs i 0 l ∙ ap (λ j. get_or xs i 0 ∷ drop j xs) (sym (add-one i))

-- halves of one number for each block

halves-cons : (o : Family) (n b x : ℕ) (bs xs : List ℕ) → halves_in o n (b ∷ bs) (x ∷ xs) ≡ made b (half o n x) ∷ halves_in o (n + 1) bs xs
unfolding halves_in
halves-cons o n b x bs xs = refl

halves-nil : (o : Family) (n : ℕ) (xs : List ℕ) → halves_in o n [] xs ≡ []
unfolding halves_in
halves-nil o n xs = refl

halves-none : (o : Family) (n : ℕ) (bs : List ℕ) → halves_in o n bs [] ≡ []
unfolding halves_in
halves-none o n [] = refl
halves-none o n (b ∷ bs) = refl

pub halves_next : (o : Family) (n m : ℕ) (bs xs : List ℕ) (i : ℕ) → i < min (length bs) (length xs) → m ≡ n + 1
    → halves_in o n (drop i bs) (drop i xs) ≡ made (get_or bs i 0) (half o n (get_or xs i 0)) ∷ halves_in o m (drop (i + 1) bs) (drop (i + 1) xs)
halves_next o n m bs xs i l next =
    rw next
    (ap (λ cs. halves_in o n cs (drop i xs)) (element bs i (omega (arith, l)))
    ∙ (ap (λ ys. halves_in o n (get_or bs i 0 ∷ drop (i + 1) bs) ys) (element xs i (omega (arith, l)))
    ∙ halves-cons o n (get_or bs i 0) (get_or xs i 0) (drop (i + 1) bs) (drop (i + 1) xs)))

pub halves_all : (o : Family) (n : ℕ) (bs xs : List ℕ) (i : ℕ) → min (length bs) (length xs) ≤ i → halves_in o n (drop i bs) (drop i xs) ≡ []
halves_all o n bs xs i l = ⊎_elim
    (λ (m : i < length bs). ap (halves_in o n (drop i bs)) (drop_all i xs (omega (arith, l, m))) ∙ halves-none o n (drop i bs))
    (λ m. ap (λ cs. halves_in o n cs (drop i xs)) (drop_all i bs m) ∙ halves-nil o n (drop i xs))
    (cases_lt i (length bs))

-- numbers of which some are of two words

first_double : (tys : List Ty) (i : ℕ) → first_is_double (drop i tys) ≡ double_at tys i
first_double [] zero = refl
first_double [] (suc i) = refl
first_double (ty ∷ tys) zero = refl
first_double (ty ∷ tys) (suc i) = first_double tys i

dropped_more : (tys : List Ty) (i : ℕ) → drop 1 (drop i tys) ≡ drop (suc i) tys
dropped_more [] zero = refl
dropped_more [] (suc i) = refl
dropped_more (ty ∷ tys) zero = refl
dropped_more (ty ∷ tys) (suc i) = dropped_more tys i

dropped : (tys : List Ty) (i : ℕ) → drop 1 (drop i tys) ≡ drop (i + 1) tys
dropped tys i = dropped_more tys i ∙ ap (λ j. drop j tys) (sym (add-one i))

parts-cons : (b n : ℕ) (tys : List Ty) (x : ℕ) (xs : List ℕ)
    → parts b n tys (x ∷ xs) ≡ cond (first_is_double tys) (made b (half op.Int64Lo n x) ∷ made b (half op.Int64Hi (n + 1) x) ∷ parts b (n + 2) (drop 1 tys) xs) (parts b n (drop 1 tys) xs)
unfolding parts
parts-cons b n tys x xs = refl

parts-nil : (b n : ℕ) (tys : List Ty) → parts b n tys [] ≡ []
unfolding parts
parts-nil b n tys = refl

part_more : (d : Bool) (b n x : ℕ) (tys : List Ty) (xs : List ℕ)
    → cond d (made b (half op.Int64Lo n x) ∷ made b (half op.Int64Hi (n + 1) x) ∷ parts b (n + 2) tys xs) (parts b n tys xs)
    ≡ parts_of d b n x ++ parts b (n + length (parts_of d b n x)) tys xs
part_more true b n x tys xs = refl
part_more false b n x tys xs =
    let z : n + 0 ≡ n = omega arith in
    rw z refl

pub parts_next : (d : Bool) (b n m : ℕ) (tys : List Ty) (xs : List ℕ) (i : ℕ) → i < length xs → d ≡ double_at tys i
    → m ≡ n + length (parts_of d b n (get_or xs i 0))
    → parts b n (drop i tys) (drop i xs) ≡ parts_of d b n (get_or xs i 0) ++ parts b m (drop (i + 1) tys) (drop (i + 1) xs)
parts_next d b n m tys xs i l is next =
    ap (parts b n (drop i tys)) (element xs i l) ∙ (parts-cons b n (drop i tys) (get_or xs i 0) (drop (i + 1) xs)
    ∙ (rw (next, is, first_double tys i, dropped tys i) (part_more (double_at tys i) b n (get_or xs i 0) (drop (i + 1) tys) (drop (i + 1) xs))))

pub parts_all : (b n : ℕ) (tys : List Ty) (xs : List ℕ) (i : ℕ) → length xs ≤ i → parts b n (drop i tys) (drop i xs) ≡ []
parts_all b n tys xs i l = ap (parts b n (drop i tys)) (drop_all i xs l) ∙ parts-nil b n (drop i tys)

in_words-cons : (n : ℕ) (tys : List Ty) (x : ℕ) (xs : List ℕ)
    → in_words n tys (x ∷ xs) ≡ cond (first_is_double tys) (n ∷ (n + 1) ∷ in_words (n + 2) (drop 1 tys) xs) (x ∷ in_words n (drop 1 tys) xs)
unfolding in_words
in_words-cons n tys x xs = refl

in_words-nil : (n : ℕ) (tys : List Ty) → in_words n tys [] ≡ []
unfolding in_words
in_words-nil n tys = refl

word_more : (d : Bool) (b n x : ℕ) (tys : List Ty) (xs : List ℕ) → cond d (n ∷ (n + 1) ∷ in_words (n + 2) tys xs) (x ∷ in_words n tys xs)
    ≡ listed_words (words_of d n x) ++ in_words (n + length (parts_of d b n x)) tys xs
word_more true b n x tys xs = refl
word_more false b n x tys xs =
    let z : n + 0 ≡ n = omega arith in
    rw z refl

pub words_next : (d : Bool) (b n m : ℕ) (tys : List Ty) (xs : List ℕ) (i : ℕ) → i < length xs → d ≡ double_at tys i
    → m ≡ n + length (parts_of d b n (get_or xs i 0))
    → in_words n (drop i tys) (drop i xs) ≡ listed_words (words_of d n (get_or xs i 0)) ++ in_words m (drop (i + 1) tys) (drop (i + 1) xs)
words_next d b n m tys xs i l is next =
    ap (in_words n (drop i tys)) (element xs i l) ∙ (in_words-cons n (drop i tys) (get_or xs i 0) (drop (i + 1) xs)
    ∙ (rw (next, is, first_double tys i, dropped tys i) (word_more (double_at tys i) b n (get_or xs i 0) (drop (i + 1) tys) (drop (i + 1) xs))))

pub words_all : (n : ℕ) (tys : List Ty) (xs : List ℕ) (i : ℕ) → length xs ≤ i → in_words n (drop i tys) (drop i xs) ≡ []
words_all n tys xs i l = ap (in_words n (drop i tys)) (drop_all i xs l) ∙ in_words-nil n (drop i tys)
