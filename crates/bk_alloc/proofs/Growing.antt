-- What loops add to lists and sets, one element after the other.
use Rattle.std.proofs.Common.{◌≡◌, ◌∙◌, sym, ap, ℕ, ◌+◌, ◌<◌, ◌||◌, Bool, List, [], ◌∷◌, ◌++◌, length, map, take, get_or, Option, append_assoc, append-nil, flat_map}
use Rattle.std.specs.Prelude.{filter, ◌==◌}
use Rattle.std.specs.BTreeSet.{BTreeSet, contains}
use Rattle.std.specs.List.{filter_map, list_any}
use Rattle.std.specs.Ordering.{nat_cmp}
use Rattle.std.proofs.Math.Bool.{or_assoc}
use Rattle.std.proofs.lemmas.Grind.{flat_map-append}
use Rattle.std.proofs.lemmas.List.{get_or_default, map-append, take_more}
use Rattle.std.proofs.lemmas.List.Elements.{filter-append, filter_map-append}
use Rattle.std.proofs.lemmas.List.Folds.{list_any-append, list_any_more}
use Rattle.bk_alloc.specs.Homes.{Gathers}

take_grown : {X : Type 0} (xs : List X) (i : ℕ) (x : X) → i < length xs → x ≡ get_or xs i x → take (i + 1) xs ≡ take i xs ++ x ∷ []
take_grown xs i x l is = take_more xs i x l ∙ ap (λ y. take i xs ++ y ∷ []) (sym is)

flat_grown : {X A : Type 0} (f : X → List A) (xs : List X) (i : ℕ) (x : X) → i < length xs → x ≡ get_or xs i x
    → flat_map f (take (i + 1) xs) ≡ flat_map f (take i xs) ++ f x
flat_grown f xs i x l is =
    ap (flat_map f) (take_grown xs i x l is) ∙ (flat_map-append f (take i xs) (x ∷ []) ∙ ap (λ ys. flat_map f (take i xs) ++ ys) (append-nil (f x)))

-- one element's list is added
pub flat_more : {X A : Type 0} (f : X → List A) (xs : List X) (i : ℕ) (x : X) (start old new : List A) → i < length xs → x ≡ get_or xs i x
    → old ≡ start ++ flat_map f (take i xs) → new ≡ old ++ f x → new ≡ start ++ flat_map f (take (i + 1) xs)
flat_more f xs i x start old new l is before after =
    after ∙ (ap (λ ys. ys ++ f x) before ∙ (append_assoc start (flat_map f (take i xs)) (f x) ∙ ap (λ ys. start ++ ys) (sym (flat_grown f xs i x l is))))

pub map_flat_more : {X A C : Type 0} (g : A → C) (f : X → List A) (xs : List X) (i : ℕ) (x : X) (start old new : List C) → i < length xs → x ≡ get_or xs i x
    → old ≡ start ++ map g (flat_map f (take i xs)) → new ≡ old ++ map g (f x) → new ≡ start ++ map g (flat_map f (take (i + 1) xs))
map_flat_more g f xs i x start old new l is before after =
    after ∙ (ap (λ ys. ys ++ map g (f x)) before ∙ (append_assoc start (map g (flat_map f (take i xs))) (map g (f x))
    ∙ ap (λ ys. start ++ ys) (sym (ap (map g) (flat_grown f xs i x l is) ∙ map-append g (flat_map f (take i xs)) (f x)))))

pub filter_map_more : {X Y : Type 0} (h : X → Option Y) (xs : List X) (i : ℕ) (d : X) (old new : List Y) → i < length xs
    → old ≡ filter_map h (take i xs) → new ≡ old ++ filter_map h (get_or xs i d ∷ []) → new ≡ filter_map h (take (i + 1) xs)
filter_map_more h xs i d old new l before after =
    after ∙ (ap (λ ys. ys ++ filter_map h (get_or xs i d ∷ [])) before ∙ sym (ap (filter_map h) (take_more xs i d l) ∙ filter_map-append h (take i xs) (get_or xs i d ∷ [])))

pub filter_more : {X : Type 0} (p : X → Bool) (xs : List X) (i : ℕ) (d : X) (old new : List X) → i < length xs
    → old ≡ filter p (take i xs) → new ≡ old ++ filter p (get_or xs i d ∷ []) → new ≡ filter p (take (i + 1) xs)
filter_more p xs i d old new l before after =
    after ∙ (ap (λ ys. ys ++ filter p (get_or xs i d ∷ [])) before ∙ sym (ap (filter p) (take_more xs i d l) ∙ filter-append p (take i xs) (get_or xs i d ∷ [])))

-- the element in a place where one is, whatever stands for want of it
pub same_item : {X : Type 0} (xs : List X) (i : ℕ) (d : X) → i < length xs → get_or xs i d ≡ get_or xs i (get_or xs i d)
same_item xs i d l = get_or_default xs i d (get_or xs i d) l

-- one element more may pass
pub any_more : {X : Type 0} (p : X → Bool) (xs : List X) (i : ℕ) (x : X) (a old new : Bool) → i < length xs → x ≡ get_or xs i x
    → old ≡ (a || list_any p (take i xs)) → new ≡ (old || p x) → new ≡ (a || list_any p (take (i + 1) xs))
any_more p xs i x a old new l is before after =
    after ∙ (ap (λ b. b || p x) before ∙ (or_assoc a (list_any p (take i xs)) (p x)
    ∙ ap (λ b. a || b) (ap (λ y. list_any p (take i xs) || p y) is ∙ sym (list_any_more p xs i x l))))

-- what is gathered, and then more
pub gathers_then : (a b c : BTreeSet ℕ) (xs ys : List ℕ) → Gathers a b xs → Gathers b c ys → Gathers a c (xs ++ ys)
gathers_then a b c xs ys f g q =
    let t = λ (x : ℕ). q == x in
    g q ∙ (ap (λ o. o || list_any t ys) (f q) ∙ (or_assoc (contains nat_cmp a q) (list_any t xs) (list_any t ys)
    ∙ ap (λ o. contains nat_cmp a q || o) (sym (list_any-append t xs ys))))

pub gathers_more : {X : Type 0} (f : X → List ℕ) (xs : List X) (i : ℕ) (x : X) (a old new : BTreeSet ℕ) → i < length xs → x ≡ get_or xs i x
    → Gathers a old (flat_map f (take i xs)) → Gathers old new (f x) → Gathers a new (flat_map f (take (i + 1) xs))
gathers_more f xs i x a old new l is before after q =
    gathers_then a old new (flat_map f (take i xs)) (f x) before after q ∙ ap (λ ys. contains nat_cmp a q || list_any (λ y. q == y) ys) (sym (flat_grown f xs i x l is))
