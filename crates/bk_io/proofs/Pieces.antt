-- Pieces of known bytes, one after another.
use Rattle.std.proofs.Common.{◌≡◌, ℕ, ◌+◌, List, ◌++◌, take, drop, ap, ◌∙◌, sym, Option, Some, None, arith, append_assoc}
use Rattle.std.proofs.lemmas.List.{take-append-drop, drop-take, take-take}
use Rattle.std.specs.Io.KnownBytes.{Appends, Consumes}

-- the first i + n elements are the first i, and n of the rest
take_add : (i n : ℕ) (xs : List ℕ) → take (i + n) xs ≡ take i xs ++ take n (drop i xs)
take_add i n xs =
    sym (take-append-drop i (take (i + n) xs))
    ∙ ap (λ t. t ++ drop i (take (i + n) xs)) (take-take i (i + n) xs (omega arith))
    ∙ ap (λ t. take i xs ++ t) (drop-take i n xs)

-- one piece more was written
pub more : (a b c : Option (List ℕ)) (xs : List ℕ) (i n : ℕ) → Appends a b (take i xs) → Appends b c (take n (drop i xs)) → Appends a c (take (i + n) xs)
more None b c xs i n h k = tt
more (Some a) None c xs i n h k = absurd h
more (Some a) (Some b) None xs i n h k = absurd k
more (Some a) (Some b) (Some c) xs i n h k =
    k
    ∙ ap (λ t. t ++ take n (drop i xs)) h
    ∙ append_assoc a (take i xs) (take n (drop i xs))
    ∙ ap (λ t. a ++ t) (sym (take_add i n xs))

-- one piece more was taken
pub took_more : (a b c : Option (List ℕ)) (xs ys : List ℕ) → Consumes a b xs → Consumes b c ys → Consumes a c (xs ++ ys)
took_more None b c xs ys h k = tt
took_more (Some a) None c xs ys h k = absurd h
took_more (Some a) (Some b) None xs ys h k = absurd k
took_more (Some a) (Some b) (Some c) xs ys h k = h ∙ ap (λ t. xs ++ t) k ∙ sym (append_assoc xs ys c)
