-- Pairs of hexadecimal digits, one pair further at a time.
use Rattle.std.proofs.Common.{◌≡◌, ℕ, ◌+◌, ◌*◌, ◌/◌, ◌<◌, ◌≤◌, List, [], ◌∷◌, ◌++◌, length, drop, ap, ◌∙◌, sym, refl, arith, get_or, append_assoc, append-nil}
use Rattle.std.proofs.lemmas.List.{drop_more, length-drop}
use Rattle.bk_dump.specs.Drafts.{hex_value, pairs}

pairs_short : (xs : List ℕ) → length xs ≤ 1 → pairs xs ≡ []
unfolding pairs
pairs_short [] h = refl
pairs_short (x ∷ []) h = refl
pairs_short (x ∷ y ∷ more) h = absurd (omega arith)

pairs_cons : (high low : ℕ) (more : List ℕ) → pairs (high ∷ low ∷ more) ≡ (hex_value high * 16 + hex_value low) ∷ pairs more
unfolding pairs
pairs_cons high low more = refl

next_pair : (hex : List ℕ) (i : ℕ) → i < length hex / 2 → pairs (drop (2 * i) hex) ≡ (hex_value (get_or hex (2 * i) 0) * 16 + hex_value (get_or hex (2 * i + 1) 0)) ∷ pairs (drop (2 * (i + 1)) hex)
next_pair hex i h =
    ap pairs (drop_more hex (2 * i) 0 (omega arith))
    ∙ ap (λ xs. pairs (get_or hex (2 * i) 0 ∷ xs)) (drop_more hex (2 * i + 1) 0 (omega arith))
    ∙ pairs_cons (get_or hex (2 * i) 0) (get_or hex (2 * i + 1) 0) (drop (2 * i + 1 + 1) hex)
    ∙ ap (λ k. (hex_value (get_or hex (2 * i) 0) * 16 + hex_value (get_or hex (2 * i + 1) 0)) ∷ pairs (drop k hex)) (let q : 2 * i + 1 + 1 ≡ 2 * (i + 1) = omega arith in q)

pub pairs_goes_on : (hex : List ℕ) (i h l : ℕ) (front more all : List ℕ) → i < length hex / 2 → h ≡ hex_value (get_or hex (2 * i) 0) → l ≡ hex_value (get_or hex (2 * i + 1) 0) → more ≡ front ++ (h * 16 + l) ∷ [] → front ++ pairs (drop (2 * i) hex) ≡ all → more ++ pairs (drop (2 * (i + 1)) hex) ≡ all
pairs_goes_on hex i h l front more all b eh el e g =
    ap (λ xs. xs ++ pairs (drop (2 * (i + 1)) hex)) e
    ∙ append_assoc front ((h * 16 + l) ∷ []) (pairs (drop (2 * (i + 1)) hex))
    ∙ ap (λ n. front ++ (n * 16 + l) ∷ pairs (drop (2 * (i + 1)) hex)) eh
    ∙ ap (λ n. front ++ (hex_value (get_or hex (2 * i) 0) * 16 + n) ∷ pairs (drop (2 * (i + 1)) hex)) el
    ∙ ap (λ xs. front ++ xs) (sym (next_pair hex i b))
    ∙ g

pub pairs_ends : (hex : List ℕ) (i : ℕ) (front all : List ℕ) → length hex / 2 ≤ i → front ++ pairs (drop (2 * i) hex) ≡ all → front ≡ all
pairs_ends hex i front all b g =
    sym (append-nil front) ∙ ap (λ xs. front ++ xs) (sym (pairs_short (drop (2 * i) hex) (omega (arith, length-drop (2 * i) hex)))) ∙ g
