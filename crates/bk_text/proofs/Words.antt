-- The words of a line, one by one.
use Rattle.std.proofs.Common.{◌≡◌, ◌≤◌, ◌<◌, ◌+◌, ◌-◌, ◌∙◌, ℕ, true, false, List, [], ◌∷◌, ◌++◌, All, ap, arith, map, append_assoc, add-zero, drop, filter, get_or, get_or-drop, get_or-take, length, length-drop, length-take, sym, take, append-nil}
use Rattle.std.proofs.lemmas.List.{drop_more, get_or_default, map-append, take-append-drop, drop-drop}
use Rattle.std.proofs.lemmas.List.Splits.{slice_split-cons_yes, slice_split_at, slice_split_none}
use Rattle.std.specs.List.{slice_range}
use Rattle.bk_text.specs.declared.Token.{Token}
use Rattle.bk_text.specs.Tokens.{bytes_of, has_byte, is_blank, words}

-- a blank adds no word
pub words_blank : (b : ℕ) (bs : List ℕ) → is_blank b ≡ true → words (b ∷ bs) ≡ words bs
words_blank b bs e = ap (filter has_byte) (slice_split-cons_yes is_blank b bs e)

-- the rest of a line after a blank has the same words
pub words_step : (line : List ℕ) (i : ℕ) → i < length line → is_blank (get_or line i 0) ≡ true → words (drop i line) ≡ words (drop (i + 1) line)
words_step line i l e = ap words (drop_more line i 0 l) ∙ words_blank (get_or line i 0) (drop (i + 1) line) e

-- a run without blanks before a blank, or before the end, is a word
pub words_run : (xs ys : List ℕ) → 0 < length xs → All (λ b. is_blank b ≡ false) xs → (0 < length ys → is_blank (get_or ys 0 0) ≡ true) → words (xs ++ ys) ≡ xs ∷ words ys
words_run [] ys some solid stops = absurd (omega arith)
words_run (x ∷ xs) [] some solid stops =
    ap words (append-nil (x ∷ xs)) ∙ ap (filter has_byte) (slice_split_none is_blank (x ∷ xs) solid)
words_run (x ∷ xs) (y ∷ ys) some solid stops =
    let e : is_blank y ≡ true = stops (omega arith) in
    ap (filter has_byte) (slice_split_at is_blank (x ∷ xs) y ys solid e) ∙ ap (λ ws. (x ∷ xs) ∷ ws) (sym (words_blank y ys e))

-- the bytes from one place up to another are without blanks
solid_part : (line : List ℕ) (i j : ℕ) → i ≤ j → j ≤ length line → ((k : ℕ) → i ≤ k → k < j → is_blank (get_or line k 0) ≡ false) → All (λ b. is_blank b ≡ false) (take (j - i) (drop i line))
solid_part line i j l m solid k d h =
    let near : k < j - i = omega (arith, length-take (j - i) (drop i line)) in
    let inside : i + k < length line = omega arith in
    rw (get_or-take (j - i) (drop i line) k d near, get_or-drop i line k d, get_or_default line (i + k) d 0 inside)
    (solid (i + k) (omega arith) (omega arith))

-- a token's bytes are the next word
pub words_token : (line : List ℕ) (i j : ℕ) → i < j → j ≤ length line → ((k : ℕ) → i ≤ k → k < j → is_blank (get_or line k 0) ≡ false) → (j < length line → is_blank (get_or line j 0) ≡ true) → words (drop i line) ≡ slice_range line i j ∷ words (drop j line)
words_token line i j l m solid stops =
    let run = take (j - i) (drop i line) in
    let there : i + (j - i) ≡ j = omega arith in
    let whole : drop i line ≡ run ++ drop j line =
    sym (take-append-drop (j - i) (drop i line))
    ∙ ap (λ t. run ++ t) (drop-drop (j - i) i line ∙ ap (λ n. drop n line) there) in
    let some : 0 < length run = omega (arith, length-take (j - i) (drop i line), length-drop i line) in
    ap words whole
    ∙ words_run run (drop j line) some (solid_part line i j (omega arith) m solid)
    (λ h. rw (get_or-drop j line 0 0, add-zero j) (stops (omega (arith, length-drop j line))))

-- one token more, and its word
pub words_more : (line : List ℕ) (i j next : ℕ) (tokens : List Token) → words (drop i line) ≡ slice_range line i j ∷ words (drop j line) → words (drop next line) ≡ words (drop j line) → map (bytes_of line) tokens ++ words (drop i line) ≡ words line → map (bytes_of line) (tokens ++ record { start = i; end = j } ∷ []) ++ words (drop next line) ≡ words line
words_more line i j next tokens word same so_far =
    rw (map-append (bytes_of line) tokens (record { start = i; end = j } ∷ []), append_assoc (map (bytes_of line) tokens) (slice_range line i j ∷ []) (words (drop next line)))
    (ap (λ ws. map (bytes_of line) tokens ++ slice_range line i j ∷ ws) same ∙ ap (λ ws. map (bytes_of line) tokens ++ ws) (sym word) ∙ so_far)
