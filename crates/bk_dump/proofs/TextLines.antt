-- The first line of a text.
use Rattle.std.proofs.Common.{◌≡◌, ℕ, suc, ◌+◌, ◌<◌, ◌≤◌, List, [], ◌∷◌, length, take, drop, ap, ◌∙◌, refl, arith, Bool, true, false, cond, Some, None}
use Rattle.std.specs.Prelude.{◌==◌, nat_lt, All}
use Rattle.std.specs.List.{slice_split, position_or_len}
use Rattle.std.proofs.lemmas.Bool.Decides.{nat_tests}
use Rattle.std.proofs.lemmas.List.{length-drop}
use Rattle.std.proofs.lemmas.List.Splits.{slice_split_first, slice_split_none, length-slice_split}
use Rattle.std.proofs.lemmas.List.Sums.{fails_before_first}
use Rattle.bk_dump.specs.Front.{cut_at, up_to}
use Rattle.bk_dump.specs.Texts.{without_cr, lines_of, lines}

abbrev pub is_lf : ℕ → Bool
is_lf c = c == 10

some_is : {A : Type 0} (x y : A) → Some x ≡ Some y → x ≡ y
some_is x y h = cc

found : (b : Bool) (n : ℕ) (text l r : List ℕ) → cut_at (cond b (Some n) None) text ≡ Some (l, r) → (b ≡ true) × (take n text ≡ l) × (drop (suc n) text ≡ r)
found true n text l r h = let e = some_is (take n text, drop (suc n) text) (l, r) h in (refl, ap (λ x. x.0) e, ap (λ x. x.1) e)
found false n text l r h = absurd (cc)

missed : (b : Bool) (n : ℕ) (text : List ℕ) → cut_at (cond b (Some n) None) text ≡ None → b ≡ false
missed true n text h = absurd (cc)
missed false n text h = refl

below : (m n : ℕ) → nat_lt m n ≡ true → m < n
below m n h = grind (arith, nat_tests)

not_below : (m n : ℕ) → nat_lt m n ≡ false → n ≤ m
not_below m n h = grind (arith, nat_tests)

pub lines_more : (line : List ℕ) (parts : List (List ℕ)) → 0 < length parts → lines_of (line ∷ parts) ≡ without_cr line ∷ lines_of parts
unfolding lines_of
lines_more line [] h = absurd (omega arith)
lines_more line (p ∷ ps) h = refl

pub some_parts : (text : List ℕ) → 0 < length (slice_split is_lf text)
some_parts text = omega (arith, length-slice_split is_lf text)

-- a line that a LF ends
pub first_line : (text l r : List ℕ) → up_to 10 text ≡ Some (l, r) → (lines text ≡ without_cr l ∷ lines r) × (length r < length text)
unfolding up_to lines
first_line text l r h =
    let n = position_or_len is_lf text in
    let f = found (nat_lt n (length text)) n text l r h in
    let within : n < length text = below n (length text) f.0 in
    let cut : slice_split is_lf text ≡ take n text ∷ slice_split is_lf (drop (suc n) text) = slice_split_first is_lf text 0 within ∙ ap (λ k. take n text ∷ slice_split is_lf (drop k text)) (let q : n + 1 ≡ suc n = omega arith in q) in (
      ap lines_of (cut ∙ ap (λ t. t ∷ slice_split is_lf (drop (suc n) text)) f.1 ∙ ap (λ t. l ∷ slice_split is_lf t) f.2) ∙ lines_more l (slice_split is_lf r) (some_parts r),
      omega (arith, ap length f.2, length-drop (suc n) text),
    )

some_left : (n : ℕ) → 0 < n → (n == 0) ≡ false
some_left n h = grind (arith, nat_tests)

last_is : (text : List ℕ) → 0 < length text → lines_of (text ∷ []) ≡ text ∷ []
unfolding lines_of
last_is text h = ap (λ b. cond b [] (text ∷ [])) (some_left (length text) h)

no_lines : [] ≡ lines_of (slice_split is_lf [])
unfolding lines_of
no_lines = refl

-- the last line
pub last_line : (text : List ℕ) → up_to 10 text ≡ None → 0 < length text → lines text ≡ text ∷ lines []
unfolding up_to lines
last_line text h some =
    let n = position_or_len is_lf text in
    let past : length text ≤ n = not_below n (length text) (missed (nat_lt n (length text)) n text h) in
    let none : All (λ c. is_lf c ≡ false) text = λ k d l. fails_before_first is_lf text k d (omega arith) in
    ap lines_of (slice_split_none is_lf text none) ∙ last_is text some ∙ ap (λ ls. text ∷ ls) no_lines
