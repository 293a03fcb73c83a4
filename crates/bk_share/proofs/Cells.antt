-- The cells of an area are a piece of the table's words.
use Rattle.std.proofs.Common.{◌≡◌, ℕ, zero, suc, ◌+◌, ◌-◌, ◌<◌, ◌≤◌, List, [], ◌∷◌, length, set, get_or, take, drop, sym, ap, ◌∙◌, subst, arith}
use Rattle.std.proofs.Math.Seq.{take-set-lt}
use Rattle.std.proofs.lemmas.List.{drop-set-lt, drop-set-add, take-set-le, get_or-take, get_or-drop, length-take-le, length-drop}
use mathlib.Core.Logic.{dite}
use native.Mathlib.Decide.{ℕ_discrete, dec_lt}
use Rattle.bk_core.specs.Rule.{cells_of}
use Rattle.bk_core.specs.Events.{word_at, with_word}
use Rattle.bk_share.specs.Plan.{base, cell_word, areas_in}

-- where the areas lie
pub base_grows : (ann : List (List ℕ)) (a b : ℕ) → a < b → base ann a + cells_of ann a ≤ base ann b
base_grows ann a zero h = absurd (omega arith)
base_grows ann a (suc b) h = dite (ℕ_discrete a b)
    (λ e. subst (λ (i : ℕ). base ann i + cells_of ann i ≤ base ann (suc b)) (sym e) (omega arith))
    (λ ne. let r = base_grows ann a b (omega arith) in omega arith)

pub base_above : (ann : List (List ℕ)) (a : ℕ) → 1 ≤ base ann a
base_above ann zero = omega arith
base_above ann (suc a) = let r = base_above ann a in omega arith

pub in_table : (ann : List (List ℕ)) (a c : ℕ) → a < 3 → c < cells_of ann a → base ann a + c < base ann 3
in_table ann a c ha hc = let r = base_grows ann a 3 ha in omega arith

-- a word belongs to one cell
pub apart : (ann : List (List ℕ)) (a c b d : ℕ) → c < cells_of ann a → d < cells_of ann b → base ann a + c ≡ base ann b + d → (a ≡ b) × (c ≡ d)
apart ann a c b d hc hd e = dite (ℕ_discrete a b)
    (λ same. let i : base ann a ≡ base ann b = ap (base ann) same in (same, omega arith))
    (λ ne. dite (dec_lt a b)
    (λ lt. let r = base_grows ann a b lt in absurd (omega arith))
    (λ ge. let r = base_grows ann b a (omega arith) in absurd (omega arith)))

-- the piece of n words from the word m on
module _ (words : List ℕ) (m n : ℕ) where
  pub word_of_piece : (c : ℕ) → c < n → get_or (take n (drop m words)) c 0 ≡ get_or words (m + c) 0
  word_of_piece c h = get_or-take n (drop m words) c 0 h ∙ get_or-drop m words c 0

  pub length_of_piece : m + n ≤ length words → length (take n (drop m words)) ≡ n
  length_of_piece h = length-take-le n (drop m words) (let l = length-drop m words in omega arith)

  -- after a word before it, behind it or in it was written
  written_before : (i x : ℕ) → i < m → take n (drop m (set words i x)) ≡ take n (drop m words)
  written_before i x h = ap (λ (l : List ℕ). take n l) (drop-set-lt m words i x h)

  written_behind : (i x : ℕ) → m + n ≤ i → take n (drop m (set words i x)) ≡ take n (drop m words)
  written_behind i x h = let j : ℕ = i - m in let is : i ≡ m + j = omega arith in
      ap (λ (k : ℕ). take n (drop m (set words k x))) is ∙ ap (λ (l : List ℕ). take n l) (drop-set-add m words j x) ∙ take-set-le n (drop m words) j x (omega arith)

  written_inside : (c x : ℕ) → c < n → take n (drop m (set words (m + c) x)) ≡ set (take n (drop m words)) c x
  written_inside c x h = ap (λ (l : List ℕ). take n l) (drop-set-add m words c x) ∙ take-set-lt n (drop m words) c x h

module _ (ann : List (List ℕ)) (words : List ℕ) where
  pub word_is : (a c : ℕ) → a < 3 → c < cells_of ann a → word_at (areas_in ann words) a c ≡ cell_word ann words a c
  word_is zero c ha hc = word_of_piece words (base ann 0) (cells_of ann 0) c hc
  word_is (suc zero) c ha hc = word_of_piece words (base ann 1) (cells_of ann 1) c hc
  word_is (suc (suc zero)) c ha hc = word_of_piece words (base ann 2) (cells_of ann 2) c hc
  word_is (suc (suc (suc a))) c ha hc = absurd (omega arith)

  pub sizes_are : length words ≡ base ann 3 → (a : ℕ) → a < 3 → length (get_or (areas_in ann words) a []) ≡ cells_of ann a
  sizes_are size zero ha = length_of_piece words (base ann 0) (cells_of ann 0) (let g = base_grows ann 0 3 ha in omega arith)
  sizes_are size (suc zero) ha = length_of_piece words (base ann 1) (cells_of ann 1) (let g = base_grows ann 1 3 ha in omega arith)
  sizes_are size (suc (suc zero)) ha = length_of_piece words (base ann 2) (cells_of ann 2) (let g = base_grows ann 2 3 ha in omega arith)
  sizes_are size (suc (suc (suc a))) ha = absurd (omega arith)

  -- word 0 is no cell
  pub claims_apart : (n : ℕ) → areas_in ann (set words 0 n) ≡ areas_in ann words
  claims_apart n = let one = base_above ann 0 in let two = base_above ann 1 in let three = base_above ann 2 in
      λ i. written_before words (base ann 0) (cells_of ann 0) 0 n one i ∷ written_before words (base ann 1) (cells_of ann 1) 0 n two i ∷ written_before words (base ann 2) (cells_of ann 2) 0 n three i ∷ []

  -- a cell is written
  pub written : (a c n : ℕ) → a < 3 → c < cells_of ann a → areas_in ann (set words (base ann a + c) n) ≡ with_word (areas_in ann words) a c n
  written zero c n ha hc =
      let two = written_before words (base ann 1) (cells_of ann 1) (base ann 0 + c) n (let g = base_grows ann 0 1 (omega arith) in omega arith) in
      let three = written_before words (base ann 2) (cells_of ann 2) (base ann 0 + c) n (let g = base_grows ann 0 2 (omega arith) in omega arith) in
      let one = written_inside words (base ann 0) (cells_of ann 0) c n hc in
      λ i. one i ∷ two i ∷ three i ∷ []
  written (suc zero) c n ha hc =
      let one = written_behind words (base ann 0) (cells_of ann 0) (base ann 1 + c) n (let g = base_grows ann 0 1 (omega arith) in omega arith) in
      let three = written_before words (base ann 2) (cells_of ann 2) (base ann 1 + c) n (let g = base_grows ann 1 2 (omega arith) in omega arith) in
      let two = written_inside words (base ann 1) (cells_of ann 1) c n hc in
      λ i. one i ∷ two i ∷ three i ∷ []
  written (suc (suc zero)) c n ha hc =
      let one = written_behind words (base ann 0) (cells_of ann 0) (base ann 2 + c) n (let g = base_grows ann 0 2 (omega arith) in omega arith) in
      let two = written_behind words (base ann 1) (cells_of ann 1) (base ann 2 + c) n (let g = base_grows ann 1 2 (omega arith) in omega arith) in
      let three = written_inside words (base ann 2) (cells_of ann 2) c n hc in
      λ i. one i ∷ two i ∷ three i ∷ []
  written (suc (suc (suc a))) c n ha hc = absurd (omega arith)
