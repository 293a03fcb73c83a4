-- The words of lines, one line after the other.
use Rattle.std.proofs.Common.{◌≡◌, ◌∙◌, sym, ap, ℕ, suc, ◌+◌, ◌<◌, List, ◌∷◌, ◌++◌, length, get_or, drop, append_assoc, arith}
use Rattle.std.proofs.Math.Seq.{drop-cons}
use Rattle.bk_emit.specs.declared.lines.Line.{Line}
use Rattle.bk_emit.specs.Code.{goal_of, line_words, words_from}
use Rattle.bk_emit.specs.Forms.{Forms}

next_at : {A : Type 0} (xs : List A) (k : ℕ) (x other : A) → k < length xs → x ≡ get_or xs k other → drop k xs ≡ x ∷ drop (k + 1) xs
next_at xs k x other l i =
    let next : suc k ≡ k + 1 = omega arith in
    drop-cons xs k other l ∙ (ap (λ y. y ∷ drop (suc k) xs) (sym i) ∙ ap (λ j. x ∷ drop j xs) next)

-- one more line is written
pub written_more : (m : Forms) (g : ℕ → ℕ) (ws : List ℕ) (ls : List Line) (k at w : ℕ) (l : Line) (goal next : ℕ) (code new all : List ℕ) → k < length ws → length ws ≡ length ls → w ≡ get_or ws k 0 → l ≡ get_or ls k l → goal ≡ goal_of g l → new ≡ code ++ line_words m at w goal l → next ≡ at + w → code ++ words_from m g at (drop k ws) (drop k ls) ≡ all → new ++ words_from m g next (drop (k + 1) ws) (drop (k + 1) ls) ≡ all
written_more m g ws ls k at w l goal next code new all inside same p q o n s h =
    let word : drop k ws ≡ w ∷ drop (k + 1) ws = next_at ws k w 0 inside p in
    let within : k < length ls = omega (arith, inside, same) in
    let line : drop k ls ≡ l ∷ drop (k + 1) ls = next_at ls k l l within q in
    let rest : List ℕ = words_from m g (at + w) (drop (k + 1) ws) (drop (k + 1) ls) in
    let here : List ℕ = line_words m at w (goal_of g l) l in
    let put : new ≡ code ++ here = n ∙ ap (λ x. code ++ line_words m at w x l) o in
    let split : code ++ words_from m g at (drop k ws) (drop k ls) ≡ code ++ (here ++ rest) =
    ap (λ x. code ++ words_from m g at x (drop k ls)) word ∙ ap (λ x. code ++ words_from m g at (w ∷ drop (k + 1) ws) x) line in
    ap (λ x. new ++ words_from m g x (drop (k + 1) ws) (drop (k + 1) ls)) s ∙ (ap (λ x. x ++ rest) put ∙ (append_assoc code here rest ∙ (sym split ∙ h)))
