-- The lines of a text, one line further at a time.
use Rattle.std.proofs.Common.{◌≡◌, ℕ, ◌+◌, List, [], ◌∷◌, length, ap, ◌∙◌, sym, refl, arith}
use Rattle.std.specs.Prelude.{Result, Ok, Err}
use Rattle.bk_dump.specs.Drafts.{State, finished}
use Rattle.bk_dump.specs.Texts.{Refusal, ◌>>=◌, at, lines_of, lines, read_next, read_lines}

pub line_goes_on : (text rest line : List ℕ) (n : ℕ) (s t : State) (all : Result State Refusal) → lines text ≡ line ∷ lines rest → read_next n s line ≡ Ok t → read_lines n s (lines text) ≡ all → read_lines (n + 1) t (lines rest) ≡ all
unfolding read_lines
line_goes_on text rest line n s t all e h g =
    sym (ap (λ r. r >>= λ u. read_lines (n + 1) u (lines rest)) h) ∙ sym (ap (read_lines n s) e) ∙ g

pub line_fails : (text rest line : List ℕ) (n : ℕ) (s : State) (r : Refusal) (all : Result State Refusal) → lines text ≡ line ∷ lines rest → read_next n s line ≡ Err r → read_lines n s (lines text) ≡ all → all ≡ Err r
unfolding read_lines
line_fails text rest line n s r all e h g =
    sym g ∙ ap (read_lines n s) e ∙ ap (λ r. r >>= λ u. read_lines (n + 1) u (lines rest)) h

no_lines : (text : List ℕ) → length text ≡ 0 → lines text ≡ []
unfolding lines lines_of
no_lines [] h = refl
no_lines (c ∷ cs) h = absurd (omega arith)

pub lines_end : (text : List ℕ) (n : ℕ) (s : State) (all : Result State Refusal) → length text ≡ 0 → read_lines n s (lines text) ≡ all → all ≡ at n (finished s)
unfolding read_lines
lines_end text n s all h g = sym g ∙ ap (read_lines n s) (no_lines text h)
