use Rattle.std.proofs.Common.{◌≡◌, ◌≤◌, ◌<◌, ◌-◌, ℕ, drop, true, get_or, length}
use Rattle.bk_text.specs.Tokens.{is_blank, words}
use Rattle.bk_text.proofs.skip_blanks.Given as goal

abbrev pub invariant-loop-place : goal.invariant-loop-place
invariant-loop-place l = record {
  from : l.at ≤ l.place;
  within : l.place ≤ length l.line;
  blanks : (k : ℕ) → l.at ≤ k → k < l.place → is_blank (get_or l.line k 0) ≡ true;
  same_words : words (drop l.place l.line) ≡ words (drop l.at l.line);
}

abbrev pub decreases-loop-place : goal.decreases-loop-place
decreases-loop-place l = length l.line - l.place
