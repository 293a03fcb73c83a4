use Rattle.std.proofs.Common.{◌≡◌, ◌≤◌, ◌<◌, ◌-◌, ◌++◌, drop, false, true, get_or, length, map}
use Rattle.bk_text.specs.Tokens.{bytes_of, is_blank, words}
use Rattle.bk_text.proofs.Found.{Found}
use Rattle.bk_text.proofs.tokens.Given as goal

abbrev pub invariant-loop-start : goal.invariant-loop-start
invariant-loop-start l = record {
  within : l.start ≤ length l.line;
  begun : 0 < l.start → l.start < length l.line → is_blank (get_or l.line (l.start - 1) 0) ≡ true;
  stops : l.start < length l.line → is_blank (get_or l.line l.start 0) ≡ false;
  found : Found l.line l.start l.tokens.items;
  words_so_far : map (bytes_of l.line) l.tokens.items ++ words (drop l.start l.line) ≡ words l.line;
}

abbrev pub decreases-loop-start : goal.decreases-loop-start
decreases-loop-start l = length l.line - l.start
