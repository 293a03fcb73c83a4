use Rattle.std.proofs.Common.{◌≡◌, ◌++◌, drop, map}
use Rattle.std.specs.Prelude.{string_bytes}
use Rattle.bk_piece.specs.Rising.{keys_in}
use Rattle.bk_link.specs.Sites.{symbols_of}
use Rattle.bk_link.proofs.object.symbols_of.Given as goal

abbrev pub invariant-loop-site : goal.invariant-loop-site
invariant-loop-site l = l.symbols.items ++ symbols_of (map string_bytes l.names) (keys_in l.words) (drop l.site-index l.sites)
    ≡ symbols_of (map string_bytes l.names) (keys_in l.words) l.sites
