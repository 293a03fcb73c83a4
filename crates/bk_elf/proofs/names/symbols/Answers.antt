use Rattle.std.proofs.Common.{◌<◌, ◌≤◌, length, sym, ◌∙◌, arith}
use Rattle.bk_elf.proofs.Naming.{symbols_more, symbols_end, text_at}
use Rattle.bk_elf.proofs.names.symbols.Goals as goal

pub symbol-requires : goal.symbol-requires
symbol-requires c = text_at c.args.names.now c.loop-k.k _ c.loop-k-test.true c.requires.texts

pub loop-k-preserved : goal.loop-k-preserved
loop-k-preserved c =
    let lt : c.loop-k.k < length c.args.entries.now = omega (arith, c.requires.same, c.loop-k-test.true) in
    rw (c.in_ok-push.ensures.items, c.in_ok-symbol.ensures)
    (sym (symbols_more c.loop-k.symbols.items c.args.entries.now c.args.names.now c.loop-k.k _ _ lt c.loop-k-test.true) ∙ c.loop-k.invariant)

pub returns : goal.returns
returns c =
    let le : length c.args.entries.now ≤ c.loop-k.k = omega (arith, c.requires.same, c.loop-k-test.false) in
    sym (symbols_end c.loop-k.symbols.items c.args.entries.now c.args.names.now c.loop-k.k le) ∙ c.loop-k.invariant
