use Rattle.std.proofs.Common.{◌≡◌, ◌+◌, length, sym, ap, ◌∙◌, arith}
use Rattle.bk_elf.specs.Records.{SymbolRecord}
use Rattle.bk_elf.proofs.Writing.{entry_more, name_more}
use Rattle.bk_elf.proofs.writer.put_entries.Goals as goal

pub loop-symbol-preserved : goal.loop-symbol-preserved
loop-symbol-preserved c =
    let len : length c.as_bytes.result.now ≡ length c.symbol-item.result.name =
    ap length (c.as_bytes.ensures.value ∙ ap (λ (s : SymbolRecord). s.name) c.symbol.view_is) in
    let next : c.loop-symbol.name + (length c.as_bytes.result.now + 1) ≡ c.loop-symbol.name + length c.symbol-item.result.name + 1 = omega arith in
    let more =
    entry_more c.loop-symbol.out.items c.args.target c.loop-symbol.name c.args.symbols.now c.loop-symbol.symbol-index c.symbol-item.result
    c.loop-symbol-test.true c.symbol-item.is in
    record {
      left = rw (next, c.in_ok-put_symbol.ensures) (sym more ∙ c.loop-symbol.invariant.left);
      room = omega
          (arith, name_more c.args.symbols.now c.loop-symbol.symbol-index c.symbol-item.result c.loop-symbol-test.true c.symbol-item.is, c.loop-symbol.invariant.room);
    }
