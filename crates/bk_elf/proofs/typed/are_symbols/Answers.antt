use Rattle.std.proofs.Common.{◌<◌, ◌^◌, List, subst}
use Rattle.std.proofs.lemmas.List.{take_all}
use Rattle.std.proofs.lemmas.List.Elements.{All-more}
use Rattle.std.specs.List.{All}
use Rattle.std.specs.Str.{IsUtf8}
use Rattle.bk_elf.specs.Records.{SymbolRecord}
use Rattle.bk_elf.proofs.typed.are_symbols.Goals as goal

abbrev IsSized : SymbolRecord → Type 0
IsSized s = (s.address < 2 ^ 32) × (s.size < 2 ^ 32)

abbrev IsText : SymbolRecord → Type 0
IsText s = IsUtf8 s.name

pub loop-symbol-preserved : goal.loop-symbol-preserved
loop-symbol-preserved c =
    let item = c.symbol-item.result in
    record {
      sized = All-more IsSized c.args.symbols.now c.loop-symbol.symbol-index item c.loop-symbol-test.true c.loop-symbol.invariant.sized
          (subst IsSized c.symbol-item.is c.is_symbol.ensures.sized);
      texts = All-more IsText c.args.symbols.now c.loop-symbol.symbol-index item c.loop-symbol-test.true c.loop-symbol.invariant.texts
          (subst IsText c.symbol-item.is c.is_symbol.ensures.text);
    }

pub returns-clause-sized : goal.returns-clause-sized
returns-clause-sized c =
    subst (λ (ss : List SymbolRecord). All IsSized ss) (take_all c.loop-symbol.symbol-index c.args.symbols.now c.loop-symbol-test.false) c.loop-symbol.invariant.sized

pub returns-clause-texts : goal.returns-clause-texts
returns-clause-texts c =
    subst (λ (ss : List SymbolRecord). All IsText ss) (take_all c.loop-symbol.symbol-index c.args.symbols.now c.loop-symbol-test.false) c.loop-symbol.invariant.texts
