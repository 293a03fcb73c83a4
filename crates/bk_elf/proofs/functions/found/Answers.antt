use Rattle.std.proofs.Common.{arith, ◌≡◌, ◌∙◌, ◌+◌, ◌<◌, length, ap, sym, true, false, get_or, drop}
use Rattle.std.specs.Str.{bytes_eq}
use Rattle.bk_elf.specs.Records.{SymbolRecord, ObjectRecord}
use Rattle.bk_elf.specs.Functions.{function_in}
use Rattle.bk_elf.proofs.Lookup.{past_function, past_variable}
use Rattle.bk_elf.proofs.functions.found.Goals as goal
use Rattle.bk_elf.proofs.functions.found.Goals.{then-symbol+else-eq, else-symbol}

pub loop-symbol-preserved : goal.loop-symbol-preserved
loop-symbol-preserved c =
    let xs = c.args.image.now.symbols in
    let sigs = c.args.image.now.sigs in
    let name = c.args.name.now in
    let i = c.loop-symbol.symbol-index in
    let x = c.symbol-item.result in
    let listed = c.deref-symbol-items.ensures.value ∙ ap (λ (o : ObjectRecord). o.symbols) c.image.view_is in
    let at = c.symbol-item.is ∙ ap (λ l. get_or l i x) listed in
    let within : i < length xs = omega (arith, ap length listed) in
    elim c.if-symbol.branch [
      | then-symbol+else-eq w ↦ (
          let named = sym (ap (λ (s : SymbolRecord). s.name) c.symbol.view_is) ∙ sym w.as_str.ensures.value in
          let other : bytes_eq x.name name ≡ false = ap (λ n. bytes_eq n name) named ∙ sym w.eq.ensures ∙ w.if-eq.false in
          let func : x.func ≡ true = sym (ap (λ (s : SymbolRecord). s.func) c.symbol.view_is) ∙ w.if-symbol.true in
          record {
            is = ap (λ p. function_in (drop (i + 1) xs) (drop p sigs) name) w.place-is
                ∙ past_function xs sigs i c.loop-symbol.place name x at within func other
                ∙ c.loop-symbol.invariant.is;
            few = omega arith;
          })
      | else-symbol w ↦ (
          let func : x.func ≡ false = sym (ap (λ (s : SymbolRecord). s.func) c.symbol.view_is) ∙ w.if-symbol.false in
          record {
            is = ap (λ p. function_in (drop (i + 1) xs) (drop p sigs) name) w.place-is
                ∙ past_variable xs sigs i c.loop-symbol.place name x at within func
                ∙ c.loop-symbol.invariant.is;
            few = omega arith;
          })
    ]
