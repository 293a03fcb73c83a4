use Rattle.std.proofs.Common.{◌≡◌, ◌<◌, ◌^◌, ℕ, List, ap, subst, ◌∙◌}
use Rattle.std.proofs.lemmas.List.Elements.{All-map}
use Rattle.std.specs.List.{All}
use Rattle.std.specs.Str.{IsUtf8}
use Rattle.bk_elf.specs.Records.{SymbolRecord, ObjectRecord}
use Rattle.bk_elf.proofs.typed.are_typed.Goals as goal

pub returns : goal.returns
returns c =
    let text : c.deref.result.now ≡ c.args.object.now.text = c.deref.ensures.value ∙ ap (λ (o : ObjectRecord). o.text) c.object.view_is in
    let pool : c.deref-2.result.now ≡ c.args.object.now.pool = c.deref-2.ensures.value ∙ ap (λ (o : ObjectRecord). o.pool) c.object.view_is in
    let window : c.deref-3.result.now ≡ c.args.object.now.window = c.deref-3.ensures.value ∙ ap (λ (o : ObjectRecord). o.window) c.object.view_is in
    let symbols : c.deref-4.result.now ≡ c.args.object.now.symbols = c.deref-4.ensures.value ∙ ap (λ (o : ObjectRecord). o.symbols) c.object.view_is in
    record {
      text = subst (λ (xs : List ℕ). All (λ n. n < 2 ^ 32) xs) text c.are_words.ensures;
      pool = subst (λ (xs : List ℕ). All (λ n. n < 2 ^ 64) xs) pool c.are_constants.ensures;
      window = subst (λ (xs : List ℕ). All (λ n. n < 2 ^ 8) xs) window c.are_bytes.ensures;
      symbols = subst (λ (ss : List SymbolRecord). All (λ s. (s.address < 2 ^ 32) × (s.size < 2 ^ 32)) ss) symbols c.are_symbols.ensures.sized;
      names = All-map IsUtf8 (λ (s : SymbolRecord). s.name) c.args.object.now.symbols (subst (λ (ss : List SymbolRecord). All (λ s. IsUtf8 s.name) ss) symbols c.are_symbols.ensures.texts);
    }
