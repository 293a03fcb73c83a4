use Rattle.std.proofs.Common.{List, ℕ, subst}
use Rattle.std.specs.Prelude.{◌↔◌, IsTrue}
use Rattle.std.specs.List.Sorted.{IsStrictlyIncreasing}
use Rattle.bk_link.proofs.Sorting.{rise_or_not}
use Rattle.bk_link.proofs.linkable.differ.Goals as goal

pub returns : goal.returns
returns c =
    let told = rise_or_not c.args.words.now c.in_ok-keys.keys.items c.sort_unstable.new.self.items c.in_ok-keys.ensures c.sort_unstable.ensures.permutation c.sort_unstable.ensures.sorted in
    let rise = subst (λ (ns : List ℕ). IsTrue c.rise.result ↔ IsStrictlyIncreasing ns) c.deref.ensures.value c.rise.ensures in
    ((λ t. told.0 (rise.0 t)), (λ d. rise.1 (told.1 d)))
