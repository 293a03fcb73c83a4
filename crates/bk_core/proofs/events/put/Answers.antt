use Rattle.std.proofs.Common.{rules, vec_len, ◌≡◌, ℕ, List, [], set, get_or, sym, ap, ◌∙◌}
use Rattle.std.proofs.lemmas.List.{map-set, get_or-map, get_or_read_under}
use Rattle.std.specs.declared.vec.Vec.{Vec}
use Rattle.std.specs.declared.alloc.Global.{Global}
use Rattle.bk_core.specs.Events.{words_of}
use Rattle.bk_core.proofs.events.put.Goals as goal

pub returns : goal.returns
returns c =
    let V : Type 0 = Vec ℕ Global in
    let words : V → List ℕ = λ v. v.items in
    let row : words c.index_mut.result.now ≡ get_or (words_of c.args.areas.now) c.args.area [] = ap words (get_or_read_under c.args.areas.now.items c.args.area (vec_len c.args.areas.now) c.index_mut.result.now c.index_mut.result.now c.index_mut.ensures.value c.requires.area (search rules)) ∙ sym (get_or-map words c.args.areas.now.items c.args.area c.index_mut.result.now [] (search rules)) in
    map-set words c.args.areas.now.items c.args.area _ ∙ ap (λ (l : List ℕ). set (words_of c.args.areas.now) c.args.area (set l c.args.cell c.args.word)) row
