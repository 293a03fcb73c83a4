use Rattle.std.proofs.Common.{◌≡◌, ℕ, ◌+◌, List, ◌∷◌, [], ◌++◌, Bor, map, drop, get_or, slice_range, sym, ap, ◌∙◌}
use Rattle.std.proofs.lemmas.List.{take_rest, map-append}
use Rattle.bk_elf.specs.Loading.{name_end}
use Rattle.bk_elf.proofs.Naming.{names_more}
use Rattle.bk_elf.proofs.names.names.Goals as goal

pub loop-k-preserved : goal.loop-k-preserved
loop-k-preserved c =
    let k = c.loop-k.k in
    let seen = λ (n : Bor (List ℕ)). n.now in
    let rest = take_rest c.args.places.now (k + 1) in
    let end : c.name_end-end.result ≡ name_end c.args.size (drop (k + 1) c.args.places.now) = c.name_end-end.ensures ∙ ap (name_end c.args.size) rest in
    let name : c.between.result.now ≡ slice_range c.args.strtab.now (get_or c.args.places.now k 0) (name_end c.args.size (drop (k + 1) c.args.places.now)) =
    c.between.ensures ∙ ap (slice_range c.args.strtab.now (get_or c.args.places.now k 0)) end in
    let pushed : map seen c.push.new.self.items ≡ map seen c.loop-k.names.items ++ c.between.result.now ∷ [] =
    ap (map seen) c.in_ok-push.ensures.items ∙ map-append seen c.loop-k.names.items (c.between.result ∷ []) in
    rw (pushed, name) (sym (names_more (map seen c.loop-k.names.items) c.args.strtab.now c.args.size c.args.places.now k c.loop-k-test.true) ∙ c.loop-k.invariant)
