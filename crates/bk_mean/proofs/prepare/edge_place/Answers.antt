use Rattle.std.proofs.Common.{rules, ◌≡◌, sym, ◌∙◌, ap, List, Some, get_or}
use Rattle.std.specs.Prelude.{◌==◌}
use Rattle.bk_func.specs.Records.{BlockRecord, FuncRecord}
use Rattle.bk_func.specs.Edits.{block_of, nth_place}
use Rattle.bk_func.proofs.Blocks.{found_at}
use Rattle.bk_mean.specs.Ready.{nth_in}
use Rattle.bk_mean.proofs.Firsts.{find_none}
use Rattle.bk_mean.proofs.prepare.edge_place.Goals as goal

pub returns-in-Some-get : goal.returns-in-Some-get
returns-in-Some-get c = λ id h.
    let k : c.in-Some-get.block.now ≡ get_or c.args.func.now.blocks c.in-Some.place c.in-Some-get.block.now =
    (rw c.in-Some-get.is at c.get.ensures.lookup.1)
    ∙ ap (λ (bs : List BlockRecord). get_or bs c.in-Some.place c.in-Some-get.block.now) (c.deref.ensures.value ∙ ap (λ (f : FuncRecord). f.blocks) c.func.view_is) in
    let e : block_of c.args.func.now id ≡ Some c.in-Some-get.block.now = found_at id c.args.func.now.blocks c.in-Some.place c.in-Some-get.block.now (sym h ∙ c.in-Some.is) k in
    let n : c.nth.result ≡ nth_place c.args.from c.args.rank c.in-Some-get.block.now.preds = search rules in
    n ∙ ap (nth_in c.args.from c.args.rank) (sym e)

pub returns-in-None : goal.returns-in-None
returns-in-None c = λ id h. ap (nth_in c.args.from c.args.rank) (sym (find_none (λ b. b.id == id) c.args.func.now.blocks (sym h ∙ c.in-None.is)))
