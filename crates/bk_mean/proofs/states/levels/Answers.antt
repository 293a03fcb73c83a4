use Rattle.std.proofs.Common.{rules, ◌≡◌, ℕ, ◌+◌, List, ◌∙◌, ap, subst, length, map}
use Rattle.std.specs.Prelude.{IfOk, ◌==◌, position, option_map}
use Rattle.std.specs.Ordering.{nat_cmp}
use Rattle.std.specs.BTreeMap.{get}
use Rattle.bk_mean.specs.Memories.{followed_by, walked, next_place, beginning_of, states_of}
use Rattle.bk_mean.proofs.Dated.{walked_same, next_places}
use Rattle.bk_mean.proofs.states.levels.Goals as goal

pub returns : goal.returns
returns c =
    let list : c.deref.result.now ≡ map (followed_by c.args.numbering.now) c.args.values.now = search rules in
    let begin : c.beginning-beginning.result ≡ beginning_of c.args.numbering.now c.args.first c.args.values.now = search rules in
    let all : c.deref-2.result.now ≡ walked (λ s. option_map (λ k. c.args.first + k) (get nat_cmp c.in_ok-next.next s)) (length c.args.values.now + 1) c.beginning-beginning.result = search rules in
    let same = walked_same (λ s. option_map (λ k. c.args.first + k) (get nat_cmp c.in_ok-next.next s)) (next_place c.args.numbering.now c.args.first c.args.values.now)
    (next_places c.args.numbering.now c.args.first c.args.values.now (get nat_cmp c.in_ok-next.next) c.deref.result.now c.in_ok-next.ensures list) (length c.args.values.now + 1) c.beginning-beginning.result
    in
    let e : c.deref-2.result.now ≡ states_of c.args.numbering.now c.args.first c.args.values.now =
    all ∙ same ∙ ap (walked (next_place c.args.numbering.now c.args.first c.args.values.now) (length c.args.values.now + 1)) begin
    in
    let P : List ℕ → Type 0 = λ xs. IfOk c.first_places-2.result (λ levels. (s : ℕ) → get nat_cmp levels s ≡ position (λ x. x == s) xs) in
    subst P e c.first_places-2.ensures
