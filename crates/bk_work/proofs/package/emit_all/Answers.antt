use Rattle.std.proofs.Common.{◌≡◌, ◌+◌, ◌%◌, ◌^◌, List, [], ◌∷◌, Option, ap, ◌∙◌, refl, sym, subst, length}
use Rattle.std.specs.Option.{option_map}
use Rattle.std.proofs.lemmas.List.{length-map}
use Rattle.bk_core.specs.Events.{core_state, words_of}
use Rattle.bk_piece.specs.Rising.{rising}
use Rattle.bk_work.specs.declared.items.Done.{Done}
use Rattle.bk_work.specs.declared.items.Done.TheVariants.{Refused}
use Rattle.bk_work.specs.Placed.{ArePlaced, refused_by}
use Rattle.bk_work.specs.Rounds.{Entry, IsEmit}
use Rattle.bk_work.specs.Run.{AreAll}
use Rattle.bk_work.proofs.Results.{closed_for, same_round, second_each}
use Rattle.bk_work.proofs.package.emit_all.Goals as goal

pub returns : goal.returns
returns g c =
    let pkg = c.args.pkg.now in let t = c.args.target in let es = c.args.firsts.now.lowered.items in let causes = c.args.firsts.now.causes.items in
    let places = rising c.args.left.now in let r = c.in_ok-round.round in let made = c.in_ok-round.ensures in
    let words = words_of c.in_ok-items.words in let items = c.in_ok-items.items.items in let slots = c.in_ok-slots.slots.items in
    let all : AreAll pkg t r.job r.order.now words items = same_round r.pkg.now pkg r.target t r.job r.order.now words items made.package.0 made.package.1 c.in_ok-items.ensures.items in
    let refused : c.in_ok-refused.field-0.items ≡ refused_by causes = c.in_ok-refused.ensures in
    let emits : IsEmit r.job places es = subst (λ (l : List Entry). IsEmit r.job places l) c.deref.ensures.value made.job.0 in
    let rule = c.in_ok-items.ensures.rule in
    let areas : length words ≡ 3 = length-map c.in_ok-items.words.items (λ w. w.items) ∙ sym c.in_ok-items.words.ok.0 ∙ c.in_ok-items.ensures.areas in record {
      slots = slots;
      long = c.in_ok-slots.ensures.long ∙ (ap (λ (l : List (Option Done)). length l) refused ∙ length-map causes (option_map Refused));
      ends = c.in_ok-new.ensures;
      each = second_each pkg t r.job places es r.order.now words items causes slots emits all (subst (λ (l : List (Option Done)). ArePlaced items l slots) refused c.in_ok-slots.ensures.placed);
      closed = closed_for r.job places es words (c.args.workers + 1) (core_state (length rule.0.numbers % 2 ^ 64) words (rule.0 ∷ [])) emits areas rule.1 refl;
    }
