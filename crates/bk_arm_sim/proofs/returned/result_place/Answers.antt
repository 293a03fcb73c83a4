use Rattle.std.proofs.Common.{arith, ◌∙◌, ap}
use Rattle.bk_func.specs.Records.{SigRecord}
use Rattle.bk_arm_sim.proofs.Placed.{words_within}
use Rattle.bk_arm_sim.proofs.returned.result_place.Goals as goal

pub overflow_add-before : goal.overflow_add-before
overflow_add-before c =
    let args = c.deref.ensures.value ∙ ap (λ (s : SigRecord). s.args) c.sig.view_is in
    let results = c.deref-2.ensures.value ∙ ap (λ (s : SigRecord). s.results) c.sig.view_is in
    omega (arith, words_within c.args.sig.now c.args.index c.count_words.result c.count_words-2.result c.deref.result.now c.deref-2.result.now args results c.count_words.ensures.value c.count_words-2.ensures.value c.requires.within)

pub overflow_mul-result : goal.overflow_mul-result
overflow_mul-result c =
    let args = c.deref.ensures.value ∙ ap (λ (s : SigRecord). s.args) c.sig.view_is in
    let results = c.deref-2.ensures.value ∙ ap (λ (s : SigRecord). s.results) c.sig.view_is in
    omega (arith, words_within c.args.sig.now c.args.index c.count_words.result c.count_words-2.result c.deref.result.now c.deref-2.result.now args results c.count_words.ensures.value c.count_words-2.ensures.value c.requires.within)

pub overflow_add-result : goal.overflow_add-result
overflow_add-result c =
    let args = c.deref.ensures.value ∙ ap (λ (s : SigRecord). s.args) c.sig.view_is in
    let results = c.deref-2.ensures.value ∙ ap (λ (s : SigRecord). s.results) c.sig.view_is in
    omega (arith, words_within c.args.sig.now c.args.index c.count_words.result c.count_words-2.result c.deref.result.now c.deref-2.result.now args results c.count_words.ensures.value c.count_words-2.ensures.value c.requires.within)

pub returns-clause-room : goal.returns-clause-room
returns-clause-room c =
    let args = c.deref.ensures.value ∙ ap (λ (s : SigRecord). s.args) c.sig.view_is in
    let results = c.deref-2.ensures.value ∙ ap (λ (s : SigRecord). s.results) c.sig.view_is in
    omega (arith, words_within c.args.sig.now c.args.index c.count_words.result c.count_words-2.result c.deref.result.now c.deref-2.result.now args results c.count_words.ensures.value c.count_words-2.ensures.value c.requires.within)
