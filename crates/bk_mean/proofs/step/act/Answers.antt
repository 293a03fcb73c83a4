use Rattle.std.proofs.Common.{rules, ◌≡◌, sym, ◌∙◌, subst, refl, Some, ◌<◌, length, map, arith}
use Rattle.std.specs.Prelude.{slice_index}
use Rattle.bk_func.specs.Numbers.{natural}
use Rattle.bk_func.specs.Meaning.{without_memory, done_by, gives}
use Rattle.bk_mean.specs.declared.role.Effect.{Effect}
use Rattle.bk_mean.specs.Machine.{arg_number}
use Rattle.bk_mean.specs.Seen.{seen_effect}
use Rattle.bk_mean.specs.Step.{IsActed, with_words, seeing, after_run}
use Rattle.bk_mean.proofs.Inputs.{arg_is, without_is}
use Rattle.bk_mean.proofs.Acts.{act_store, act_zeros, act_move, act_out, act_ret, act_ret_words}
use Rattle.bk_mean.proofs.step.act.Goals as goal

pub returns-in-Store-clause-effect : goal.returns-in-Store-clause-effect
returns-in-Store-clause-effect c = λ p m calls a w t r h.
    let k = subst (λ (x : Effect). IsActed (seen_effect x) c.args.target c.args.value.now) c.in-Store.is h in
    let f : c.arg-first.result ≡ arg_number c.args.numbers.now c.args.ready.now.args.items 0 = search rules in
    let s : c.arg-second.result ≡ arg_number c.args.numbers.now c.args.ready.now.args.items 1 = search rules in
    let zero_lt : 0 < length c.args.value.now.args = omega (arith, k.0) in
    subst (λ (x : Effect). done_by (Some (seen_effect x)) calls p m c.args.value.now (with_words a c.args.words.now) (seeing w c.args.window.now.items) ≡ after_run c.store.result (with_words a c.args.words.now) (seeing w c.store.new.window.items)) (sym c.in-Store.is)
    (act_store p m calls c.args.value.now (with_words a c.args.words.now) w c.args.target c.arg-first.result c.arg-second.result c.args.window.now.items c.store.new.window.items c.store.result t
    (f ∙ arg_is c.args.numbers.now c.args.ready.now.args.items m c.args.value.now.args 0 r zero_lt)
    (s ∙ arg_is c.args.numbers.now c.args.ready.now.args.items m c.args.value.now.args 1 r k.0)
    (c.store.ensures.done (with_words a c.args.words.now) w k.1))

pub returns-in-Zeros-clause-effect : goal.returns-in-Zeros-clause-effect
returns-in-Zeros-clause-effect c = λ p m calls a w t r h.
    let k = subst (λ (x : Effect). IsActed (seen_effect x) c.args.target c.args.value.now) c.in-Zeros.is h in
    let f : c.arg-first.result ≡ arg_number c.args.numbers.now c.args.ready.now.args.items 0 = search rules in
    subst (λ (x : Effect). done_by (Some (seen_effect x)) calls p m c.args.value.now (with_words a c.args.words.now) (seeing w c.args.window.now.items) ≡ after_run c.zeros.result (with_words a c.args.words.now) (seeing w c.zeros.new.window.items)) (sym c.in-Zeros.is)
    (act_zeros p m calls c.args.value.now (with_words a c.args.words.now) w c.args.target c.arg-first.result c.args.window.now.items c.zeros.new.window.items c.zeros.result t
    (f ∙ arg_is c.args.numbers.now c.args.ready.now.args.items m c.args.value.now.args 0 r k)
    (c.zeros.ensures.done (with_words a c.args.words.now) w))

pub returns-in-Move-clause-effect : goal.returns-in-Move-clause-effect
returns-in-Move-clause-effect c = λ p m calls a w t r h.
    let k = subst (λ (x : Effect). IsActed (seen_effect x) c.args.target c.args.value.now) c.in-Move.is h in
    let f : c.arg-first.result ≡ arg_number c.args.numbers.now c.args.ready.now.args.items 0 = search rules in
    let s : c.arg-second.result ≡ arg_number c.args.numbers.now c.args.ready.now.args.items 1 = search rules in
    let zero_lt : 0 < length c.args.value.now.args = omega (arith, k) in
    subst (λ (x : Effect). done_by (Some (seen_effect x)) calls p m c.args.value.now (with_words a c.args.words.now) (seeing w c.args.window.now.items) ≡ after_run c.copy.result (with_words a c.args.words.now) (seeing w c.copy.new.window.items)) (sym c.in-Move.is)
    (act_move p m calls c.args.value.now (with_words a c.args.words.now) w c.args.target c.arg-first.result c.arg-second.result c.args.window.now.items c.copy.new.window.items c.copy.result t
    (f ∙ arg_is c.args.numbers.now c.args.ready.now.args.items m c.args.value.now.args 0 r zero_lt)
    (s ∙ arg_is c.args.numbers.now c.args.ready.now.args.items m c.args.value.now.args 1 r k)
    (c.copy.ensures.done (with_words a c.args.words.now) w))

pub returns-in_ok-set-in-OutWord-clause-effect : goal.returns-in_ok-set-in-OutWord-clause-effect
returns-in_ok-set-in-OutWord-clause-effect c = λ p m calls a w t r h.
    let k = subst (λ (x : Effect). IsActed (seen_effect x) c.args.target c.args.value.now) c.in-OutWord.is h in
    let f : c.arg-first.result ≡ arg_number c.args.numbers.now c.args.ready.now.args.items 0 = search rules in
    let n : c.natural.result ≡ natural c.args.value.now.int = search rules in
    subst (λ (x : Effect). done_by (Some (seen_effect x)) calls p m c.args.value.now (with_words a c.args.words.now) (seeing w c.args.window.now.items) ≡ gives (with_words a (record { out = c.set.new.self; back = c.args.words.now.back; regs = c.args.words.now.regs })) (seeing w c.args.window.now.items)) (sym c.in-OutWord.is)
    (act_out p m calls c.args.value.now a (seeing w c.args.window.now.items) c.args.words.now (record { out = c.set.new.self; back = c.args.words.now.back; regs = c.args.words.now.regs }) c.natural.result c.arg-first.result n
    (f ∙ arg_is c.args.numbers.now c.args.ready.now.args.items m c.args.value.now.args 0 r k)
    c.in_ok-set-in-OutWord.ensures refl refl)

pub returns-in_ok-set-in-RetWord-clause-effect : goal.returns-in_ok-set-in-RetWord-clause-effect
returns-in_ok-set-in-RetWord-clause-effect c = λ p m calls a w t r h.
    let k = subst (λ (x : Effect). IsActed (seen_effect x) c.args.target c.args.value.now) c.in-RetWord.is h in
    let f : c.arg-first.result ≡ arg_number c.args.numbers.now c.args.ready.now.args.items 0 = search rules in
    let n : c.natural-in-RetWord.result ≡ natural c.args.value.now.int = search rules in
    subst (λ (x : Effect). done_by (Some (seen_effect x)) calls p m c.args.value.now (with_words a c.args.words.now) (seeing w c.args.window.now.items) ≡ gives (with_words a (record { out = c.args.words.now.out; back = c.set-in-RetWord.new.self; regs = c.args.words.now.regs })) (seeing w c.args.window.now.items)) (sym c.in-RetWord.is)
    (act_ret p m calls c.args.value.now a (seeing w c.args.window.now.items) c.args.words.now (record { out = c.args.words.now.out; back = c.set-in-RetWord.new.self; regs = c.args.words.now.regs }) c.natural-in-RetWord.result c.arg-first.result n
    (f ∙ arg_is c.args.numbers.now c.args.ready.now.args.items m c.args.value.now.args 0 r k)
    c.in_ok-set-in-RetWord.ensures refl refl)

pub returns-in_ok-push_numbers-in-RetWords-clause-effect : goal.returns-in_ok-push_numbers-in-RetWords-clause-effect
returns-in_ok-push_numbers-in-RetWords-clause-effect c = λ p m calls a w t r h.
    let q : c.push_numbers.new.list.items ≡ map (slice_index c.args.numbers.now) (without_memory c.args.ready.now.args.items) = search rules in
    subst (λ (x : Effect). done_by (Some (seen_effect x)) calls p m c.args.value.now (with_words a c.args.words.now) (seeing w c.args.window.now.items) ≡ gives (with_words a (record { out = c.args.words.now.out; back = c.args.words.now.back; regs = c.push_numbers.new.list })) (seeing w c.args.window.now.items)) (sym c.in-RetWords.is)
    (act_ret_words p m calls c.args.value.now a (seeing w c.args.window.now.items) c.args.words.now (record { out = c.args.words.now.out; back = c.args.words.now.back; regs = c.push_numbers.new.list })
    (q ∙ without_is c.args.numbers.now c.args.ready.now.args.items m c.args.value.now.args r) refl refl)
