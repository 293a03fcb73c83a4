use Rattle.std.proofs.Common.{string_bytes, arith, refl}
use Rattle.bk_top.proofs.Calls.{given_none, given_more, given_all, given_no_more, other_count}
use Rattle.bk_top.proofs.rows.call.numbers_for.Goals as goal

pub returns-then-types-words-clause-none : goal.returns-then-types-words-clause-none
returns-then-types-words-clause-none c = other_count (λ w. string_bytes w) c.args.target c.args.types.now c.args.words.now c.if-types-words.true

pub loop-place-init : goal.loop-place-init
loop-place-init c = record { same = omega arith; given = given_none (λ w. string_bytes w) c.args.target c.args.types.now c.args.words.now c.new-numbers.result.items c.new-numbers.ensures.items }

pub returns-in_default-clause-none : goal.returns-in_default-clause-none
returns-in_default-clause-none c =
    let same = c.loop-place.invariant.same in
    given_no_more (λ w. string_bytes w) c.args.target c.args.types.now c.args.words.now c.loop-place.place _ _ c.index-words-place.result c.loop-place.numbers.items (omega arith) (omega arith) refl c.index-words-place.is c.in_default.ensures.none c.loop-place.invariant.given

pub loop-place-preserved : goal.loop-place-preserved
loop-place-preserved c =
    let same = c.loop-place.invariant.same in
    record {
      same = same;
      given = given_more (λ w. string_bytes w) c.args.target c.args.types.now c.args.words.now c.loop-place.place _ _ c.index-words-place.result c.in-Some.number c.loop-place.numbers.items c.push.new.self.items (omega arith) (omega arith) refl c.index-words-place.is c.in-Some.ensures.found c.in_ok-push.ensures.items c.loop-place.invariant.given;
    }

pub returns-clause-found : goal.returns-clause-found
returns-clause-found c =
    let same = c.loop-place.invariant.same in
    given_all (λ w. string_bytes w) c.args.target c.args.types.now c.args.words.now c.loop-place.place c.loop-place.numbers.items (omega arith) (omega arith) c.loop-place.invariant.given
