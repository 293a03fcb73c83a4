use Rattle.std.proofs.Common.{◌≡◌, get_or, true}
use Rattle.std.specs.BTreeSet.{contains}
use Rattle.std.proofs.lemmas.Option.{slice_get-get_or}
use Rattle.bk_live.specs.declared.uses.Use.{Use}
use Rattle.bk_live.specs.Table.{use_cmp}
use Rattle.bk_live.proofs.Adding.{before_more}
use Rattle.bk_live.proofs.Spotting.{IsKeyOf, Key, key_more, keys_are}
use Rattle.bk_live.proofs.sets.set_of.Goals as goal

pub loop-used-preserved : goal.loop-used-preserved
loop-used-preserved c =
    let us = c.args.uses.now in
    let i = c.loop-used.used-index in
    let zero : Use = record { value = 0; spot = record { block = 0; entry = 0 } } in
    let u : Use = get_or us i zero in
    record {
      ordered = c.in_ok-insert.ensures.ordered;
      uses = before_more (λ (e : Key). ⊥) (λ (e : Key). contains use_cmp c.loop-used.set e ≡ true) (λ (e : Key). contains use_cmp c.insert.new.self e ≡ true) us IsKeyOf i u
          (slice_get-get_or us i zero c.loop-used-test.true) c.loop-used.invariant.uses
          (key_more (contains use_cmp c.loop-used.set) (contains use_cmp c.insert.new.self) i u c.in_ok-insert.ensures.updates.0);
    }

pub returns-clause-uses : goal.returns-clause-uses
returns-clause-uses c = keys_are c.args.uses.now c.loop-used.used-index c.loop-used.set c.loop-used-test.false c.loop-used.invariant.uses
