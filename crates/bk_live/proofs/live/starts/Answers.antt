use Rattle.std.proofs.Common.{ap, ℕ, get_or}
use Rattle.std.specs.BTreeMap.{get, is_at}
use Rattle.std.specs.List.{Contains}
use Rattle.std.specs.Map.{lookup}
use Rattle.std.specs.Ordering.{nat_cmp}
use Rattle.std.proofs.lemmas.Option.{slice_get-get_or}
use Rattle.bk_live.specs.declared.search.Start.{Start}
use Rattle.bk_live.specs.declared.uses.Use.{Use}
use Rattle.bk_live.specs.Homes.{home, IsBehind}
use Rattle.bk_live.specs.Prepared.{Gives, listed_at}
use Rattle.bk_live.proofs.Adding.{before_more}
use Rattle.bk_live.proofs.Beginning.{starts_none, starts_are}
use Rattle.bk_live.proofs.live.starts.Goals as goal

pub loop-used-init : goal.loop-used-init
loop-used-init c =
    starts_none c.args.counts.now (λ n. listed_at (get nat_cmp c.new-starts.result n)) c.args.uses.now (home c.args.homes.now)
    (λ n. ap (λ es. listed_at (lookup (is_at (nat_cmp n)) es)) c.new-starts.ensures.empty)

pub loop-used-preserved : goal.loop-used-preserved
loop-used-preserved c =
    let us = c.args.uses.now in
    let i = c.loop-used.used-index in
    let zero : Use = record { value = 0; spot = record { block = 0; entry = 0 } } in
    before_more (λ (e : ℕ × Start). ⊥) (λ (e : ℕ × Start). Contains (listed_at (get nat_cmp c.loop-used.starts e.0)) e.1)
    (λ (e : ℕ × Start). Contains (listed_at (get nat_cmp c.note.new.starts e.0)) e.1) us (Gives c.args.counts.now (IsBehind (home c.args.homes.now))) i (get_or us i zero)
    (slice_get-get_or us i zero c.loop-used-test.true) c.loop-used.invariant c.in_ok-note.ensures

pub returns : goal.returns
returns c =
    starts_are c.args.counts.now (home c.args.homes.now) c.args.uses.now c.loop-used.used-index (λ n. listed_at (get nat_cmp c.loop-used.starts n)) c.loop-used-test.false c.loop-used.invariant
