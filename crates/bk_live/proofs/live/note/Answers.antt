use Rattle.std.proofs.Common.{◌≡◌, ◌∙◌, sym, subst, ℕ}
use Rattle.std.specs.BTreeMap.{get}
use Rattle.std.specs.List.{Contains}
use Rattle.std.specs.Ordering.{nat_cmp}
use Rattle.std.proofs.lemmas.Bool.{false≢true}
use Rattle.bk_live.specs.declared.search.Start.{Start}
use Rattle.bk_live.specs.Adds.{Adds}
use Rattle.bk_live.specs.Homes.{home}
use Rattle.bk_live.specs.Prepared.{listed_at}
use Rattle.bk_live.proofs.Beginning.{gives_none, gives_one}
use Rattle.bk_live.proofs.live.note.Goals as goal

pub returns-then-is_behind : goal.returns-then-is_behind
returns-then-is_behind c =
    gives_none c.args.counts.now (home c.args.homes.now) 0 c.args.used (λ (e : ℕ × Start). Contains (listed_at (get nat_cmp c.args.starts.now e.0)) e.1) (c.is_behind.ensures.0 c.if-is_behind.true)

pub returns : goal.returns
returns c =
    let old = λ (e : ℕ × Start). Contains (listed_at (get nat_cmp c.args.starts.now e.0)) e.1 in
    let new = λ (e : ℕ × Start). Contains (listed_at (get nat_cmp c.add_start.new.starts e.0)) e.1 in
    gives_one c.args.counts.now (home c.args.homes.now) 0 c.args.used old new (λ b. false≢true (sym c.if-is_behind.false ∙ c.is_behind.ensures.1 b))
    (subst (λ (s : Start). Adds old (λ (e : ℕ × Start). (c.args.used.value ≡ e.0) × (s ≡ e.1)) new) c.start_of.ensures c.in_ok-add_start.ensures)
