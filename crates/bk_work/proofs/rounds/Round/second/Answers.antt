use Rattle.std.proofs.Common.{◌≢◌, ℕ, List, sym, subst}
use Rattle.std.specs.List.{All}
use Rattle.bk_piece.specs.Rising.{rising}
use Rattle.bk_work.proofs.Announcing.{all_nonzero}
use Rattle.bk_work.proofs.Between.{keys_are}
use Rattle.bk_work.proofs.rounds.Round.second.Goals as goal

pub new-requires-clause-keys : goal.new-requires-clause-keys
new-requires-clause-keys c =
    subst (λ (ks : List (List ℕ)). All (λ (xs : List ℕ). All (λ (x : ℕ). x ≢ 0) xs) ks) (sym c.in_ok-keys.ensures)
    (all_nonzero c.args.lowered.now (keys_are c.args.pkg.now c.args.target c.requires.lowered.0 (rising c.args.order.now) c.args.lowered.now c.requires.lowered.1))

pub invariant_of-result-clause-keys_are : goal.invariant_of-result-clause-keys_are
invariant_of-result-clause-keys_are c = keys_are c.args.pkg.now c.args.target c.requires.lowered.0 (rising c.args.order.now) c.args.lowered.now c.requires.lowered.1
