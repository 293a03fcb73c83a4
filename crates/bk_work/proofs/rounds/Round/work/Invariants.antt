use Rattle.std.proofs.Common.{ℕ, ◌≡◌, ◌++◌, ◌-◌, ◌^◌, vec_len}
use Rattle.std.specs.List.{All, Contains}
use Rattle.bk_share.specs.Passes.{IsPassOf, view}
use Rattle.bk_work.specs.Rounds.{IsItem, claims_of}
use Rattle.bk_work.proofs.rounds.Round.work.Given as goal

abbrev pub invariant-claims : goal.invariant-claims
invariant-claims g l = record {
  pass : IsPassOf l.self.share l.pass;
  parts : (view l.pass).parts ≡ (view l.initial.pass).parts;
  known : (x : ℕ × ℕ × ℕ) → Contains (view l.initial.pass).known x → Contains (view l.pass).known x;
  numbers : (view l.pass).numbers ≡ (view l.initial.pass).numbers ++ claims_of l.items.items;
  items : All (IsItem l.self.pkg.now l.self.target l.self.job l.self.order.now (Contains (view l.pass).known)) l.items.items;
}

-- a `Vec` has a greatest length
abbrev pub decreases-claims : goal.decreases-claims
decreases-claims g l = 2 ^ 63 - vec_len l.items
