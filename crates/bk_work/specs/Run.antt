-- What the workers of a round did together.
use Rattle.std.specs.Prelude.{◌≡◌, ℕ, ◌+◌, ◌<◌, ◌≤◌, ◌==◌, List, [], length, count_by, IfOk}
use Rattle.std.specs.List.{All, Contains}
use Rattle.bk_core.specs.Rule.{sight}
use Rattle.bk_core.specs.Events.{word_at}
use Rattle.bk_ops.specs.declared.types.Target.{Target}
use Rattle.bk_func.specs.Records.{PackageRecord}
use Rattle.bk_share.specs.declared.shares.Share.{Share}
use Rattle.bk_share.specs.declared.shares.Pass.{Pass}
use Rattle.bk_share.specs.Passes.{IsPassOf, view}
use Rattle.bk_work.specs.declared.rounds.Job.{Job}
use Rattle.bk_work.specs.declared.rounds.Round.{Round}
use Rattle.bk_work.specs.declared.run.Shift.{Shift}
use Rattle.bk_work.specs.Rounds.{Holds, IsItem, Item, claims_of}

-- a pass of the share with one part, which drew nothing yet
abbrev pub IsFresh : Share → Pass → Type 0
IsFresh s p = IsPassOf s p × (view p ≡ sight 1 [] [])

-- how often x is in the list
abbrev pub times_in : ℕ → List ℕ → ℕ
times_in x xs = count_by (λ y. y == x) xs

-- from the numbers v to the numbers w: the items' claims are the numbers below the count that were drawn, each as often as it
-- was drawn, and for each of so many workers one number more was drawn, at or above the count
pub record AreDrawn (count workers : ℕ) (v w : List ℕ) (items : List Item) : Type 0 where
  pub long : length w ≡ length v + length items + workers
  pub times : (x : ℕ) → x < count → times_in x w ≡ times_in x v + times_in x (claims_of items)
  pub past : 0 < workers → (n : ℕ) × (count ≤ n) × Contains w n

-- what came out of a worker: its pass has one part, and where it ended well, its items are those of its claims
pub record IsShift (r : Round) (s : Shift) : Type 0 where
  pub pass : IsPassOf r.share s.pass
  pub part : (view s.pass).parts ≡ 1
  pub drawn : IfOk s.part (λ p. AreDrawn (length r.order.now) 1 [] (view s.pass).numbers p.items.items)
  pub items : IfOk s.part (λ p. All (IsItem r.pkg.now r.target r.job r.order.now (Contains (view s.pass).known)) p.items.items)

-- the cells hold the keys
abbrev pub in_words : List (List ℕ) → Holds
in_words areas x = word_at areas x.0 x.1 ≡ x.2

-- the items of a whole round: one for each claim, and each is right by the words of the closed share
pub record AreAll (pkg : PackageRecord) (t : Target) (job : Job) (order : List ℕ) (areas : List (List ℕ)) (items : List Item) : Type 0 where
  pub once : (x : ℕ) → x < length order → times_in x (claims_of items) ≡ 1
  pub each : All (IsItem pkg t job order (in_words areas)) items
